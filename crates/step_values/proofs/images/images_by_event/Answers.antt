use Rattle.step_values.proofs.Prelude.{ℕ, List, [], ◌∷◌, cond, ◌++◌, ap, sym, ◌∙◌, arith, nat_eq, or_itself, events_or_none, named_for, lookup, take_all}
use Rattle.step_values.proofs.Naming.{more_named}
use Rattle.step_values.proofs.images.images_by_event.Goals as goal

pub loop-pair-init : goal.loop-pair-init
loop-pair-init c = λ e. ap (λ (entries : List (ℕ × List ℕ)). events_or_none (lookup (nat_eq e) entries)) c.new.ensures.empty

pub loop-pair-preserved : goal.loop-pair-preserved
loop-pair-preserved c =
    λ e. c.in_ok-add_new.ensures e ∙
    (ap (λ (xs : List ℕ). xs ++ cond (nat_eq c.pair-item.result.0 e) (c.pair-item.result.1 ∷ []) []) (c.loop-pair.invariant e) ∙ sym (more_named e c.args.renamed.now c.loop-pair.pair-index c.pair-item.result (omega arith) c.pair-item.is))

pub returns : goal.returns
returns c = λ e. ap (or_itself e) (c.loop-pair.invariant e ∙ ap (λ xs. named_for xs e) (take_all c.loop-pair.pair-index c.args.renamed.now (omega arith)))
