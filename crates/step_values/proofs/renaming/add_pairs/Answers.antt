use Rattle.step_values.proofs.Prelude.{[], refl, sym, ◌∙◌, arith, pair_renamed, passed, with_bound}
use Rattle.step_values.proofs.Lists.{left_begin, left_end, left_fault, left_next}
use Rattle.step_values.proofs.Pairs.{pair_is}
use Rattle.step_values.proofs.renaming.add_pairs.Goals as goal

pub loop-pair-init : goal.loop-pair-init
loop-pair-init c = left_begin (λ k pair. pair_renamed c.args.scope.now.program.now (with_bound c.args.bound.now []) pair) (λ rs. rs) c.args.renamed 0 c.args.scope.now.pairs.now

pub returns-in_err-renamed : goal.returns-in_err-renamed
returns-in_err-renamed c =
    passed _ _ _ _ c.from_residual.ensures.1 c.in_err-renamed.ensures
    (λ k e. c.loop-pair.invariant ∙
    left_fault (λ j pair. pair_renamed c.args.scope.now.program.now (with_bound c.args.bound.now []) pair) (λ rs. rs) refl (λ xs ys. refl) c.loop-pair.renamed c.args.scope.now.pairs.now
    c.loop-pair.pair-index c.loop-pair.pair-index c.pair-item.result k (omega arith) c.pair-item.is
    (sym (pair_is c.args.scope.now.program.now c.channels_of.ensures.in_order (with_bound c.args.bound.now []) c.pair-item.result c.loop-pair.renamed) ∙ e))

pub loop-pair-preserved : goal.loop-pair-preserved
loop-pair-preserved c =
    c.loop-pair.invariant ∙
    left_next (λ j pair. pair_renamed c.args.scope.now.program.now (with_bound c.args.bound.now []) pair) (λ rs. rs) refl (λ xs ys. refl) c.loop-pair.renamed c.in_ok-renamed.renamed c.args.scope.now.pairs.now
    c.loop-pair.pair-index c.loop-pair.pair-index c.pair-item.result (omega arith) c.pair-item.is
    (sym (pair_is c.args.scope.now.program.now c.channels_of.ensures.in_order (with_bound c.args.bound.now []) c.pair-item.result c.loop-pair.renamed) ∙ c.in_ok-renamed.ensures)

pub returns : goal.returns
returns c =
    c.loop-pair.invariant ∙
    left_end (λ j pair. pair_renamed c.args.scope.now.program.now (with_bound c.args.bound.now []) pair) (λ rs. rs) refl (λ xs ys. refl) c.loop-pair.renamed c.args.scope.now.pairs.now
    c.loop-pair.pair-index c.loop-pair.pair-index (omega arith)
