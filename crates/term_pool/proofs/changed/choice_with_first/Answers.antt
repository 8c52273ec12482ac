use Rattle.term_pool.proofs.Prelude.{◌≡◌, List, [], sym, ◌∙◌, subst, IfOk, ProcId, choice_at, other_first}
use Rattle.term_pool.proofs.changed.choice_with_first.Goals as goal

pub returns-clause-made : goal.returns-clause-made
returns-clause-made c =
    c.keep_made.ensures.place (other_first (choice_at c.args.parts.now c.args.place) c.args.below)
    (subst (λ (ids : List ProcId). IfOk c.with_other_first-made.result (λ made. made ≡ other_first ids c.args.below)) (c.as_slice.ensures ∙ sym (c.get.ensures [])) c.with_other_first-made.ensures)
