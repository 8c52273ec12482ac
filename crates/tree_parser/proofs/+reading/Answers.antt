-- The loops; all other goals close with no answer.
use Rattle.tree_parser.proofs.Prelude.{◌∷◌, ◌++◌, [], ◌∙◌, refl, sym, ap, arith, read_gen, read_item, read_pair, read_part, next_field}
use Rattle.csp_text.specs.declared.token.Symbol.TheVariants as symbol
use Rattle.tree_parser.proofs.ListSteps.{choice_fails, chosen_last, chosen_more, dot, dot_fails, field, field_fails, first_chosen, item_missing, items_stop, last_item_read, last_of_items, more_items, next_item, no_dot, no_field}
use Rattle.tree_parser.proofs.+reading.Goals as goal

pub lists::dots-returns-in-Err-clause-reads : goal.lists::dots-returns-in-Err-clause-reads
lists::dots-returns-in-Err-clause-reads t c = dot_fails _ _ c.in-Err.fault c.loop-behind.invariant.0 (sym c.in-Some.ensures.same) c.in-Err.ensures.reads (omega (arith, c.in-Some.ensures.shorter))

pub lists::dots-loop-behind-preserved : goal.lists::dots-loop-behind-preserved
lists::dots-loop-behind-preserved t c = (
  dot c.loop-behind.invariant.0 (c.in_ok-push.ensures.ok ∙ ap (λ x. c.loop-behind.fields ++ x ∷ []) c.unbox.ensures) (sym c.in-Some.ensures.same) c.in-Ok.ensures.reads
      (omega (arith, c.in-Some.ensures.shorter)) (omega (arith, c.in-Some.ensures.shorter, c.in-Ok.ensures.shorter)),
  omega (arith, c.in-Some.ensures.shorter, c.in-Ok.ensures.shorter, c.loop-behind.invariant.1),
)

pub lists::dots-returns-clause-reads : goal.lists::dots-returns-clause-reads
lists::dots-returns-clause-reads t c = no_dot c.loop-behind.invariant.0 (sym c.in_default.ensures.same) (omega arith)

pub lists::gens-returns-in-Err-clause-reads : goal.lists::gens-returns-in-Err-clause-reads
lists::gens-returns-in-Err-clause-reads t c = item_missing symbol.Comma (λ L ts. read_gen L c.args.limits ts) (λ L ts. L.gens c.args.limits ts) (λ L ts. refl) _ _ c.in-Err.fault c.loop-found.invariant.0 c.in-Err.ensures.reads (omega arith)

pub lists::gens-loop-found-preserved : goal.lists::gens-loop-found-preserved
lists::gens-loop-found-preserved t c = (
  next_item symbol.Comma (λ L ts. read_gen L c.args.limits ts) (λ L ts. L.gens c.args.limits ts) (λ L ts. refl) c.loop-found.invariant.0 c.in_ok-push.ensures.ok c.in-Ok.ensures.reads (sym c.in-Some.ensures.same)
      (omega arith) (omega (arith, c.in-Some.ensures.shorter, c.in-Ok.ensures.shorter)),
  omega (arith, c.in-Some.ensures.shorter, c.in-Ok.ensures.shorter, c.loop-found.invariant.1),
)

pub lists::gens-returns-in-None-clause-reads : goal.lists::gens-returns-in-None-clause-reads
lists::gens-returns-in-None-clause-reads t c = last_item_read symbol.Comma (λ L ts. read_gen L c.args.limits ts) (λ L ts. L.gens c.args.limits ts) (λ L ts. refl) c.loop-found.invariant.0 c.in_ok-push.ensures.ok c.in-Ok.ensures.reads (sym c.in-None.ensures.same) (omega arith)

pub lists::pairs-returns-in-Err-clause-reads : goal.lists::pairs-returns-in-Err-clause-reads
lists::pairs-returns-in-Err-clause-reads t c = item_missing symbol.Comma (λ L ts. read_pair L c.args.limits ts) (λ L ts. L.pairs c.args.limits ts) (λ L ts. refl) _ _ c.in-Err.fault c.loop-found.invariant.0 c.in-Err.ensures.reads (omega arith)

pub lists::pairs-loop-found-preserved : goal.lists::pairs-loop-found-preserved
lists::pairs-loop-found-preserved t c = (
  next_item symbol.Comma (λ L ts. read_pair L c.args.limits ts) (λ L ts. L.pairs c.args.limits ts) (λ L ts. refl) c.loop-found.invariant.0 c.in_ok-push.ensures.ok c.in-Ok.ensures.reads (sym c.in-Some.ensures.same)
      (omega arith) (omega (arith, c.in-Some.ensures.shorter, c.in-Ok.ensures.shorter)),
  omega (arith, c.in-Some.ensures.shorter, c.in-Ok.ensures.shorter, c.loop-found.invariant.1),
)

pub lists::pairs-returns-in-None-clause-reads : goal.lists::pairs-returns-in-None-clause-reads
lists::pairs-returns-in-None-clause-reads t c = last_item_read symbol.Comma (λ L ts. read_pair L c.args.limits ts) (λ L ts. L.pairs c.args.limits ts) (λ L ts. refl) c.loop-found.invariant.0 c.in_ok-push.ensures.ok c.in-Ok.ensures.reads (sym c.in-None.ensures.same) (omega arith)

pub lists::parts-returns-in-Err-clause-reads : goal.lists::parts-returns-in-Err-clause-reads
lists::parts-returns-in-Err-clause-reads t c = item_missing symbol.Comma (λ L ts. read_part L c.args.limits ts) (λ L ts. L.parts c.args.limits ts) (λ L ts. refl) _ _ c.in-Err.fault c.loop-found.invariant.0 c.in-Err.ensures.reads (omega arith)

pub lists::parts-loop-found-preserved : goal.lists::parts-loop-found-preserved
lists::parts-loop-found-preserved t c = (
  next_item symbol.Comma (λ L ts. read_part L c.args.limits ts) (λ L ts. L.parts c.args.limits ts) (λ L ts. refl) c.loop-found.invariant.0 c.in_ok-push.ensures.ok c.in-Ok.ensures.reads (sym c.in-Some.ensures.same)
      (omega arith) (omega (arith, c.in-Some.ensures.shorter, c.in-Ok.ensures.shorter)),
  omega (arith, c.in-Some.ensures.shorter, c.in-Ok.ensures.shorter, c.loop-found.invariant.1),
)

pub lists::parts-returns-in-None-clause-reads : goal.lists::parts-returns-in-None-clause-reads
lists::parts-returns-in-None-clause-reads t c = last_item_read symbol.Comma (λ L ts. read_part L c.args.limits ts) (λ L ts. L.parts c.args.limits ts) (λ L ts. refl) c.loop-found.invariant.0 c.in_ok-push.ensures.ok c.in-Ok.ensures.reads (sym c.in-None.ensures.same) (omega arith)

pub lists::items-returns-in-Err-clause-reads : goal.lists::items-returns-in-Err-clause-reads
lists::items-returns-in-Err-clause-reads t c = items_stop (λ L ts. read_item L c.args.limits ts) c.args.limits (λ L ts. refl) _ _ c.in-Err.fault c.loop-found.invariant.0 c.in-Err.ensures.reads (omega arith)

pub lists::items-loop-found-preserved : goal.lists::items-loop-found-preserved
lists::items-loop-found-preserved t c = (
  more_items (λ L ts. read_item L c.args.limits ts) c.args.limits (λ L ts. refl) c.loop-found.invariant.0 (c.in_ok-push.ensures.ok ∙ ap (λ x. c.loop-found.items ++ x ∷ []) c.unbox.ensures) c.in-Ok.ensures.reads (sym c.in-Some.ensures.same)
      (omega arith) (omega (arith, c.in-Some.ensures.shorter, c.in-Ok.ensures.shorter)),
  omega (arith, c.in-Some.ensures.shorter, c.in-Ok.ensures.shorter, c.loop-found.invariant.1),
)

pub lists::items-returns-in-None-clause-reads : goal.lists::items-returns-in-None-clause-reads
lists::items-returns-in-None-clause-reads t c =
    last_of_items (λ L ts. read_item L c.args.limits ts) c.args.limits (λ L ts. refl) c.loop-found.invariant.0 (c.in_ok-push.ensures.ok ∙ ap (λ x. c.loop-found.items ++ x ∷ []) c.unbox.ensures) c.last_item-binding.ensures c.in-Ok.ensures.reads (sym c.in-None.ensures.same) (omega arith)

pub events::fields-returns-in-Err-clause-reads : goal.events::fields-returns-in-Err-clause-reads
events::fields-returns-in-Err-clause-reads t c = field_fails _ _ c.in-Err.fault c.loop-next.invariant.0 c.in-Err.ensures.reads (omega arith)

pub events::fields-loop-next-preserved : goal.events::fields-loop-next-preserved
events::fields-loop-next-preserved t c =
    let h = rw c.in-Some.is at c.in-Ok.ensures.shorter in (
      field c.loop-next.invariant.0 c.in_ok-push-in-Some.ensures.ok c.in-Ok.ensures.reads (ap next_field c.in-Some.is) (omega arith) (omega (arith, h)),
      omega (arith, h, c.loop-next.invariant.1),
    )

pub events::fields-returns-in-None-clause-reads : goal.events::fields-returns-in-None-clause-reads
events::fields-returns-in-None-clause-reads t c = no_field c.loop-next.invariant.0 c.in-Ok.ensures.reads (ap next_field c.in-None.is) (omega arith)

pub processes::choices-returns-in-Err-clause-reads : goal.processes::choices-returns-in-Err-clause-reads
processes::choices-returns-in-Err-clause-reads t c = choice_fails _ _ c.in-Err.fault c.loop-read.invariant.0 c.in-Err.ensures.reads (omega arith)

pub processes::choices-loop-read-preserved : goal.processes::choices-loop-read-preserved
processes::choices-loop-read-preserved t c = (
  chosen_more c.loop-read.invariant.0 (c.in_ok-push-2.ensures.ok ∙ ap (λ x. c.loop-read.operands ++ x ∷ []) c.unbox-in-loop-read.ensures) c.in-Ok.ensures.reads c.if-not-has_more.false (omega arith) (omega (arith, c.in-Ok.ensures.shorter)),
  omega (arith, c.in-Ok.ensures.shorter, c.loop-read.invariant.1),
)

pub processes::choices-returns-then-not-has_more-clause-reads : goal.processes::choices-returns-then-not-has_more-clause-reads
processes::choices-returns-then-not-has_more-clause-reads t c = chosen_last c.loop-read.invariant.0 (c.in_ok-push-2.ensures.ok ∙ ap (λ x. c.loop-read.operands ++ x ∷ []) c.unbox-in-loop-read.ensures) c.in-Ok.ensures.reads c.if-not-has_more.true (omega arith)
