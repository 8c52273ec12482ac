use Rattle.csp_parser.proofs.Prelude.{◌∷◌, [], ◌++◌, ◌∙◌, refl, sym, ap, arith, item_missing, last_item_read, next_item, whole}
use Rattle.csp_text.specs.declared.token.Symbol.TheVariants as symbol
use Rattle.csp_parser.proofs.types.types.Goals as goal

pub returns-in-Err-clause-reads : goal.returns-in-Err-clause-reads
returns-in-Err-clause-reads c =
    item_missing symbol.Dot (λ L ts. L.atom whole ts) (λ L ts. L.types ts) (λ L ts. refl) _ _ c.in-Err.fault c.loop-found.invariant.0 c.in-Err.ensures.reads (omega arith)

pub loop-found-preserved : goal.loop-found-preserved
loop-found-preserved c = (
  next_item symbol.Dot (λ L ts. L.atom whole ts) (λ L ts. L.types ts) (λ L ts. refl) c.loop-found.invariant.0
      (c.in_ok-push.ensures.ok ∙ ap (λ x. c.loop-found.all ++ x ∷ []) (c.into_inner.ensures ∙ c.unbox.ensures)) c.in-Ok.ensures.reads (sym c.in-Some.ensures.same)
      (omega arith) (omega (arith, c.in-Some.ensures.shorter, c.in-Ok.ensures.shorter)),
  omega (arith, c.in-Some.ensures.shorter, c.in-Ok.ensures.shorter, c.loop-found.invariant.1),
)

pub returns-in-None-clause-reads : goal.returns-in-None-clause-reads
returns-in-None-clause-reads c =
    last_item_read symbol.Dot (λ L ts. L.atom whole ts) (λ L ts. L.types ts) (λ L ts. refl) c.loop-found.invariant.0
    (c.in_ok-push.ensures.ok ∙ ap (λ x. c.loop-found.all ++ x ∷ []) (c.into_inner.ensures ∙ c.unbox.ensures)) c.in-Ok.ensures.reads (sym c.in-None.ensures.same) (omega arith)
