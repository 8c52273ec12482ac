use Rattle.csp_parser.proofs.Prelude.{refl, sym, arith, item_missing, last_item_read, next_item, named}
use Rattle.csp_parser.proofs.names.names.Goals as goal

pub returns-in-Err-clause-reads : goal.returns-in-Err-clause-reads
returns-in-Err-clause-reads c =
    item_missing c.args.sign (λ L ts. named ts) (λ L ts. L.names c.args.sign ts) (λ L ts. refl) {p = 0} _ _ c.in-Err.fault c.loop-found.invariant.0 (λ f le. c.in-Err.ensures.same) (omega arith)

pub loop-found-preserved : goal.loop-found-preserved
loop-found-preserved c = (
  next_item c.args.sign (λ L ts. named ts) (λ L ts. L.names c.args.sign ts) (λ L ts. refl) {p = 0} c.loop-found.invariant.0 c.in_ok-push.ensures.ok (λ f le. c.in-Ok.ensures.same) (sym c.in-Some.ensures.same)
      (omega arith) (omega (arith, c.in-Some.ensures.shorter, c.in-Ok.ensures.shorter)),
  omega (arith, c.in-Some.ensures.shorter, c.in-Ok.ensures.shorter, c.loop-found.invariant.1),
)

pub returns-in-None-clause-reads : goal.returns-in-None-clause-reads
returns-in-None-clause-reads c =
    last_item_read c.args.sign (λ L ts. named ts) (λ L ts. L.names c.args.sign ts) (λ L ts. refl) {p = 0} c.loop-found.invariant.0 c.in_ok-push.ensures.ok (λ f le. c.in-Ok.ensures.same) (sym c.in-None.ensures.same) (omega arith)
