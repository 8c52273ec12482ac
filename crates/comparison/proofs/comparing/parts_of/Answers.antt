use Rattle.comparison.proofs.Prelude.{Err, subst, Network, HasNoParts, at_refusal, goes_on, Tells, PartsOr}
use Rattle.comparison.proofs.comparing.parts_of.Goals as goal

pub returns-in-Ok-clause-told : goal.returns-in-Ok-clause-told
unfolding PartsOr
returns-in-Ok-clause-told c =
    goes_on _ _ _ _ c.in-Ok.tabled.tables c.in-Ok.ensures.tables (Err c.refuse.result) (at_refusal (Err c.refuse.result) c.args.side _ _ _ _ c.refuse.ensures
    (subst (λ (n : Network). Tells (HasNoParts n) c.in-Err-make_parts.stop) c.in-Ok.ensures.network c.in-Err-make_parts.ensures.told))

pub returns-clause-told : goal.returns-clause-told
unfolding PartsOr
returns-clause-told c = at_refusal (Err c.refuse-in-Err.result) c.args.side _ _ _ _ c.refuse-in-Err.ensures c.in-Err.ensures.told
