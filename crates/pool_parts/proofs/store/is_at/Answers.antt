-- The part at the place is the same one, since `==` is exact.
use Rattle.pool_parts.proofs.Prelude.{Some, sym, ap, ◌∙◌, option_copied}
use Rattle.pool_parts.proofs.store.is_at.Goals as goal

pub returns-in-Some : goal.returns-in-Some
returns-in-Some g c =
    λ same. sym c.get.ensures ∙ ap option_copied c.in-Some.is ∙ ap (λ x. Some x) (g.met.T.Exact.exact c.in-Some.other.now c.args.part.now (sym c.eq.ensures ∙ same))
