use Rattle.shape_links.proofs.Prelude.{◌≡◌, ◌-◌, ◌∙◌, suc, sym, arith, same_Some}
use Rattle.shape_links.proofs.owners.link_of.Goals as goal

pub returns-clause-found : goal.returns-clause-found
returns-clause-found c shape l are h =
    let is : c.owner_at-owner.result - 1 ≡ l = same_Some (c.owner_at-owner.result - 1) l h in
    let some = c.if-owner-eq0.false in
    let next : c.owner_at-owner.result ≡ suc l = omega arith in
    are.sound c.args.event l (sym c.owner_at-owner.ensures ∙ next)
