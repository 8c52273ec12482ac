use Rattle.shape_links.proofs.Prelude.{subst, Setting, IsOwner}
use Rattle.shape_links.proofs.setting.Setting.owner.Goals as goal

pub returns-clause-found : goal.returns-clause-found
returns-clause-found c l h = subst (λ (g : Setting). IsOwner g.shape l c.args.event) c.self.view_is (c.owner.ensures.found l h)
