use Rattle.resource_rule.proofs.Prelude.{◌∙◌, ap, Shape, ends_of}
use Rattle.resource_rule.proofs.user.User.links.Goals as goal

pub returns : goal.returns
returns c = c.links.ensures ∙ ap (λ (s : Shape). ends_of s c.component.result.number) c.component.ensures.shape ∙ ap (ends_of c.args.self.now.setting.now.shape) c.component.ensures.number
