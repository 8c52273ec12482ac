use Rattle.std.proofs.Common.{sym, ◌∙◌}
use Rattle.csp_steps.proofs.Noting.{stepped_at}
use Rattle.csp_steps.proofs.evaluated.find_steps.Goals as goal

pub returns : goal.returns
returns c =
    λ p trees h. stepped_at p trees c.args.evaluated.now c.args.id c.in-Some.number c.in-Some-get.steps.now c.in_ok-copy.copy h (sym c.find_number.ensures ∙ c.in-Some.is) (sym c.in-Some-get.ensures) (c.in_ok-copy.ensures ∙ c.as_slice.ensures)
