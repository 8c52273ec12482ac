use Rattle.csp_steps.proofs.Prelude.{◌++◌, ap, ◌∙◌, becomes}
use Rattle.csp_steps.proofs.Effects.{renamed_steps}
use Rattle.csp_steps.proofs.around.add_renamed.Goals as goal

pub returns-in_ok-add_events-in-Visible : goal.returns-in_ok-add_events-in-Visible
returns-in_ok-add_events-in-Visible c =
    c.in_ok-add_events-in-Visible.ensures ∙
    ap (λ more. c.args.steps.now ++ more) (renamed_steps c.args.step.to (becomes c.args.images.now) c.in-Visible.event c.as_slice.result.now c.args.step.label c.in-Visible.is (c.as_slice.ensures ∙ c.in_ok-events-in-Visible.ensures))
