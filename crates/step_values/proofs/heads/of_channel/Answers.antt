use Rattle.step_values.proofs.Prelude.{ap, sym, subst, ◌∙◌, slice_get, IsInOrder, Content}
use Rattle.step_values.proofs.ChannelEvents.{channel_start}
use Rattle.step_values.proofs.heads.of_channel.Goals as goal

pub returns-in-Some-fields : goal.returns-in-Some-fields
returns-in-Some-fields c =
    channel_start c.args.program.now (subst IsInOrder c.content.ensures.content c.content.ensures.in_order) c.args.channel c.in-Some.channel.now c.in-Some-fields.sets
    (ap (λ (q : Content). slice_get q.channels c.args.channel) (sym c.content.ensures.content) ∙ sym c.in-Some.ensures) c.in-Some-fields.is _ c.from.ensures c.as_slice.ensures
