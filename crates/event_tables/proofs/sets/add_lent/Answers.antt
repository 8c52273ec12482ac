use Rattle.event_tables.proofs.Prelude.{ap, ◌∙◌, ◌++◌, ◌∷◌, [], lent}
use Rattle.event_tables.proofs.SetLaws.{copies_step, lent_longer}
use Rattle.event_tables.proofs.sets.add_lent.Goals as goal

pub loop-channel-preserved : goal.loop-channel-preserved
loop-channel-preserved c =
    copies_step (lent c.push.new.self.items) (lent c.loop-channel.all.items) (lent c.args.all.now.items) c.loop-channel._channel c.args.one.now.sets
    (ap lent c.in_ok-push.ensures.items ∙ lent_longer c.loop-channel.all.items c.as_slice.result ∙ ap (λ s. lent c.loop-channel.all.items ++ s ∷ []) c.as_slice.ensures) c.loop-channel.invariant
