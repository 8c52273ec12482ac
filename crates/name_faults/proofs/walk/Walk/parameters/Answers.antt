use Rattle.name_faults.proofs.Prelude.{[], ◌∷◌, ◌∙◌, ap, Binds, after}
use Rattle.name_faults.proofs.KnownLemmas.{each_step, names_step}
use Rattle.name_faults.proofs.walk.Walk.parameters.Goals as goal

pub loop-x-preserved : goal.loop-x-preserved
loop-x-preserved c = record {
  said = each_step Binds c.args.self.now c.loop-x.self c.binds.new.self [] c.loop-x.before c.loop-x.x-index c.args.xs.now c.x-item.result
      c.loop-x-test.true c.x-item.is c.loop-x.invariant.before c.loop-x.invariant.said
      (c.in_ok-binds.ensures ∙ ap (λ b. after c.loop-x.self (Binds c.x-item.result b ∷ [])) c.in_ok-repeats.ensures.told);
  before = names_step [] c.loop-x.before c.add.new.self c.loop-x.x-index c.args.xs.now c.x-item.result
      c.loop-x-test.true c.x-item.is c.in_ok-repeats.ensures.names c.loop-x.invariant.before;
}
