use Rattle.script_names.specs.declared.occurrence.Occurrence.TheVariants.{Declares}
use Rattle.name_faults.proofs.KnownLemmas.{each_step, names_step}
use Rattle.name_faults.proofs.walk.Walk.declare_all.Goals as goal

pub loop-x-preserved : goal.loop-x-preserved
loop-x-preserved c = record {
  said = each_step Declares c.args.self.now c.loop-x.self c.declare.new.self c.args.declared.now c.loop-x.declared c.loop-x.x-index c.args.xs.now c.x-item.result
      c.loop-x-test.true c.x-item.is c.loop-x.invariant.declared c.loop-x.invariant.said c.in_ok-declare.ensures.said;
  declared = names_step c.args.declared.now c.loop-x.declared c.declare.new.declared c.loop-x.x-index c.args.xs.now c.x-item.result
      c.loop-x-test.true c.x-item.is c.in_ok-declare.ensures.declared c.loop-x.invariant.declared;
}
