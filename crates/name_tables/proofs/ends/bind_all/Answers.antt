use Rattle.name_tables.proofs.Prelude.{◌+◌, ◌++◌, refl, arith, parameters}
use Rattle.name_tables.proofs.DeclaredLemmas.{parameters_end, parameters_step}
use Rattle.name_tables.proofs.ends.bind_all.Goals as goal

pub loop-x-preserved : goal.loop-x-preserved
loop-x-preserved c = record {
  scope = parameters_step c.bind.new.self c.loop-x.scope (c.args.scope.now ++ parameters 0 c.args.xs.now) c.loop-x.n (c.loop-x.n + 1) c.loop-x.x-index c.args.xs.now
      c.x-item.result c.loop-x-test.true c.x-item.is refl c.in_ok-bind.ensures c.loop-x.invariant.scope;
  place = omega arith;
}

pub returns : goal.returns
returns c = parameters_end c.loop-x.scope (c.args.scope.now ++ parameters 0 c.args.xs.now) c.loop-x.n c.loop-x.x-index c.args.xs.now (omega arith) c.loop-x.invariant.scope
