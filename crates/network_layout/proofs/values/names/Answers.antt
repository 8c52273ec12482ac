use Rattle.csp_program.specs.Value.{bound_to}
use Rattle.network_layout.proofs.Names.{none_placed}
use Rattle.network_layout.proofs.values.names.Goals as goal

pub returns : goal.returns
returns c = none_placed c.args.scope.now.bound.now (bound_to c.args.scope.now.params.now c.args.scope.now.args.now)
