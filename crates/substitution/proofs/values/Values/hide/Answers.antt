use Rattle.csp_program.specs.Prelude.{with_bound, bound_to}
use Rattle.substitution.proofs.NamesFound.{hidden_more}
use Rattle.substitution.proofs.values.Values.hide.Goals as goal

pub returns : goal.returns
returns c =
    hidden_more c.self.inside.hidden c.push.new.self c.args.name (with_bound c.self.inside.bound.now (bound_to c.self.inside.names.now c.self.inside.values.now))
    c.args.self.now c.in_ok-push.ensures.ok c.self.view_is
