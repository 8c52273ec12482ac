use Rattle.std.proofs.Common.{rules}
use Rattle.comparison.proofs.Naming.{infos_agree}
use Rattle.comparison.proofs.names.is_same_event.Goals as goal

pub returns : goal.returns
returns c h same = infos_agree c.args.content.now c.args.other.now same c.args.number c.in-Some.info.now c.in-Some-get.found.now (search rules) (search rules) (c.is_same_info.ensures h)
