use Rattle.dl_top.proofs.Printing.{prints}
use Rattle.dl_top.proofs.load.print_reply.Goals as goal

pub returns-in-Ok-clause-prints : goal.returns-in-Ok-clause-prints
returns-in-Ok-clause-prints g c = prints _ c.in-Ok.reply c.print.result c.in-Ok.ensures.cause c.print.ensures.text c.print.ensures.status
