use Rattle.csp_base.proofs.Prelude.{arith, common_steps}
use Rattle.csp_base.proofs.Finds.{find_first_at, first_fits_at}
use Rattle.csp_base.proofs.blocks.first_event.Goals as goal

pub overflow_add-result : goal.overflow_add-result
overflow_add-result c =
    let fits = first_fits_at c.args.blocks.now (0, 0) (grind (arith, common_steps)) c.requires in
    omega arith

pub returns : goal.returns
returns c = find_first_at c.args.blocks.now (0, 0) (grind (arith, common_steps)) c.requires
