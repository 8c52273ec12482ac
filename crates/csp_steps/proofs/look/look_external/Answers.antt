use Rattle.csp_steps.proofs.Prelude.{List, map, sym, subst, ProcId, tree_at, AreOfChoice}
use Rattle.csp_program.specs.declared.processes.Proc.TheVariants as proc
use Rattle.csp_steps.proofs.Forms.{external}
use Rattle.csp_steps.proofs.look.look_external.Goals as goal

pub returns : goal.returns
returns c =
    λ trees p below. subst (λ (ids : List ProcId). AreOfChoice p trees ids (proc.External (map (tree_at trees) c.args.ids.now))) (sym c.in_ok-ids.ensures) (external p trees c.args.ids.now below)
