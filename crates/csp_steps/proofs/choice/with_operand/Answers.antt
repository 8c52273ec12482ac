use Rattle.csp_steps.proofs.Prelude.{◌≡◌, Some, List, length, map, slice_get, ap, ◌∙◌, subst, IfOk, Proc, all_below, tree_at}
use Rattle.csp_program.specs.declared.processes.Proc.TheVariants as proc
use Rattle.csp_steps.proofs.Choosing.{below_other, with_other}
use Rattle.csp_steps.proofs.choice.with_operand.Goals as goal

pub put_node-requires : goal.put_node-requires
put_node-requires c =
    ap (all_below (length c.args.pool.now)) c.in_ok-operands.ensures ∙ below_other (length c.args.pool.now) c.args.ids.now c.args.index c.args.id c.requires.operands c.requires.within

pub returns-clause-process : goal.returns-clause-process
returns-clause-process c =
    subst (λ (t : Proc). IfOk c.put_node.result (λ made. slice_get c.put_node.new.self made.0 ≡ Some t))
    (ap (λ (ts : List Proc). proc.External ts) (ap (map (tree_at c.args.pool.now)) c.in_ok-operands.ensures ∙ with_other c.args.pool.now c.args.ids.now c.args.index c.args.id))
    c.put_node.ensures.process
