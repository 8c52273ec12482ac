use Rattle.substitution.proofs.Prelude.{ap, ◌∙◌, rules, proc_with, Given, if_map}
use Rattle.csp_program.specs.declared.processes.Proc.TheVariants as proc
use Rattle.substitution.proofs.Forms.{proc_with-External, proc_with-Internal, proc_with-Call}
use Rattle.substitution.proofs.processes.+put_proc.Goals as goal

pub put_proc-returns-in-External : goal.put_proc-returns-in-External
put_proc-returns-in-External t c = rw (c.in-External.is, proc_with-External) (search rules)

pub put_proc-returns-in-Internal : goal.put_proc-returns-in-Internal
put_proc-returns-in-Internal t c = rw (c.in-Internal.is, proc_with-Internal) (search rules)

pub put_proc-returns-in-Call : goal.put_proc-returns-in-Call
put_proc-returns-in-Call t c = rw (c.in-Call.is, proc_with-Call) (search rules)

pub prefix-returns : goal.prefix-returns
prefix-returns t c =
    if_map c.put_head.result _ c.map.result (λ head. proc.Prefix head c.in_ok-fields.fields c.in_ok-fields.p) _ _ c.map.ensures.cases (λ x y r. search rules)
    (λ head is i. proc.Prefix (is i) (c.in_ok-fields.ensures.fields i) (c.in_ok-fields.ensures.process i)) c.put_head.ensures

pub replication-returns-clause-process : goal.replication-returns-clause-process
replication-returns-clause-process t c =
    if_map c.put_expr.result _ c.map.result (λ set. (set, c.in_ok-p.p)) _ _ c.map.ensures.cases (λ x y r. search rules)
    (λ set is. c.in_ok-p.ensures ∙ ap (λ (given : Given). proc_with given c.args.p.now) c.in_ok-here.ensures) c.put_expr.ensures
