use Rattle.local_tables.proofs.Prelude.{◌∙◌, ap, eq_id, with_new}
use Rattle.local_tables.proofs.Ending.{first_tabled, first_up_to}
use Rattle.local_tables.proofs.found.begin.Goals as goal

pub check-requires-clause-tabled : goal.check-requires-clause-tabled
check-requires-clause-tabled c =
    first_tabled c.args.task.now c.put.new.self c.in_ok-first.first c.size.result _
    (λ i. record { terms = (c.in_ok-number.ensures.list ∙ ap (λ ids. with_new eq_id ids c.in_ok-first.first) c.new-terms.ensures) i; origins = c.new.ensures i; table = c.new-2.ensures i; nodes = c.from.ensures i })
    c.in_ok-first.ensures.process c.size.ensures

pub returns-clause-up_to : goal.returns-clause-up_to
returns-clause-up_to c =
    first_up_to c.args.task.now c.put.new.self c.in_ok-first.first c.size.result _
    (λ i. record { terms = (c.in_ok-number.ensures.list ∙ ap (λ ids. with_new eq_id ids c.in_ok-first.first) c.new-terms.ensures) i; origins = c.new.ensures i; table = c.new-2.ensures i; nodes = c.from.ensures i })
    c.in_ok-first.ensures.process c.size.ensures c.in_ok-check.ensures.within
