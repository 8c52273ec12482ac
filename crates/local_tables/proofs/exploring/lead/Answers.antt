use Rattle.local_tables.proofs.Prelude.{◌+◌, slice_index_or, slice_get-get_or}
use Rattle.local_tables.proofs.Following.{some_shallow, tabled, taken_led}
use Rattle.local_tables.proofs.exploring.lead.Goals as goal

pub check-requires-clause-tabled : goal.check-requires-clause-tabled
check-requires-clause-tabled c =
    let s = slice_index_or c.args.steps.now c.args.place c.index-steps-place.result in
    let here = slice_get-get_or c.args.steps.now c.args.place c.index-steps-place.result c.requires.inside in
    tabled c.args.task.now c.args.pool.now (record c.term_number.new.found { table = c.add_step.new.table }) c.args.at c.args.steps.now (c.args.place + 1)
    (taken_led c.args.task.now c.args.pool.now c.args.found.now c.args.at c.args.steps.now c.args.place c.requires.at.taken s here c.args.event (c.requires.label s here) c.requires.event
    c.term_number.new.found c.in_ok-number.ensures.found c.add_step.new.table c.in_ok-number.number c.in_ok-add_step.ensures c.in_ok-number.ensures.number)

pub check-requires-clause-others : goal.check-requires-clause-others
check-requires-clause-others c =
    let s = slice_index_or c.args.steps.now c.args.place c.index-steps-place.result in
    let here = slice_get-get_or c.args.steps.now c.args.place c.index-steps-place.result c.requires.inside in
    some_shallow c.args.task.now c.args.pool.now c.args.found.now c.args.at c.args.steps.now c.args.place c.requires.at.taken s here c.args.event (c.requires.label s here) c.requires.event
    c.term_number.new.found c.in_ok-number.ensures.found c.args.task.now.room c.requires.at.within

pub returns-clause-at : goal.returns-clause-at
returns-clause-at c =
    let s = slice_index_or c.args.steps.now c.args.place c.index-steps-place.result in
    let here = slice_get-get_or c.args.steps.now c.args.place c.index-steps-place.result c.requires.inside in
    record {
      taken = taken_led c.args.task.now c.args.pool.now c.args.found.now c.args.at c.args.steps.now c.args.place c.requires.at.taken s here c.args.event (c.requires.label s here) c.requires.event
          c.term_number.new.found c.in_ok-number.ensures.found c.add_step.new.table c.in_ok-number.number c.in_ok-add_step.ensures c.in_ok-number.ensures.number;
      within = c.in_ok-check.ensures.within;
    }
