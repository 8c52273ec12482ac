use Rattle.local_tables.proofs.Prelude.{◌≡◌, ◌+◌, ◌<◌, ◌∙◌, ap, length, slice_index_or, subst, sym, arith, List, false≢true, same_Some, slice_get-get_or, slice_get_within, StepTo, visible, AreLed, Origin, terms_at}
use Rattle.local_tables.proofs.Following.{ends, taken_outside}
use Rattle.local_tables.proofs.exploring.take.Goals as goal

pub lead-requires-in-Visible-clause-label : goal.lead-requires-in-Visible-clause-label
lead-requires-in-Visible-clause-label c = λ s h.
    let here = slice_get-get_or c.args.steps.now c.args.place c.index-steps-place.result c.requires.inside in
    ap (λ (z : StepTo). z.label) (same_Some s (slice_index_or c.args.steps.now c.args.place c.index-steps-place.result) (sym h ∙ here)) ∙ c.in-Visible.is

pub returns-then-not-contains-clause-at : goal.returns-then-not-contains-clause-at
returns-then-not-contains-clause-at c =
    let s = slice_index_or c.args.steps.now c.args.place c.index-steps-place.result in
    let here = slice_get-get_or c.args.steps.now c.args.place c.index-steps-place.result c.requires.inside in
    record {
      taken = taken_outside c.args.task.now c.args.pool.now c.args.found.now c.args.at c.args.steps.now c.args.place c.requires.at.taken s here (visible c.in-Visible.event) c.in-Visible.is
          (λ inside. false≢true (c.if-not-contains.ensures.member ∙ inside));
      within = c.requires.at.within;
    }

pub trace_to-requires-clause-within : goal.trace_to-requires-clause-within
trace_to-requires-clause-within c =
    let terms = terms_at c.args.pool.now c.args.found.now.terms in
    let inside : c.args.at < length (terms_at c.args.pool.now c.args.found.now.terms) = slice_get_within terms c.args.at c.requires.at.taken.here.term c.requires.at.taken.here.listed in
    let many : length (terms_at c.args.pool.now c.args.found.now.terms) ≡ length c.args.found.now.origins + 1 = c.requires.at.taken.found.led.as_many in
    omega (arith, ap length c.as_slice.ensures)

pub returns-in_ok-trace-in-Tick-clause-fault : goal.returns-in_ok-trace-in-Tick-clause-fault
returns-in_ok-trace-in-Tick-clause-fault c =
    let s = slice_index_or c.args.steps.now c.args.place c.index-steps-place.result in
    let here = slice_get-get_or c.args.steps.now c.args.place c.index-steps-place.result c.requires.inside in
    let terms = terms_at c.args.pool.now c.args.found.now.terms in
    let led : AreLed c.args.task.now terms c.as_slice.result.now = subst (λ (os : List Origin). AreLed c.args.task.now terms os) (sym c.as_slice.ensures) c.requires.at.taken.found.led in
    ends c.args.task.now c.args.pool.now c.args.found.now c.args.at c.args.steps.now c.args.place c.requires.at.taken s here c.in-Tick.is c.in_ok-trace-in-Tick.trace
    (c.in_ok-trace-in-Tick.ensures c.args.task.now terms led)
