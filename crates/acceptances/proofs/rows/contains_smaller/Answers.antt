use Rattle.acceptances.proofs.Prelude.{◌<◌, length, sym, subst, All}
use Rattle.acceptances.proofs.RowLists.{row_read, row_within, told_found, told_none, looked_more, all_looked_at}
use Rattle.acceptances.proofs.rows.contains_smaller.Goals as goal

pub row_has_smaller-requires : goal.row_has_smaller-requires
row_has_smaller-requires c =
    let rows = c.args.rows.now in
    subst (All (λ p. p < length c.args.sets.now)) (sym (row_read rows 0 _ _ c.requires.some c.index-rows-0.is c.as_slice.ensures)) (row_within c.args.sets.now rows c.args.set.now c.requires 0)

pub returns-then-row_has_smaller : goal.returns-then-row_has_smaller
returns-then-row_has_smaller c =
    let rows = c.args.rows.now in
    told_found c.args.sets.now rows c.args.set.now c.requires 0 _ _ (row_read rows 0 _ _ c.requires.some c.index-rows-0.is c.as_slice.ensures) c.row_has_smaller.ensures c.if-row_has_smaller.true

pub row_has_smaller-requires-in-loop-event : goal.row_has_smaller-requires-in-loop-event
row_has_smaller-requires-in-loop-event c =
    let rows = c.args.rows.now in
    let row = c.row_of.result in
    subst (All (λ p. p < length c.args.sets.now)) (sym (row_read rows row _ _ c.row_of.ensures.within c.index-rows-row_of.is c.as_slice-in-loop-event.ensures)) (row_within c.args.sets.now rows c.args.set.now c.requires row)

pub returns-then-row_has_smaller-2 : goal.returns-then-row_has_smaller-2
returns-then-row_has_smaller-2 c =
    let rows = c.args.rows.now in
    let row = c.row_of.result in
    told_found c.args.sets.now rows c.args.set.now c.requires row _ _ (row_read rows row _ _ c.row_of.ensures.within c.index-rows-row_of.is c.as_slice-in-loop-event.ensures) c.row_has_smaller-in-loop-event.ensures c.if-row_has_smaller-2.true

pub loop-event-preserved : goal.loop-event-preserved
loop-event-preserved c =
    let rows = c.args.rows.now in
    let row = c.row_of.result in
    looked_more c.args.sets.now rows c.args.set.now c.requires c.loop-event.event-iterator c.next.new.self c.in-Some.event row c.in-Some.ensures.steps c.row_of.ensures.row
    (told_none c.args.sets.now rows c.args.set.now c.requires row _ _ (row_read rows row _ _ c.row_of.ensures.within c.index-rows-row_of.is c.as_slice-in-loop-event.ensures) c.row_has_smaller-in-loop-event.ensures c.if-row_has_smaller-2.false)
    c.loop-event.invariant

pub returns : goal.returns
returns c =
    let rows = c.args.rows.now in
    sym (all_looked_at c.args.sets.now rows c.args.set.now c.requires c.loop-event.event-iterator c.in-None.ensures.steps.0
    (told_none c.args.sets.now rows c.args.set.now c.requires 0 _ _ (row_read rows 0 _ _ c.requires.some c.index-rows-0.is c.as_slice.ensures) c.row_has_smaller.ensures c.if-row_has_smaller.false)
    c.loop-event.invariant)
