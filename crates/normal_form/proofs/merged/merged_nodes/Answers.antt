use Rattle.normal_form.proofs.Prelude.{sym, subst, IsMergedTable}
use Rattle.normal_form.proofs.Merging.{apart_merged}
use Rattle.normal_form.proofs.merged.merged_nodes.Goals as goal

pub returns-then-are_places : goal.returns-then-are_places
returns-then-are_places c =
    subst (IsMergedTable c.args.nodes.items) (sym c.from_nodes.ensures)
    (apart_merged c.args.nodes.items c.in_ok-marks.marks.items c.requires.rising (rw c.deref.ensures.value at c.in_ok-marks.ensures) (rw c.deref-2.ensures.value at c.if-are_places.ensures))

pub returns : goal.returns
returns c = subst (IsMergedTable c.args.nodes.items) (sym c.from_nodes-2.ensures) (record {
  marks = c.in_ok-marks.marks.items;
  classes = c.in_ok-classes.classes.numbers.items;
  count = c.in_ok-classes.classes.count;
  told = rw c.deref.ensures.value at c.in_ok-marks.ensures;
  futures = rw (c.deref-3.ensures.value, c.deref-4.ensures.value) at c.in_ok-classes.ensures;
  is = rw c.deref-5.ensures.value at c.in_ok-merged.ensures;
})
