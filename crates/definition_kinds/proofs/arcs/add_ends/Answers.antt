use Rattle.definition_kinds.proofs.Prelude.{◌∙◌, has_arc, End}
use Rattle.definition_kinds.proofs.ArcLaws.{ends_step}
use Rattle.definition_kinds.proofs.arcs.add_ends.Goals as goal

pub loop-end-preserved : goal.loop-end-preserved
loop-end-preserved c = record {
  len = c.add_end.ensures.len ∙ c.loop-end.invariant.len;
  arcs = λ v w.
      ends_step c.args.sought.count c.args.sought.target v w c.args.d c.loop-end.end-index c.args.ends.now End.Data (has_arc c.add_end.new.rows v w) (has_arc c.loop-end.rows v w)
      (has_arc c.args.rows.now v w) c.loop-end-test.true (c.in_ok-add_end.ensures.arcs v w) (c.loop-end.invariant.arcs v w);
}
