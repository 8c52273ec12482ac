use Rattle.definition_kinds.proofs.Prelude.{◌≡◌, ◌+◌, List, ◌&&◌, ◌||◌, nat_eq, get_or, sym, ap, ◌∙◌, arith, End, has_arc, some_from}
use Rattle.definition_kinds.proofs.ArcLaws.{arcs_step}
use Rattle.definition_kinds.proofs.arcs.turn_round.Goals as goal

pub loop-ends-preserved : goal.loop-ends-preserved
loop-ends-preserved c =
    let place : c.loop-ends.d ≡ c.loop-ends.ends-index = c.loop-ends.invariant.place in
    record {
      len = c.add_ends.ensures.len ∙ c.loop-ends.invariant.len;
      place = ap (λ n. n + 1) place;
      arcs = λ v w.
          arcs_step c.args.count c.args.target c.args.all.now v w c.loop-ends.d c.ends-item.result (has_arc c.add_ends.new.rows v w) (has_arc c.loop-ends.rows v w) (omega arith)
          (c.ends-item.is ∙ ap (λ k. get_or c.args.all.now k c.ends-item.result) (sym place))
          (c.in_ok-add_ends.ensures.arcs v w ∙ ap (λ (es : List End). has_arc c.loop-ends.rows v w || (some_from c.args.count c.args.target v es && nat_eq w c.loop-ends.d)) c.as_slice.ensures.value)
          (c.loop-ends.invariant.arcs v w);
    }
