use Rattle.rule_rankings.proofs.Prelude.{◌≡◌, [], pos, sym, subst, arith, to_z, of_z, w64, ints}
use Rattle.rule_rankings.proofs.RowsBelow.{below_more}
use Rattle.rule_rankings.proofs.rows.rank_row.Goals as goal

pub loop-set-preserved : goal.loop-set-preserved
loop-set-preserved g c =
    let is_rank = g.R.Ranks.is_rank c.args.ranks.now c.args.part in
    let same : to_z w64 (of_z w64 c.rank.result) ≡ c.rank.result = omega (arith, ints) in
    below_more [] (pos 0) (λ _. is_rank) c.loop-set.set-index c.args.accept.now c.loop-set.row.items c.push.new.self.items c.set-item.result (to_z w64 (of_z w64 c.rank.result)) c.loop-set.invariant c.loop-set-test.true c.set-item.is (subst (is_rank c.set-item.result) (sym same) c.rank.ensures) c.in_ok-push.ensures.items
