use Rattle.network_walks.proofs.Prelude.{rules, IsWalked, at_refusal, at_want, goes_on}
use Rattle.network_walks.proofs.Telling.{tells_walk}
use Rattle.network_walks.proofs.walking.walk_network.Goals as goal

pub returns-in_err-tabled : goal.returns-in_err-tabled
unfolding IsWalked
returns-in_err-tabled c = search (rules, at_refusal, at_want)

pub returns-in_err-made : goal.returns-in_err-made
returns-in_err-made c = search (rules, at_want)

pub returns : goal.returns
unfolding IsWalked
returns c =
    goes_on _ _ _ _ c.in_ok-tabled.tabled.tables (search rules) _
    (tells_walk c.args.network.now c.args.seed c.args.steps c.in_ok-made.made.moves.items c.in_ok-made.made.is_stuck _ (search rules) c.done_walk.ensures)
