use Rattle.digraph.specs.Search.{IsSearch, work_left}
use Rattle.digraph.proofs.walks.find_heights.Given as goal

abbrev pub invariant-loop-search : goal.invariant-loop-search
invariant-loop-search l = IsSearch l.rows l.search

abbrev pub decreases-loop-search : goal.decreases-loop-search
decreases-loop-search l = work_left l.rows l.search.marks.items l.search.next
