use Rattle.digraph.proofs.Finding.{heights_found, heights_below}
use Rattle.digraph.proofs.walks.find_heights.Goals as goal

pub returns-clause-heights : goal.returns-clause-heights
returns-clause-heights c =
    let over = c.goes_on.ensures.over c.loop-search-test.false in
    rw (c.from_vec.ensures, c.in_ok-heights.ensures) (heights_found _ _ _ _ c.loop-search.invariant over.0 over.1)

pub returns-clause-below : goal.returns-clause-below
returns-clause-below c =
    let over = c.goes_on.ensures.over c.loop-search-test.false in
    rw (c.from_vec.ensures, c.in_ok-heights.ensures) (heights_below _ _ _ _ c.loop-search.invariant over.0 over.1)
