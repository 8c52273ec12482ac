use Rattle.network_stages.proofs.Prelude.{◌≤◌, List, length, sym, subst, Proc, Component, leaves, Network, HasTables, MOST_COMPONENTS}
use Rattle.network_stages.proofs.Tabling.{few_tables}
use Rattle.network_stages.proofs.tabled.Tabled.silent_bound.Goals as goal

pub silent_bound-requires-clause-few : goal.silent_bound-requires-clause-few
silent_bound-requires-clause-few c =
    let network = c.args.self.now.network in
    few_tables network.program (leaves network.tree) c.tables.result.now (subst (HasTables network) (sym c.tables.ensures.tables) c.tables.ensures.are)
    (subst (λ (n : Network). length (leaves n.tree) ≤ MOST_COMPONENTS) c.network-network.ensures (subst (λ (cs : List (Component Proc)). length cs ≤ MOST_COMPONENTS) c.seats-seats.ensures.seats c.seats-seats.ensures.few))

pub silent_bound-requires-clause-are : goal.silent_bound-requires-clause-are
silent_bound-requires-clause-are c =
    let network = c.args.self.now.network in
    (network.program, leaves network.tree, subst (HasTables network) (sym c.tables.ensures.tables) c.tables.ensures.are)
