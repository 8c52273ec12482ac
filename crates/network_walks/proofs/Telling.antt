-- The walk that is made by the tables of a network's components is a walk of the network, and told as one.
use Rattle.network_walks.proofs.Prelude.{◌≡◌, ℕ, Bool, List, Result, Ok, Err, sym, subst, ◌∙◌, Proc, AreTargets, Component, leaves, IsSpelled, Network, HasTables, whole_room, ComponentTable, Numbered, first_terms, IsWalkOf, Move, ProcessStep, numbered, IsNetworkWalk, TellsWalk, walk_verdict, network_is_tree, Answers, Halt, Done}
use Rattle.numbered_walks.specs.Prelude.{Goes, Has}
use Rattle.report.specs.declared.stop.Halt.TheVariants as halt
use Rattle.network_walks.proofs.Carried.{carried, stand_first}
use Rattle.network_walks.proofs.Made.{rows_are_numbered, rows_have_components, rows_in_order, rows_of}
use Rattle.network_walks.proofs.Rows.{Stand, numbered_rows}

-- a walk by the numbers of terms
abbrev IsWalkBy : List Numbered → ℕ → ℕ → List Move → Bool → Type 0
IsWalkBy ns seed steps moves is_stuck = IsWalkOf (Has ns) (Goes ns) seed steps (first_terms ns) moves is_stuck

pub network_walk : (network : Network) (tables : List ComponentTable) (ns : List Numbered) (seed steps : ℕ) (moves : List Move) (is_stuck : Bool) → IsSpelled network → HasTables network tables
    → ns ≡ numbered (leaves network.tree) tables → IsWalkBy ns seed steps moves is_stuck → IsNetworkWalk network seed steps moves is_stuck
network_walk network tables ns seed steps moves is_stuck spelled are made walk =
    let p = network.program in
    let cs = leaves network.tree in
    let Step = ProcessStep p in
    let rows = rows_of p whole_room cs tables are in
    let by : IsWalkBy (numbered_rows Step rows) seed steps moves is_stuck =
    subst (λ (ms : List Numbered). IsWalkBy ms seed steps moves is_stuck) (made ∙ sym (rows_are_numbered p whole_room cs tables are)) walk in
    let first = subst (λ (ds : List (Component Proc)). Stand Step rows ds (first_terms (numbered_rows Step rows))) (rows_have_components p whole_room cs tables are) (stand_first Step rows) in
    carried Step (AreTargets p) rows (rows_in_order p whole_room cs tables are) seed steps (first_terms (numbered_rows Step rows)) network.tree moves is_stuck
    (record { nested = (network_is_tree p network.tree spelled).0.nesting; stand = first }) by

pub tells_walk : (network : Network) (seed steps : ℕ) (moves : List Move) (is_stuck : Bool) (r : Result Done Halt) → IsNetworkWalk network seed steps moves is_stuck
    → Answers (λ v. v ≡ walk_verdict is_stuck moves) r → Answers (TellsWalk network seed steps) r
tells_walk network seed steps moves is_stuck (Ok what) walk is = record { moves = moves; is_stuck = is_stuck; walk = walk; is = is }
tells_walk network seed steps moves is_stuck (Err halt.NoMemory) walk is = tt
tells_walk network seed steps moves is_stuck (Err (halt.Told v)) walk is = record { moves = moves; is_stuck = is_stuck; walk = walk; is = is }
