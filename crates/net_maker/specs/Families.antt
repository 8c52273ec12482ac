-- Scripts of networks of any size. The first line of each says the size.
use Rattle.std.specs.Prelude.{ℕ, ◌/◌, List, [], ◌++◌, codes}
use Rattle.std.specs.Fmt.{decimal}
use Rattle.net_maker.specs.declared.families.Family.{Family}
use Rattle.net_maker.specs.declared.families.Family.TheVariants.{Forks, Chain, Mesh}
use Rattle.csp_base.specs.Texts.{line}
use Rattle.dl_limits.specs.declared.TheConstants.{MOST_COMPONENTS}

-- Dining philosophers round a table, of whom one takes the forks in the other order (Dijkstra 1971). Forks are resources.
abbrev pub forks : List ℕ
forks =
    line (codes "ID = {0..N-1}")
    ++ line (codes "REST = {1..N-1}")
    ++ line (codes "channel thinks, eats : ID")
    ++ line (codes "channel picks, drops : ID.{0..1}")
    ++ line (codes "PHIL(i) = thinks.i -> picks.i.0 -> picks.i.1 -> eats.i -> drops.i.1 -> drops.i.0 -> PHIL(i)")
    ++ line (codes "LEFT(i) = thinks.i -> picks.i.1 -> picks.i.0 -> eats.i -> drops.i.0 -> drops.i.1 -> LEFT(i)")
    ++ line (codes "FORK(i) = picks.i.0 -> drops.i.0 -> FORK(i) [] picks.(i-1)%N.1 -> drops.(i-1)%N.1 -> FORK(i)")
    ++ line (codes "AP(i) = {| thinks.i, eats.i, picks.i, drops.i |}")
    ++ line (codes "AF(i) = {picks.i.0, drops.i.0, picks.(i-1)%N.1, drops.(i-1)%N.1}")
    ++ line (codes "ACQ(i) = {picks.i.0, picks.(i-1)%N.1}")
    ++ line (codes "REL(i) = {drops.i.0, drops.(i-1)%N.1}")
    ++ line (codes "--@ resource FORK ACQ REL")
    ++ line (codes "USERS = LEFT(0) [AP(0) || {| thinks.i, eats.i, picks.i, drops.i | i <- REST |}] (|| i:REST @ [AP(i)] PHIL(i))")
    ++ line (codes "FORKS = || i:ID @ [AF(i)] FORK(i)")
    ++ line (codes "SYSTEM = USERS [{| thinks, eats, picks, drops |} || {| picks, drops |}] FORKS")
    ++ line (codes "assert SYSTEM :[deadlock free [F]]")

-- Nodes in a row, of which each serves the one before it by asking the one after it.
abbrev pub chain : List ℕ
chain =
    line (codes "ID = {0..N-1}")
    ++ line (codes "channel req, ack : ID")
    ++ line (codes "NODE(i) = req.i -> (if i < N-1 then req.(i+1) -> ack.(i+1) -> ack.i -> NODE(i) else ack.i -> NODE(i))")
    ++ line (codes "A(i) = if i < N-1 then {req.i, ack.i, req.(i+1), ack.(i+1)} else {req.i, ack.i}")
    ++ line (codes "CREQ(i) = if i < N-1 then {req.(i+1)} else {}")
    ++ line (codes "CACK(i) = if i < N-1 then {ack.(i+1)} else {}")
    ++ line (codes "SREQ(i) = if i > 0 then {req.i} else {}")
    ++ line (codes "SACK(i) = if i > 0 then {ack.i} else {}")
    ++ line (codes "--@ roles NODE CREQ CACK SREQ SACK")
    ++ line (codes "CHAIN = || i:ID @ [A(i)] NODE(i)")
    ++ line (codes "assert CHAIN :[deadlock free]")

-- Cells in rows and columns, each of which takes from the left and from above and gives to the right and below (Kung 1982).
abbrev pub mesh : List ℕ
mesh =
    line (codes "ROW = {0..N-1}")
    ++ line (codes "channel h, v : {0..N}.{0..N}")
    ++ line (codes "CELL(i,j) = h.i.j -> v.i.j -> h.i.(j+1) -> v.(i+1).j -> CELL(i,j)")
    ++ line (codes "A(i,j) = {h.i.j, v.i.j, h.i.(j+1), v.(i+1).j}")
    ++ line (codes "R(i) = union({h.i.j | j <- {0..N}}, {v.i.j, v.(i+1).j | j <- ROW})")
    ++ line (codes "LINE(i) = || j:ROW @ [A(i,j)] CELL(i,j)")
    ++ line (codes "MESH = || i:ROW @ [R(i)] LINE(i)")
    ++ line (codes "assert MESH :[deadlock free]")

abbrev pub lines_of : Family → List ℕ
lines_of Forks = forks
lines_of Chain = chain
lines_of Mesh = mesh

abbrev pub family_text : Family → ℕ → List ℕ
family_text f n = line (codes "N = " ++ decimal n) ++ lines_of f

-- how a family is written on a command line
abbrev pub family_name : Family → List ℕ
family_name Forks = codes "forks"
family_name Chain = codes "chain"
family_name Mesh = codes "mesh"

-- The least and the greatest size. N philosophers with their forks are 2 * N components, a row is N, and a mesh N * N; one more would be more
-- than MOST_COMPONENTS.
abbrev pub least : Family → ℕ
least Forks = 2
least Chain = 1
least Mesh = 1

abbrev pub greatest : Family → ℕ
greatest Forks = MOST_COMPONENTS / 2
greatest Chain = MOST_COMPONENTS
greatest Mesh = 22
