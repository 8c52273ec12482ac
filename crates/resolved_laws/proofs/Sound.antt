-- What is in order, reads only names of its scope, and binds its names in turn: a form is, whose parts are. `IsSound` says so of a tree or a list of trees,
-- `Binds` of generators or fields, beside names that stand under all of them.
use Rattle.resolved_laws.proofs.Sources.{◌≡◌, ℕ, suc, ◌+◌, Bool, true, ◌&&◌, IsTrue, List, [], ◌∷◌, ◌++◌, length, refl, ap, Names, apart_from, either, nowhere, AreExprs, AreFields, Meanings, Name, Scope, with, Expr, Field, FieldTree, Kind, Tree}
use Rattle.script_names.specs.Typing as t
use Rattle.resolved_laws.proofs.Booleans.{and}
use Rattle.resolved_laws.proofs.InTurn.{InTurn, first, joins, none}
use Rattle.resolved_laws.proofs.Within.{IsWithin, apart_within, either_within, nowhere_within}

pub record IsSound (in_order : Bool) (names : Names) (binds : List ℕ) (scope : Scope) (n k : ℕ) : Type 0 where
  pub order : IsTrue in_order
  pub free : IsWithin names scope
  pub turn : InTurn n binds k

pub record Binds (in_order : Bool) (around : Names → Names) (binds : List ℕ) (scope inner : Scope) (n k : ℕ) : Type 0 where
  pub order : IsTrue in_order
  pub free : (names : Names) → IsWithin names inner → IsWithin (around names) scope
  pub turn : InTurn n binds k

pub fact : {a : Bool} {scope : Scope} {n : ℕ} → IsTrue a → IsSound a nowhere [] scope n n
fact {scope = scope} t = record { order = t; free = nowhere_within scope; turn = none }

-- a fact beside
pub given : {a b : Bool} {x : Names} {u : List ℕ} {scope : Scope} {n k : ℕ} → IsTrue a → IsSound b x u scope n k → IsSound (a && b) x u scope n k
given t h = record { order = and t h.order; free = h.free; turn = h.turn }

pub pair : {a b : Bool} {x y : Names} {u v : List ℕ} {scope : Scope} {n i k : ℕ} → IsSound a x u scope n i → IsSound b y v scope i k
    → IsSound (a && b) (either x y) (u ++ v) scope n k
pair h g = record { order = and h.order g.order; free = either_within h.free g.free; turn = joins h.turn g.turn }

pub triple : {a b c : Bool} {x y z : Names} {u v w : List ℕ} {scope : Scope} {n i j k : ℕ} → IsSound a x u scope n i → IsSound b y v scope i j
    → IsSound c z w scope j k → IsSound (a && (b && c)) (either x (either y z)) (u ++ v ++ w) scope n k
triple h g l = record {
  order = and h.order (and g.order l.order);
  free = either_within h.free (either_within g.free l.free);
  turn = joins (joins h.turn g.turn) l.turn;
}

-- a part, and one under a name that stands before both
pub under_one : {a b : Bool} {x y : Names} {u v : List ℕ} {scope : Scope} {n i k : ℕ} (z : Name) → IsSound a x u scope (n + 1) i
    → IsSound b y v (with scope z n) i k → IsSound (a && b) (either x (apart_from n y)) (n ∷ (u ++ v)) scope n k
under_one {n = n} z h g = record { order = and h.order g.order; free = either_within h.free (apart_within z n g.free); turn = first (joins h.turn g.turn) }

-- a part under generators that stand behind it
pub under_all : {a b : Bool} {x : Names} {around : Names → Names} {u v : List ℕ} {scope inner : Scope} {n i k : ℕ} → IsSound a x u inner n i
    → Binds b around v scope inner i k → IsSound (a && b) (around x) (u ++ v) scope n k
under_all {x = x} h g = record { order = and h.order g.order; free = g.free x h.free; turn = joins h.turn g.turn }

-- a part behind fields, under the names that they bind
pub behind_all : {a b : Bool} {x : Names} {around : Names → Names} {u v : List ℕ} {scope inner : Scope} {n i k : ℕ} → Binds a around u scope inner n i
    → IsSound b x v inner i k → IsSound (a && b) (around x) (u ++ v) scope n k
behind_all {x = x} h g = record { order = and h.order g.order; free = h.free x g.free; turn = joins h.turn g.turn }

pub binds_none : {scope : Scope} {n : ℕ} → Binds true (λ names. names) [] scope scope n n
binds_none = record { order = refl; free = λ names h. h; turn = none }

-- behind a part that binds nothing
pub binds_behind : {a b : Bool} {x : Names} {around : Names → Names} {u v : List ℕ} {scope inner : Scope} {n i k : ℕ} → IsSound a x u scope n i
    → Binds b around v scope inner i k → Binds (a && b) (λ names. either x (around names)) (u ++ v) scope inner n k
binds_behind h g = record { order = and h.order g.order; free = λ names l. either_within h.free (g.free names l); turn = joins h.turn g.turn }

-- behind a name that is bound to a part
pub binds_one : {a b : Bool} {x : Names} {around : Names → Names} {u v : List ℕ} {scope inner : Scope} {n i k : ℕ} (z : Name) → IsSound a x u scope (n + 1) i
    → Binds b around v (with scope z n) inner i k → Binds (a && b) (λ names. either x (apart_from n (around names))) (n ∷ (u ++ v)) scope inner n k
binds_one {n = n} z h g = record {
  order = and h.order g.order;
  free = λ names l. either_within h.free (apart_within z n (g.free names l));
  turn = first (joins h.turn g.turn);
}

-- ---- numbers of arguments and of fields

pub count_exprs : {m : Meanings} {ks : List Kind} {scope : Scope} {n k : ℕ} {ts : List Tree} {es : List Expr} → AreExprs m ks scope n ts es k
    → length ts ≡ length es
count_exprs t.no_exprs = refl
count_exprs (t.more_exprs h g) = ap (λ i. suc i) (count_exprs g)

pub count_fields : {m : Meanings} {ks : List Kind} {scope inner : Scope} {n k : ℕ} {ts : List FieldTree} {fs : List Field}
    → AreFields m ks scope n ts fs inner k → length ts ≡ length fs
count_fields t.no_fields = refl
count_fields (t.dot h g) = ap (λ i. suc i) (count_fields g)
count_fields (t.output h g) = ap (λ i. suc i) (count_fields g)
count_fields (t.input b g) = ap (λ i. suc i) (count_fields g)
count_fields (t.input_from b h g) = ap (λ i. suc i) (count_fields g)
