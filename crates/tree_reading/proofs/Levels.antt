-- The levels of expressions as numbers, and how an expression is read whatever level the reading began at.
use Rattle.tree_reading.proofs.Prelude.{◌≡◌, ℕ, suc, ◌≤◌, max, Bool, true, false, ◌&&◌, nat_lt, nat_le, if◌then◌else◌, Option, Some, None, List, [], ◌∷◌, map, refl, ap, arith, gen_depth, greatest_of_pairs, part_depth, tree_depth, Token, GenTree, PartTree, Tree, greatest, BinOp, Level, IsNext, IsLeftOperator, IsComparison, disjunction, conjunction, negation, comparison, sum, product, minus, renaming, and_then, begins, binding, left_operand, number, tighter, read_conditions, limits, may_follow, sign_behind, sign_binding, Sign, Binding}
use Rattle.csp_text.specs.declared.token.Token.TheVariants as token
use Rattle.csp_text.specs.declared.token.Word.TheVariants as word
use Rattle.csp_text.specs.declared.token.Symbol.TheVariants as symbol
use Rattle.csp_text.specs.declared.tree.Tree.TheVariants as tree
use Rattle.csp_grammar.specs.Precedence as table
use Rattle.tree_reading.specs.declared.look.Sign.TheVariants as sign
use Rattle.tree_reading.specs.declared.read.Binding.TheVariants as bound
use Rattle.tree_reading.proofs.Settling.{later, now, bind, there, not_there, granted}
use Rattle.tree_reading.proofs.Fitting.{about, first_part, inner, less}
use Rattle.tree_reading.proofs.Gives.{Gives}
use Rattle.tree_reading.proofs.Follow.{Stops}
use Rattle.tree_reading.proofs.Holds.{Holds}
use Rattle.tree_reading.proofs.Looks as look
use Rattle.tree_reading.proofs.Looks.{IsSign, binding_of, token_signs}
use Rattle.tree_reading.proofs.NodeDepths as depths
use Rattle.tree_reading.proofs.Starts.{IsOperand}

abbrev pub tightness : Level → ℕ
tightness l = number (binding_of l)

-- what follows an expression of the level binds less tightly than this
abbrev pub follow : Level → ℕ
follow disjunction = 12
follow conjunction = 13
follow negation = 13
follow comparison = 14
follow sum = 16
follow product = 17
follow minus = 17
follow renaming = 19

next_number : {l m : Level} → IsNext l m → tightness m ≡ suc (tightness l)
next_number table.disjunction-conjunction = refl
next_number _ = refl

next_tighter : {l m : Level} → IsNext l m → nat_le (number (tighter (binding_of l))) (tightness m) ≡ true
next_tighter table.disjunction-conjunction = refl
next_tighter _ = refl

pub next_follow : {l m : Level} → IsNext l m → nat_le (follow l) (follow m) ≡ true
next_follow table.disjunction-conjunction = refl
next_follow _ = refl

-- SIGNS

found : {X : Type 0} (b c : Bool) (x : X) → b ≡ true → c ≡ true → (if b && c then Some x else None) ≡ Some x
found true true x h k = refl
found true false x h k = absurd cc
found false c x h k = absurd cc

left_behind : {l : Level} {t : Token} {op : BinOp} (m k : Binding) (us : List Token) → IsLeftOperator l t op → nat_le (number m) (tightness l) ≡ true → nat_le (tightness l) (number k) ≡ true →
    sign_behind m k (t ∷ us) ≡ Some (sign.Operator op (binding_of l), us)
left_behind m k us table.or le tight = found (nat_le (number m) 11) (nat_le 11 (number k)) _ le tight
left_behind m k us table.and le tight = found (nat_le (number m) 12) (nat_le 12 (number k)) _ le tight
left_behind m k us table.plus le tight = found (nat_le (number m) 15) (nat_le 15 (number k)) _ le tight
left_behind m k us table.minus-sign le tight = found (nat_le (number m) 15) (nat_le 15 (number k)) _ le tight
left_behind m k us _ le tight = found (nat_le (number m) 16) (nat_le 16 (number k)) _ le tight

comparison_behind : {t : Token} {op : BinOp} (m k : Binding) (us : List Token) → IsComparison t op → nat_le (number m) 14 ≡ true → nat_le 15 (number k) ≡ true →
    sign_behind m k (t ∷ us) ≡ Some (sign.Operator op bound.Comparison, us)
comparison_behind m k us table.equal le tight = found (nat_le (number m) 14) (nat_le 15 (number k)) _ le tight
comparison_behind m k us _ le tight = found (nat_le (number m) 14) (nat_le 15 (number k)) _ le tight

-- a sign binds as its token does
sign_binds : {t : Token} {s : Sign} → IsSign t s → number (sign_binding s) ≡ binding t
sign_binds (look.operator (look.left table.or)) = refl
sign_binds (look.operator (look.compared table.equal)) = refl
sign_binds _ = refl

not_both : (m s b : ℕ) (c : Bool) → s ≡ b → nat_lt b m ≡ true → (nat_le m s && c) ≡ false
not_both m s b c e h = grind (arith)

none_follows : {t : Token} {o : Option Sign} (m k : Binding) (ts : List Token) → Holds (IsSign t) o → nat_lt (binding t) (number m) ≡ true →
    (and_then {B = Sign × List Token} o λ s. if may_follow m k s then Some (s, ts) else None) ≡ None
none_follows m k ts Holds.none h = refl
none_follows {t} m k ts (Holds.some {x = s} is) h =
    ap (λ b. if b then Some (s, ts) else None) (not_both (number m) (number (sign_binding s)) (binding t) (nat_le (number (left_operand (sign_binding s))) (number k)) (sign_binds is) h)

no_sign : (m k : Binding) (r : List Token) → Stops (number m) r → sign_behind m k r ≡ None
no_sign m k [] s = refl
no_sign m k (t ∷ r) s = none_follows m k r (token_signs t) s

-- The expression is read from the list, bound at least as tightly as its level: whatever level up to its own the reading began at, what is read is
-- what its operators give with this expression in front of them.
pub record Reads (n d : ℕ) (l : Level) (ts : List Token) (t : Tree) (r : List Token) : Type 0 where
  pub k : Binding
  pub tight : nat_le (tightness l) (number k) ≡ true
  pub reads : (m : Binding) (x : Binding × Tree × List Token) → nat_le (number m) (tightness l) ≡ true →
      Gives (λ L. L.operators (limits n d) m k t r) x → Gives (λ L. L.expression (limits n d) m ts) x

ended : (n d : ℕ) (m k : Binding) (t : Tree) (r : List Token) → Stops (number m) r → Gives (λ L. L.operators (limits n d) m k t r) (k, t, r)
ended n d m k t r s = later (not_there _ _ (no_sign m k r s) now)

-- the expression as it is read from a level that its rest stops at
pub read_at : {n d : ℕ} {l : Level} {ts : List Token} {t : Tree} {r : List Token} (e : Reads n d l ts t r) (m : Binding) →
    nat_le (number m) (tightness l) ≡ true → Stops (number m) r → Gives (λ L. L.expression (limits n d) m ts) (e.k, t, r)
read_at {n} {d} {l} {ts} {t} {r} e m le s = e.reads m (e.k, t, r) le (ended n d m e.k t r s)

le_step : (a b k : ℕ) → b ≡ suc a → nat_le b k ≡ true → nat_le a k ≡ true
le_step a b k e h = grind (arith)

le_next : (m a b : ℕ) → b ≡ suc a → nat_le m a ≡ true → nat_le m b ≡ true
le_next m a b e h = grind (arith)

le_same : (a : ℕ) → nat_le a a ≡ true
le_same a = grind (arith)

pub read_tighter : {n d : ℕ} {l m : Level} {ts : List Token} {t : Tree} {r : List Token} → IsNext l m → Reads n d m ts t r → Reads n d l ts t r
read_tighter {n} {d} {l} {m} next e = record {
  k = e.k;
  tight = le_step (tightness l) (tightness m) (number e.k) (next_number next) e.tight;
  reads = λ level x le h. e.reads level x (le_next (number level) (tightness l) (tightness m) (next_number next) le) h;
}

left_stops : {l : Level} {t : Token} {op : BinOp} (r : List Token) → IsLeftOperator l t op → Stops (follow l) r → Stops (number (tighter (binding_of l))) r
left_stops r table.or s = s
left_stops r _ s = s

pub read_left : {n d : ℕ} {l m : Level} {t : Token} {op : BinOp} {ts : List Token} {a : Tree} {us : List Token} {b : Tree} {r : List Token} →
    IsNext l m → IsLeftOperator l t op → tree_depth (tree.Binary op a b) ≤ d → Reads n d l ts a (t ∷ us) → Reads n (less d) m us b r → Stops (follow l) r →
    Reads n d l ts (tree.Binary op a b) r
read_left {n} {d} {l} {m} {t} {op} {ts} {a} {us} {b} {r} next is fits p q s = record {
  k = binding_of l;
  tight = le_same (tightness l);
  reads = λ level x le h.
      p.reads level x le (later (there _ _ (left_behind level p.k us is le p.tight)
      (bind _ (about d a _ (depths.of_tree _ (tree.rolls-Binary op a b)) (first_part (tree_depth a) (tree_depth b)) fits
      (bind _ (read_at q (tighter (binding_of l)) (next_tighter next) (left_stops r is s)) now)) h)));
}

to_fifteen : (m : ℕ) → nat_le m 14 ≡ true → nat_le m 15 ≡ true
to_fifteen m le = grind (arith)

fifteen : (b : ℕ) → nat_lt b 14 ≡ true → nat_lt b 15 ≡ true
fifteen b h = grind (arith)

pub read_compare : {n d : ℕ} {t : Token} {op : BinOp} {ts : List Token} {a : Tree} {us : List Token} {b : Tree} {r : List Token} →
    IsComparison t op → tree_depth (tree.Binary op a b) ≤ d → Reads n d sum ts a (t ∷ us) → Reads n (less d) sum us b r → Stops 14 r →
    Reads n d comparison ts (tree.Binary op a b) r
read_compare {n} {d} {t} {op} {ts} {a} {us} {b} {r} is fits p q s = record {
  k = bound.Comparison;
  tight = refl;
  reads = λ level x le h.
      p.reads level x (to_fifteen (number level) le) (later (there _ _ (comparison_behind level p.k us is le p.tight)
      (bind _ (about d a _ (depths.of_tree _ (tree.rolls-Binary op a b)) (first_part (tree_depth a) (tree_depth b)) fits
      (bind _ (read_at q bound.Sum refl (fifteen (begins r) s)) now)) h)));
}

pub read_negated : {n d : ℕ} {ts : List Token} {a : Tree} {r : List Token} → tree_depth (tree.Not a) ≤ d → Reads n (less d) negation ts a r → Stops 13 r →
    Reads n d negation (token.Word word.Not ∷ ts) (tree.Not a) r
read_negated {n} {d} {ts} {a} {r} fits p s = record {
  k = bound.Complement;
  tight = refl;
  reads = λ level x le h.
      later (granted _ le (inner _ d _ (depths.of_tree _ (tree.rolls-Not a)) fits (bind _ (read_at p bound.Complement refl s) h)));
}

pub read_negative : {n d : ℕ} {ts : List Token} {a : Tree} {r : List Token} → tree_depth (tree.Neg a) ≤ d → Reads n (less d) minus ts a r → Stops 17 r →
    Reads n d minus (token.Symbol symbol.Minus ∷ ts) (tree.Neg a) r
read_negative {n} {d} {ts} {a} {r} fits p s = record {
  k = bound.Negative;
  tight = refl;
  reads = λ level x le h.
      later (granted _ le (inner _ d _ (depths.of_tree _ (tree.rolls-Neg a)) fits (bind _ (read_at p bound.Negative refl s) h)));
}

-- the depth of pairs
abbrev pub pairs_depth : List (PartTree × PartTree) → ℕ
pairs_depth pairs = greatest_of_pairs (map (λ pair. (part_depth pair.0, part_depth pair.1)) pairs)

pub read_rename : {n d : ℕ} {ts : List Token} {p : Tree} {us : List Token} {pairs : List (PartTree × PartTree)} {vs : List Token} {gs : List GenTree} {r : List Token} →
    tree_depth (tree.Rename p pairs gs) ≤ d → Reads (suc n) d renaming ts p (token.Symbol symbol.OpenRename ∷ us) →
    Gives (λ L. L.pairs (limits n (less d)) us) (pairs, vs) →
    Gives (λ L. read_conditions L (limits n (less d)) vs) (gs, token.Symbol symbol.CloseRename ∷ r) →
    Reads (suc n) d renaming ts (tree.Rename p pairs gs) r
read_rename {n} {d} {ts} {p} {us} {pairs} {vs} {gs} {r} fits front given conditions = record {
  k = bound.Renaming;
  tight = refl;
  reads = λ level x le h.
      front.reads level x le (later (there _ _ (found (nat_le (number level) 18) (nat_le 18 (number front.k)) _ le front.tight)
      (bind _ (about d p _ (depths.of_tree _ (tree.rolls-Rename p pairs gs))
      (first_part (tree_depth p) (max (pairs_depth pairs) (greatest (map gen_depth gs)))) fits
      (bind _ (bind _ given (bind _ conditions now)) now)) h)));
}

pub read_operand : {n d : ℕ} {ts : List Token} {t : Tree} {r : List Token} → IsOperand ts → Gives (λ L. L.atom (limits n d) ts) (t, r) → Reads n d renaming ts t r
read_operand {n} {d} {ts} {t} {r} is a = record {
  k = bound.Atom;
  tight = refl;
  reads = λ level x le h. later (not_there _ _ is.no_not (not_there _ _ is.no_minus (bind _ a h)));
}
