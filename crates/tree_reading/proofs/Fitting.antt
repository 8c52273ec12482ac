-- Depths within a limit.
use Rattle.tree_reading.proofs.Prelude.{◌≡◌, ℕ, zero, suc, ◌+◌, ◌≤◌, max, true, nat_le, Option, Some, ap, ◌∙◌, arith, tree_depth, Tree, and_then, Limited, limited, around, inside, limits, sure, Settles, Limits}

-- of two parts

pub both : {a b d : ℕ} → a ≤ d → b ≤ d → max a b ≤ d
both {a} {b} {d} h k = grind (arith)

pub left : (a b : ℕ) {d : ℕ} → max a b ≤ d → a ≤ d
left a b {d} h = grind (arith)

pub right : (a b : ℕ) {d : ℕ} → max a b ≤ d → b ≤ d
right a b {d} h = grind (arith)

-- a node is deeper by one than its parts
pub node : {x a d e : ℕ} → x ≡ 1 + a → d ≡ suc e → a ≤ e → x ≤ d
node {x} {a} {d} {e} is deep h = omega arith

-- THE PARTS OF A NODE, AS THEY ARE READ

-- the depth of the parts of a node of this one
abbrev pub less : ℕ → ℕ
less zero = zero
less (suc d) = d

lower : (x a d : ℕ) → x ≡ 1 + a → x ≤ suc d → a ≤ d
lower x a d is h = omega arith

too_deep : {A : Type 0} (x a : ℕ) → x ≡ 1 + a → x ≤ 0 → A
too_deep x a is h = absurd (omega arith)

pub parts : {x a : ℕ} (d : ℕ) → x ≡ 1 + a → x ≤ d → a ≤ less d
parts {x} {a} zero is h = too_deep x a is h
parts {x} {a} (suc d) is h = lower x a d is h

at_most : (a d : ℕ) → a ≤ d → a ≤ suc d
at_most a d h = omega arith

pub up : {a : ℕ} (d : ℕ) → a ≤ less d → a ≤ d
up zero h = h
up {a} (suc d) h = at_most a d h

-- a node of depth x may be read
pub inner : {B : Type 0} {n x : ℕ} (a d : ℕ) {o : Option B} (K : Limited → Limits → Option B) → x ≡ 1 + a → x ≤ d →
    Settles (λ L. K L (limits n (less d))) o → Settles (λ L. and_then (inside (limits n d)) (K L)) o
inner {x = x} a zero K is h s = too_deep x a is h
inner {x = x} a (suc d) K is h s = s

pub first_part : (a b : ℕ) → a ≤ max a b
first_part a b = grind (arith)

pub second_part : (a b : ℕ) → b ≤ max a b
second_part a b = grind (arith)

test : (a e : ℕ) → a ≤ e → nat_le a e ≡ true
test a e h = grind (arith)

pub through : (a b e : ℕ) → a ≤ b → b ≤ e → a ≤ e
through a b e h k = omega arith

tested : {B : Type 0} {n : ℕ} (e : ℕ) (t : Tree) {o : Option B} (K : Limited → Limits → Option B) → tree_depth t ≤ e → Settles (λ L. K L (limits n e)) o →
    Settles (λ L. and_then (and_then (sure (nat_le (tree_depth t) e)) λ _. Some (limits n e)) (K L)) o
tested {n = n} e t K h s = record {
  enough = s.enough;
  settles = λ f le. ap (λ b. and_then (and_then (sure b) λ _. Some (limits n e)) (K (limited f))) (test (tree_depth t) e h) ∙ s.settles f le;
}

-- and one with this tree as a part that was read before
pub about : {B : Type 0} {n x a : ℕ} (d : ℕ) (t : Tree) {o : Option B} (K : Limited → Limits → Option B) → x ≡ 1 + a → tree_depth t ≤ a → x ≤ d →
    Settles (λ L. K L (limits n (less d))) o → Settles (λ L. and_then (around (limits n d) t) (K L)) o
about {x = x} {a = a} zero t K is part h s = too_deep x a is h
about {x = x} {a = a} (suc d) t K is part h s = tested d t K (through (tree_depth t) a d part (lower x a d is h)) s
