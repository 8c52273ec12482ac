-- What holds of a reading, if anything was read.
use Rattle.tree_reading.proofs.Prelude.{◌≡◌, ℕ, zero, suc, ◌≤◌, Bool, true, false, nat_le, if◌then◌else◌, Option, Some, None, refl, subst, arith, tree_depth, Tree, and_then, case, around, bracketed, inside, limits, sure, Limits, same_Some, none-some}

pub data Holds {A : Type 0} (P : A → Type 0) : Option A → Type 0 where
  none : Holds P None
  some : {x : A} → P x → Holds P (Some x)

pub by_then : {A B : Type 0} {P : B → Type 0} {Q : A → Type 0} {o : Option A} (K : A → Option B) → Holds Q o → ((a : A) → Q a → Holds P (K a)) → Holds P (and_then o K)
by_then K none f = none
by_then K (some {x = x} q) f = f x q

pub by_case : {A B : Type 0} {P : B → Type 0} {Q : A → Type 0} {o : Option A} (K : A → Option B) (L : Unit {0} → Option B) →
    Holds Q o → ((a : A) → Q a → Holds P (K a)) → Holds P (L tt) → Holds P (case o K L)
by_case K L none f h = h
by_case K L (some {x = x} q) f h = f x q

pub by_sure : {B : Type 0} {P : B → Type 0} (b : Bool) (K : Unit {0} → Option B) → (b ≡ true → Holds P (K tt)) → Holds P (and_then (sure b) K)
by_sure false K f = none
by_sure true K f = f refl

pub by_if : {B : Type 0} {P : B → Type 0} (b : Bool) (o p : Option B) → Holds P o → Holds P p → Holds P (if b then o else p)
by_if false o p h k = k
by_if true o p h k = h

pub by_bracketed : {B : Type 0} {P : B → Type 0} (n d : ℕ) (K : Limits → Option B) → ((m : ℕ) → n ≡ suc m → Holds P (K (limits m d))) → Holds P (and_then (bracketed (limits n d)) K)
by_bracketed zero d K f = none
by_bracketed (suc n) d K f = f n refl

pub by_inside : {B : Type 0} {P : B → Type 0} (n d : ℕ) (K : Limits → Option B) → ((e : ℕ) → d ≡ suc e → Holds P (K (limits n e))) → Holds P (and_then (inside (limits n d)) K)
by_inside n zero K f = none
by_inside n (suc d) K f = f d refl

pub is_le : (a b : ℕ) → nat_le a b ≡ true → a ≤ b
is_le a b h = grind (arith)

tested : {B : Type 0} {P : B → Type 0} (n d e : ℕ) (t : Tree) (K : Limits → Option B) (b : Bool) → nat_le (tree_depth t) e ≡ b → d ≡ suc e →
    ((e : ℕ) → d ≡ suc e → tree_depth t ≤ e → Holds P (K (limits n e))) → Holds P (and_then (and_then (sure b) λ _. Some (limits n e)) K)
tested n d e t K false is deep f = none
tested n d e t K true is deep f = f e deep (is_le (tree_depth t) e is)

pub by_around : {B : Type 0} {P : B → Type 0} (n d : ℕ) (t : Tree) (K : Limits → Option B) →
    ((e : ℕ) → d ≡ suc e → tree_depth t ≤ e → Holds P (K (limits n e))) → Holds P (and_then (around (limits n d) t) K)
by_around n zero t K f = none
by_around n (suc e) t K f = tested n (suc e) e t K (nat_le (tree_depth t) e) refl refl f

pub mapped : {A : Type 0} {P Q : A → Type 0} {o : Option A} → ((x : A) → P x → Q x) → Holds P o → Holds Q o
mapped f none = none
mapped f (some {x = x} p) = some (f x p)

-- what is there, is what is there
pub itself : {A : Type 0} (o : Option A) → Holds (λ x. o ≡ Some x) o
itself None = none
itself (Some x) = some refl

-- what holds of a reading, holds of what it read
pub of_read : {A : Type 0} {P : A → Type 0} {o : Option A} (x : A) → Holds P o → o ≡ Some x → P x
of_read x none e = absurd (none-some x e)
of_read {P = P} x (some {x = y} p) e = subst P (same_Some y x e) p
