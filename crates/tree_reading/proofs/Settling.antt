-- How readings within a limit of depth settle, one step of the readers after another.
use Rattle.tree_reading.proofs.Prelude.{◌≡◌, ℕ, zero, suc, ◌+◌, ◌≤◌, Bool, true, false, if◌then◌else◌, Option, Some, None, refl, sym, ap, ◌∙◌, arith, and_then, case, Limited, limited, next_limited, sure, Settles, same_Some}

pub limited_next : (f : ℕ) → limited (suc f) ≡ next_limited (limited f)
unfolding limited
limited_next f = refl

later_settled : {A : Type 0} (F : Limited → Option A) (o : Option A) (n : ℕ) → ((f : ℕ) → n ≤ f → F (next_limited (limited f)) ≡ o) → (f : ℕ) → suc n ≤ f → F (limited f) ≡ o
later_settled F o n s zero le = absurd (omega arith)
later_settled F o n s (suc f) le = ap F (limited_next f) ∙ s f (omega arith)

-- one more call
pub later : {A : Type 0} {F : Limited → Option A} {o : Option A} → Settles (λ L. F (next_limited L)) o → Settles F o
later {A} {F} {o} s = record { enough = suc s.enough; settles = later_settled F o s.enough s.settles }

-- an answer that asks no reader
pub now : {A : Type 0} {o : Option A} → Settles (λ L. o) o
now = record { enough = 0; settles = λ f le. refl }

-- what goes on with a reading that settles on something
pub bind : {A B : Type 0} {F : Limited → Option A} {a : A} {o : Option B} (K : Limited → A → Option B) →
    Settles F (Some a) → Settles (λ L. K L a) o → Settles (λ L. and_then (F L) (K L)) o
bind {A} {B} {F} {a} {o} K s t = record {
  enough = s.enough + t.enough;
  settles = λ f le. ap (λ x. and_then x (K (limited f))) (s.settles f (omega arith)) ∙ t.settles f (omega arith);
}

-- LOOKS AND TESTS

-- what is there in a look at the tokens
pub look : {A B : Type 0} {x : Option A} {a : A} {o : Option B} (K : Limited → A → Option B) → x ≡ Some a → Settles (λ L. K L a) o → Settles (λ L. and_then x (K L)) o
look {A} {B} {x} {a} {o} K e s = record { enough = s.enough; settles = λ f le. ap (λ y. and_then y (K (limited f))) e ∙ s.settles f le }

pub there : {A B : Type 0} {x : Option A} {a : A} {o : Option B} (K : Limited → A → Option B) (N : Limited → Unit {0} → Option B) →
    x ≡ Some a → Settles (λ L. K L a) o → Settles (λ L. case x (K L) (N L)) o
there {A} {B} {x} {a} {o} K N e s = record { enough = s.enough; settles = λ f le. ap (λ y. case y (K (limited f)) (N (limited f))) e ∙ s.settles f le }

pub not_there : {A B : Type 0} {x : Option A} {o : Option B} (K : Limited → A → Option B) (N : Limited → Unit {0} → Option B) →
    x ≡ None → Settles (λ L. N L tt) o → Settles (λ L. case x (K L) (N L)) o
not_there {A} {B} {x} {o} K N e s = record { enough = s.enough; settles = λ f le. ap (λ y. case y (K (limited f)) (N (limited f))) e ∙ s.settles f le }

pub granted : {B : Type 0} {b : Bool} {o : Option B} (K : Limited → Unit {0} → Option B) → b ≡ true → Settles (λ L. K L tt) o → Settles (λ L. and_then (sure b) (K L)) o
granted {B} {b} {o} K e s = record { enough = s.enough; settles = λ f le. ap (λ c. and_then (sure c) (K (limited f))) e ∙ s.settles f le }

pub first : {B : Type 0} {b : Bool} {o : Option B} (G N : Limited → Option B) → b ≡ true → Settles G o → Settles (λ L. if b then G L else N L) o
first {B} {b} {o} G N e s = record { enough = s.enough; settles = λ f le. ap (λ c. if c then G (limited f) else N (limited f)) e ∙ s.settles f le }

pub second : {B : Type 0} {b : Bool} {o : Option B} (G N : Limited → Option B) → b ≡ false → Settles N o → Settles (λ L. if b then G L else N L) o
second {B} {b} {o} G N e s = record { enough = s.enough; settles = λ f le. ap (λ c. if c then G (limited f) else N (limited f)) e ∙ s.settles f le }

-- a reading settles on one answer
pub one_answer : {A : Type 0} {F : Limited → Option A} {o p : Option A} → Settles F o → Settles F p → o ≡ p
one_answer {A} {F} {o} {p} s t = sym (s.settles (s.enough + t.enough) (omega arith)) ∙ t.settles (s.enough + t.enough) (omega arith)

pub same : {A : Type 0} {F : Limited → Option A} {x y : A} → Settles F (Some x) → Settles F (Some y) → x ≡ y
same {A} {F} {x} {y} s t = same_Some x y (one_answer s t)
