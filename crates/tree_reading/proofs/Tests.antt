-- What the readers' tests of numbers tell.
use Rattle.tree_reading.proofs.Prelude.{◌≡◌, ◌⊎◌, inl, inr, ℕ, zero, suc, ◌≤◌, Bool, true, false, nat_le, if◌then◌else◌, refl, ap, arith, number, of_process, Binding, nat_tests, closed}
use Rattle.tree_reading.specs.declared.read.Binding.TheVariants as bound
use Rattle.tree_reading.proofs.Meaning.{reach}

bool_of : (b : Bool) → (b ≡ true) ⊎ (b ≡ false)
bool_of true = inl refl
bool_of false = inr refl

is_two : (k : Binding) → nat_le 2 (number k) ≡ true → number (of_process k) ≡ 2
is_two k h = ap (λ b. number (if b then bound.Closed else bound.Open)) h

is_one : (k : Binding) → nat_le 2 (number k) ≡ false → number (of_process k) ≡ 1
is_one k h = ap (λ b. number (if b then bound.Closed else bound.Open)) h

from_two : (c : ℕ) → c ≡ 2 → (1 ≤ c) × (c ≤ 2)
from_two c e = (omega arith, omega arith)

from_one : (c : ℕ) → c ≡ 1 → (1 ≤ c) × (c ≤ 2)
from_one c e = (omega arith, omega arith)

pub one_or_two : (k : Binding) → (1 ≤ number (of_process k)) × (number (of_process k) ≤ 2)
one_or_two k = elim (bool_of (nat_le 2 (number k))) [ inl t ↦ from_two (number (of_process k)) (is_two k t) | inr f ↦ from_one (number (of_process k)) (is_one k f) ]

absurd_zero : (k : ℕ) → 1 ≤ k → k ≡ 0 → ⊥
absurd_zero k h e = omega arith

pub not_zero : {A : Type 0} (k : ℕ) → 1 ≤ k → k ≡ 0 → A
not_zero k h e = absurd (absurd_zero k h e)

-- what becomes of a process is bound as what it ends with is, and something may follow where that is closed
pub same_reach : (k : Binding) → nat_le 1 (number k) ≡ true → reach k ≡ reach (of_process k)
same_reach bound.Dotted h = absurd cc
same_reach bound.Open h = refl
same_reach _ h = refl

pub closed_reach : (k : Binding) → nat_le 2 (number k) ≡ true → reach k ≡ closed
closed_reach bound.Dotted h = absurd cc
closed_reach bound.Open h = absurd cc
closed_reach _ h = refl

pub at_least_one : (k : ℕ) → nat_le 2 k ≡ true → 1 ≤ k
at_least_one k h = grind (arith, nat_tests)

pub at_least_open : (k : Binding) → nat_le 1 (number (of_process k)) ≡ true
at_least_open bound.Dotted = refl
at_least_open _ = refl

-- none, or one and more
pub none_or_more : (k : ℕ) → (k ≡ 0) ⊎ (1 ≤ k)
none_or_more zero = inl refl
none_or_more (suc k) = inr (omega arith)
