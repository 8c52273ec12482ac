-- The events of one word: its members are its bits.
use Rattle.csp_base.proofs.Prelude.{◌≡◌, ℕ, zero, suc, ◌+◌, ◌/◌, ◌<◌, ◌≤◌, Bool, true, false, cond, List, [], ◌∷◌, refl, sym, ap, le_refl, ◌∙◌, subst, arith, ◌==◌, has, has_bit, word_events}
use Rattle.csp_base.proofs.Standard.{eq-eqb, ne_eqb, bit_at-suc}
use Rattle.csp_base.proofs.Rising.{RisesFrom, RisesFrom-weaken, has_below}

word_events-step : (n from w : ℕ) → word_events (suc n) from w ≡ cond (has_bit w 0) (from ∷ word_events n (from + 1) (w / 2)) (word_events n (from + 1) (w / 2))
unfolding word_events
word_events-step n from w = refl

pub RisesFrom-word_events : (n from w : ℕ) → RisesFrom from (word_events n from w)
unfolding word_events
RisesFrom-word_events zero from w = tt
RisesFrom-word_events (suc n) from w =
    elim (has_bit w 0) as (λ b. RisesFrom from (cond b (from ∷ word_events n (from + 1) (w / 2)) (word_events n (from + 1) (w / 2)))) [
      | true ↦ (le_refl from, RisesFrom-word_events n (from + 1) (w / 2))
      | false ↦ RisesFrom-weaken from (from + 1) (word_events n (from + 1) (w / 2)) (omega arith) (RisesFrom-word_events n (from + 1) (w / 2))
    ]

-- no event of a word is as high as the next word's first
pub word_events_above : (n from w x : ℕ) → from + n ≤ x → has (word_events n from w) x ≡ false
unfolding word_events
word_events_above zero from w x l = refl
word_events_above (suc n) from w x l =
    let ih : has (word_events n (from + 1) (w / 2)) x ≡ false = word_events_above n (from + 1) (w / 2) x (omega arith) in
    elim (has_bit w 0) as (λ b. has (cond b (from ∷ word_events n (from + 1) (w / 2)) (word_events n (from + 1) (w / 2))) x ≡ false) [
      | true ↦ rw (ne_eqb from x (omega arith)) ih
      | false ↦ ih
    ]

has_bit-suc : (w k : ℕ) → has_bit w (suc k) ≡ has_bit (w / 2) k
has_bit-suc w k = ap (λ n. n == 1) (bit_at-suc w k)

-- the first event of a word, and those after it
first_of_word : (b : Bool) (from : ℕ) (rest : List ℕ) → RisesFrom (from + 1) rest → has (cond b (from ∷ rest) rest) from ≡ b
first_of_word true from rest r = rw (eq-eqb from from refl)
first_of_word false from rest r = has_below (from + 1) rest from r (omega arith)

later_of_word : (b : Bool) (from x : ℕ) (rest : List ℕ) → from < x → has (cond b (from ∷ rest) rest) x ≡ has rest x
later_of_word true from x rest l = rw (ne_eqb from x (omega arith))
later_of_word false from x rest l = refl

-- an event of a word is one of its bits
pub has-word_events : (n from w k : ℕ) → k < n → has (word_events n from w) (from + k) ≡ has_bit w k
has-word_events zero from w k l = absurd (omega arith)
has-word_events (suc n) from w zero l =
    rw (word_events-step n from w) (subst (λ z. has (cond (has_bit w 0) (from ∷ word_events n (from + 1) (w / 2)) (word_events n (from + 1) (w / 2))) z ≡ has_bit w 0) (omega arith)
    (first_of_word (has_bit w 0) from (word_events n (from + 1) (w / 2)) (RisesFrom-word_events n (from + 1) (w / 2))))
has-word_events (suc n) from w (suc k) l =
    let place : from + suc k ≡ (from + 1) + k = omega arith in
    rw (word_events-step n from w) (later_of_word (has_bit w 0) from (from + suc k) (word_events n (from + 1) (w / 2)) (omega arith)
    ∙ ap (has (word_events n (from + 1) (w / 2))) place ∙ has-word_events n (from + 1) (w / 2) k (omega arith) ∙ sym (has_bit-suc w k))

pub word_events-zero : (n from : ℕ) → word_events n from 0 ≡ []
unfolding word_events
word_events-zero zero from = refl
word_events-zero (suc n) from = word_events-zero n (from + 1)
