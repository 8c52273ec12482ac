-- How many alphabets have an event: at least as many as there are places told apart that have it.
use Rattle.net_sound.proofs.Prelude.{◌≡◌, ℕ, zero, suc, ◌+◌, ◌<◌, ◌≤◌, List, [], ◌∷◌, length, Bool, true, false, cond, IsTrue, refl, ap, arith, cond-true, has, Part, part_at, alphabets_of, sharers}

own : (a : List ℕ) (others : List (List ℕ)) (e : ℕ) → IsTrue (has a e) → sharers (a ∷ others) e ≡ sharers others e + 1
own a others e h = cond-true (has a e) (sharers others e + 1) (sharers others e) h

more : (a : List ℕ) (others : List (List ℕ)) (e : ℕ) → sharers others e ≤ sharers (a ∷ others) e
more a others e = go (has a e)
  where
    go : (b : Bool) → sharers others e ≤ cond b (sharers others e + 1) (sharers others e)
    go true = omega arith
    go false = omega arith

at_one : (ps : List Part) (e i : ℕ) → i < length ps → IsTrue (has (part_at ps i).alphabet e) → 1 ≤ sharers (alphabets_of ps) e
at_one [] e i h x = absurd (omega arith)
at_one (p ∷ ps) e zero h x = omega (arith, own p.alphabet (alphabets_of ps) e x)
at_one (p ∷ ps) e (suc i) h x = omega (arith, more p.alphabet (alphabets_of ps) e, at_one ps e i (omega arith) x)

pub at_two : (ps : List Part) (e i j : ℕ) → i < length ps → j < length ps → (i ≡ j → ⊥) → IsTrue (has (part_at ps i).alphabet e) → IsTrue (has (part_at ps j).alphabet e) → 2 ≤ sharers (alphabets_of ps) e
at_two [] e i j h k ne x y = absurd (omega arith)
at_two (p ∷ ps) e zero zero h k ne x y = absurd (ne refl)
at_two (p ∷ ps) e zero (suc j) h k ne x y = omega (arith, own p.alphabet (alphabets_of ps) e x, at_one ps e j (omega arith) y)
at_two (p ∷ ps) e (suc i) zero h k ne x y = omega (arith, own p.alphabet (alphabets_of ps) e y, at_one ps e i (omega arith) x)
at_two (p ∷ ps) e (suc i) (suc j) h k ne x y = omega (arith, more p.alphabet (alphabets_of ps) e, at_two ps e i j (omega arith) (omega arith) (λ same. ne (ap suc same)) x y)

pub at_three : (ps : List Part) (e i j k : ℕ) → i < length ps → j < length ps → k < length ps → (i ≡ j → ⊥) → (i ≡ k → ⊥) → (j ≡ k → ⊥) → IsTrue (has (part_at ps i).alphabet e) → IsTrue (has (part_at ps j).alphabet e) → IsTrue (has (part_at ps k).alphabet e) → 3 ≤ sharers (alphabets_of ps) e
at_three [] e i j k h l m a b c x y z = absurd (omega arith)
at_three (p ∷ ps) e zero zero k h l m a b c x y z = absurd (a refl)
at_three (p ∷ ps) e zero (suc j) zero h l m a b c x y z = absurd (b refl)
at_three (p ∷ ps) e (suc i) zero zero h l m a b c x y z = absurd (c refl)
at_three (p ∷ ps) e zero (suc j) (suc k) h l m a b c x y z = omega (arith, own p.alphabet (alphabets_of ps) e x, at_two ps e j k (omega arith) (omega arith) (λ same. c (ap suc same)) y z)
at_three (p ∷ ps) e (suc i) zero (suc k) h l m a b c x y z = omega (arith, own p.alphabet (alphabets_of ps) e y, at_two ps e i k (omega arith) (omega arith) (λ same. b (ap suc same)) x z)
at_three (p ∷ ps) e (suc i) (suc j) zero h l m a b c x y z = omega (arith, own p.alphabet (alphabets_of ps) e z, at_two ps e i j (omega arith) (omega arith) (λ same. a (ap suc same)) x y)
at_three (p ∷ ps) e (suc i) (suc j) (suc k) h l m a b c x y z = omega (arith, more p.alphabet (alphabets_of ps) e, at_three ps e i j k (omega arith) (omega arith) (omega arith) (λ same. a (ap suc same)) (λ same. b (ap suc same)) (λ same. c (ap suc same)) x y z)
