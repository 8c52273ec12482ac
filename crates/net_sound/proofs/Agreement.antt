-- Sets of events over finitely many places: if no event is agreed, each place waits for another one.
use Rattle.net_sound.proofs.Prelude.{◌≡◌, ℕ, ◌<◌, ◌⊎◌, inl, inr, List, true, false, IsTrue, ℤ, ◌<ℤ◌, subst, cases_Bool, both_ways, has, IsWithin, IsNonEmpty, Meet, AreApart}
use Rattle.net_sound.proofs.Finite.{search_below, search_list, no_descent}

-- each place below n with the event in A has it in M
abbrev pub Agrees : (ℕ → List ℕ) → (ℕ → List ℕ) → ℕ → ℕ → Type 0
Agrees A M n e = (j : ℕ) → j < n → IsTrue (has (A j) e) → IsTrue (has (M j) e)

-- a place below n has the event in A, and not in M
pub record Objects (A M : ℕ → List ℕ) (n e : ℕ) : Type 0 where
  pub place : ℕ
  pub within : place < n
  pub owned : IsTrue (has (A place) e)
  pub missing : has (M place) e ≡ false

-- a place below n, other than i, has the event in A
pub record HasAnother (A : ℕ → List ℕ) (n i e : ℕ) : Type 0 where
  pub place : ℕ
  pub within : place < n
  pub distinct : i ≡ place → ⊥
  pub owned : IsTrue (has (A place) e)

-- the place i waits for the place j, and both for others alone
pub record Waits (A M : ℕ → List ℕ) (n i j : ℕ) : Type 0 where
  pub distinct : i ≡ j → ⊥
  pub shared : (e : ℕ) → IsTrue (has (M i) e) → HasAnother A n i e
  pub other_shared : (e : ℕ) → IsTrue (has (M j) e) → HasAnother A n j e
  pub asks : Meet (M i) (A j)
  pub apart : AreApart (M i) (M j)

-- what is known of the sets
pub record Sets (A M : ℕ → List ℕ) (n : ℕ) : Type 0 where
  pub some : (i : ℕ) → i < n → IsNonEmpty (M i)
  pub within : (i : ℕ) → i < n → IsWithin (M i) (A i)
  pub no_three : (e i j k : ℕ) → i < n → j < n → k < n → (i ≡ j → ⊥) → (i ≡ k → ⊥) → (j ≡ k → ⊥) → IsTrue (has (A i) e) → IsTrue (has (A j) e) → IsTrue (has (A k) e) → ⊥

in_both : (a m : List ℕ) (e : ℕ) → ((has a e ≡ true) × (has m e ≡ false)) ⊎ (IsTrue (has a e) → IsTrue (has m e))
in_both a m e =
    elim (cases_Bool (has m e)) [
      | inl there ↦ inr (λ _. there)
      | inr missing ↦ elim (cases_Bool (has a e)) [
        | inl owned ↦ inl (owned, missing)
        | inr strange ↦ inr (λ owned. absurd (both_ways _ strange owned))
      ]
    ]

agrees_or_not : (A M : ℕ → List ℕ) (n e : ℕ) → Agrees A M n e ⊎ Objects A M n e
agrees_or_not A M n e =
    elim (search_below (λ j. (has (A j) e ≡ true) × (has (M j) e ≡ false)) (λ j. IsTrue (has (A j) e) → IsTrue (has (M j) e)) (λ j. in_both (A j) (M j) e) n) [
      | inl found ↦ inr (record { place = found.0; within = found.1; owned = found.2.0; missing = found.2.1 })
      | inr none ↦ inl none
    ]

-- what is not agreed has another place
another : (A M : ℕ → List ℕ) (n i e : ℕ) → Objects A M n e → IsTrue (has (M i) e) → HasAnother A n i e
another A M n i e o h = record { place = o.place; within = o.within; distinct = λ same. both_ways _ o.missing (subst (λ k. IsTrue (has (M k) e)) same h); owned = o.owned }

-- if nothing is agreed, each place waits for another one
waits : (A M : ℕ → List ℕ) (n : ℕ) → Sets A M n → ((i : ℕ) → i < n → (e : ℕ) → IsTrue (has (M i) e) → Objects A M n e) → (i : ℕ) → i < n → (j : ℕ) × (j < n) × Waits A M n i j
unfolding another
waits A M n sets nothing i h =
    let first = sets.some i h in
    let next = another A M n i first.0 (nothing i h first.0 first.1) first.1 in (
      next.place,
      next.within,
      record {
        distinct = next.distinct;
        shared = λ e m. another A M n i e (nothing i h e m) m;
        other_shared = λ e m. another A M n next.place e (nothing next.place next.within e m) m;
        asks = record { event = first.0; first = first.1; second = next.owned };
        apart = λ e m l.
            let third = nothing i h e m in
            sets.no_three e i next.place third.place h next.within third.within next.distinct
            (another A M n i e third m).distinct (another A M n next.place e third l).distinct
            (sets.within i h e m) (sets.within next.place next.within e l) third.owned;
      },
    )

-- a place with an event that is agreed
pub record Moves (A M : ℕ → List ℕ) (n : ℕ) : Type 0 where
  pub event : ℕ
  pub place : ℕ
  pub within : place < n
  pub owned : IsTrue (has (A place) event)
  pub agreed : Agrees A M n event

at_place : (A M : ℕ → List ℕ) (n i : ℕ) → ((e : ℕ) × IsTrue (has (M i) e) × Agrees A M n e) ⊎ ((e : ℕ) → IsTrue (has (M i) e) → Objects A M n e)
at_place A M n i = search_list (Agrees A M n) (Objects A M n) (agrees_or_not A M n) (M i)

-- Where P falls along each wait, some event is agreed.
pub someone_moves : (A M : ℕ → List ℕ) (P : ℕ → ℤ) (n : ℕ) → 0 < n → Sets A M n → ((i j : ℕ) → i < n → j < n → Waits A M n i j → P j <ℤ P i) → Moves A M n
someone_moves A M P n some sets falls =
    elim (search_below (λ i. (e : ℕ) × IsTrue (has (M i) e) × Agrees A M n e) (λ i. (e : ℕ) → IsTrue (has (M i) e) → Objects A M n e) (at_place A M n) n) [
      | inl found ↦ record { event = found.2.0; place = found.0; within = found.1; owned = sets.within found.0 found.1 found.2.0 found.2.1; agreed = found.2.2 }
      | inr nothing ↦ absurd (no_descent P n some (λ i h. let w = waits A M n sets nothing i h in (w.0, w.1, falls i w.0 h w.1 w.2)))
    ]
