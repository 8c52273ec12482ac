-- An event that two alphabets have is shared by two parts.
use Rattle.network_stages.proofs.Prelude.{ℕ, suc, ◌<◌, ◌≤◌, inl, inr, List, [], ◌∷◌, length, IsTrue, arith, cases_Bool, has, Part, part_at, alphabets_of, sharers, sharers_own, sharers_other}

record Owner (ps : List Part) (e : ℕ) : Type 0 where
  place : ℕ
  within : place < length ps
  owned : IsTrue (has (part_at ps place).alphabet e)

owner : (ps : List Part) (e : ℕ) → 1 ≤ sharers (alphabets_of ps) e → Owner ps e
owner [] e h = absurd (omega arith)
owner (p ∷ ps) e h =
    elim (cases_Bool (has p.alphabet e)) [
      | inl k ↦ record { place = 0; within = omega arith; owned = k }
      | inr k ↦
          let r = owner ps e (omega (arith, sharers_other p.alphabet (alphabets_of ps) e k)) in
          record { place = suc r.place; within = let l : r.place < length ps = r.within in omega arith; owned = r.owned }
    ]

pub record TwoOwners (ps : List Part) (e : ℕ) : Type 0 where
  pub left : ℕ
  pub right : ℕ
  pub ordered : left < right
  pub within : right < length ps
  pub left_owns : IsTrue (has (part_at ps left).alphabet e)
  pub right_owns : IsTrue (has (part_at ps right).alphabet e)

pub two_owners : (ps : List Part) (e : ℕ) → 2 ≤ sharers (alphabets_of ps) e → TwoOwners ps e
two_owners [] e h = absurd (omega arith)
two_owners (p ∷ ps) e h =
    elim (cases_Bool (has p.alphabet e)) [
      | inl k ↦
          let r = owner ps e (omega (arith, sharers_own p.alphabet (alphabets_of ps) e k)) in
          let l : r.place < length ps = r.within in
          record { left = 0; right = suc r.place; ordered = omega arith; within = omega arith; left_owns = k; right_owns = r.owned }
      | inr k ↦
          let r = two_owners ps e (omega (arith, sharers_other p.alphabet (alphabets_of ps) e k)) in
          let o : r.left < r.right = r.ordered in
          let l : r.right < length ps = r.within in
          record { left = suc r.left; right = suc r.right; ordered = omega arith; within = omega arith; left_owns = r.left_owns; right_owns = r.right_owns }
    ]
