-- The set of the empty trace.
use Rattle.term_sets.proofs.Prelude.{◌≡◌, ◌↔◌, ℕ, inl, inr, true, false, nat_eq, IsTrue, List, [], ◌∷◌, refl, sym, subst, eqb-true, false≢true, or_cases, has, After, RawTable, RawStep, IsSilentlyReached, IsSetAfter}
use Rattle.term_sets.proofs.Traces.{After-none}

-- the closure of the first term
pub first_after : (raw : RawTable) (set : List ℕ) → ((t : ℕ) → IsTrue (has set t) ↔ IsSilentlyReached raw (0 ∷ []) t) → IsSetAfter raw [] set
first_after raw set members = record {
  terms = λ t. (
    λ h. let r = (members t).0 h in subst (λ (x : ℕ). After (RawStep raw) x [] t) (zero_of r.start r.listed) r.silently,
    λ a. (members t).1 (record { start = 0; listed = refl; silently = a }),
  );
  some = (0, After-none (RawStep raw) 0);
}
  where
    zero_of : (x : ℕ) → has (0 ∷ []) x ≡ true → x ≡ 0
    zero_of x h = elim (or_cases (nat_eq 0 x) false h) as (λ _. x ≡ 0) [ inl e ↦ sym (eqb-true 0 x e) | inr e ↦ absurd (false≢true e) ]
