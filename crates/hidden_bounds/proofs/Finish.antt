-- The order and its end, as a call tells them.
use Rattle.hidden_bounds.proofs.Prelude.{◌≡◌, ◌⊎◌, ◌≢◌, ℕ, zero, suc, ◌+◌, ◌<◌, Bool, true, false, ◌&&◌, IsTrue, Result, IfErr, List, [], ◌∷◌, ◌++◌, length, replicate, refl, sym, ap, subst, ◌∙◌, arith, inl, inr, err_from_is_err_and, false≢true, length-replicate, none-some, slice_get_within, has, Tells, has_first, Label, Component, AreTaken, HasNoOrder, IsAmong, IsOrder, hidden_bound, AreOpen, IsBound, TellsLoop, AreKnown, IsSoFar, IsTakenFar, left_from, standing_at, TellsSum, taken_in, Placed, Standing, ◌↔◌, IsErrAnd, Stop, HiddenBound, LoopFault}
use Rattle.csp_base.specs.declared.stop.Stop.TheVariants as stop
use Rattle.hidden_bounds.specs.declared.bounding.LoopFault.TheVariants as fault
use Rattle.hidden_bounds.specs.declared.standings.Standing.TheVariants as standing
use Rattle.hidden_bounds.proofs.Known.{none_is_free}
use Rattle.hidden_bounds.proofs.Left.{left_increases, listed_at, stands_at}
use Rattle.hidden_bounds.proofs.Taken.{as_told, none_taken}

by_taken : (s : Standing) (P : Type 0) → (s ≡ standing.Taken → P) → (s ≢ standing.Taken → P) → P
by_taken standing.Unknown P f g = g (λ h. cc)
by_taken standing.Round P f g = g (λ h. cc)
by_taken standing.Taken P f g = f refl

no_passed : (h : Bool) → h ≡ h && true
no_passed true = refl
no_passed false = refl

all_unknown : (n i : ℕ) → standing_at (replicate n standing.Unknown) i ≡ standing.Unknown
all_unknown zero i = refl
all_unknown (suc n) zero = refl
all_unknown (suc n) (suc i) = all_unknown n i

first_of : (parts : List ℕ) → (parts ≡ [] → ⊥) → (i : ℕ) × IsTrue (has parts i)
first_of [] some = absurd (some refl)
first_of (p ∷ rest) some = (p, has_first p rest)

module _ {T : Type 0} (Step : T → Label → T → Type 0) (hidden : List ℕ) (cs : List (Component T)) where
  -- why there is no sum
  sum_told : (order : List Placed) (why : Stop LoopFault) → IsOrder Step hidden cs (taken_in cs order) → Tells (TellsSum hidden cs order) why → Tells (TellsLoop Step hidden cs) why
  sum_told order stop.NoMemory all tells = tt
  sum_told order (stop.Told (fault.NoOrder parts)) all tells = absurd tells
  sum_told order (stop.Told (fault.BoundLimit part)) all tells = record { order = taken_in cs order; is = all; passes = tells }

  -- before the first is taken
  pub nothing_taken : (left : List ℕ) (n : ℕ) → left ≡ hidden → n ≡ length cs → IsSoFar Step hidden cs [] left (replicate n standing.Unknown)
  nothing_taken left n is many =
      let unknown : (i : ℕ) → standing_at (replicate n standing.Unknown) i ≡ standing.Unknown = λ i. all_unknown n i in
      record {
        taken = subst (AreTaken Step hidden cs) (sym (none_taken cs)) tt;
        within = λ k p at. absurd (none-some p at);
        open_ = subst (λ ts. AreOpen hidden ts left) (sym (none_taken cs)) (λ e. ap (λ (es : List ℕ). has es e) is ∙ no_passed (has hidden e));
        one_each = length-replicate n standing.Unknown ∙ many;
        marked = λ i among. absurd (subst (IsAmong i) (none_taken cs) among);
        among = λ i h. let no : standing.Unknown ≡ standing.Taken = sym (unknown i) ∙ h in absurd (cc no);
        round = λ i c at h. let no : standing.Unknown ≡ standing.Round = sym (unknown i) ∙ h in absurd (cc no);
      }

  -- what is known before the first is taken, as it was made
  pub begun : (order : List Placed) (ss : List Standing) (left : List ℕ) (n : ℕ) → order ≡ [] → ss ≡ replicate n standing.Unknown → left ≡ hidden → n ≡ length cs → IsSoFar Step hidden cs order left ss
  begun order ss left n none unknown same many =
      subst (λ (o : List Placed). IsSoFar Step hidden cs o left ss) (sym none) (subst (IsSoFar Step hidden cs [] left) (sym unknown) (nothing_taken left n same many))

  -- where no component is free any more
  pub all_taken_far : (order : List Placed) (left : List ℕ) (ss : List Standing) (parts : List ℕ) → IsSoFar Step hidden cs order left ss → AreKnown ss → parts ≡ left_from 0 ss → IsTakenFar Step hidden cs order parts
  all_taken_far order left ss parts so_far known are = subst (IsTakenFar Step hidden cs order) (sym are) (record {
    taken = so_far.taken;
    within = so_far.within;
    none_free = none_is_free Step hidden cs order left ss so_far known;
    each = λ i within.
        by_taken (standing_at ss i) (IsAmong i (taken_in cs order) ⊎ IsTrue (has (left_from 0 ss) i)) (λ is. inl (so_far.among i is))
        (λ waits. inr (ap (has (left_from 0 ss)) (omega arith) ∙ listed_at 0 ss i (subst (λ n. i < n) (sym so_far.one_each) within) waits));
    left = λ i listed.
        let r = stands_at 0 ss i listed in
        let here : i ≡ r.0 = (let e : i ≡ 0 + r.0 = r.1 in omega arith) in
        (subst (λ n. i < n) so_far.one_each (subst (λ j. j < length ss) (sym here) r.2), λ among. r.3 (ap (standing_at ss) (sym here) ∙ so_far.marked i among));
    rising = left_increases ss;
  })

  module _ (order : List Placed) (parts : List ℕ) (far : IsTakenFar Step hidden cs order parts) where
    pub all_are_taken : parts ≡ [] → IsOrder Step hidden cs (taken_in cs order)
    all_are_taken none = record {
      taken = far.taken;
      all = λ i c at. elim (far.each i (slice_get_within cs i c at)) as (λ _. IsAmong i (taken_in cs order)) [
        | inl among ↦ among
        | inr listed ↦ let no : false ≡ true = ap (λ (xs : List ℕ). has xs i) (sym none) ∙ listed in absurd (false≢true no)
      ];
    }

    pub some_are_left : (empty : Bool) → IsTrue empty ↔ (parts ≡ []) → empty ≡ false → HasNoOrder Step hidden cs parts
    some_are_left empty is filled = record {
      taken = taken_in cs order;
      are = far.taken;
      none_free = far.none_free;
      left = λ i. (far.left i, λ both. elim (far.each i both.0) as (λ _. IsTrue (has parts i)) [ inl among ↦ absurd (both.1 among) | inr listed ↦ listed ]);
      rising = far.rising;
      some = first_of parts (λ none. false≢true (sym filled ∙ is.1 none));
    }

  -- a bound that is told, and a fault
  pub bound_told : (order : List Placed) (parts : List ℕ) (found : HiddenBound) (empty : Bool) → IsTakenFar Step hidden cs order parts → IsTrue empty ↔ (parts ≡ []) → empty ≡ true → found.order ≡ order
      → found.bound ≡ hidden_bound hidden (taken_in cs order) → IsBound Step hidden cs found
  bound_told order parts found empty far is none same sum_is = record {
    order = taken_in cs order;
    is = all_are_taken order parts far (is.0 none);
    told = same ∙ as_told cs order;
    bound = sum_is;
  }

  pub fault_told : {A : Type 0} (r : Result A (Stop LoopFault)) (order : List Placed) (parts : List ℕ) (why : Stop LoopFault) (empty : Bool) → IsErrAnd r (λ t. t ≡ why) → IsTakenFar Step hidden cs order parts
      → IsTrue empty ↔ (parts ≡ []) → empty ≡ true → Tells (TellsSum hidden cs order) why → IfErr r (Tells (TellsLoop Step hidden cs))
  fault_told r order parts why empty exit far is none tells =
      let p = err_from_is_err_and r exit in
      subst (λ x. IfErr x (Tells (TellsLoop Step hidden cs))) (sym p.1) (subst (Tells (TellsLoop Step hidden cs)) (sym p.2) (sum_told order why (all_are_taken order parts far (is.0 none)) tells))
