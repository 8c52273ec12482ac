-- What is known of components, after one more is known to go round or is taken.
use Rattle.hidden_bounds.proofs.Prelude.{◌≡◌, ◌⊎◌, ◌≢◌, ℕ, zero, suc, ◌+◌, ◌<◌, Bool, true, false, ◌&&◌, ◌||◌, not, List, [], ◌∷◌, ◌++◌, Some, slice_get, length, refl, sym, ap, subst, ◌∙◌, arith, inl, inr, set, cases_eq, get_or-set_same, get_or-set_other, length-set, same_Some, slice_get_within, diff_of, inter_of, meets_of, has, has-diff_of, push_cases, Label, Component, AreTaken, GoesRound, IsAmong, IsNext, Taken, is_passed, AreOpen, AreKnown, AreReopened, IsLeastFree, IsSoFar, StayKnown, one_waiting, reopened_to, standing_at, waiting, alphabet_at, alphabet_of, taken_at, taken_in, Placed, Standing}
use Rattle.hidden_bounds.specs.declared.standings.Standing.TheVariants as standing
use Rattle.hidden_bounds.proofs.Taken.{one_taken, round_kept}

-- ---- kinds of standing

by_standing : (s : Standing) (P : Type 0) → s ≢ standing.Unknown → (s ≡ standing.Round → P) → (s ≡ standing.Taken → P) → P
by_standing standing.Unknown P known f g = absurd (known refl)
by_standing standing.Round P known f g = f refl
by_standing standing.Taken P known f g = g refl

taken_unknown : standing.Taken ≡ standing.Unknown → ⊥
taken_unknown h = cc

round_unknown : standing.Round ≡ standing.Unknown → ⊥
round_unknown h = cc

taken_round : standing.Taken ≡ standing.Round → ⊥
taken_round h = cc

reopened_taken : (s : Standing) (b : Bool) → reopened_to s b ≡ standing.Taken → s ≡ standing.Taken
reopened_taken standing.Unknown b h = h
reopened_taken standing.Round true h = cc
reopened_taken standing.Round false h = h
reopened_taken standing.Taken b h = refl

reopened_round : (s : Standing) (b : Bool) → reopened_to s b ≡ standing.Round → (s ≡ standing.Round) × (b ≡ false)
reopened_round standing.Unknown true h = absurd (cc h)
reopened_round standing.Unknown false h = absurd (cc h)
reopened_round standing.Round true h = absurd (cc h)
reopened_round standing.Round false h = (refl, refl)
reopened_round standing.Taken b h = absurd (taken_round h)

and_not_or : (h p a : Bool) → (h && not p) && not a ≡ h && not (a || p)
and_not_or true true true = refl
and_not_or true true false = refl
and_not_or true false true = refl
and_not_or true false false = refl
and_not_or false p a = refl

-- ---- how many wait

waiting_set : (ss : List Standing) (i : ℕ) (s : Standing) → i < length ss → waiting (set ss i s) + one_waiting (standing_at ss i) ≡ waiting ss + one_waiting s
waiting_set [] i s h = absurd (omega arith)
waiting_set (x ∷ ss) zero s h = omega arith
waiting_set (x ∷ ss) (suc i) s h = let rest : waiting (set ss i s) + one_waiting (standing_at ss i) ≡ waiting ss + one_waiting s = waiting_set ss i s (omega arith) in omega arith

one_reopened : (s : Standing) (b : Bool) → one_waiting (reopened_to s b) ≡ one_waiting s
one_reopened standing.Unknown b = refl
one_reopened standing.Round true = refl
one_reopened standing.Round false = refl
one_reopened standing.Taken b = refl

waiting_same : (old new : List Standing) → length new ≡ length old → ((i : ℕ) → i < length old → one_waiting (standing_at new i) ≡ one_waiting (standing_at old i)) → waiting new ≡ waiting old
waiting_same [] [] h k = refl
waiting_same [] (y ∷ new) h k = absurd (omega arith)
waiting_same (x ∷ old) [] h k = absurd (omega arith)
waiting_same (x ∷ old) (y ∷ new) h k =
    let first : one_waiting y ≡ one_waiting x = k 0 (omega arith) in
    let rest : waiting new ≡ waiting old = waiting_same old new (omega arith) (λ i below. k (suc i) (omega arith)) in
    omega arith

known_within : (ss : List Standing) (i : ℕ) → standing_at ss i ≢ standing.Unknown → i < length ss
known_within [] i h = absurd (h refl)
known_within (s ∷ ss) zero h = omega arith
known_within (s ∷ ss) (suc i) h = let rest : i < length ss = known_within ss i h in omega arith

-- ---- one more goes round

pub known_of_round : (ss : List Standing) (i : ℕ) → i < length ss → standing_at ss i ≡ standing.Unknown → StayKnown ss (set ss i standing.Round)
known_of_round ss i within unknown = record {
  known = λ j known. elim (cases_eq j i) [
    | inl here ↦ absurd (known (ap (standing_at ss) here ∙ unknown))
    | inr other ↦ λ no. known (sym (get_or-set_other ss i j standing.Round standing.Unknown other) ∙ no)
  ];
  waits =
      let set_ : waiting (set ss i standing.Round) + one_waiting (standing_at ss i) ≡ waiting ss + 1 = waiting_set ss i standing.Round within in
      let one : one_waiting (standing_at ss i) ≡ 1 = ap one_waiting unknown in
      omega arith;
}

pub same_known : (ss : List Standing) → StayKnown ss ss
same_known ss = record { known = λ i h. h; waits = refl }

pub then_known : (a b c : List Standing) → StayKnown a b → StayKnown b c → StayKnown a c
then_known a b c h k = record { known = λ i x. k.known i (h.known i x); waits = k.waits ∙ h.waits }

module _ {T : Type 0} (Step : T → Label → T → Type 0) (hidden : List ℕ) (cs : List (Component T)) (order : List Placed) (left : List ℕ) (ss : List Standing)
    (so_far : IsSoFar Step hidden cs order left ss) where
  -- a component of which something is known is taken or goes round
  pub known_other : (j : ℕ) (d : Component T) → slice_get cs j ≡ Some d → standing_at ss j ≢ standing.Unknown → IsAmong j (taken_in cs order) ⊎ GoesRound Step hidden (taken_in cs order) d
  known_other j d there known = by_standing (standing_at ss j) (IsAmong j (taken_in cs order) ⊎ GoesRound Step hidden (taken_in cs order) d) known
      (λ is. inr (so_far.round j d there is)) (λ is. inl (so_far.among j is))

  pub one_round : (i : ℕ) (c : Component T) → i < length ss → standing_at ss i ≡ standing.Unknown → slice_get cs i ≡ Some c → GoesRound Step hidden (taken_in cs order) c
      → IsSoFar Step hidden cs order left (set ss i standing.Round)
  one_round i c within unknown at round = record {
    taken = so_far.taken;
    within = so_far.within;
    open_ = so_far.open_;
    one_each = length-set ss i standing.Round ∙ so_far.one_each;
    marked = λ j among. elim (cases_eq j i) [
      | inl here ↦
          let no : standing.Unknown ≡ standing.Taken = sym unknown ∙ ap (standing_at ss) (sym here) ∙ so_far.marked j among in
          absurd (cc no)
      | inr other ↦ get_or-set_other ss i j standing.Round standing.Unknown other ∙ so_far.marked j among
    ];
    among = λ j is. elim (cases_eq j i) [
      | inl here ↦
          let no : standing.Round ≡ standing.Taken = sym (get_or-set_same ss i standing.Round standing.Unknown within) ∙ ap (standing_at (set ss i standing.Round)) (sym here) ∙ is in
          absurd (cc no)
      | inr other ↦ so_far.among j (sym (get_or-set_other ss i j standing.Round standing.Unknown other) ∙ is)
    ];
    round = λ j d there is. elim (cases_eq j i) [
      | inl here ↦ subst (GoesRound Step hidden (taken_in cs order)) (same_Some c d (sym at ∙ ap (slice_get cs) (sym here) ∙ there)) round
      | inr other ↦ so_far.round j d there (sym (get_or-set_other ss i j standing.Round standing.Unknown other) ∙ is)
    ];
  }

  -- ---- one more is taken

  module _ (p : Placed) (least : IsLeastFree Step hidden cs order ss p) (rest : List ℕ) (after : List Standing)
      (left_is : rest ≡ diff_of left (alphabet_at cs p.part)) (as_many : length after ≡ length ss)
      (reopened : AreReopened cs (inter_of hidden (alphabet_at cs p.part)) (set ss p.part standing.Taken) after) where
    abbrev before : List Taken
    before = taken_in cs order

    now : taken_in cs (order ++ p ∷ []) ≡ taken_at cs p ∷ before
    now = one_taken cs order p

    here : p.part < length ss
    here = subst (λ n. p.part < n) (sym so_far.one_each) least.within

    -- what is known now of a component
    at_part : standing_at after p.part ≡ standing.Taken
    at_part =
        let is : standing_at (set ss p.part standing.Taken) p.part ≡ standing.Taken = get_or-set_same ss p.part standing.Taken standing.Unknown here in
        reopened p.part (subst (λ n. p.part < n) (sym (length-set ss p.part standing.Taken)) here) ∙ ap (λ s. reopened_to s (meets_of (alphabet_at cs p.part) (inter_of hidden (alphabet_at cs p.part)))) is

    at_other : (j : ℕ) → j ≢ p.part → j < length ss → standing_at after j ≡ reopened_to (standing_at ss j) (meets_of (alphabet_at cs j) (inter_of hidden (alphabet_at cs p.part)))
    at_other j other within =
        reopened j (subst (λ n. j < n) (sym (length-set ss p.part standing.Taken)) within)
        ∙ ap (λ s. reopened_to s (meets_of (alphabet_at cs j) (inter_of hidden (alphabet_at cs p.part)))) (get_or-set_other ss p.part j standing.Taken standing.Unknown other)

    next : (c : Component T) → slice_get cs p.part ≡ Some c → IsNext Step hidden cs before (taken_at cs p)
    next c at = record {
      component = c;
      at = at;
      alphabet = ap alphabet_of (sym at);
      height = least.free.height c at;
      new = λ among.
          let no : standing.Unknown ≡ standing.Taken = sym least.free.waits ∙ so_far.marked p.part among in
          cc no;
      least = λ j below d there. known_other j d there (least.least j below);
    }

    -- what was said of the list with one more, of the one before
    moved : (P : List Taken → Type 0) → P (taken_at cs p ∷ before) → P (taken_in cs (order ++ p ∷ []))
    moved P h = subst P (sym now) h

    back : (P : List Taken → Type 0) → P (taken_in cs (order ++ p ∷ [])) → P (taken_at cs p ∷ before)
    back P h = subst P now h

    not_part : (j : ℕ) → standing_at ss j ≢ standing.Unknown → j ≢ p.part
    not_part j known same = known (ap (standing_at ss) same ∙ least.free.waits)

    marked_now : (j : ℕ) → IsAmong j (taken_at cs p ∷ before) → standing_at after j ≡ standing.Taken
    marked_now j (inl same) = ap (standing_at after) (sym same) ∙ at_part
    marked_now j (inr among) =
        let was : standing_at ss j ≡ standing.Taken = so_far.marked j among in
        let known : standing_at ss j ≢ standing.Unknown = λ no. taken_unknown (sym was ∙ no) in
        at_other j (not_part j known) (known_within ss j known) ∙ ap (λ s. reopened_to s (meets_of (alphabet_at cs j) (inter_of hidden (alphabet_at cs p.part)))) was

    within_ss : (j : ℕ) → standing_at after j ≢ standing.Unknown → j < length ss
    within_ss j known = subst (λ n. j < n) as_many (known_within after j known)

    among_now : (j : ℕ) → standing_at after j ≡ standing.Taken → IsAmong j (taken_at cs p ∷ before)
    among_now j is = elim (cases_eq j p.part) as (λ _. IsAmong j (taken_at cs p ∷ before)) [
      | inl same ↦ inl (sym same)
      | inr other ↦
          let known : standing_at after j ≢ standing.Unknown = λ no. taken_unknown (sym is ∙ no) in
          inr (so_far.among j (reopened_taken (standing_at ss j) _ (sym (at_other j other (within_ss j known)) ∙ is)))
    ]

    round_now : (j : ℕ) (d : Component T) → slice_get cs j ≡ Some d → standing_at after j ≡ standing.Round → GoesRound Step hidden (taken_at cs p ∷ before) d
    round_now j d there is =
        let other : j ≢ p.part = λ same. taken_round (sym at_part ∙ ap (standing_at after) (sym same) ∙ is) in
        let known : standing_at after j ≢ standing.Unknown = λ no. round_unknown (sym is ∙ no) in
        let was = reopened_round (standing_at ss j) _ (sym (at_other j other (within_ss j known)) ∙ is) in
        let apart : meets_of d.alphabet (inter_of hidden (alphabet_at cs p.part)) ≡ false = ap (λ a. meets_of a (inter_of hidden (alphabet_at cs p.part))) (ap alphabet_of (sym there)) ∙ was.1 in
        round_kept Step hidden before (taken_at cs p) d apart (so_far.round j d there was.0)

    open_now : AreOpen hidden (taken_at cs p ∷ before) rest
    open_now e =
        ap (λ (es : List ℕ). has es e) left_is ∙ has-diff_of left (alphabet_at cs p.part) e ∙ ap (λ b. b && not (has (alphabet_at cs p.part) e)) (so_far.open_ e)
        ∙ and_not_or (has hidden e) (is_passed before e) (has (alphabet_at cs p.part) e)

    pub one_more : (c : Component T) → slice_get cs p.part ≡ Some c → IsSoFar Step hidden cs (order ++ p ∷ []) rest after
    one_more c at = record {
      taken = moved (AreTaken Step hidden cs) (next c at, so_far.taken);
      within = λ k q there. elim (push_cases order p k q there) [ inl old ↦ so_far.within k q old | inr new ↦ subst (λ (x : Placed). x.part < length cs) new.1 least.within ];
      open_ = moved (λ ts. AreOpen hidden ts rest) open_now;
      one_each = as_many ∙ so_far.one_each;
      marked = λ j among. marked_now j (back (IsAmong j) among);
      among = λ j is. moved (IsAmong j) (among_now j is);
      round = λ j d there is. moved (λ ts. GoesRound Step hidden ts d) (round_now j d there is);
    }

    pub fewer_wait : waiting after < waiting ss
    fewer_wait =
        let marked : waiting (set ss p.part standing.Taken) + one_waiting (standing_at ss p.part) ≡ waiting ss + 0 = waiting_set ss p.part standing.Taken here in
        let one : one_waiting (standing_at ss p.part) ≡ 1 = ap one_waiting least.free.waits in
        let size : length (set ss p.part standing.Taken) ≡ length ss = length-set ss p.part standing.Taken in
        let same : waiting after ≡ waiting (set ss p.part standing.Taken) =
        waiting_same (set ss p.part standing.Taken) after (as_many ∙ sym size) (λ i within. ap one_waiting (reopened i within) ∙ one_reopened (standing_at (set ss p.part standing.Taken) i) _) in
        omega arith

  -- the end: where something is known of each component, those that are not taken go round
  pub none_is_free : AreKnown ss → (i : ℕ) (c : Component T) → slice_get cs i ≡ Some c → IsAmong i (taken_in cs order) ⊎ GoesRound Step hidden (taken_in cs order) c
  none_is_free known i c at =
      let within : i < length cs = slice_get_within cs i c at in
      known_other i c at (known i (subst (λ n. i < n) (sym so_far.one_each) within))
