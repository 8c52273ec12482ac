-- The bounds of the taken components, by induction over the order.
use Rattle.hidden_steps.proofs.Prelude.{◌≡◌, ◌≤◌, ◌+◌, ◌*◌, ℕ, zero, suc, inl, inr, List, [], ◌∷◌, Some, slice_get, length, Bool, true, false, ◌&&◌, ◌||◌, not, nat_eq, IsTrue, refl, sym, ap, subst, ◌∙◌, arith, mul-le-mul_left, cases_Bool, cond-true, cond-false, false≢true, or_cases, or_left, or_right, nat_tests, none-some, same_Some, Walk, has, and_false, is_and, slice_get_some, in_some_component, FlatStep, Label, silent, visible, Component, ComponentStep, NetworkStep, Tree, leaves, project, Path, Reached, After, visible_events, WellNested, alphabets, flat_alphabets, HiddenStep, HiddenStepsAreBounded, AreTaken, IsAmong, IsNext, IsOrder, Taken, bound_over, hidden_bound, is_passed, share_hidden, shared_bounds}
use Rattle.csp_base.proofs.Listed.{any_of}
use Rattle.net_sound.proofs.Flattening.{forth, kept}
use Rattle.net_sound.proofs.Local.{AllAfter, all_after, run_forth, run_kept}
use Rattle.net_sound.proofs.Soundness.{path_alphabet}
use Rattle.hidden_steps.proofs.Counting.{count, count_all, count_le, count_le_sum, count_none, one, Each}
use Rattle.hidden_steps.proofs.Moves.{Along, AllAlong, AreMoves, Move, has_moves, moves_along}
use Rattle.hidden_steps.proofs.Moves.Move.{event, quiet}
use Rattle.hidden_steps.proofs.Own.{Walked, is_foreign, is_own, own_moves}

-- ---- tests

split_parts : (x y z : Bool) → one (x && (y || z)) ≤ one (y && not z) + one (x && z)
split_parts true true true = omega arith
split_parts true true false = omega arith
split_parts true false z = omega arith
split_parts false y z = omega arith

apart_parts : (x y z : Bool) → x && y ≡ false → one (x && (y || z)) ≤ one (x && z)
apart_parts true true z h = absurd (false≢true (sym h))
apart_parts true false z h = omega arith
apart_parts false y z h = omega arith

or_parts : (x y : Bool) → one (x || y) ≤ one x + one y
or_parts true true = omega arith
or_parts true false = omega arith
or_parts false y = omega arith

first_true : (y z : Bool) → y || z ≡ true → z ≡ false → y ≡ true
first_true true z h k = refl
first_true false z h k = absurd (false≢true (sym k ∙ h))

-- ---- components

-- a component that has the event
owner : {T : Type 0} (cs : List (Component T)) (e : ℕ) → IsTrue (in_some_component cs e) → (i : ℕ) × (c : Component T) × (slice_get cs i ≡ Some c) × (has c.alphabet e ≡ true)
owner [] e h = absurd (false≢true h)
owner (c ∷ cs) e h =
    elim (or_cases (has c.alphabet e) (in_some_component cs e) h) [
      | inl here ↦ (0, c, refl, here)
      | inr there ↦ let r = owner cs e there in (suc r.0, r.1, r.2, r.3)
    ]

-- ---- shared moves

-- a hidden event of both is shared
not_shared : (hidden a b : List ℕ) (e : ℕ) → IsTrue (has hidden e) → share_hidden hidden a b ≡ false → has a e && has b e ≡ false
not_shared hidden a b e h apart =
    elim (cases_Bool (has a e && has b e)) [
      | inl both ↦ absurd (false≢true (sym apart ∙ any_of (λ f. has a f && has b f) hidden e h both))
      | inr none ↦ none
    ]

none_foreign : (a : List ℕ) (ms : List Move) → Each (λ m. is_foreign a [] m ≡ false) ms
none_foreign a [] = tt
none_foreign a (quiet j ∷ ms) = (refl, none_foreign a ms)
none_foreign a (event e ∷ ms) = (and_false (has a e), none_foreign a ms)

each_split : (a : List ℕ) (t : Taken) (ts : List Taken) (ms : List Move) → Each (λ m. one (is_foreign a (t ∷ ts) m) ≤ one (is_own t.part t.alphabet ts m) + one (is_foreign a ts m)) ms
each_split a t ts [] = tt
each_split a t ts (quiet j ∷ ms) = (omega arith, each_split a t ts ms)
each_split a t ts (event e ∷ ms) = (split_parts (has a e) (has t.alphabet e) (is_passed ts e), each_split a t ts ms)

each_apart : {T : Type 0} (cs : List (Component T)) (hidden a : List ℕ) (t : Taken) (ts : List Taken) (ms : List Move) → share_hidden hidden a t.alphabet ≡ false → AreMoves hidden cs ms → Each (λ m. one (is_foreign a (t ∷ ts) m) ≤ one (is_foreign a ts m)) ms
each_apart cs hidden a t ts [] apart h = tt
each_apart cs hidden a t ts (quiet j ∷ ms) apart h = (omega arith, each_apart cs hidden a t ts ms apart h.1)
each_apart cs hidden a t ts (event e ∷ ms) apart h =
    (apart_parts (has a e) (has t.alphabet e) (is_passed ts e) (not_shared hidden a t.alphabet e h.0 apart), each_apart cs hidden a t ts ms apart h.2)

-- each taken component has at most as many moves as its bound says
abbrev AllBounded : List ℕ → List Taken → List Move → Type 0
AllBounded hidden [] ms = Unit {0}
AllBounded hidden (t ∷ ts) ms = (count (is_own t.part t.alphabet ts) ms ≤ bound_over hidden ts t) × AllBounded hidden ts ms

-- so the moves that one of them takes part in are no more than those bounds that it shares
foreign_le : {T : Type 0} (cs : List (Component T)) (hidden a : List ℕ) (ts : List Taken) (ms : List Move) → AreMoves hidden cs ms → AllBounded hidden ts ms → count (is_foreign a ts) ms ≤ shared_bounds hidden a ts
foreign_le cs hidden a [] ms h k = let none : count (is_foreign a []) ms ≡ 0 = count_none (is_foreign a []) ms (none_foreign a ms) in omega arith
foreign_le cs hidden a (t ∷ ts) ms h k =
    let rest = foreign_le cs hidden a ts ms h k.1 in
    let bounded = k.0 in
    elim (cases_Bool (share_hidden hidden a t.alphabet)) [
      | inl shares ↦
          let here = count_le_sum (is_foreign a (t ∷ ts)) (is_own t.part t.alphabet ts) (is_foreign a ts) ms (each_split a t ts ms) in
          rw (cond-true (share_hidden hidden a t.alphabet) (bound_over hidden ts t) 0 shares) (omega (arith, here, rest, bounded))
      | inr none ↦
          let here = count_le (is_foreign a (t ∷ ts)) (is_foreign a ts) ms (each_apart cs hidden a t ts ms none h) in
          rw (cond-false (share_hidden hidden a t.alphabet) (bound_over hidden ts t) 0 none) (omega (arith, here, rest))
    ]

-- ---- the bounds hold

-- where the component with a number stands in the run
record Stands {T : Type 0} (Step : T → Label → T → Type 0) (start : Component T) (i : ℕ) (ms : List Move) : Type 0 where
  from : Component T
  to : Component T
  reached : Reached (ComponentStep Step) start from
  along : Along Step i from ms to
  alphabet : start.alphabet ≡ from.alphabet

stands : {T : Type 0} (Step : T → Label → T → Type 0) (s : List ℕ) (k : ℕ) (cs us vs : List (Component T)) (ms : List Move) (i : ℕ) (c : Component T) → AllAfter Step s cs us → AllAlong Step k us ms vs → slice_get cs i ≡ Some c → Stands Step c (k + i) ms
stands Step s k [] us vs ms i c a l h = absurd (none-some c h)
stands Step s k (x ∷ cs) [] vs ms i c a l h = absurd a
stands Step s k (x ∷ cs) (u ∷ us) [] ms i c a l h = absurd l
stands Step s k (x ∷ cs) (u ∷ us) (v ∷ vs) ms zero c a l h =
    let at = subst (λ (y : Component _). After (ComponentStep Step) y (project y.alphabet s) u) (same_Some x c h) a.0 in
    let here : k ≡ k + 0 = omega arith in
    record { from = u; to = v; reached = (at.0, at.1); along = subst (λ n. Along Step n u ms v) here l.0; alphabet = path_alphabet Step at.0 c u at.1 }
stands Step s k (x ∷ cs) (u ∷ us) (v ∷ vs) ms (suc i) c a l h =
    let there : suc k + i ≡ k + suc i = omega arith in
    subst (λ n. Stands Step c n ms) there (stands Step s (suc k) cs us vs ms i c a.1 l.1 h)

module _ {T : Type 0} (Step : T → Label → T → Type 0) (hidden s : List ℕ) (cs us vs : List (Component T)) (ms : List Move)
    (after : AllAfter Step s cs us) (along : AllAlong Step 0 us ms vs) (moves : AreMoves hidden cs ms) where
  one_bounded : (t : Taken) (ts : List Taken) → IsNext Step hidden cs ts t → AllBounded hidden ts ms → count (is_own t.part t.alphabet ts) ms ≤ bound_over hidden ts t
  one_bounded t ts next h =
      let at = stands Step s 0 cs us vs ms t.part next.component after along next.at in
      let number : 0 + t.part ≡ t.part = omega arith in
      let goes = subst (λ n. Along Step n at.from ms at.to) number at.along in
      let walked : Walked Step hidden ts next.component t.height next.height.most 0 at.from at.from = record { began = at.reached; walk = refl; now = at.reached } in
      let own = own_moves Step hidden ts next.component t.height next.height.most cs t.part t.alphabet ms 0 at.from at.from at.to walked (sym at.alphabet ∙ next.alphabet) moves goes in
      let foreign : count (is_foreign t.alphabet ts) ms ≤ shared_bounds hidden t.alphabet ts = foreign_le cs hidden t.alphabet ts ms moves h in
      let whole : t.height * suc (count (is_foreign t.alphabet ts) ms) ≤ bound_over hidden ts t = mul-le-mul_left t.height (omega arith) in
      omega (arith, own, whole)

  all_bounded : (ts : List Taken) → AreTaken Step hidden cs ts → AllBounded hidden ts ms
  all_bounded [] a = tt
  all_bounded (t ∷ ts) a = let rest = all_bounded ts a.1 in (one_bounded t ts a.0 rest, rest)

-- ---- each move belongs to a taken component

abbrev is_taken : List Taken → Move → Bool
is_taken [] m = false
is_taken (t ∷ ts) m = is_own t.part t.alphabet ts m || is_taken ts m

each_or : (t : Taken) (ts : List Taken) (ms : List Move) → Each (λ m. one (is_taken (t ∷ ts) m) ≤ one (is_own t.part t.alphabet ts m) + one (is_taken ts m)) ms
each_or t ts [] = tt
each_or t ts (m ∷ ms) = (or_parts (is_own t.part t.alphabet ts m) (is_taken ts m), each_or t ts ms)

none_taken : (ms : List Move) → Each (λ m. is_taken [] m ≡ false) ms
none_taken [] = tt
none_taken (m ∷ ms) = (refl, none_taken ms)

taken_le : (hidden : List ℕ) (ts : List Taken) (ms : List Move) → AllBounded hidden ts ms → count (is_taken ts) ms ≤ hidden_bound hidden ts
taken_le hidden [] ms h = let none : count (is_taken []) ms ≡ 0 = count_none (is_taken []) ms (none_taken ms) in omega arith
taken_le hidden (t ∷ ts) ms h =
    let here = count_le_sum (is_taken (t ∷ ts)) (is_own t.part t.alphabet ts) (is_taken ts) ms (each_or t ts ms) in
    let bounded = h.0 in
    let rest = taken_le hidden ts ms h.1 in
    omega (arith, here, bounded, rest)

quiet_taken : (j : ℕ) (ts : List Taken) → IsAmong j ts → is_taken ts (quiet j) ≡ true
quiet_taken j [] h = absurd h
quiet_taken j (t ∷ ts) (inl h) = or_left (nat_eq t.part j) (is_taken ts (quiet j)) (let e : t.part ≡ j = h in grind (arith, nat_tests))
quiet_taken j (t ∷ ts) (inr h) = or_right (nat_eq t.part j) (is_taken ts (quiet j)) (quiet_taken j ts h)

event_taken : (e : ℕ) (ts : List Taken) → is_passed ts e ≡ true → is_taken ts (event e) ≡ true
event_taken e [] h = absurd (false≢true h)
event_taken e (t ∷ ts) h =
    elim (cases_Bool (is_passed ts e)) [
      | inl later ↦ or_right (has t.alphabet e && not (is_passed ts e)) (is_taken ts (event e)) (event_taken e ts later)
      | inr none ↦ or_left (has t.alphabet e && not (is_passed ts e)) (is_taken ts (event e)) (is_and (has t.alphabet e) (not (is_passed ts e)) (first_true (has t.alphabet e) (is_passed ts e) h none) (ap not none))
    ]

module _ {T : Type 0} (Step : T → Label → T → Type 0) (hidden : List ℕ) (cs : List (Component T)) where
  passed : (e i : ℕ) (c : Component T) (ts : List Taken) → slice_get cs i ≡ Some c → has c.alphabet e ≡ true → AreTaken Step hidden cs ts → IsAmong i ts → is_passed ts e ≡ true
  passed e i c [] at h a among = absurd among
  passed e i c (t ∷ ts) at h a (inl same) =
      let is : c ≡ a.0.component = same_Some c a.0.component (sym at ∙ ap (λ n. slice_get cs n) (sym same) ∙ a.0.at) in
      or_left (has t.alphabet e) (is_passed ts e) (ap (λ al. has al e) (sym (ap (λ (x : Component T). x.alphabet) is ∙ a.0.alphabet)) ∙ h)
  passed e i c (t ∷ ts) at h a (inr later) = or_right (has t.alphabet e) (is_passed ts e) (passed e i c ts at h a.1 later)

  all_taken : (ts : List Taken) (ms : List Move) → IsOrder Step hidden cs ts → AreMoves hidden cs ms → Each (λ m. is_taken ts m ≡ true) ms
  all_taken ts [] is are = tt
  all_taken ts (quiet j ∷ ms) is are =
      let c = slice_get_some cs j are.0 in
      (quiet_taken j ts (is.all j c.0 c.1), all_taken ts ms is are.1)
  all_taken ts (event e ∷ ms) is are =
      let o = owner cs e are.1 in
      (event_taken e ts (passed e o.0 o.1 ts o.2 o.3 is.taken (is.all o.0 o.1 o.2)), all_taken ts ms is are.2)

-- ---- the network

path_alphabets : {T : Type 0} (Step : T → Label → T → Type 0) (ls : List Label) (cs ds : List (Component T)) → Path (FlatStep Step) cs ls ds → alphabets cs ≡ alphabets ds
path_alphabets Step [] cs ds h = ap alphabets h
path_alphabets Step (l ∷ ls) cs ds h = flat_alphabets Step cs l h.0 h.1 ∙ path_alphabets Step ls h.0 ds h.2

walk_forth : {T : Type 0} (Step : T → Label → T → Type 0) (hidden : List ℕ) (n : ℕ) (t u : Tree T) → WellNested t → Walk (HiddenStep (NetworkStep Step) hidden) n t u → Walk (HiddenStep (FlatStep Step) hidden) n (leaves t) (leaves u)
walk_forth Step hidden zero t u w h = ap leaves h
walk_forth Step hidden (suc n) t u w h =
    elim h.1 [
      | inl s ↦ (leaves h.0, inl (forth Step t silent h.0 w s), walk_forth Step hidden n h.0 u (kept Step t silent h.0 w s) h.2)
      | inr s ↦ (leaves h.0, inr (s.0, s.1, forth Step t (visible s.0) h.0 w s.2), walk_forth Step hidden n h.0 u (kept Step t (visible s.0) h.0 w s.2) h.2)
    ]

pub hidden_steps_are_bounded : {T : Type 0} (Step : T → Label → T → Type 0) → HiddenStepsAreBounded Step
hidden_steps_are_bounded Step tree u v hidden order n w is r h =
    let run = run_forth Step r.0 tree u w r.1 in
    let nested = run_kept Step r.0 tree u w r.1 in
    let after = all_after Step r.0 (leaves tree) (leaves u) run in
    let m = has_moves Step hidden n (leaves u) (leaves v) (walk_forth Step hidden n u v nested h) in
    let back : alphabets (leaves u) ≡ alphabets (leaves tree) = sym (path_alphabets Step r.0 (leaves tree) (leaves u) run) in
    let moves = moves_along hidden (leaves u) (leaves tree) m.moves back m.are in
    let bounded = all_bounded Step hidden (visible_events r.0) (leaves tree) (leaves u) (leaves v) m.moves after m.along moves order is.taken in
    let most : length m.moves ≤ count (is_taken order) m.moves = count_all (is_taken order) m.moves (all_taken Step hidden (leaves tree) order m.moves is moves) in
    let total : count (is_taken order) m.moves ≤ hidden_bound hidden order = taken_le hidden order m.moves bounded in
    let many : length m.moves ≡ n = m.count in
    omega arith
