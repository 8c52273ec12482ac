-- Steps in the order of their events, cut into groups of one event.
use Rattle.determinise.proofs.Prelude.{◌≡◌, ℕ, zero, suc, ◌+◌, ◌-◌, ◌<◌, ◌≤◌, inl, inr, true, not, ◌||◌, nat_eq, List, [], ◌∷◌, length, get_or, take, drop, refl, sym, ap, subst, ◌∙◌, arith, eq-eqb, map, All, IsNonDecreasingBy, cases_lt, eqb-true, false≢true, or_left, or_right, or_cases, get_or-take, get_or-drop, length-take, length-drop, get_or-map, length-map, get_or_default, take_all, list_any_at, has, RawTable, targets_of_steps, has_event, has_move, IsNextSet, IsSomeNextSet, IsSilentClosure, any_place, place_of_move, listed_at, same_tests}

-- the event and the target in a place
abbrev pub event_at : List (ℕ × ℕ) → ℕ → ℕ
event_at moves k = (get_or moves k (0, 0)).0

abbrev pub target_at : List (ℕ × ℕ) → ℕ → ℕ
target_at moves k = (get_or moves k (0, 0)).1

-- a group: the steps from a place to another, all by the same event, which no other step is by
pub record IsGroup (moves : List (ℕ × ℕ)) (from to : ℕ) : Type 0 where
  pub some : from < to
  pub within : to ≤ length moves
  pub same : (k : ℕ) → from ≤ k → k < to → event_at moves k ≡ event_at moves from
  pub before : (k : ℕ) → k < from → event_at moves k < event_at moves from
  pub after : (k : ℕ) → to ≤ k → k < length moves → event_at moves from < event_at moves k

abbrev pub group_targets : List (ℕ × ℕ) → ℕ → ℕ → List ℕ
group_targets moves from to = map (λ step. step.1) (take (to - from) (drop from moves))

-- a step by another event, and those behind it, are by greater events
pub greater_events : (moves : List (ℕ × ℕ)) (from to k : ℕ) (x y : ℕ × ℕ) → IsNonDecreasingBy (λ step. step.0) moves → from ≤ to → to ≤ k → k < length moves → not (nat_eq (get_or moves to x).0 (get_or moves from y).0) ≡ true → event_at moves from < event_at moves k
greater_events moves from to k x y order a b below other =
    let first : get_or moves from y ≡ get_or moves from (0, 0) = get_or_default moves from y (0, 0) (omega arith) in
    let second : get_or moves to x ≡ get_or moves to (0, 0) = get_or_default moves to x (0, 0) (omega arith) in
    let low : event_at moves from ≤ event_at moves to = order from to (0, 0) a (omega arith) in
    let high : event_at moves to ≤ event_at moves k = order to k (0, 0) b below in
    let apart : not (nat_eq (event_at moves to) (event_at moves from)) ≡ true = subst (λ (p : ℕ × ℕ). not (nat_eq (event_at moves to) p.0) ≡ true) first (subst (λ (p : ℕ × ℕ). not (nat_eq p.0 (get_or moves from y).0) ≡ true) second other) in
    elim (cases_lt (event_at moves from) (event_at moves to)) as (λ _. event_at moves from < event_at moves k) [
      | inl less ↦ omega (arith, less, high)
      | inr most ↦ let same : event_at moves to ≡ event_at moves from = omega (arith, low, most) in absurd (false≢true (sym (ap not (eq-eqb (event_at moves to) (event_at moves from) same)) ∙ apart))
    ]

-- ---- events by places
pub event_place : (moves : List (ℕ × ℕ)) (n e : ℕ) → has_event (take n moves) e ≡ true → (k : ℕ) × (k < n) × (k < length moves) × (e ≡ event_at moves k)
event_place moves n e h =
    let r = any_place (λ (step : ℕ × ℕ). nat_eq e step.0) (take n moves) (0, 0) h in
    let long : length (take n moves) ≤ n = length_most n moves in
    let within : length (take n moves) ≤ length moves = length_within n moves in
    let early : r.0 < n = omega (arith, r.1, long) in
    let here : get_or (take n moves) r.0 (0, 0) ≡ get_or moves r.0 (0, 0) = get_or-take n moves r.0 (0, 0) early in
    (r.0, early, omega (arith, r.1, within), eqb-true e (get_or (take n moves) r.0 (0, 0)).0 r.2 ∙ ap (λ (step : ℕ × ℕ). step.0) here)
  where
    length_most : (n : ℕ) (xs : List (ℕ × ℕ)) → length (take n xs) ≤ n
    length_most zero xs = omega arith
    length_most (suc n) [] = omega arith
    length_most (suc n) (x ∷ xs) = let h : length (take n xs) ≤ n = length_most n xs in omega arith

    length_within : (n : ℕ) (xs : List (ℕ × ℕ)) → length (take n xs) ≤ length xs
    length_within zero xs = omega arith
    length_within (suc n) [] = omega arith
    length_within (suc n) (x ∷ xs) = let h : length (take n xs) ≤ length xs = length_within n xs in omega arith

pub event_listed : (moves : List (ℕ × ℕ)) (n k e : ℕ) → k < n → k < length moves → e ≡ event_at moves k → has_event (take n moves) e ≡ true
event_listed [] n k e below inside is = absurd (omega arith)
event_listed (x ∷ xs) zero k e below inside is = absurd (omega arith)
event_listed (x ∷ xs) (suc n) zero e below inside is = or_left (nat_eq e x.0) (has_event (take n xs) e) (eq-eqb e x.0 is)
event_listed (x ∷ xs) (suc n) (suc k) e below inside is = or_right (nat_eq e x.0) (has_event (take n xs) e) (event_listed xs n k e (omega arith) (omega arith) is)

-- one group more
pub events_more : (moves : List (ℕ × ℕ)) (from to e : ℕ) → IsGroup moves from to → has_event (take to moves) e ≡ (has_event (take from moves) e || nat_eq (event_at moves from) e)
events_more moves from to e g = same_tests (has_event (take to moves) e) (has_event (take from moves) e || nat_eq (event_at moves from) e)
    (λ h. let p = event_place moves to e h in elim (cases_lt p.0 from) as (λ _. (has_event (take from moves) e || nat_eq (event_at moves from) e) ≡ true) [
      | inl early ↦ or_left (has_event (take from moves) e) (nat_eq (event_at moves from) e) (event_listed moves from p.0 e early p.2 p.3)
      | inr late ↦ or_right (has_event (take from moves) e) (nat_eq (event_at moves from) e) (eq-eqb (event_at moves from) e (sym (p.3 ∙ g.same p.0 late p.1)))
    ])
    (λ h. elim (or_cases (has_event (take from moves) e) (nat_eq (event_at moves from) e) h) as (λ _. has_event (take to moves) e ≡ true) [
      | inl early ↦ let p = event_place moves from e early in event_listed moves to p.0 e (omega (arith, p.1, g.some)) p.2 p.3
      | inr here ↦ event_listed moves to from e g.some (omega (arith, g.some, g.within)) (sym (eqb-true (event_at moves from) e here))
    ])

move_listed : (moves : List (ℕ × ℕ)) (k e u : ℕ) → k < length moves → e ≡ event_at moves k → u ≡ target_at moves k → has_move moves e u ≡ true
move_listed moves k e u below event goal = rw (event, goal) (listed_at moves k below)

-- ---- the targets of a group
pub targets_below : (n : ℕ) (moves : List (ℕ × ℕ)) → All (λ step. step.1 < n) moves → All (λ t. t < n) (targets_of_steps moves)
targets_below n moves all k d h =
    let inside : k < length moves = rw (length-map moves (λ (step : ℕ × ℕ). step.1)) at h in
    rw (get_or-map (λ (step : ℕ × ℕ). step.1) moves k (0, 0) d inside) (all k (0, 0) inside)

group_length : (moves : List (ℕ × ℕ)) (from to : ℕ) → from ≤ to → to ≤ length moves → length (take (to - from) (drop from moves)) ≡ to - from
group_length moves from to a b = grind (arith, length-take, length-drop)

group_step : (moves : List (ℕ × ℕ)) (from to k : ℕ) → k < to - from → get_or (take (to - from) (drop from moves)) k (0, 0) ≡ get_or moves (from + k) (0, 0)
group_step moves from to k below = get_or-take (to - from) (drop from moves) k (0, 0) below ∙ get_or-drop from moves k (0, 0)

pub in_group : (moves : List (ℕ × ℕ)) (from to u : ℕ) → IsGroup moves from to → has (group_targets moves from to) u ≡ has_move moves (event_at moves from) u
in_group moves from to u g = same_tests (has (group_targets moves from to) u) (has_move moves (event_at moves from) u) into out
  where
    long : length (map (λ (step : ℕ × ℕ). step.1) (take (to - from) (drop from moves))) ≡ to - from
    long = length-map (take (to - from) (drop from moves)) (λ (step : ℕ × ℕ). step.1) ∙ group_length moves from to (omega (arith, g.some)) g.within

    read : (k : ℕ) → k < to - from → get_or (group_targets moves from to) k 0 ≡ target_at moves (from + k)
    read k below =
        let inside : k < length (take (to - from) (drop from moves)) = rw (group_length moves from to (omega (arith, g.some)) g.within) below in
        get_or-map (λ (step : ℕ × ℕ). step.1) (take (to - from) (drop from moves)) k (0, 0) 0 inside ∙ ap (λ (step : ℕ × ℕ). step.1) (group_step moves from to k below)

    into : has (group_targets moves from to) u ≡ true → has_move moves (event_at moves from) u ≡ true
    into h =
        let r = any_place (λ (y : ℕ). nat_eq y u) (group_targets moves from to) 0 h in
        let below : r.0 < to - from = omega (arith, r.1, long) in
        let place : from + r.0 < length moves = omega (arith, below, g.within) in
        let event : event_at moves from ≡ event_at moves (from + r.0) = sym (g.same (from + r.0) (omega arith) (omega (arith, below))) in
        let goal : u ≡ target_at moves (from + r.0) = sym (eqb-true (get_or (group_targets moves from to) r.0 0) u r.2) ∙ read r.0 below in
        move_listed moves (from + r.0) (event_at moves from) u place event goal

    out : has_move moves (event_at moves from) u ≡ true → has (group_targets moves from to) u ≡ true
    out h =
        let p = place_of_move moves (event_at moves from) u h in
        let low : from ≤ p.0 = elim (cases_lt p.0 from) as (λ _. from ≤ p.0) [ inl early ↦ let less : event_at moves p.0 < event_at moves from = g.before p.0 early in absurd (omega (arith, less, p.2)) | inr late ↦ late ] in
        let high : p.0 < to = elim (cases_lt p.0 to) as (λ _. p.0 < to) [ inl early ↦ early | inr late ↦ let more : event_at moves from < event_at moves p.0 = g.after p.0 late p.1 in absurd (omega (arith, more, p.2)) ] in
        let below : p.0 - from < to - from = omega (arith, low, high) in
        let back : from + (p.0 - from) ≡ p.0 = omega (arith, low) in
        let inside : p.0 - from < length (group_targets moves from to) = rw long below in
        let same : get_or (group_targets moves from to) (p.0 - from) 0 ≡ u = read (p.0 - from) below ∙ (ap (target_at moves) back ∙ sym p.3) in
        list_any_at (λ (y : ℕ). nat_eq y u) (group_targets moves from to) (p.0 - from) 0 inside (eq-eqb (get_or (group_targets moves from to) (p.0 - from) 0) u same)

-- the closure of the targets is the set to which the event leads
pub next_of_group : (raw : RawTable) (moves : List (ℕ × ℕ)) (from to : ℕ) (set : List ℕ) → IsGroup moves from to → IsSilentClosure raw (group_targets moves from to) set → IsNextSet raw moves (event_at moves from) set
next_of_group raw moves from to set g closure t = (
  λ h. let r = (closure.members t).0 h in (r.start, sym (in_group moves from to r.start g) ∙ r.listed, r.silently),
  λ m. (closure.members t).1 (record { start = m.0; listed = in_group moves from to m.0 g ∙ m.1; silently = m.2 }),
)

pub some_next : (raw : RawTable) (moves : List (ℕ × ℕ)) (from to : ℕ) (set : List ℕ) → IsGroup moves from to → IsSilentClosure raw (group_targets moves from to) set → IsSomeNextSet raw moves set
some_next raw moves from to set g closure = record {
  event = event_at moves from;
  listed = subst (λ (ms : List (ℕ × ℕ)). has_event ms (event_at moves from) ≡ true) (take_all (length moves) moves (omega arith)) (event_listed moves (length moves) from (event_at moves from) (omega (arith, g.some, g.within)) (omega (arith, g.some, g.within)) refl);
  is = next_of_group raw moves from to set g closure;
  form = closure.form;
}
