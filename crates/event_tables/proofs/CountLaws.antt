-- How many events channels have, counted to the end of a type, and those of the channels that are left.
use Rattle.event_tables.proofs.Prelude.{◌≡◌, ℕ, zero, suc, ◌+◌, ◌*◌, ◌<◌, ◌≤◌, min, Ok, Err, List, [], ◌∷◌, ◌++◌, length, length-append, map, replicate, drop, get_or, ap, sym, ◌∙◌, arith, Result, Some, IfOk, OnOk, slice_get, get_or_from_slice_get, slice_get_within, sum_by-cons, Atom, row_count, Channel, SharedSets, events_left, spread, all_events, drop_read}

pub events_of_copies : (n : ℕ) (sets : List (List Atom)) (rest : List (List (List Atom))) → all_events (replicate n sets ++ rest) ≡ n * row_count sets + all_events rest
events_of_copies zero sets rest = omega arith
events_of_copies (suc n) sets rest =
    let before : all_events (replicate n sets ++ rest) ≡ n * row_count sets + all_events rest = events_of_copies n sets rest in
    let here : all_events (replicate (suc n) sets ++ rest) ≡ row_count sets + all_events (replicate n sets ++ rest) =
    sum_by-cons (λ (k : ℕ). k) (row_count sets) (map row_count (replicate n sets ++ rest)) in
    omega arith

-- one more channel
pub events_then : (all : List (List (List Atom))) (c : ℕ) (sets : List (List Atom)) → slice_get all c ≡ Some sets → all_events (drop c all) ≡ row_count sets + all_events (drop (c + 1) all)
events_then all c sets at =
    ap all_events (drop_read all c sets (slice_get_within all c sets at) (sym (get_or_from_slice_get all c sets sets at)))
    ∙ sum_by-cons (λ (k : ℕ). k) (row_count sets) (map row_count (drop (c + 1) all))

pub one_left : (made new : List Channel) (one : Channel) (first next : ℕ) (all : List (List (List Atom))) (sets : List (List Atom)) → slice_get all (length made) ≡ Some sets
    → next ≡ first + row_count sets → new ≡ made ++ one ∷ [] → events_left next new all ≡ events_left first made all
one_left made new one first next all sets at next_is new_is =
    let longer : length new ≡ length made + 1 = ap length new_is ∙ length-append made (one ∷ []) in
    let here = events_then all (length made) sets at in
    let there : all_events (drop (length new) all) ≡ all_events (drop (length made + 1) all) = ap (λ k. all_events (drop k all)) longer in
    omega (arith, here, there, next_is)

pub left_ok : {E : Type 0} (r : Result ℕ E) (made new : List Channel) (one : Channel) (first : ℕ) (all : List (List (List Atom))) (sets : List (List Atom)) → slice_get all (length made) ≡ Some sets
    → IfOk r (λ next. next ≡ first + row_count sets) → OnOk r (new ≡ made ++ one ∷ []) → IfOk r (λ next. events_left next new all ≤ events_left first made all)
left_ok (Ok next) made new one first all sets at next_is new_is = let same = one_left made new one first next all sets at next_is new_is in omega (arith, same)
left_ok (Err e) made new one first all sets at next_is new_is = tt

-- one more declaration
pub events_step : (count next own most i : ℕ) (shared : List SharedSets) (one : SharedSets) (whole : ℕ) → i < length shared → one ≡ get_or shared i one
    → own ≡ min (one.channels * row_count one.sets) most → next ≡ min (count + own) most
    → min (count + all_events (spread (drop i shared))) most ≡ min whole most → min (next + all_events (spread (drop (i + 1) shared))) most ≡ min whole most
events_step count next own most i shared one whole within is own_is next_is so_far =
    let here : all_events (spread (drop i shared)) ≡ one.channels * row_count one.sets + all_events (spread (drop (i + 1) shared)) =
    ap (λ rest. all_events (spread rest)) (drop_read shared i one within is) ∙ events_of_copies one.channels one.sets (spread (drop (i + 1) shared)) in
    omega arith
