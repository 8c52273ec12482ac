-- The events that begin with a row, by their places.
use Rattle.value_laws.proofs.Prelude.{eq-eqb, ◌≡◌, ℕ, zero, suc, ◌+◌, ◌*◌, ◌<◌, ◌≤◌, Bool, true, false, cond, nat_eq, IsTrue, Option, Some, None, Ok, Err, List, [], ◌∷◌, ◌++◌, map, length, drop, take, refl, sym, ◌∙◌, ap, subst, arith, slice_get, eqb-true, false≢true, append-nil, length-append, slice_get_within, same, Atom, Value, One, same_exact, same_itself, is_first, is_second, event_count, first_event, row_count, begins, begins_with, channel_events, event_of, event_table, events_from_channel, events_with, places_from, rows, Outcome, and_then, Env, Meaning, front_events, one_event, row_in, row_of, sets_of, Channel, EventInfo, HasSets, HaveValues, StandsAt, computed_number, ChannelsFit, EventsAreFound, events_each, fields_number, first_of, front_count, front_number, span, came_through}
use Rattle.value_laws.proofs.Lists.{same_outcome}
use Rattle.value_laws.proofs.RowNumbers.{Numbered, length-rows, no_fields, numbered, placed, refused}
use Rattle.value_laws.proofs.TablePlaces.{beginners_back, beginners_forth, length-channel_events, of_table, same_values, summed_number, to_computed}
use Rattle.csp_atoms.specs.declared.atom.Atom.TheVariants as atom

-- ---- what begins with a row

begins_forth : (row rest : List Atom) → begins_with row (row ++ rest) ≡ true
begins_forth [] rest = refl
begins_forth (a ∷ row) rest = rw (same_itself a) (begins_forth row rest)

begins_back : (row values : List Atom) → IsTrue (begins_with row values) → (rest : List Atom) × (values ≡ row ++ rest)
begins_back [] values h = (values, refl)
begins_back (a ∷ row) [] h = absurd (false≢true h)
begins_back (a ∷ row) (b ∷ values) h =
    let first : a ≡ b = same_exact a b (is_first (same a b) (begins_with row values) h) in
    let r = begins_back row values (is_second (same a b) (begins_with row values) h) in
    (r.0, λ i. sym first i ∷ r.1 i)

event_begins : (c : ℕ) (row rest : List Atom) → begins c row (event_of c (row ++ rest)) ≡ true
event_begins c row rest = rw (eq-eqb c c refl) (begins_forth row rest)

begun : (c : ℕ) (row : List Atom) (x : EventInfo) → begins c row x ≡ true → (rest : List Atom) × (x ≡ event_of c (row ++ rest))
begun c row x h =
    let channel : x.channel ≡ c = eqb-true x.channel c (is_first (nat_eq x.channel c) (begins_with row x.fields) h) in
    let fields = begins_back row x.fields (is_second (nat_eq x.channel c) (begins_with row x.fields) h) in
    (fields.0, λ i. record { channel = channel i; fields = fields.1 i })

-- ---- the places of what stands together

-- those that begin so stand from one place on, so many of them
record Together (xs : List EventInfo) (c : ℕ) (row : List Atom) (first count : ℕ) : Type 0 where
  within : first + count ≤ length xs
  forth : (i : ℕ) (x : EventInfo) → slice_get xs i ≡ Some x → first ≤ i → i < first + count → begins c row x ≡ true
  back : (i : ℕ) (x : EventInfo) → slice_get xs i ≡ Some x → begins c row x ≡ true → (first ≤ i) × (i < first + count)

places_cases : (t : Bool) (k : ℕ) (x : EventInfo) (xs : List EventInfo) (c : ℕ) (row : List Atom) (first count : ℕ) → begins c row x ≡ t → Together (x ∷ xs) c row first count
    → ((first count : ℕ) → Together xs c row first count → places_from (k + 1) xs c row ≡ span (k + 1 + first) count)
    → cond t (k ∷ places_from (k + 1) xs c row) (places_from (k + 1) xs c row) ≡ span (k + first) count
places_cases true k x xs c row zero zero is h next = let bound = h.back 0 x refl is in absurd (omega arith)
places_cases true k x xs c row zero (suc n) is h next =
    let within : 0 + suc n ≤ suc (length xs) = h.within in
    let rest = next 0 n (record {
      within = omega arith;
      forth = λ i y at low high. h.forth (suc i) y at (omega arith) (omega arith);
      back = λ i y at holds. let bound = h.back (suc i) y at holds in (omega arith, omega arith);
    }) in
    let here : k ≡ k + 0 = omega arith in
    let there : k + 1 + 0 ≡ k + 0 + 1 = omega arith in
    λ i. here i ∷ (rest ∙ ap (λ m. span m n) there) i
places_cases true k x xs c row (suc m) count is h next = let bound = h.back 0 x refl is in absurd (omega arith)
places_cases false k x xs c row zero zero is h next =
    next 0 0 (record {
      within = omega arith;
      forth = λ i y at low high. absurd (omega arith);
      back = λ i y at holds. let bound = h.back (suc i) y at holds in absurd (omega arith);
    })
places_cases false k x xs c row zero (suc n) is h next = let holds = h.forth 0 x refl (omega arith) (omega arith) in absurd (cc)
places_cases false k x xs c row (suc m) count is h next =
    let within : suc m + count ≤ suc (length xs) = h.within in
    let there : k + 1 + m ≡ k + suc m = omega arith in
    next m count (record {
      within = omega arith;
      forth = λ i y at low high. h.forth (suc i) y at (omega arith) (omega arith);
      back = λ i y at holds. let bound = h.back (suc i) y at holds in (omega arith, omega arith);
    }) ∙
    ap (λ n. span n count) there

places_are : (k : ℕ) (xs : List EventInfo) (c : ℕ) (row : List Atom) (first count : ℕ) → Together xs c row first count → places_from k xs c row ≡ span (k + first) count
places_are k [] c row first count h =
    let within : first + count ≤ 0 = h.within in
    let none : 0 ≡ count = omega arith in
    ap (λ n. span (k + first) n) none
places_are k (x ∷ xs) c row first count h =
    places_cases (begins c row x) k x xs c row first count refl h (λ first count rest. places_are (k + 1) xs c row first count rest)

-- ---- the events of a channel

-- no channel's first event is beyond the table
first_within : (channels : List Channel) (b c : ℕ) → first_event channels c ≤ length (events_from_channel b channels)
first_within channels b zero = omega arith
first_within [] b (suc c) = omega arith
first_within (channel ∷ channels) b (suc c) =
    let long : length (channel_events b channel.fields) ≡ event_count channel.fields = length-channel_events b channel.fields in
    let rest = first_within channels (b + 1) c in
    let both : length (channel_events b channel.fields ++ events_from_channel (b + 1) channels) ≡ length (channel_events b channel.fields) + length (events_from_channel (b + 1) channels) =
    length-append (channel_events b channel.fields) (events_from_channel (b + 1) channels) in
    omega arith

-- where a number is computed, the events that begin so stand in the table
module _ (channels : List Channel) (fit : ChannelsFit channels) (c : ℕ) (sets : List (List Atom)) (has : HasSets channels c sets) (fields : List Meaning) (env : Env) where
  count_within : (row : List Atom) (own first count : ℕ) → HaveValues fields env row → summed_number channels c fields env ≡ Ok first → first_event channels c + own * count ≡ first → events_each fields sets ≡ count
      → first + count ≤ length (event_table channels)
  count_within row own first zero values number is each = let least = first_within channels 0 c in omega arith
  count_within row own first (suc n) values number is each =
      let f = beginners_forth channels c sets fields env row first has values number (first + n) (omega arith) (omega arith) in
      let within = slice_get_within (event_table channels) (first + n) (event_of c (row ++ f.0)) f.1 in
      omega arith

  together : (own : ℕ) → fields_number fields sets env 0 ≡ Ok own → (n : Numbered fields sets env 0 own) → Together (event_table channels) c n.row (first_event channels c + own * events_each fields sets) (events_each fields sets)
  together own found n =
      let first : ℕ = first_event channels c + own * events_each fields sets in
      let number : summed_number channels c fields env ≡ Ok first = to_computed channels c sets fields env own first has found refl in
      record {
        within = count_within n.row own first (events_each fields sets) n.values number refl refl;
        forth = λ i x at low high.
            let f = beginners_forth channels c sets fields env n.row first has n.values number i low high in
            let is : event_of c (n.row ++ f.0) ≡ x = cc in
            subst (λ y. begins c n.row y ≡ true) is (event_begins c n.row f.0);
        back = λ i x at holds.
            let f = begun c n.row x holds in
            beginners_back channels c sets (fit.rise c sets has) fields env n.row first has n.values number i f.0 (at ∙ ap (λ (y : EventInfo). Some y) f.1);
      }

  found_by : (o : Outcome ℕ) → fields_number fields sets env 0 ≡ o
      → and_then (row_of fields sets env) (λ row. Ok (events_with channels c row)) ≡ and_then o (λ n. Ok (span (first_event channels c + n * events_each fields sets) (events_each fields sets)))
  found_by (Err why) is = ap (λ o. and_then o (λ row. Ok (events_with channels c row))) (refused fields sets env 0 why is)
  found_by (Ok own) is =
      let n = numbered fields sets env 0 own is in
      ap (λ o. and_then o (λ row. Ok (events_with channels c row))) n.found ∙
      let first : 0 + (first_event channels c + own * events_each fields sets) ≡ first_event channels c + own * events_each fields sets = omega arith in
      ap (λ (es : List ℕ). Ok es)
      (places_are 0 (event_table channels) c n.row (first_event channels c + own * events_each fields sets) (events_each fields sets) (together own is n) ∙ ap (λ e. span e (events_each fields sets)) first)

regrouped : (o : Outcome ℕ) (first each : ℕ) → and_then o (λ n. Ok (span (first + n * each) each)) ≡ and_then (and_then o (λ n. Ok (first + n * each))) (λ e. Ok (span e each))
regrouped (Ok n) first each = refl
regrouped (Err why) first each = refl

found_cases : (channels : List Channel) → ChannelsFit channels → (c : ℕ) (fields : List Meaning) (env : Env) (o : Option (List (List Atom))) → sets_of (slice_get channels c) ≡ o
    → and_then (row_in o fields env) (λ row. Ok (events_with channels c row)) ≡ and_then (front_number (first_of (slice_get channels c)) o fields env) (λ e. Ok (span e (front_count o fields)))
found_cases channels fit c fields env None is = refl
found_cases channels fit c fields env (Some sets) is =
    found_by channels fit c sets is fields env (fields_number fields sets env 0) refl ∙
    regrouped (fields_number fields sets env 0) (first_event channels c) (events_each fields sets) ∙
    ap (λ (n : ℕ). and_then (front_number n (Some sets) fields env) (λ e. Ok (span e (events_each fields sets)))) (sym (fit.firsts c sets is))

pub events_are_found : EventsAreFound
events_are_found channels fit c fields env = found_cases channels fit c fields env (sets_of (slice_get channels c)) refl

-- a computed number is one of the table, or that of its end
through_number : (o : Outcome ℕ) (first each e : ℕ) → and_then o (λ n. Ok (first + n * each)) ≡ Ok e → (n : ℕ) × (o ≡ Ok n) × (first + n * each ≡ e)
through_number (Ok n) first each e h = (n, refl, same_outcome h)
through_number (Err why) first each e h = absurd (cc)

fits_cases : (channels : List Channel) → ChannelsFit channels → (c : ℕ) (fields : List Meaning) (env : Env) (e : ℕ) (o : Option (List (List Atom))) → sets_of (slice_get channels c) ≡ o
    → front_number (first_of (slice_get channels c)) o fields env ≡ Ok e → e + front_count o fields ≤ length (event_table channels)
fits_cases channels fit c fields env e None is h = absurd (cc)
fits_cases channels fit c fields env e (Some sets) is h =
    let t = through_number (fields_number fields sets env 0) (first_of (slice_get channels c)) (events_each fields sets) e h in
    let kept = fit.firsts c sets is in
    let all = together channels fit c sets is fields env t.0 t.1 (numbered fields sets env 0 t.0 t.1) in
    let within = all.within in
    let same_number : first_of (slice_get channels c) + t.0 * events_each fields sets ≡ e = t.2 in
    let first_is : first_event channels c + t.0 * events_each fields sets ≡ e = ap (λ n. n + t.0 * events_each fields sets) (sym kept) ∙ same_number in
    omega arith

pub number_fits : (channels : List Channel) → ChannelsFit channels → (c : ℕ) (fields : List Meaning) (env : Env) (e : ℕ)
    → front_number (first_of (slice_get channels c)) (sets_of (slice_get channels c)) fields env ≡ Ok e → e + front_count (sets_of (slice_get channels c)) fields ≤ length (event_table channels)
number_fits channels fit c fields env e h = fits_cases channels fit c fields env e (sets_of (slice_get channels c)) refl h

-- ---- the event that has a whole row

-- atoms as the meanings of fields
abbrev as_fields : List Atom → List Meaning
as_fields row = map (λ a env. Ok (One a)) row

as_fields_values : (row : List Atom) → HaveValues (as_fields row) [] row
as_fields_values [] = refl
as_fields_values (a ∷ row) = ap (λ o. and_then o (λ vs. Ok (One a ∷ vs))) (as_fields_values row)

pub same_list : {a b : List ℕ} → ◌≡◌ {A = Outcome (List ℕ)} (Ok a) (Ok b) → a ≡ b
same_list h = cc

pub event_of_row : (channels : List Channel) → ChannelsFit channels → (c : ℕ) (sets : List (List Atom)) → HasSets channels c sets → (i : ℕ) (row : List Atom) → slice_get (rows sets) i ≡ Some row
    → events_with channels c row ≡ (first_of (slice_get channels c) + i) ∷ []
event_of_row channels fit c sets has i row at =
    let fields = as_fields row in
    let whole : row ≡ row ++ [] = sym (append-nil row) in
    let r = placed fields sets [] (fit.rise c sets has) row [] (as_fields_values row) i (at ∙ ap (λ (l : List Atom). Some l) whole) 0 in
    let none : drop (length fields) sets ≡ [] = no_fields (drop (length fields) sets) r.beyond r.rest_at in
    let one : events_each fields sets ≡ 1 = ap row_count none in
    let below : r.beyond < length (rows (drop (length fields) sets)) = slice_get_within (rows (drop (length fields) sets)) r.beyond [] r.rest_at in
    let count : length (rows (drop (length fields) sets)) ≡ events_each fields sets = length-rows (drop (length fields) sets) in
    let place_is : i ≡ r.own * events_each fields sets + r.beyond = r.place in
    let own : i ≡ 0 * row_count (take (length fields) sets) + r.own = let split : r.own * events_each fields sets ≡ r.own * 1 = ap (λ n. r.own * n) one in omega arith in
    let found : fields_number fields sets [] 0 ≡ Ok i = r.number ∙ ap (λ (m : ℕ). Ok m) (sym own) in
    let n = numbered fields sets [] 0 i found in
    let same_row : n.row ≡ row = same_values n.row row (same_outcome (sym n.values ∙ as_fields_values row)) in
    let there = found_by channels fit c sets has fields [] (Ok i) found in
    let first : first_event channels c + i * events_each fields sets ≡ first_of (slice_get channels c) + i = ap (λ m. first_event channels c + i * m) one ∙ (let kept = fit.firsts c sets has in omega arith) in
    let with_row : events_with channels c n.row ≡ span (first_event channels c + i * events_each fields sets) (events_each fields sets) =
    same_list (ap (λ o. and_then o (λ l. Ok (events_with channels c l))) (sym n.found) ∙ there) in
    ap (λ l. events_with channels c l) (sym same_row) ∙ with_row ∙ ap (λ m. span (first_event channels c + i * events_each fields sets) m) one ∙ ap (λ (e : ℕ). e ∷ []) first

-- ---- an event as the value of its fields

one_found : (e count : ℕ) (v : Value) → and_then (one_event (span e count)) (λ d. Ok (One (atom.Event d))) ≡ Ok v → v ≡ One (atom.Event e)
one_found e zero v h = absurd (cc)
one_found e (suc n) v h = sym (same_outcome h)

-- where an event has a value, it is the number that is computed
pub event_found : (channels : List Channel) → ChannelsFit channels → (c : ℕ) (fields : List Meaning) (env : Env) (v : Value)
    → and_then (front_events channels c fields env) (λ es. and_then (one_event es) (λ e. Ok (One (atom.Event e)))) ≡ Ok v
    → (e : ℕ) × (computed_number channels c fields env ≡ Ok e) × (v ≡ One (atom.Event e))
event_found channels fit c fields env v h =
    let by_number = ap (λ o. and_then o (λ es. and_then (one_event es) (λ e. Ok (One (atom.Event e))))) (sym (events_are_found channels fit c fields env)) ∙ h in
    let outer = came_through (and_then (computed_number channels c fields env) (λ e. Ok (span e (front_count (sets_of (slice_get channels c)) fields)))) (λ es. and_then (one_event es) (λ e. Ok (One (atom.Event e)))) v by_number in
    let inner = came_through (computed_number channels c fields env) (λ e. Ok (span e (front_count (sets_of (slice_get channels c)) fields))) outer.0 outer.1 in
    let es : span inner.0 (front_count (sets_of (slice_get channels c)) fields) ≡ outer.0 = same_list inner.2 in
    (inner.0, inner.1, one_found inner.0 (front_count (sets_of (slice_get channels c)) fields) v (ap (λ l. and_then (one_event l) (λ e. Ok (One (atom.Event e)))) es ∙ outer.2))

pub event_there : (channels : List Channel) → ChannelsFit channels → (c : ℕ) (fields : List Meaning) (env : Env) (row : List Atom) → HaveValues fields env row → (place : ℕ) → StandsAt channels place c row
    → computed_number channels c fields env ≡ Ok place → and_then (front_events channels c fields env) (λ es. and_then (one_event es) (λ e. Ok (One (atom.Event e)))) ≡ Ok (One (atom.Event place))
event_there channels fit c fields env row values place stands number =
    let t = of_table channels c place row stands in
    let whole : row ≡ row ++ [] = sym (append-nil row) in
    let r = placed fields t.sets env (fit.rise c t.sets t.has) row [] values t.i (t.at ∙ ap (λ (l : List Atom). Some l) whole) 0 in
    let none : drop (length fields) t.sets ≡ [] = no_fields (drop (length fields) t.sets) r.beyond r.rest_at in
    let one : front_count (sets_of (slice_get channels c)) fields ≡ 1 = ap (λ (o : Option (List (List Atom))). front_count o fields) t.has ∙ ap row_count none in
    ap (λ o. and_then o (λ es. and_then (one_event es) (λ e. Ok (One (atom.Event e)))))
    (events_are_found channels fit c fields env ∙
    ap (λ o. and_then o (λ e. Ok (span e (front_count (sets_of (slice_get channels c)) fields)))) number ∙
    ap (λ (m : ℕ). Ok (span place m)) one)
