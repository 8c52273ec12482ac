-- Where the events of a channel stand in the event table.
use Rattle.value_laws.proofs.Prelude.{◌≡◌, ℕ, zero, suc, ◌+◌, ◌-◌, ◌*◌, ◌<◌, ◌≤◌, Option, Some, None, Ok, List, [], ◌∷◌, ◌++◌, map, length, take, drop, refl, sym, ◌∙◌, ap, subst, inl, inr, arith, slice_get, option_map, cases_lt, append-nil, length-map, slice_get-map, slice_get_within, drop-length, KeepFirsts, event_count, first_event, row_count, event_of, events_from_channel, channel_events, rows, Outcome, and_then, Env, Meaning, sets_of, Channel, EventInfo, AllRise, events_each, fields_number, first_of, front_number, HasSets, HaveValues, StandsAt, computed_number, NumbersArePlaces, PlacesAreNumbers, BeginnersStandTogether, Atom, One, came_through}
use Rattle.value_laws.proofs.Lists.{get_left, get_right, same_outcome}
use Rattle.value_laws.proofs.Rises.{FieldsRise, FieldSetsRise, field_sets_rise}
use Rattle.value_laws.proofs.RowNumbers.{length-rows, no_fields, numbered, placed}

-- the number that is computed where the channels before are counted
abbrev pub summed_number : List Channel → ℕ → List Meaning → Env → Outcome ℕ
summed_number channels c fields env = front_number (first_event channels c) (sets_of (slice_get channels c)) fields env

channel_there : (o : Option Channel) (sets : List (List Atom)) → sets_of o ≡ Some sets → (channel : Channel) × (o ≡ Some channel)
channel_there None sets h = absurd (cc)
channel_there (Some channel) sets h = (channel, refl)

-- the number that a channel keeps is the sum
pub first_is : (channels : List Channel) → KeepFirsts channels → (c : ℕ) (sets : List (List Atom)) → HasSets channels c sets → first_of (slice_get channels c) ≡ first_event channels c
first_is channels keep c sets h =
    let found = channel_there (slice_get channels c) sets h in
    ap first_of found.1 ∙ keep c found.0 found.1

pub as_summed : (channels : List Channel) → KeepFirsts channels → (c : ℕ) (sets : List (List Atom)) (fields : List Meaning) (env : Env) → HasSets channels c sets
    → computed_number channels c fields env ≡ summed_number channels c fields env
as_summed channels keep c sets fields env h = ap (λ (n : ℕ). front_number n (sets_of (slice_get channels c)) fields env) (first_is channels keep c sets h)

pub length-channel_events : (b : ℕ) (o : Option (List (List Atom))) → length (channel_events b o) ≡ event_count o
length-channel_events b None = refl
length-channel_events b (Some sets) = length-map (rows sets) (event_of b) ∙ length-rows sets

-- a row of a channel among the channel's events
in_events : (b : ℕ) (o : Option (List (List Atom))) (sets : List (List Atom)) (i : ℕ) (row : List Atom) → o ≡ Some sets → slice_get (rows sets) i ≡ Some row → slice_get (channel_events b o) i ≡ Some (event_of b row)
in_events b o sets i row e h =
    ap (λ (p : Option (List (List Atom))). slice_get (channel_events b p) i) e ∙ slice_get-map (event_of b) (rows sets) i ∙ ap (option_map (event_of b)) h

pub in_table : (channels : List Channel) (b c : ℕ) (sets : List (List Atom)) (i : ℕ) (row : List Atom) → HasSets channels c sets → slice_get (rows sets) i ≡ Some row
    → (place : ℕ) → place ≡ first_event channels c + i → slice_get (events_from_channel b channels) place ≡ Some (event_of (b + c) row)
in_table [] b c sets i row h g place e = absurd (cc)
in_table (channel ∷ channels) b zero sets i row h g place e =
    let at : slice_get (channel_events b channel.fields) i ≡ Some (event_of b row) = in_events b channel.fields sets i row h g in
    let same_place : place ≡ i = omega arith in
    let same_channel : b ≡ b + 0 = omega arith in
    let at_place : slice_get (channel_events b channel.fields) place ≡ Some (event_of b row) = ap (slice_get (channel_events b channel.fields)) same_place ∙ at in
    get_left (channel_events b channel.fields) (events_from_channel (b + 1) channels) place (slice_get_within (channel_events b channel.fields) place (event_of b row) at_place) ∙
    at_place ∙ ap (λ n. Some (event_of n row)) same_channel
in_table (channel ∷ channels) b (suc c) sets i row h g place e =
    let long : length (channel_events b channel.fields) ≡ event_count channel.fields = length-channel_events b channel.fields in
    let same_channel : b + 1 + c ≡ b + suc c = omega arith in
    get_right (channel_events b channel.fields) (events_from_channel (b + 1) channels) (first_event channels c + i) place (omega arith) ∙
    in_table channels (b + 1) c sets i row h g (first_event channels c + i) refl ∙
    ap (λ n. Some (event_of n row)) same_channel

mapped_back : (b : ℕ) (o : Option (List Atom)) (x : EventInfo) → option_map (event_of b) o ≡ Some x → (row : List Atom) × (o ≡ Some row) × (event_of b row ≡ x)
mapped_back b None x h = absurd (cc)
mapped_back b (Some row) x h = (row, refl, cc)

-- which row an event of a channel is of
pub record AmongEvents (b : ℕ) (o : Option (List (List Atom))) (i : ℕ) (x : EventInfo) : Type 0 where
  pub sets : List (List Atom)
  pub has : o ≡ Some sets
  pub row : List Atom
  pub at : slice_get (rows sets) i ≡ Some row
  pub is : event_of b row ≡ x

among_events : (b : ℕ) (o : Option (List (List Atom))) (i : ℕ) (x : EventInfo) → slice_get (channel_events b o) i ≡ Some x → AmongEvents b o i x
among_events b None i x h = absurd (cc)
among_events b (Some sets) i x h =
    let m = mapped_back b (slice_get (rows sets) i) x (sym (slice_get-map (event_of b) (rows sets) i) ∙ h) in
    record { sets = sets; has = refl; row = m.0; at = m.1; is = m.2 }

-- the channels of later events have no lower numbers
no_lower : (channels : List Channel) (b i : ℕ) (x : EventInfo) → slice_get (events_from_channel b channels) i ≡ Some x → b ≤ x.channel
no_lower [] b i x h = absurd (cc)
no_lower (channel ∷ channels) b i x h =
    elim (cases_lt i (length (channel_events b channel.fields))) [
      | inl l ↦
          let r = among_events b channel.fields i x (sym (get_left (channel_events b channel.fields) (events_from_channel (b + 1) channels) i l) ∙ h) in
          let same_channel : b ≡ x.channel = ap (λ (y : EventInfo). y.channel) r.is in
          omega arith
      | inr l ↦
          let n : ℕ = i - length (channel_events b channel.fields) in
          let e : i ≡ length (channel_events b channel.fields) + n = omega arith in
          let least = no_lower channels (b + 1) n x (sym (get_right (channel_events b channel.fields) (events_from_channel (b + 1) channels) n i e) ∙ h) in
          omega arith
    ]

-- which row of its channel an event of the table is
pub record OfRow (channels : List Channel) (c place : ℕ) (row : List Atom) : Type 0 where
  pub sets : List (List Atom)
  pub has : HasSets channels c sets
  pub i : ℕ
  pub is : place ≡ first_event channels c + i
  pub at : slice_get (rows sets) i ≡ Some row

first_channel : (channel : Channel) (channels : List Channel) (b c place : ℕ) (row : List Atom) → AmongEvents b channel.fields place (event_of (b + c) row) → OfRow (channel ∷ channels) c place row
first_channel channel channels b zero place row r =
    let same_row : r.row ≡ row = ap (λ (y : EventInfo). y.fields) r.is in
    record { sets = r.sets; has = r.has; i = place; is = omega arith; at = r.at ∙ ap (λ (l : List Atom). Some l) same_row }
first_channel channel channels b (suc c) place row r =
    let same_channel : b ≡ b + suc c = ap (λ (y : EventInfo). y.channel) r.is in
    absurd (omega arith)

later_channel : (channel : Channel) (channels : List Channel) (b c place n : ℕ) (row : List Atom) → place ≡ event_count channel.fields + n → slice_get (events_from_channel (b + 1) channels) n ≡ Some (event_of (b + c) row)
    → ((d : ℕ) → c ≡ suc d → OfRow channels d n row) → OfRow (channel ∷ channels) c place row
later_channel channel channels b zero place n row e h rest = let least : b + 1 ≤ b + 0 = no_lower channels (b + 1) n (event_of (b + 0) row) h in absurd (omega arith)
later_channel channel channels b (suc c) place n row e h rest =
    let r = rest c refl in
    let is : n ≡ first_event channels c + r.i = r.is in
    record { sets = r.sets; has = r.has; i = r.i; is = omega arith; at = r.at }

pub of_row : (channels : List Channel) (b c place : ℕ) (row : List Atom) → slice_get (events_from_channel b channels) place ≡ Some (event_of (b + c) row) → OfRow channels c place row
of_row [] b c place row h = absurd (cc)
of_row (channel ∷ channels) b c place row h =
    elim (cases_lt place (length (channel_events b channel.fields))) [
      | inl l ↦ first_channel channel channels b c place row
          (among_events b channel.fields place (event_of (b + c) row) (sym (get_left (channel_events b channel.fields) (events_from_channel (b + 1) channels) place l) ∙ h))
      | inr l ↦
          let n : ℕ = place - length (channel_events b channel.fields) in
          let e : place ≡ length (channel_events b channel.fields) + n = omega arith in
          let g : slice_get (events_from_channel (b + 1) channels) n ≡ Some (event_of (b + c) row) = sym (get_right (channel_events b channel.fields) (events_from_channel (b + 1) channels) n place e) ∙ h in
          later_channel channel channels b c place n row (e ∙ ap (λ m. m + n) (length-channel_events b channel.fields)) g
          (λ d is. let same_channel : b + c ≡ b + 1 + d = omega arith in
          of_row channels (b + 1) d n row (g ∙ ap (λ m. Some (event_of m row)) same_channel))
    ]

pub of_table : (channels : List Channel) (c place : ℕ) (row : List Atom) → StandsAt channels place c row → OfRow channels c place row
of_table channels c place row h = let e : c ≡ 0 + c = omega arith in of_row channels 0 c place row (h ∙ ap (λ m. Some (event_of m row)) e)

pub to_table : (channels : List Channel) (c : ℕ) (sets : List (List Atom)) (i : ℕ) (row : List Atom) → HasSets channels c sets → slice_get (rows sets) i ≡ Some row
    → (place : ℕ) → place ≡ first_event channels c + i → StandsAt channels place c row
to_table channels c sets i row h g place e = let same_channel : 0 + c ≡ c = omega arith in in_table channels 0 c sets i row h g place e ∙ ap (λ m. Some (event_of m row)) same_channel

pub rise_at : (channels : List Channel) (c : ℕ) (sets : List (List Atom)) → FieldSetsRise channels → HasSets channels c sets → AllRise sets
rise_at [] c sets r h = absurd (cc)
rise_at (channel ∷ channels) zero sets r h = subst FieldsRise h r.0
rise_at (channel ∷ channels) (suc c) sets r h = rise_at channels c sets r.1 h

-- the number that is computed, from that of the first fields
pub record Computed (channels : List Channel) (c : ℕ) (sets : List (List Atom)) (fields : List Meaning) (env : Env) (number : ℕ) : Type 0 where
  pub own : ℕ
  pub found : fields_number fields sets env 0 ≡ Ok own
  pub is : first_event channels c + own * events_each fields sets ≡ number

pub computed : (channels : List Channel) (c : ℕ) (sets : List (List Atom)) (fields : List Meaning) (env : Env) (number : ℕ) → HasSets channels c sets → summed_number channels c fields env ≡ Ok number → Computed channels c sets fields env number
computed channels c sets fields env number h g =
    let through = came_through (fields_number fields sets env 0) (λ n. Ok (first_event channels c + n * events_each fields sets)) number
    (ap (λ (o : Option (List (List Atom))). front_number (first_event channels c) o fields env) (sym h) ∙ g) in
    record { own = through.0; found = through.1; is = same_outcome through.2 }

-- and back
pub to_computed : (channels : List Channel) (c : ℕ) (sets : List (List Atom)) (fields : List Meaning) (env : Env) (own number : ℕ) → HasSets channels c sets → fields_number fields sets env 0 ≡ Ok own
    → first_event channels c + own * events_each fields sets ≡ number → summed_number channels c fields env ≡ Ok number
to_computed channels c sets fields env own number h f is =
    ap (λ (o : Option (List (List Atom))). front_number (first_event channels c) o fields env) h ∙
    ap (λ o. and_then o (λ n. Ok (first_event channels c + n * events_each fields sets))) f ∙
    ap (λ (m : ℕ). Ok m) is

all_fields : (fields : List Meaning) (sets : List (List Atom)) → length fields ≡ length sets → drop (length fields) sets ≡ []
all_fields fields sets h = ap (λ n. drop n sets) h ∙ drop-length sets

summed_are_places : (channels : List Channel) (c : ℕ) (sets : List (List Atom)) (fields : List Meaning) (env : Env) (number : ℕ)
    → HasSets channels c sets → length fields ≡ length sets → summed_number channels c fields env ≡ Ok number
    → (row : List Atom) × HaveValues fields env row × StandsAt channels number c row
summed_are_places channels c sets fields env number h long g =
    let k = computed channels c sets fields env number h g in
    let r = numbered fields sets env 0 k.own k.found in
    let none : drop (length fields) sets ≡ [] = all_fields fields sets long in
    let is : k.own ≡ 0 * row_count (take (length fields) sets) + r.own = r.is in
    let same_own : k.own ≡ r.own = omega arith in
    let sum : first_event channels c + k.own * events_each fields sets ≡ number = k.is in
    let at : slice_get (rows sets) (r.own * events_each fields sets + 0) ≡ Some (r.row ++ []) =
    r.at 0 [] (ap (λ (s : List (List Atom)). slice_get (rows s) 0) none) (r.own * events_each fields sets + 0) refl in (
      r.row,
      r.values,
      to_table channels c sets (r.own * events_each fields sets + 0) r.row h (at ∙ ap (λ (l : List Atom). Some l) (append-nil r.row)) number
          (sym sum ∙ ap (λ m. first_event channels c + m * events_each fields sets) same_own ∙ (omega arith)),
    )

places_are_summed : (channels : List Channel) → FieldSetsRise channels → (c place : ℕ) (row : List Atom) → StandsAt channels place c row
    → (fields : List Meaning) (env : Env) → HaveValues fields env row → (sets : List (List Atom)) × HasSets channels c sets × (summed_number channels c fields env ≡ Ok place)
places_are_summed channels rise c place row h fields env values =
    let t = of_table channels c place row h in
    let whole : row ≡ row ++ [] = sym (append-nil row) in
    let r = placed fields t.sets env (rise_at channels c t.sets rise t.has) row [] values t.i (t.at ∙ ap (λ (l : List Atom). Some l) whole) 0 in
    let none : drop (length fields) t.sets ≡ [] = no_fields (drop (length fields) t.sets) r.beyond r.rest_at in
    let one : events_each fields t.sets ≡ 1 = ap row_count none in
    let below : r.beyond < length (rows (drop (length fields) t.sets)) = slice_get_within (rows (drop (length fields) t.sets)) r.beyond [] r.rest_at in
    let count : length (rows (drop (length fields) t.sets)) ≡ events_each fields t.sets = length-rows (drop (length fields) t.sets) in
    let place_is : t.i ≡ r.own * events_each fields t.sets + r.beyond = r.place in
    let is : place ≡ first_event channels c + t.i = t.is in
    let number : 0 * row_count (take (length fields) t.sets) + r.own ≡ r.own = omega arith in
    (t.sets, t.has, to_computed channels c t.sets fields env r.own place t.has (r.number ∙ ap (λ (m : ℕ). Ok m) number) (omega arith))

row_there : (xs : List (List Atom)) (j : ℕ) → j < length xs → (row : List Atom) × (slice_get xs j ≡ Some row)
row_there [] j l = absurd (omega arith)
row_there (x ∷ xs) zero l = (x, refl)
row_there (x ∷ xs) (suc j) l = row_there xs j (omega arith)

same_option : {A : Type 0} {a b : A} → Some a ≡ Some b → a ≡ b
same_option h = cc

pub same_values : (xs ys : List Atom) → map (λ a. One a) xs ≡ map (λ a. One a) ys → xs ≡ ys
same_values [] [] h = refl
same_values (x ∷ xs) (y ∷ ys) h =
    let first : One x ≡ One y = cc in
    let e : x ≡ y = cc in
    let rest : map (λ a. One a) xs ≡ map (λ a. One a) ys = cc in
    let f = same_values xs ys rest in
    λ i. e i ∷ f i
same_values _ _ h = absurd (cc)

pub beginners_forth : (channels : List Channel) (c : ℕ) (sets : List (List Atom)) (fields : List Meaning) (env : Env) (row : List Atom) (first : ℕ)
    → HasSets channels c sets → HaveValues fields env row → summed_number channels c fields env ≡ Ok first
    → (place : ℕ) → first ≤ place → place < first + events_each fields sets → (rest : List Atom) × StandsAt channels place c (row ++ rest)
beginners_forth channels c sets fields env row first h values g place from_first below =
    let k = computed channels c sets fields env first h g in
    let r = numbered fields sets env 0 k.own k.found in
    let is : k.own ≡ 0 * row_count (take (length fields) sets) + r.own = r.is in
    let own : r.own ≡ k.own = omega arith in
    let first_is : first_event channels c + k.own * events_each fields sets ≡ first = k.is in
    let count : length (rows (drop (length fields) sets)) ≡ events_each fields sets = length-rows (drop (length fields) sets) in
    let j : ℕ = place - first in
    let sum : place ≡ first + j = omega arith in
    let within : j < length (rows (drop (length fields) sets)) = omega arith in
    let rest = row_there (rows (drop (length fields) sets)) j within in
    let at = r.at j rest.0 rest.1 (r.own * events_each fields sets + j) refl in
    let one_row : r.row ≡ row = same_values r.row row (same_outcome (sym r.values ∙ values)) in (
      rest.0,
      to_table channels c sets (r.own * events_each fields sets + j) (row ++ rest.0) h (at ∙ ap (λ (l : List Atom). Some (l ++ rest.0)) one_row) place
          (sum ∙ ap (λ m. m + j) (sym first_is) ∙ rw own (omega arith)),
    )

pub beginners_back : (channels : List Channel) (c : ℕ) (sets : List (List Atom)) → AllRise sets → (fields : List Meaning) (env : Env) (row : List Atom) (first : ℕ)
    → HasSets channels c sets → HaveValues fields env row → summed_number channels c fields env ≡ Ok first
    → (place : ℕ) (rest : List Atom) → StandsAt channels place c (row ++ rest) → (first ≤ place) × (place < first + events_each fields sets)
beginners_back channels c sets rise fields env row first h values g place rest stands =
    let k = computed channels c sets fields env first h g in
    let t = of_table channels c place (row ++ rest) stands in
    let one_list : t.sets ≡ sets = same_option (sym t.has ∙ h) in
    let at : slice_get (rows sets) t.i ≡ Some (row ++ rest) = ap (λ (s : List (List Atom)). slice_get (rows s) t.i) (sym one_list) ∙ t.at in
    let r = placed fields sets env rise row rest values t.i at 0 in
    let below : r.beyond < length (rows (drop (length fields) sets)) = slice_get_within (rows (drop (length fields) sets)) r.beyond rest r.rest_at in
    let count : length (rows (drop (length fields) sets)) ≡ events_each fields sets = length-rows (drop (length fields) sets) in
    let own : k.own ≡ 0 * row_count (take (length fields) sets) + r.own = same_outcome (sym k.found ∙ r.number) in
    let own_is : k.own ≡ r.own = omega arith in
    let first_is : first_event channels c + k.own * events_each fields sets ≡ first = k.is in
    let first_now : first_event channels c + r.own * events_each fields sets ≡ first = ap (λ m. first_event channels c + m * events_each fields sets) (sym own_is) ∙ first_is in
    let place_is : t.i ≡ r.own * events_each fields sets + r.beyond = r.place in
    let is : place ≡ first_event channels c + t.i = t.is in
    (omega arith, omega arith)

pub numbers_are_places : NumbersArePlaces
numbers_are_places p ordered c sets fields env number h long g =
    summed_are_places p.channels c sets fields env number h long (sym (as_summed p.channels ordered.firsts c sets fields env h) ∙ g)

pub places_are_numbers : PlacesAreNumbers
places_are_numbers p ordered c place row h fields env values =
    let found = places_are_summed p.channels (field_sets_rise p p.channels ordered.channels_used) c place row h fields env values in
    as_summed p.channels ordered.firsts c found.0 fields env found.1 ∙ found.2

pub beginners_stand_together : BeginnersStandTogether
beginners_stand_together p ordered c sets fields env row first h values g place =
    let rise = field_sets_rise p p.channels ordered.channels_used in
    let summed = sym (as_summed p.channels ordered.firsts c sets fields env h) ∙ g in (
      λ within. beginners_forth p.channels c sets fields env row first h values summed place within.0 within.1,
      λ found. beginners_back p.channels c sets (rise_at p.channels c sets rise h) fields env row first h values summed place found.0 found.1,
    )
