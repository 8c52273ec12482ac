-- Field sets, one after another.
use Rattle.event_tables.proofs.Prelude.{◌≡◌, ℕ, zero, suc, ◌+◌, ◌<◌, ◌≤◌, List, [], ◌∷◌, ◌++◌, length, drop, get_or, replicate, refl, sym, ap, ◌∙◌, append_assoc, add-one, subst, arith, Option, Some, None, Result, IfOk, OnOk, slice_get, Bor, option_copied, IsErrAnd, IsItemAt, drop_of_length-le, append-nil, get_or_from_slice_get, slice_get_past, slice_get_read, slice_get_within, Atom, row_count, channel_events, events_from_channel, Outcome, and_then, value_of, Channel, SharedSets, GivesOneMore, lent, spread, field_set, field_sets, with_sets, drop_read, Ok, Err, Expr, ValueKind, Content, EventInfo, Gives, at_err, weaker, EvalFault}
use Rattle.csp_base.proofs.Standard.{length-append}

-- these sets, and those of the types that are left
abbrev pub sets_with : List (List Atom) → Outcome (List (List Atom)) → Outcome (List (List Atom))
sets_with sets rest = and_then rest (λ more. Ok (sets ++ more))

abbrev set_at : Content → Expr → Outcome (List Atom)
set_at p t = and_then (value_of p t) (λ v. field_set v)

abbrev with_first : Outcome (List Atom) → Outcome (List (List Atom)) → Outcome (List (List Atom))
with_first one rest = and_then one (λ set. and_then rest (λ sets. Ok (set ∷ sets)))

first_then : (p : Content) (t : Expr) (types : List Expr) → field_sets p (t ∷ types) ≡ with_first (set_at p t) (field_sets p types)
first_then p t types = elim (value_of p t) as (λ o. and_then o (λ v. and_then (field_set v) (λ set. and_then (field_sets p types) (λ sets. Ok (set ∷ sets)))) ≡ with_first (and_then o (λ v. field_set v)) (field_sets p types)) [ Ok v ↦ refl | Err k ↦ refl ]

moved : (sets : List (List Atom)) (set : List Atom) (rest : Outcome (List (List Atom))) → sets_with sets (with_first (Ok set) rest) ≡ sets_with (sets ++ set ∷ []) rest
moved sets set (Ok more) = ap Ok (sym (append_assoc sets (set ∷ []) more))
moved sets set (Err k) = refl

module _ (p : Content) (types : List Expr) (i : ℕ) (t : Expr) (within : i < length types) (is : t ≡ get_or types i t) (sets : List (List Atom))
    (so_far : field_sets p types ≡ sets_with sets (field_sets p (drop i types))) where
  at_first : field_sets p types ≡ sets_with sets (with_first (set_at p t) (field_sets p (drop (i + 1) types)))
  at_first = so_far ∙ ap (λ rest. sets_with sets (field_sets p rest)) (drop_read types i t within is) ∙ ap (sets_with sets) (first_then p t (drop (i + 1) types))

  pub sets_step : (set : List Atom) (new : List (List Atom)) → set_at p t ≡ Ok set → new ≡ sets ++ set ∷ [] → field_sets p types ≡ sets_with new (field_sets p (drop (i + 1) types))
  sets_step set new found grown =
      at_first ∙ ap (λ o. sets_with sets (with_first o (field_sets p (drop (i + 1) types)))) found
      ∙ moved sets set (field_sets p (drop (i + 1) types))
      ∙ ap (λ s. sets_with s (field_sets p (drop (i + 1) types))) (sym grown)

  pub sets_stop : (why : ValueKind) → set_at p t ≡ Err why → field_sets p types ≡ Err why
  sets_stop why none = at_first ∙ ap (λ o. sets_with sets (with_first o (field_sets p (drop (i + 1) types)))) none

pub sets_begin : (p : Content) (types : List Expr) → field_sets p types ≡ sets_with [] (field_sets p types)
sets_begin p types = elim (field_sets p types) as (λ o. o ≡ sets_with [] o) [ Ok sets ↦ refl | Err k ↦ refl ]

pub sets_end : (p : Content) (types : List Expr) (i : ℕ) (sets : List (List Atom)) → length types ≤ i → field_sets p types ≡ sets_with sets (field_sets p (drop i types)) → field_sets p types ≡ Ok sets
sets_end p types i sets at_end so_far =
    so_far ∙ ap (λ rest. sets_with sets (field_sets p rest)) (drop_of_length-le types at_end) ∙ ap Ok (append-nil sets)

-- the field sets of one more declaration's channels
pub spread_step : (new all whole : List (List (List Atom))) (i : ℕ) (shared : List SharedSets) (one : SharedSets) → i < length shared → one ≡ get_or shared i one
    → new ≡ all ++ replicate one.channels one.sets → all ++ spread (drop i shared) ≡ whole → new ++ spread (drop (i + 1) shared) ≡ whole
spread_step new all whole i shared one within is new_is so_far =
    ap (λ sets. sets ++ spread (drop (i + 1) shared)) new_is
    ∙ append_assoc all (replicate one.channels one.sets) (spread (drop (i + 1) shared))
    ∙ ap (λ rest. all ++ spread rest) (sym (drop_read shared i one within is))
    ∙ so_far

pub spread_end : (all whole : List (List (List Atom))) (i : ℕ) (shared : List SharedSets) → length shared ≤ i → all ++ spread (drop i shared) ≡ whole → all ≡ whole
spread_end all whole i shared at_end so_far =
    sym (append-nil all) ∙ ap (λ rest. all ++ spread rest) (sym (drop_of_length-le shared at_end)) ∙ so_far

replicate-snoc : {X : Type 0} (n : ℕ) (x : X) → replicate (suc n) x ≡ replicate n x ++ x ∷ []
replicate-snoc zero x = refl
replicate-snoc (suc n) x = ap (λ xs. x ∷ xs) (replicate-snoc n x)

pub copies_step : (new all first : List (List (List Atom))) (n : ℕ) (sets : List (List Atom)) → new ≡ all ++ sets ∷ [] → all ≡ first ++ replicate n sets → new ≡ first ++ replicate (n + 1) sets
copies_step new all first n sets new_is so_far =
    new_is ∙ ap (λ xs. xs ++ sets ∷ []) so_far ∙ append_assoc first (replicate n sets) (sets ∷ []) ∙ ap (λ xs. first ++ xs) (sym (replicate-snoc n sets) ∙ ap (λ k. replicate k sets) (sym (add-one n)))

-- one more that are lent
pub lent_longer : (all : List (Bor (List (List Atom)))) (sets : Bor (List (List Atom))) → lent (all ++ sets ∷ []) ≡ lent all ++ sets.now ∷ []
lent_longer [] sets = refl
lent_longer (one ∷ all) sets = ap (λ rest. one.now ∷ rest) (lent_longer all sets)

-- what a slice has at a place
pub got_at : {X : Type 0} (r : Option (Bor X)) (xs : List X) (i : ℕ) → IsItemAt xs i r → option_copied r ≡ slice_get xs i
got_at None xs i h = sym (slice_get_past xs i h.3)
got_at (Some x) xs i h = sym (slice_get_read xs (length xs) i x.now refl h.3.0 h.1)

pub lent_at : (all : List (Bor (List (List Atom)))) (c : ℕ) → option_copied (slice_get all c) ≡ slice_get (lent all) c
lent_at [] zero = refl
lent_at [] (suc c) = refl
lent_at (one ∷ all) zero = refl
lent_at (one ∷ all) (suc c) = lent_at all c

-- the events of one more channel
pub table_step : (new events whole : List EventInfo) (c i : ℕ) (channels : List Channel) (channel : Channel) → i < length channels → channel ≡ get_or channels i channel
    → new ≡ events ++ channel_events c channel.fields → events ++ events_from_channel c (drop i channels) ≡ whole
    → new ++ events_from_channel (c + 1) (drop (i + 1) channels) ≡ whole
table_step new events whole c i channels channel within is new_is so_far =
    (λ j. new_is j ++ events_from_channel (c + 1) (drop (i + 1) channels))
    ∙ append_assoc events (channel_events c channel.fields) (events_from_channel (c + 1) (drop (i + 1) channels))
    ∙ ap (λ rest. events ++ events_from_channel c rest) (sym (drop_read channels i channel within is))
    ∙ so_far

pub table_end : (events whole : List EventInfo) (c i : ℕ) (channels : List Channel) → length channels ≤ i → events ++ events_from_channel c (drop i channels) ≡ whole → events ≡ whole
table_end events whole c i channels at_end so_far =
    sym (append-nil events) ∙ ap (λ rest. events ++ events_from_channel c rest) (sym (drop_of_length-le channels at_end)) ∙ so_far

drop_none : {X : Type 0} (xs : List X) (n : ℕ) → slice_get xs n ≡ None → drop n xs ≡ []
drop_none [] zero at = refl
drop_none [] (suc n) at = refl
drop_none (y ∷ ys) zero at = absurd (cc)
drop_none (y ∷ ys) (suc n) at = drop_none ys n at

-- channels that have their field sets are no more than there were
no_more_channels : (first : ℕ) (channels : List Channel) (all : List (List (List Atom))) → length (with_sets first channels all) ≤ length channels
no_more_channels first [] all = omega arith
no_more_channels first (channel ∷ channels) [] = omega arith
no_more_channels first (channel ∷ channels) (sets ∷ all) = omega (arith, no_more_channels (first + row_count sets) channels all)

pub filled_few : (limit : ℕ) (old channels made : List Channel) (all : List (List (List Atom))) → length old ≤ limit → channels ≡ old → made ≡ with_sets 0 channels all → length made ≤ limit
filled_few limit old channels made all few same is =
    let made_few : length made ≤ length channels = subst (λ l. length l ≤ length channels) (sym is) (no_more_channels 0 channels all) in
    let channels_few : length channels ≤ limit = subst (λ l. length l ≤ limit) (sym same) few in
    omega arith

none_left : (first : ℕ) (channels : List Channel) → with_sets first channels [] ≡ []
none_left first [] = refl
none_left first (channel ∷ channels) = refl

pub fill_none : (made channels : List Channel) (channel : Channel) (first : ℕ) (all : List (List (List Atom))) → slice_get all (length made) ≡ None
    → made ++ with_sets first channels (drop (length made) all) ≡ made ++ with_sets first (channel ∷ channels) (drop (length made) all)
fill_none made channels channel first all at =
    let rest = drop_none all (length made) at in
    ap (λ sets. made ++ with_sets first channels sets) rest ∙ ap (λ xs. made ++ xs) (none_left first channels)
    ∙ ap (λ sets. made ++ with_sets first (channel ∷ channels) sets) (sym rest)

fill_some : (made new channels : List Channel) (channel : Channel) (first next : ℕ) (all : List (List (List Atom))) (sets : List (List Atom))
    → slice_get all (length made) ≡ Some sets → next ≡ first + row_count sets → new ≡ made ++ record channel { fields = Some sets; first = first } ∷ []
    → new ++ with_sets next channels (drop (length new) all) ≡ made ++ with_sets first (channel ∷ channels) (drop (length made) all)
fill_some made new channels channel first next all sets at next_is new_is =
    let one : Channel = record channel { fields = Some sets; first = first } in
    let longer : length new ≡ length made + 1 = ap length new_is ∙ length-append made (one ∷ []) in
    let here : drop (length made) all ≡ sets ∷ drop (length made + 1) all =
    drop_read all (length made) sets (slice_get_within all (length made) sets at) (sym (get_or_from_slice_get all (length made) sets sets at)) in
    (λ j. new_is j ++ with_sets (next_is j) channels (drop (longer j) all))
    ∙ append_assoc made (one ∷ []) (with_sets (first + row_count sets) channels (drop (length made + 1) all))
    ∙ ap (λ rest. made ++ with_sets first (channel ∷ channels) rest) (sym here)

-- one more channel has its field sets
pub fill_ok : {E : Type 0} (r : Result ℕ E) (made new : List Channel) (channel : Channel) (first : ℕ) (all : List (List (List Atom))) (sets : List (List Atom))
    → slice_get all (length made) ≡ Some sets → IfOk r (λ next. next ≡ first + row_count sets) → OnOk r (new ≡ made ++ record channel { fields = Some sets; first = first } ∷ [])
    → IfOk r (λ next. (channels : List Channel) → new ++ with_sets next channels (drop (length new) all) ≡ made ++ with_sets first (channel ∷ channels) (drop (length made) all))
fill_ok (Ok next) made new channel first all sets at next_is new_is = λ channels. fill_some made new channels channel first next all sets at next_is new_is
fill_ok (Err e) made new channel first all sets at next_is new_is = tt

-- an error of one type is the error of all
pub stop_err : (r : Result (List (List Atom)) EvalFault) (e : EvalFault) (old new : List (List Atom)) (outcome : Outcome (List Atom)) (whole : Outcome (List (List Atom)))
    → IsErrAnd r (λ y. y ≡ e) → ((why : ValueKind) → outcome ≡ Err why → whole ≡ Err why) → GivesOneMore (Err e) old new outcome → Gives r whole
stop_err r e old new outcome whole is along owed = at_err (λ q. Gives q whole) r e is (weaker (λ why. outcome ≡ Err why) (λ why. whole ≡ Err why) e owed along)
