-- The fields of an event, one after another, in numbers that count so many for one.
use Rattle.csp_values.proofs.Prelude.{◌≡◌, ℕ, zero, suc, ◌+◌, ◌-◌, ◌*◌, ◌<◌, ◌≤◌, ◌^◌, min, List, [], ◌∷◌, Some, Ok, Err, Bool, true, false, cond, length, drop, drop_of_length-le, get_or, refl, ap, sym, ◌∙◌, subst, arith, nat_eq, slice_get, row_count, Outcome, and_then, Env, meanings, sets_of, event_table, Expr, ValueKind, OutsideChannel, Channel, Content, field_place, first_of, ChannelsFit, front_count, Atom, Value, One, Many, capped, count_with, each_of, scaled, worth, fields_worth, front_worth, number_fits, drop_read, and_then_regroup, came_through, stops_left}
use Rattle.csp_values.proofs.Equations.{fields-nil, fields-none, fields-cons, front-some, same_count}

abbrev pub found : ℕ → Outcome ℕ
found n = Ok n

-- the number of fields after others, where both count so many for one
unfoldable pub fields_after : Content → ℕ → Env → List Expr → List (List Atom) → ℕ → ℕ → Outcome ℕ
fields_after p n env [] sets each number = Ok number
fields_after p n env (e ∷ es) [] each number = Err OutsideChannel
fields_after p n env (e ∷ es) (set ∷ sets) each number =
    and_then (worth p n env e) (λ v. and_then (field_place set v) (λ place. fields_after p n env es sets each (number * length set + place * each)))

pub one_field : (k l place each : ℕ) → (k * l + place) * each ≡ k * each * l + place * each
one_field k l place each = omega arith

pub scaled_place : (o : Outcome ℕ) (f g : ℕ → Outcome ℕ) (each : ℕ) → ((place : ℕ) → scaled (f place) each ≡ g place) → scaled (and_then o f) each ≡ and_then o g
scaled_place (Ok place) f g each h = h place
scaled_place (Err k) f g each h = refl

scaled_step : (o : Outcome Value) (set : List Atom) (f g : ℕ → Outcome ℕ) (each : ℕ) → ((place : ℕ) → scaled (f place) each ≡ g place)
    → scaled (and_then o (λ v. and_then (field_place set v) f)) each ≡ and_then o (λ v. and_then (field_place set v) g)
scaled_step (Ok v) set f g each h = scaled_place (field_place set v) f g each h
scaled_step (Err k) set f g each h = refl

scaled_is : (p : Content) (n : ℕ) (env : Env) (es : List Expr) (sets : List (List Atom)) (each k : ℕ) → scaled (fields_worth p n env es sets k) each ≡ fields_after p n env es sets each (k * each)
unfolding fields_after
scaled_is p n env [] sets each k = ap (λ o. scaled o each) (fields-nil p n env sets k)
scaled_is p n env (e ∷ es) [] each k = ap (λ o. scaled o each) (fields-none p n env e es k)
scaled_is p n env (e ∷ es) (set ∷ sets) each k =
    ap (λ o. scaled o each) (fields-cons p n env e es set sets k) ∙
    scaled_step (worth p n env e) set (λ place. fields_worth p n env es sets (k * length set + place)) (λ place. fields_after p n env es sets each (k * each * length set + place * each)) each
    (λ place. scaled_is p n env es sets each (k * length set + place) ∙ ap (fields_after p n env es sets each) (one_field k (length set) place each))

pub fields_begin : (p : Content) (n : ℕ) (env : Env) (es : List Expr) (sets : List (List Atom)) (each : ℕ)
    → capped (scaled (fields_worth p n env es sets 0) each) ≡ capped (fields_after p n env es sets each 0)
fields_begin p n env es sets each = ap capped (scaled_is p n env es sets each 0 ∙ ap (fields_after p n env es sets each) (omega arith))

-- a number that has stopped gives what the whole one gives
pub capped_place : (o : Outcome ℕ) (f g : ℕ → Outcome ℕ) → ((place : ℕ) → capped (f place) ≡ capped (g place)) → capped (and_then o f) ≡ capped (and_then o g)
capped_place (Ok place) f g h = h place
capped_place (Err k) f g h = refl

capped_step : (o : Outcome Value) (set : List Atom) (f g : ℕ → Outcome ℕ) → ((place : ℕ) → capped (f place) ≡ capped (g place))
    → capped (and_then o (λ v. and_then (field_place set v) f)) ≡ capped (and_then o (λ v. and_then (field_place set v) g))
capped_step (Ok v) set f g h = capped_place (field_place set v) f g h
capped_step (Err k) set f g h = refl

pub stops_before : (x l r most : ℕ) → min (min x most * l + r) most ≡ min (x * l + r) most
stops_before x l r most = let left = stops_left x l most in omega arith

pub stops_twice : (x most : ℕ) → min (min x most) most ≡ min x most
stops_twice x most = omega arith

abbrev pub greatest : ℕ
greatest = 2 ^ 64 - 1

stopped : (p : Content) (n : ℕ) (env : Env) (es : List Expr) (sets : List (List Atom)) (each x : ℕ) → capped (fields_after p n env es sets each (min x greatest)) ≡ capped (fields_after p n env es sets each x)
unfolding fields_after
stopped p n env [] sets each x = ap (λ m. found m) (stops_twice x greatest)
stopped p n env (e ∷ es) [] each x = refl
stopped p n env (e ∷ es) (set ∷ sets) each x =
    capped_step (worth p n env e) set (λ place. fields_after p n env es sets each (min x greatest * length set + place * each)) (λ place. fields_after p n env es sets each (x * length set + place * each))
    (λ place. sym (stopped p n env es sets each (min x greatest * length set + place * each)) ∙
    ap (λ m. capped (fields_after p n env es sets each m)) (stops_before x (length set) (place * each) greatest) ∙
    stopped p n env es sets each (x * length set + place * each))

pub fields_end : (p : Content) (n : ℕ) (env : Env) (sets : List (List Atom)) (each number : ℕ) → number ≤ 2 ^ 64 - 1 → capped (fields_after p n env [] sets each number) ≡ Ok number
unfolding fields_after
fields_end p n env sets each number within = let same : min number greatest ≡ number = omega arith in ap (λ m. found m) same

pub fields_too_many : (whole : Outcome ℕ) (p : Content) (n : ℕ) (env : Env) (es : List Expr) (sets : List (List Atom)) (each number i : ℕ) (e : Expr)
    → whole ≡ capped (fields_after p n env (drop i es) sets each number) → i < length es → e ≡ get_or es i e → length sets ≡ 0 → whole ≡ Err OutsideChannel
unfolding fields_after
fields_too_many whole p n env es [] each number i e w lt is none = w ∙ ap (λ xs. capped (fields_after p n env xs [] each number)) (drop_read es i e lt is)
fields_too_many whole p n env es (set ∷ sets) each number i e w lt is none = absurd (omega arith)

abbrev fields_next : Content → ℕ → Env → List Expr → List Atom → List (List Atom) → ℕ → ℕ → Outcome Value → Outcome ℕ
fields_next p n env es set sets each number o = and_then o (λ v. and_then (field_place set v) (λ place. fields_after p n env es sets each (number * length set + place * each)))

fields_here : (p : Content) (n : ℕ) (env : Env) (es : List Expr) (all : List (List Atom)) (set : List Atom) (others : List (List Atom)) (each number i : ℕ) (e : Expr)
    → i < length es → e ≡ get_or es i e → all ≡ set ∷ others → fields_after p n env (drop i es) all each number ≡ fields_next p n env (drop (i + 1) es) set others each number (worth p n env e)
unfolding fields_after
fields_here p n env es all set others each number i e lt is split =
    ap (λ xs. fields_after p n env xs all each number) (drop_read es i e lt is) ∙ ap (λ ss. fields_after p n env (e ∷ drop (i + 1) es) ss each number) split

field_then : (whole : Outcome ℕ) (p : Content) (n : ℕ) (env : Env) (es : List Expr) (all : List (List Atom)) (set : List Atom) (others : List (List Atom)) (each number i : ℕ) (e : Expr)
    → whole ≡ capped (fields_after p n env (drop i es) all each number) → i < length es → e ≡ get_or es i e → all ≡ set ∷ others
    → whole ≡ capped (and_then (and_then (worth p n env e) (λ v. field_place set v)) (λ place. fields_after p n env (drop (i + 1) es) others each (number * length set + place * each)))
field_then whole p n env es all set others each number i e w lt is split =
    w ∙ ap capped (fields_here p n env es all set others each number i e lt is split ∙
    and_then_regroup (worth p n env e) (λ v. field_place set v) (λ place. fields_after p n env (drop (i + 1) es) others each (number * length set + place * each)))

pub field_refused : (whole : Outcome ℕ) (p : Content) (n : ℕ) (env : Env) (es : List Expr) (all : List (List Atom)) (set : List Atom) (others : List (List Atom)) (each number i : ℕ) (e : Expr) (k : ValueKind)
    → whole ≡ capped (fields_after p n env (drop i es) all each number) → i < length es → e ≡ get_or es i e → all ≡ set ∷ others → and_then (worth p n env e) (λ v. field_place set v) ≡ Err k → whole ≡ Err k
field_refused whole p n env es all set others each number i e k w lt is split bad =
    field_then whole p n env es all set others each number i e w lt is split ∙
    ap (λ o. capped (and_then o (λ place. fields_after p n env (drop (i + 1) es) others each (number * length set + place * each)))) bad

same_found : (m k : ℕ) → found m ≡ found k → m ≡ k
same_found m k h = cc

pub field_taken : (whole : Outcome ℕ) (p : Content) (n : ℕ) (env : Env) (es : List Expr) (all : List (List Atom)) (set : List Atom) (others : List (List Atom)) (each number more place i : ℕ) (e : Expr)
    → whole ≡ capped (fields_after p n env (drop i es) all each number) → i < length es → e ≡ get_or es i e → all ≡ set ∷ others → and_then (worth p n env e) (λ v. field_place set v) ≡ Ok place
    → more ≡ min (number * length set + place * each) greatest → whole ≡ capped (fields_after p n env (drop (i + 1) es) others each more)
field_taken whole p n env es all set others each number more place i e w lt is split taken counted =
    field_then whole p n env es all set others each number i e w lt is split ∙
    (ap (λ o. capped (and_then o (λ k. fields_after p n env (drop (i + 1) es) others each (number * length set + k * each)))) taken ∙
    sym (stopped p n env (drop (i + 1) es) others each (number * length set + place * each)) ∙
    ap (λ m. capped (fields_after p n env (drop (i + 1) es) others each m)) (sym counted))

-- where a channel has no event, its first fields have no value or the others leave no choice
pub place_in_some : (set : List Atom) (v : Value) (place : ℕ) → field_place set v ≡ Ok place → length set ≡ 0 → ⊥
place_in_some [] (One a) place h none = absurd (cc)
place_in_some [] (Many atoms) place h none = absurd (cc)
place_in_some (b ∷ set) v place h none = omega arith

pub other_is_none : (l r : ℕ) → (l ≡ 0 → ⊥) → l * r ≡ 0 → r ≡ 0
other_is_none zero r some h = absurd (some refl)
other_is_none (suc l) zero some h = refl
other_is_none (suc l) (suc r) some h = absurd (omega arith)

none_left : (p : Content) (n : ℕ) (env : Env) (es : List Expr) (sets : List (List Atom)) (k m : ℕ) → fields_worth p n env es sets k ≡ Ok m → row_count sets ≡ 0 → row_count (drop (length es) sets) ≡ 0
none_left p n env [] sets k m h none = none
none_left p n env (e ∷ es) [] k m h none = absurd (omega arith)
none_left p n env (e ∷ es) (set ∷ sets) k m h none =
    let first = came_through (worth p n env e) (λ v. and_then (field_place set v) (λ place. fields_worth p n env es sets (k * length set + place))) m (sym (fields-cons p n env e es set sets k) ∙ h) in
    let second = came_through (field_place set first.0) (λ place. fields_worth p n env es sets (k * length set + place)) m first.2 in
    none_left p n env es sets (k * length set + second.0) m second.2
    (other_is_none (length set) (row_count sets) (place_in_some set first.0 second.0 second.1) none)

is_zero : (r : ℕ) → nat_eq r 0 ≡ true → r ≡ 0
is_zero r h = grind arith

pub each_same : (sets : List (List Atom)) (o : Outcome ℕ) (given : ℕ) → ((m : ℕ) → o ≡ Ok m → row_count sets ≡ 0 → row_count (drop given sets) ≡ 0) → (b : Bool) → nat_eq (row_count sets) 0 ≡ b
    → scaled o (cond b 0 (row_count (drop given sets))) ≡ and_then o (λ k. Ok (k * row_count (drop given sets)))
each_same sets (Err k) given h b is = refl
each_same sets (Ok m) given h false is = refl
each_same sets (Ok m) given h true is = ap (λ r. found (m * r)) (sym (h m refl (is_zero (row_count sets) is)))

pub front_some_then : (fields o : Outcome ℕ) (first each : ℕ) (whole : Outcome ℕ) → whole ≡ and_then fields (λ k. Ok (first + k * each)) → o ≡ and_then fields (λ k. Ok (k * each)) → whole ≡ and_then o (λ place. Ok (first + place))
front_some_then (Ok k) o first each whole w is = w ∙ ap (λ z. and_then z (λ place. found (first + place))) (sym is)
front_some_then (Err k) o first each whole w is = w ∙ ap (λ z. and_then z (λ place. found (first + place))) (sym is)

pub front_scaled : (p : Content) (n : ℕ) (env : Env) (c : ℕ) (es : List Expr) (sets : List (List Atom)) (o : Outcome ℕ) → sets_of (slice_get p.channels c) ≡ Some sets → scaled (fields_worth p n env es sets 0) (each_of sets (length es)) ≡ o
    → front_worth p n env c es ≡ and_then o (λ place. Ok (first_of (slice_get p.channels c) + place))
front_scaled p n env c es sets o has is =
    front_some_then (fields_worth p n env es sets 0) o (first_of (slice_get p.channels c)) (row_count (drop (length es) sets)) (front_worth p n env c es) (front-some p n env c es sets has)
    (sym is ∙ each_same sets (fields_worth p n env es sets 0) (length es) (λ m h none. none_left p n env es sets 0 m h none) (nat_eq (row_count sets) 0) refl)

-- ---- numbers of events that fit

-- fields that are counted over the choices of the others
pub counted_over : (fields : Outcome ℕ) (count each : ℕ) → each ≡ min count greatest → capped (scaled fields count) ≡ capped (scaled fields each)
counted_over (Err k) count each is = refl
counted_over (Ok k) count each is =
    let stops = stops_left count k greatest in
    let same : min (k * count) greatest ≡ min (k * each) greatest = ap (λ m. min m greatest) (omega arith) ∙ sym stops ∙ ap (λ m. min (m * k) greatest) (sym is) ∙ ap (λ m. min m greatest) (omega arith) in
    ap (λ m. found m) same

pub same_number : (m k most place : ℕ) → found (min k most) ≡ found place → m + k < most → place ≡ k
same_number m k most place h within = let is : min k most ≡ place = same_found (min k most) place h in omega arith

below : (e count total : ℕ) → e + count ≤ total → total < 2 ^ 32 → e + count < 2 ^ 32
below e count total h few = omega arith

-- a front's number is one of 32 bits, and so is that after its last event
pub front_fits : (p : Content) (n : ℕ) (env : Env) (c : ℕ) (es : List Expr) (e : ℕ) → ChannelsFit p.channels → front_worth p n env c es ≡ Ok e → e + count_with (sets_of (slice_get p.channels c)) (length es) < 2 ^ 32
unfolding front_worth
front_fits p n env c es e fit h =
    let within = number_fits p.channels fit c (meanings p n es) env e h in
    let count : front_count (sets_of (slice_get p.channels c)) (meanings p n es) ≡ count_with (sets_of (slice_get p.channels c)) (length es) = same_count (sets_of (slice_get p.channels c)) p n es in
    below e (count_with (sets_of (slice_get p.channels c)) (length es)) (length (event_table p.channels)) (subst (λ m. e + m ≤ length (event_table p.channels)) count within) fit.few

place_found : (p : Content) (n : ℕ) (env : Env) (c : ℕ) (es : List Expr) (o : Outcome ℕ) (first place : ℕ) → ChannelsFit p.channels → front_worth p n env c es ≡ and_then o (λ k. Ok (first + k)) → capped o ≡ Ok place
    → (front_worth p n env c es ≡ Ok (first + place)) × (first + place < 2 ^ 32)
place_found p n env c es (Err k) first place fit w is = absurd (cc)
place_found p n env c es (Ok k) first place fit w is =
    let within = front_fits p n env c es (first + k) fit w in
    let same : place ≡ k = same_number first k greatest place is (omega arith) in
    (w ∙ ap (λ m. found (first + m)) (sym same), omega arith)

-- the number of a front from its place among the events of its channel
pub front_placed : (p : Content) (n : ℕ) (env : Env) (c : ℕ) (es : List Expr) (sets : List (List Atom)) (channels : List Channel) (place : ℕ) → channels ≡ p.channels → ChannelsFit channels → sets_of (slice_get channels c) ≡ Some sets
    → capped (scaled (fields_worth p n env es sets 0) (each_of sets (length es))) ≡ Ok place
    → (front_worth p n env c es ≡ Ok (first_of (slice_get channels c) + place)) × (first_of (slice_get channels c) + place < 2 ^ 32)
front_placed p n env c es sets channels place got fit has is =
    let has_sets : sets_of (slice_get p.channels c) ≡ Some sets = ap (λ cs. sets_of (slice_get cs c)) (sym got) ∙ has in
    let o = scaled (fields_worth p n env es sets 0) (each_of sets (length es)) in
    let first : first_of (slice_get p.channels c) ≡ first_of (slice_get channels c) = ap (λ cs. first_of (slice_get cs c)) (sym got) in
    place_found p n env c es o (first_of (slice_get channels c)) place (subst ChannelsFit got fit) (front_scaled p n env c es sets o has_sets refl ∙ ap (λ m. and_then o (λ k. found (m + k))) first) is

pub capped_fault : (o : Outcome ℕ) (k : ValueKind) → capped o ≡ Err k → o ≡ Err k
capped_fault (Err j) k h = cc
capped_fault (Ok m) k h = absurd (cc)

pub front_unplaced : (p : Content) (n : ℕ) (env : Env) (c : ℕ) (es : List Expr) (sets : List (List Atom)) (channels : List Channel) (k : ValueKind) → channels ≡ p.channels → sets_of (slice_get channels c) ≡ Some sets
    → capped (scaled (fields_worth p n env es sets 0) (each_of sets (length es))) ≡ Err k → front_worth p n env c es ≡ Err k
front_unplaced p n env c es sets channels k got has is =
    let has_sets : sets_of (slice_get p.channels c) ≡ Some sets = ap (λ cs. sets_of (slice_get cs c)) (sym got) ∙ has in
    front_scaled p n env c es sets (Err k) has_sets (capped_fault (scaled (fields_worth p n env es sets 0) (each_of sets (length es))) k is)

pub ruleset fields_steps = (fields_begin, fields_end, fields_too_many, field_refused, field_taken, drop_of_length-le)

pub ruleset fronts_found = (front_placed, front_unplaced)
