-- What each form of an expression, of a list and of generators comes to, in terms of its parts.
use Rattle.csp_values.proofs.Prelude.{◌≡◌, ℕ, zero, suc, ◌+◌, ◌-◌, ◌<◌, ◌≤◌, Bool, true, false, cond, List, [], ◌∷◌, Some, None, Ok, Err, map, length, drop, refl, ap, sym, ◌∙◌, arith, ◌*◌, ◌||◌, is_none, nat_lt, slice_get, Option, added, all_added, row_count, Outcome, and_then, lack_sets, Env, Meaning, Turn, Front, value_of, value_within, Gathered, from, when, meaning, turn, front, meaning_of_layer, turn_of_layer, front_of_layer, uses_within, as_atom, items_added, walked, gathered, sets_of, bound_to, many, body_value, def_value, front_events, fronts_added, one_event, meanings, EventPart, Expr, fold-roll-Expr, fold-roll-Gen, fold-roll-EventPart, map-Expr, Expr-F, Gen-F, roll-Expr, out-EventPart, roll-out-EventPart, Gen, Kind, OutsideChannel, SetLimit, Content, Def, ChannelsFit, events_from, field_place, first_of, front_count, front_number, span, events_are_found, Atom, Value, One, gathered_set, nothing_yet, count_with, produced, worth, worths, use_worth, body_worth, with_items, event_worth, fields_worth, front_worth, with_front, with_fronts, yielded, one_more_binding, walk_worth, Net, Proc, MOST_BINDINGS, items_by_loops, fronts_by_loops, set_with_atoms}
use Rattle.csp_atoms.specs.declared.atom.Atom.TheVariants as atom
use Rattle.csp_program.specs.declared.expressions.Expr.TheVariants as expr
use Rattle.csp_program.specs.declared.expressions.Gen.TheVariants as generator
use Rattle.csp_program.specs.declared.programs.Body.TheVariants as body
use Rattle.value_operators.specs.Forms as form

-- what a form comes to, in terms of its parts
pub at : (p : Content) (n : ℕ) (env : Env) (e : Expr) (d : Expr-F Expr Gen EventPart) → roll-Expr d ≡ e
    → meaning (uses_within p n) p.channels e env ≡ meaning_of_layer (uses_within p n) p.channels (map-Expr Expr Gen EventPart Meaning Turn Front (meaning (uses_within p n) p.channels) (turn (uses_within p n) p.channels) (front (uses_within p n) p.channels) d) env
at p n env e d is =
    ap (λ z. meaning (uses_within p n) p.channels z env) (sym is) ∙
    (λ i. fold-roll-Expr Meaning Turn Front (meaning_of_layer (uses_within p n) p.channels) (turn_of_layer (uses_within p n) p.channels) (front_of_layer (uses_within p n) p.channels) d i env)

and_then_ok : {A : Type 0} (o : Outcome A) → and_then o (λ x. Ok x) ≡ o
and_then_ok (Ok x) = refl
and_then_ok (Err k) = refl

pub front-is : (p : Content) (n : ℕ) (part : EventPart) → front (uses_within p n) p.channels part ≡ record { channel = (out-EventPart part).channel; fields = meanings p n (out-EventPart part).fields }
front-is p n part =
    ap (front (uses_within p n) p.channels) (sym (roll-out-EventPart part)) ∙
    fold-roll-EventPart Meaning Turn Front (meaning_of_layer (uses_within p n) p.channels) (turn_of_layer (uses_within p n) p.channels) (front_of_layer (uses_within p n) p.channels) (out-EventPart part)

fronts_lack : (p : Content) (n : ℕ) (parts : List EventPart) → lack_sets p.channels (map (front (uses_within p n) p.channels) parts) ≡ form.lack_sets p.channels parts
fronts_lack p n [] = refl
fronts_lack p n (part ∷ parts) = λ i. is_none (sets_of (slice_get p.channels (front-is p n part i).channel)) || fronts_lack p n parts i

pub worth-Product : (p : Content) (n : ℕ) (env : Env) (parts : List EventPart) (gens : List Gen)
    → worth p n env (expr.Product parts gens) ≡ produced (form.lack_sets p.channels parts) (walk_worth p n gens [] parts env nothing_yet)
unfolding worth worths use_worth front_worth with_items with_fronts walk_worth
worth-Product p n env parts gens =
    at p n env (expr.Product parts gens) (Expr-F.Product parts gens) (expr.rolls-Product parts gens) ∙
    ap (cond (lack_sets p.channels (map (front (uses_within p n) p.channels) parts)) (Err Kind))
    (fronts_by_loops (map (turn (uses_within p n) p.channels) gens) p.channels (map (front (uses_within p n) p.channels) parts) env) ∙
    ap (λ (t : Bool). produced t (walk_worth p n gens [] parts env nothing_yet)) (fronts_lack p n parts)

pub worth-Comp : (p : Content) (n : ℕ) (env : Env) (items : List Expr) (gens : List Gen) → worth p n env (expr.Comp items gens) ≡ gathered_set (walk_worth p n gens items [] env nothing_yet)
unfolding worth worths use_worth front_worth with_items with_fronts walk_worth
worth-Comp p n env items gens =
    at p n env (expr.Comp items gens) (Expr-F.Comp items gens) (expr.rolls-Comp items gens) ∙
    items_by_loops (map (turn (uses_within p n) p.channels) gens) (meanings p n items) env ∙
    (λ i. gathered_set (walked (map (turn (uses_within p n) p.channels) gens) (gathered (λ inner atoms. sym (and_then_ok (items_added (meanings p n items) inner atoms)) i)) env nothing_yet))

pub worths-nil : (p : Content) (n : ℕ) (env : Env) → worths p n env [] ≡ Ok []
unfolding worths
worths-nil p n env = refl

pub worths-cons : (p : Content) (n : ℕ) (env : Env) (e : Expr) (es : List Expr) → worths p n env (e ∷ es) ≡ and_then (worth p n env e) (λ v. and_then (worths p n env es) (λ vs. Ok (v ∷ vs)))
unfolding worths worth
worths-cons p n env e es = refl

pub with_items-nil : (p : Content) (n : ℕ) (env : Env) (atoms : List Atom) → with_items p n env [] atoms ≡ Ok atoms
unfolding with_items
with_items-nil p n env atoms = refl

pub with_items-cons : (p : Content) (n : ℕ) (env : Env) (e : Expr) (es : List Expr) (atoms : List Atom)
    → with_items p n env (e ∷ es) atoms ≡ and_then (worth p n env e) (λ v. and_then (as_atom v) (λ a. and_then (added atoms a) (λ more. with_items p n env es more)))
unfolding with_items worth
with_items-cons p n env e es atoms = refl

pub fields-nil : (p : Content) (n : ℕ) (env : Env) (sets : List (List Atom)) (k : ℕ) → fields_worth p n env [] sets k ≡ Ok k
unfolding fields_worth
fields-nil p n env sets k = refl

pub fields-none : (p : Content) (n : ℕ) (env : Env) (e : Expr) (es : List Expr) (k : ℕ) → fields_worth p n env (e ∷ es) [] k ≡ Err OutsideChannel
unfolding fields_worth
fields-none p n env e es k = refl

pub fields-cons : (p : Content) (n : ℕ) (env : Env) (e : Expr) (es : List Expr) (set : List Atom) (sets : List (List Atom)) (k : ℕ)
    → fields_worth p n env (e ∷ es) (set ∷ sets) k ≡ and_then (worth p n env e) (λ v. and_then (field_place set v) (λ place. fields_worth p n env es sets (k * length set + place)))
unfolding fields_worth worth
fields-cons p n env e es set sets k = refl

chained : {A B C : Type 0} (o : Outcome A) (f : A → Outcome B) (g : B → Outcome C) → and_then o (λ a. and_then (f a) g) ≡ and_then (and_then o (λ a. and_then (f a) (λ b. Ok b))) g
chained (Ok a) f g = ap (λ z. and_then z g) (sym (and_then_ok (f a)))
chained (Err k) f g = refl

pub fronts-nil : (p : Content) (n : ℕ) (env : Env) (atoms : List Atom) → with_fronts p n env [] atoms ≡ Ok atoms
unfolding with_fronts
fronts-nil p n env atoms = refl

pub fronts-cons : (p : Content) (n : ℕ) (env : Env) (part : EventPart) (parts : List EventPart) (atoms : List Atom)
    → with_fronts p n env (part ∷ parts) atoms ≡ and_then (with_front p n env part atoms) (λ more. with_fronts p n env parts more)
unfolding with_fronts with_front
fronts-cons p n env part parts atoms =
    let f : Front = front (uses_within p n) p.channels part in
    chained (front_events p.channels f.channel f.fields env)
    (λ es. all_added atoms (map (λ e. atom.Event e) es))
    (λ more. fronts_added p.channels (map (front (uses_within p n) p.channels) parts) env more)

pub front-none : (p : Content) (n : ℕ) (env : Env) (c : ℕ) (fields : List Expr) → sets_of (slice_get p.channels c) ≡ None → front_worth p n env c fields ≡ Err Kind
unfolding front_worth
front-none p n env c fields h = ap (λ s. front_number (first_of (slice_get p.channels c)) s (meanings p n fields) env) h

same_length : (p : Content) (n : ℕ) (es : List Expr) → length (meanings p n es) ≡ length es
same_length p n [] = refl
same_length p n (e ∷ es) = ap suc (same_length p n es)

pub front-some : (p : Content) (n : ℕ) (env : Env) (c : ℕ) (fields : List Expr) (sets : List (List Atom)) → sets_of (slice_get p.channels c) ≡ Some sets
    → front_worth p n env c fields ≡ and_then (fields_worth p n env fields sets 0) (λ k. Ok (first_of (slice_get p.channels c) + k * row_count (drop (length fields) sets)))
unfolding front_worth fields_worth
front-some p n env c fields sets h =
    ap (λ s. front_number (first_of (slice_get p.channels c)) s (meanings p n fields) env) h ∙
    (λ i. and_then (fields_worth p n env fields sets 0) (λ k. Ok (first_of (slice_get p.channels c) + k * row_count (drop (same_length p n fields i) sets))))

pub use-none_left : (p : Content) (d : ℕ) (args : List Value) → use_worth p 0 d args ≡ Err Kind
unfolding use_worth
use-none_left p d args = refl

pub use-unknown : (p : Content) (n d : ℕ) (args : List Value) → slice_get p.defs d ≡ None → use_worth p n d args ≡ Err Kind
unfolding use_worth
use-unknown p zero d args h = refl
use-unknown p (suc n) d args h = ap (λ def. def_value (meaning (uses_within p n) p.channels) def args) h

pub use-known : (p : Content) (n d : ℕ) (args : List Value) (def : Def) → 0 < n → slice_get p.defs d ≡ Some def → use_worth p n d args ≡ body_worth p (n - 1) def args
unfolding use_worth body_worth
use-known p zero d args def lt h = absurd (omega arith)
use-known p (suc n) d args def lt h =
    let less : suc n - 1 ≡ n = omega arith in
    ap (λ found. def_value (meaning (uses_within p n) p.channels) found args) h ∙ ap (λ m. def_value (meaning (uses_within p m) p.channels) (Some def) args) (sym less)

pub turn-From : (p : Content) (n x : ℕ) (s : Expr) → turn (uses_within p n) p.channels (generator.From x s) ≡ from x (meaning (uses_within p n) p.channels s)
turn-From p n x s =
    ap (turn (uses_within p n) p.channels) (sym (generator.rolls-From x s)) ∙
    fold-roll-Gen Meaning Turn Front (meaning_of_layer (uses_within p n) p.channels) (turn_of_layer (uses_within p n) p.channels) (front_of_layer (uses_within p n) p.channels) (Gen-F.From x s)

pub turn-Cond : (p : Content) (n : ℕ) (c : Expr) → turn (uses_within p n) p.channels (generator.Cond c) ≡ when (meaning (uses_within p n) p.channels c)
turn-Cond p n c =
    ap (turn (uses_within p n) p.channels) (sym (generator.rolls-Cond c)) ∙
    fold-roll-Gen Meaning Turn Front (meaning_of_layer (uses_within p n) p.channels) (turn_of_layer (uses_within p n) p.channels) (front_of_layer (uses_within p n) p.channels) (Gen-F.Cond c)

pub same_count : (o : Option (List (List Atom))) (p : Content) (n : ℕ) (es : List Expr) → front_count o (meanings p n es) ≡ count_with o (length es)
same_count None p n es = refl
same_count (Some sets) p n es = ap (λ k. row_count (drop k sets)) (same_length p n es)

-- the events of a front, from the number of the first on
pub fronts_of : (p : Content) (n : ℕ) (env : Env) (c : ℕ) (es : List Expr) → ChannelsFit p.channels
    → front_events p.channels c (meanings p n es) env ≡ and_then (front_worth p n env c es) (λ e. Ok (span e (count_with (sets_of (slice_get p.channels c)) (length es))))
unfolding front_worth
fronts_of p n env c es fit =
    events_are_found p.channels fit c (meanings p n es) env ∙
    ap (λ m. and_then (front_number (first_of (slice_get p.channels c)) (sets_of (slice_get p.channels c)) (meanings p n es) env) (λ e. Ok (span e m))) (same_count (sets_of (slice_get p.channels c)) p n es)

event_of_front : (o : Outcome ℕ) (count : ℕ) → and_then (and_then o (λ e. Ok (span e count))) (λ ds. and_then (one_event ds) (λ d. Ok (One (atom.Event d)))) ≡ and_then o (λ e. and_then (one_event (span e count)) (λ d. Ok (One (atom.Event d))))
event_of_front (Ok e) count = refl
event_of_front (Err k) count = refl

pub event-is : (p : Content) (n : ℕ) (env : Env) (c : ℕ) (es : List Expr) → ChannelsFit p.channels
    → event_worth p n env c es ≡ and_then (front_worth p n env c es) (λ e. and_then (one_event (span e (count_with (sets_of (slice_get p.channels c)) (length es)))) (λ d. Ok (One (atom.Event d))))
unfolding event_worth
event-is p n env c es fit =
    ap (λ o. and_then o (λ ds. and_then (one_event ds) (λ d. Ok (One (atom.Event d))))) (fronts_of p n env c es fit) ∙
    event_of_front (front_worth p n env c es) (count_with (sets_of (slice_get p.channels c)) (length es))

last_front : (o : Outcome ℕ) (atoms : List Atom) (count : ℕ)
    → and_then (and_then o (λ e. Ok (span e count))) (λ ds. and_then (all_added atoms (map (λ d. atom.Event d) ds)) (λ more. Ok more)) ≡ and_then o (λ e. all_added atoms (events_from e count))
last_front (Ok e) atoms count = and_then_ok (all_added atoms (events_from e count))
last_front (Err k) atoms count = refl

pub with_front-is : (p : Content) (n : ℕ) (env : Env) (part : EventPart) (atoms : List Atom) → ChannelsFit p.channels
    → with_front p n env part atoms ≡ and_then (front_worth p n env (out-EventPart part).channel (out-EventPart part).fields) (λ e. all_added atoms (events_from e (count_with (sets_of (slice_get p.channels (out-EventPart part).channel)) (length (out-EventPart part).fields))))
unfolding with_front
with_front-is p n env part atoms fit =
    ap (λ f. fronts_added p.channels (f ∷ []) env atoms) (front-is p n part) ∙
    ap (λ o. and_then o (λ ds. and_then (all_added atoms (map (λ d. atom.Event d) ds)) (λ more. Ok more))) (fronts_of p n env (out-EventPart part).channel (out-EventPart part).fields fit) ∙
    last_front (front_worth p n env (out-EventPart part).channel (out-EventPart part).fields) atoms (count_with (sets_of (slice_get p.channels (out-EventPart part).channel)) (length (out-EventPart part).fields))

pub body-Datum : (p : Content) (n : ℕ) (def : Def) (args : List Value) (e : Expr) → def.body ≡ body.Datum e → body_worth p n def args ≡ worth p n (bound_to def.params args) e
unfolding body_worth worth
body-Datum p n def args e is = ap (λ b. body_value (meaning (uses_within p n) p.channels) def.params b args) is

pub body-Nametype : (p : Content) (n : ℕ) (def : Def) (args : List Value) (e : Expr) → def.body ≡ body.Nametype e → body_worth p n def args ≡ worth p n [] e
unfolding body_worth worth
body-Nametype p n def args e is = ap (λ b. body_value (meaning (uses_within p n) p.channels) def.params b args) is

pub body-Datatype : (p : Content) (n : ℕ) (def : Def) (args : List Value) (ks : List ℕ) → def.body ≡ body.Datatype ks → body_worth p n def args ≡ many (all_added [] (map (λ k. atom.Const k) ks))
unfolding body_worth
body-Datatype p n def args ks is = ap (λ b. body_value (meaning (uses_within p n) p.channels) def.params b args) is ∙ ap many (set_with_atoms (λ k. atom.Const k) ks [])

pub body-Process : (p : Content) (n : ℕ) (def : Def) (args : List Value) (q : Proc) → def.body ≡ body.Process q → body_worth p n def args ≡ Err Kind
unfolding body_worth
body-Process p n def args q is = ap (λ b. body_value (meaning (uses_within p n) p.channels) def.params b args) is

pub body-Network : (p : Content) (n : ℕ) (def : Def) (args : List Value) (q : Net) → def.body ≡ body.Network q → body_worth p n def args ≡ Err Kind
unfolding body_worth
body-Network p n def args q is = ap (λ b. body_value (meaning (uses_within p n) p.channels) def.params b args) is

-- one more binding
no_room : (b : ℕ) → MOST_BINDINGS ≤ b → nat_lt b MOST_BINDINGS ≡ false
no_room b h = grind arith

room : (b : ℕ) → b < MOST_BINDINGS → nat_lt b MOST_BINDINGS ≡ true
room b h = grind arith

abbrev counted : ℕ → Outcome (List Atom) → Outcome Gathered
counted b o = and_then o (λ atoms. Ok (record { bindings = b + 1; atoms = atoms }))

pub binding-full : (p : Content) (n : ℕ) (items : List Expr) (parts : List EventPart) (env : Env) (state : Gathered) → MOST_BINDINGS ≤ state.bindings → one_more_binding p n items parts env state ≡ Err SetLimit
unfolding one_more_binding
binding-full p n items parts env state h = ap (λ b. cond b (counted state.bindings (yielded p n items parts env state.atoms)) (Err SetLimit)) (no_room state.bindings h)

pub binding-room : (p : Content) (n : ℕ) (items : List Expr) (parts : List EventPart) (env : Env) (state : Gathered) → state.bindings < MOST_BINDINGS
    → one_more_binding p n items parts env state ≡ and_then (and_then (with_items p n env items state.atoms) (λ more. with_fronts p n env parts more)) (λ atoms. Ok (record { bindings = state.bindings + 1; atoms = atoms }))
unfolding one_more_binding
binding-room p n items parts env state h = ap (λ b. cond b (counted state.bindings (yielded p n items parts env state.atoms)) (Err SetLimit)) (room state.bindings h)

pub whole_value : (p : Content) (e : Expr) (n : ℕ) → n ≡ length p.defs → value_of p e ≡ worth p n [] e
unfolding worth
whole_value p e n is = ap (λ k. value_within p k e []) (sym is)

pub ruleset body_forms = (body-Datum, body-Nametype, body-Datatype, body-Process, body-Network)

pub ruleset use_forms = (use-none_left, use-unknown, use-known)

pub ruleset binding_forms = (binding-full, binding-room)
