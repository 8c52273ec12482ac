-- The laws of events, comprehensions and productions, at expressions.
use Rattle.value_laws.proofs.Prelude.{◌≡◌, ℕ, Bool, true, false, cond, List, Ok, Err, sym, ◌∙◌, ap, Outcome, and_then, Env, Front, Meaning, lack_sets, one_event, Turn, front, front_events, front_of_layer, meaning, meaning_of_layer, turn, turn_of_layer, uses_within, value_within, meanings, EventPart, Expr, fold-roll-Expr, map-Expr, Expr-F, roll-Expr, Gen, Kind, Content, ComprehensionsHoldTheirItems, ProductionsHoldWhatBegins, fronts_within, turns_within, Value, One, items_by_loops, fronts_by_loops}
use Rattle.value_laws.proofs.Fronts.{events_held}
use Rattle.value_laws.proofs.Walks.{items_held}
use Rattle.csp_atoms.specs.declared.atom.Atom.TheVariants as atom
use Rattle.csp_program.specs.declared.expressions.Expr.TheVariants as expr

-- an expression means what its form means
form_meaning : (p : Content) (n : ℕ) (e : Expr) (d : Expr-F Expr Gen EventPart) → roll-Expr d ≡ e → (env : Env)
    → meaning (uses_within p n) p.channels e env ≡ meaning_of_layer (uses_within p n) p.channels (map-Expr Expr Gen EventPart Meaning Turn Front (meaning (uses_within p n) p.channels) (turn (uses_within p n) p.channels) (front (uses_within p n) p.channels) d) env
form_meaning p n e d rolls env =
    ap (λ z. meaning (uses_within p n) p.channels z env) (sym rolls) ∙
    (λ i. fold-roll-Expr Meaning Turn Front (meaning_of_layer (uses_within p n) p.channels) (turn_of_layer (uses_within p n) p.channels) (front_of_layer (uses_within p n) p.channels) d i env)

pub event_worth : (p : Content) (n c : ℕ) (fields : List Expr) (env : Env)
    → value_within p n (expr.Event c fields) env ≡ and_then (front_events p.channels c (meanings p n fields) env) (λ es. and_then (one_event es) (λ e. Ok (One (atom.Event e))))
event_worth p n c fields env = form_meaning p n (expr.Event c fields) (Expr-F.Event c fields) (expr.rolls-Event c fields) env

pub comprehensions_hold_their_items : ComprehensionsHoldTheirItems
comprehensions_hold_their_items p n items gens env v h =
    items_held (meanings p n items) (turns_within p n gens) env v
    (sym (items_by_loops (turns_within p n gens) (meanings p n items) env) ∙ (sym (form_meaning p n (expr.Comp items gens) (Expr-F.Comp items gens) (expr.rolls-Comp items gens) env) ∙ h))

-- a production that has a value is one over channels that have their sets
pub with_sets : (t : Bool) (o : Outcome Value) (v : Value) → cond t (Err Kind) o ≡ Ok v → o ≡ Ok v
with_sets true o v h = absurd (cc)
with_sets false o v h = h

pub productions_hold_what_begins : ProductionsHoldWhatBegins
productions_hold_what_begins p ordered n parts gens env v h =
    events_held p ordered (fronts_within p n parts) (turns_within p n gens) env v
    (sym (fronts_by_loops (turns_within p n gens) p.channels (fronts_within p n parts) env) ∙
    with_sets (lack_sets p.channels (fronts_within p n parts)) _ v (sym (form_meaning p n (expr.Product parts gens) (Expr-F.Product parts gens) (expr.rolls-Product parts gens) env) ∙ h))
