-- The values of events in a program in order.
use Rattle.value_laws.proofs.Prelude.{◌≡◌, ℕ, zero, suc, Bool, nat_eq, IsTrue, Option, Some, Ok, List, [], ◌∷◌, map, length, refl, sym, ◌∙◌, ap, subst, inl, inr, slice_get, eqb-true, length-map, event_table, IsEventTable, channel_in_order, expr_in_order, expr_in_order_of_layer, gen_in_order_of_layer, part_in_order_of_layer, set_in_order, sets_in_order, with_fields, all_true, Env, Front, Meaning, Turn, front_of_layer, meaning, meaning_of_layer, sets_of, turn_of_layer, uses_within, value_within, meanings, Expr, fold-roll-Expr, Expr-F, Channel, Content, EventInfo, first_of, HasSets, HaveValues, StandsAt, IsEventAt, PlacesAreValues, ValuesArePlaces, Atom, Value, One, is_first, is_second}
use Rattle.value_laws.proofs.AtExpressions.{event_worth}
use Rattle.value_laws.proofs.EventPlaces.{event_found, event_there}
use Rattle.value_laws.proofs.Fits.{none_has, program_fits}
use Rattle.value_laws.proofs.Fronts.{has_sets}
use Rattle.value_laws.proofs.TablePlaces.{numbers_are_places, places_are_numbers}
use Rattle.csp_program.specs.declared.expressions.Expr.TheVariants as expr

-- the table of a program is that of its channels, where one of them has its sets
pub table_from_sets : (p : Content) → IsEventTable p → (c : ℕ) (sets : List (List Atom)) → HasSets p.channels c sets → p.events ≡ event_table p.channels
table_from_sets p (inl t) c sets h = t.1
table_from_sets p (inr t) c sets h = absurd (none_has p.channels c sets t.0 h)

-- and where it has an event
table_from_event : (p : Content) → IsEventTable p → (place : ℕ) (x : EventInfo) → slice_get p.events place ≡ Some x → p.events ≡ event_table p.channels
table_from_event p (inl t) place x h = t.1
table_from_event p (inr t) place x h =
    let none : slice_get [] place ≡ Some x = subst (λ (l : List EventInfo). slice_get l place ≡ Some x) t.1 h in
    absurd (cc)

pub stands_in : (p : Content) (c place : ℕ) (row : List Atom) → p.events ≡ event_table p.channels → StandsAt p.channels place c row → IsEventAt p place c row
stands_in p c place row table h = ap (λ (l : List EventInfo). slice_get l place) table ∙ h

-- a channel in order has as many sets as it has fields
module _ (p : Content) where
  pub as_many : (channels : List Channel) (c : ℕ) (sets : List (List Atom)) (count : ℕ) → IsTrue (all_true (map (channel_in_order p) channels)) → HasSets channels c sets
      → IsTrue (with_fields (λ n. nat_eq n count) (slice_get channels c)) → count ≡ length sets
  as_many [] c sets count all h asked = absurd (cc)
  as_many (channel ∷ channels) zero sets count all h asked =
      let own = is_second (all_true (map (expr_in_order p) channel.types)) (sets_in_order p (length channel.types) channel.fields)
      (is_first (channel_in_order p channel) (all_true (map (channel_in_order p) channels)) all) in
      let sets_fit = subst (λ (o : Option (List (List Atom))). IsTrue (sets_in_order p (length channel.types) o)) h own in
      let same_sets : length sets ≡ length channel.types = eqb-true (length sets) (length channel.types) (is_first (nat_eq (length sets) (length channel.types)) (all_true (map (set_in_order p) sets)) sets_fit) in
      sym (same_sets ∙ eqb-true (length channel.types) count asked)
  as_many (channel ∷ channels) (suc c) sets count all h asked =
      as_many channels c sets count (is_second (channel_in_order p channel) (all_true (map (channel_in_order p) channels)) all) h asked

  -- an expression of an event that is in order has as many fields as its channel
  asks : (c : ℕ) (fields : List Expr) → IsTrue (expr_in_order p (expr.Event c fields)) → IsTrue (with_fields (λ n. nat_eq n (length (map (expr_in_order p) fields))) (slice_get p.channels c))
  asks c fields o =
      let rolls = fold-roll-Expr Bool Bool Bool (expr_in_order_of_layer p) (gen_in_order_of_layer p) (part_in_order_of_layer p) (Expr-F.Event c fields) in
      is_first (with_fields (λ n. nat_eq n (length (map (expr_in_order p) fields))) (slice_get p.channels c)) (all_true (map (expr_in_order p) fields))
      (sym rolls ∙ ap (expr_in_order p) (expr.rolls-Event c fields) ∙ o)

  lit_meaning : (n : ℕ) (v : Value) → meaning (uses_within p n) p.channels (expr.Lit v) ≡ meaning_of_layer (uses_within p n) p.channels (Expr-F.Lit v)
  lit_meaning n v =
      ap (meaning (uses_within p n) p.channels) (sym (expr.rolls-Lit v)) ∙
      fold-roll-Expr Meaning Turn Front (meaning_of_layer (uses_within p n) p.channels) (turn_of_layer (uses_within p n) p.channels) (front_of_layer (uses_within p n) p.channels) (Expr-F.Lit v)

  put_values : (n : ℕ) (row : List Atom) (env : Env) → HaveValues (meanings p n (map (λ a. expr.Lit (One a)) row)) env row
  put_values n [] env = refl
  put_values n (a ∷ row) env =
      let first : value_within p n (expr.Lit (One a)) env ≡ Ok (One a) = ap (λ (m : Meaning). m env) (lit_meaning n (One a)) in
      let rest = put_values n row env in
      rw (first, rest) refl

pub values_are_places : ValuesArePlaces
values_are_places p ordered n c fields env v o h =
    let ms = meanings p n fields in
    let through = event_found p.channels (program_fits p ordered) c ms env v (sym (event_worth p n c fields env) ∙ h) in
    let s = has_sets (first_of (slice_get p.channels c)) (sets_of (slice_get p.channels c)) ms env through.0 through.1 in
    let same_length : length ms ≡ length (map (expr_in_order p) fields) = length-map fields (meaning (uses_within p n) p.channels) ∙ sym (length-map fields (expr_in_order p)) in
    let found = numbers_are_places p ordered c s.0 ms env through.0 s.1
    (same_length ∙ as_many p p.channels c s.0 (length (map (expr_in_order p) fields)) ordered.channels_used s.1 (asks p c fields o)) through.1 in
    (through.0, found.0, through.2, found.1, stands_in p c through.0 found.0 (table_from_sets p ordered.table c s.0 s.1) found.2)

pub places_are_values : PlacesAreValues
places_are_values p ordered n place c row env h =
    let table = table_from_event p ordered.table place _ h in
    let stands = ap (λ (l : List EventInfo). slice_get l place) (sym table) ∙ h in
    event_worth p n c (map (λ a. expr.Lit (One a)) row) env ∙
    event_there p.channels (program_fits p ordered) c (meanings p n (map (λ a. expr.Lit (One a)) row)) env row (put_values p n row env) place stands
    (places_are_numbers p ordered c place row stands (meanings p n (map (λ a. expr.Lit (One a)) row)) env (put_values p n row env))
