-- A component that is looked at: by its table it is free, or goes round.
use Rattle.hidden_bounds.proofs.Prelude.{◌≡◌, ℕ, ◌<◌, List, Some, slice_get, length, get_or, sym, ap, subst, ◌∙◌, arith, set, slice_get-get_or, slice_get_some, Component, ProcessStep, GoesRoundItself, IsOwnHeight, IsScope, IsFreeHere, IsSoFar, standing_at, Placed, Standing, Proc, HasTable, whole_room, ComponentTable, as_many, table_at, taken_in, Scope}
use Rattle.hidden_bounds.specs.declared.standings.Standing.TheVariants as standing
use Rattle.hidden_bounds.proofs.Carried.{own_circles_are_exact, own_heights_are_exact}
use Rattle.hidden_bounds.proofs.Known.{one_round}

module _ (scope : Scope) (s : IsScope scope) where
  many : length scope.seats.now ≡ length scope.tables.now
  many = as_many scope.program.now whole_room scope.seats.now scope.tables.now s.tables

  pub tables_within : (n i : ℕ) → n ≡ length scope.seats.now → i < n → i < length scope.tables.now
  tables_within n i size within = omega (arith, many)

  -- the component in a place has the table in that place
  has_table : (i : ℕ) (c : Component Proc) (t : ComponentTable) → i < length scope.seats.now → slice_get scope.seats.now i ≡ Some c → t ≡ get_or scope.tables.now i t → HasTable scope.program.now c t
  has_table i c t within at is =
      table_at scope.program.now whole_room scope.seats.now scope.tables.now s.tables i c t at (slice_get-get_or scope.tables.now i t (omega (arith, many)) ∙ ap Some (sym is))

  module _ (order : List Placed) (left : List ℕ) (ss : List Standing) (so_far : IsSoFar (ProcessStep scope.program.now) scope.hidden.now scope.seats.now order left ss)
      (i : ℕ) (t : ComponentTable) (within : i < length ss) (is : t ≡ get_or scope.tables.now i t) (unknown : standing_at ss i ≡ standing.Unknown) where
    inside : i < length scope.seats.now
    inside = subst (λ n. i < n) so_far.one_each within

    pub is_free : (height : ℕ) → IsOwnHeight (get_or scope.tables.now i t).local.table left height → IsFreeHere (ProcessStep scope.program.now) scope.hidden.now scope.seats.now order ss i height
    is_free height read = record {
      waits = unknown;
      height = λ c at.
          let own = subst (λ (x : ComponentTable). IsOwnHeight x.local.table left height) (sym is) read in
          let has = has_table i c t inside at is in
          own_heights_are_exact (ProcessStep scope.program.now) scope.hidden.now left (taken_in scope.seats.now order) c has.1.table.terms t.local.table height so_far.open_ has.1.table.table own;
    }

    pub is_round : GoesRoundItself (get_or scope.tables.now i t).local.table left → IsSoFar (ProcessStep scope.program.now) scope.hidden.now scope.seats.now order left (set ss i standing.Round)
    is_round read =
        let own = subst (λ (x : ComponentTable). GoesRoundItself x.local.table left) (sym is) read in
        let c = slice_get_some scope.seats.now i inside in
        let has = has_table i c.0 t inside c.1 is in
        one_round (ProcessStep scope.program.now) scope.hidden.now scope.seats.now order left ss so_far i c.0 within unknown c.1
        (own_circles_are_exact (ProcessStep scope.program.now) scope.hidden.now left (taken_in scope.seats.now order) c.0 has.1.table.terms t.local.table so_far.open_ has.1.table.table own)
