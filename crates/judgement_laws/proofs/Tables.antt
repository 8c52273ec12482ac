-- Components that have their tables go on: no term that they reach ends or lacks a value.
use Rattle.judgement_laws.proofs.Prelude.{◌≡◌, ℕ, zero, suc, List, [], ◌∷◌, Some, slice_get, subst, same_Some, Component, ComponentStep, Reached, standing_at, path_alphabet, AreTablesOf, AreTablesWithin, HasTable, IsTableWithin, room_after, whole_room, ComponentTable, ProcessStep, AllGoOn, GoesOn, none-some, Proc, Content, IsLocalTable, Room, LocalTable, listed_of, stands}

module _ (p : Content) where
  table_of : (room : Room) (cs : List (Component Proc)) (ts : List ComponentTable) → AreTablesWithin p room cs ts → (i : ℕ) (c : Component Proc) → slice_get cs i ≡ Some c
      → (t : ComponentTable) × HasTable p c t
  table_of room [] ts are i c at = absurd (none-some c at)
  table_of room (d ∷ cs) [] are i c at = absurd are
  table_of room (d ∷ cs) (t ∷ ts) are zero c at = (t, (room, subst (λ x. IsTableWithin p room x t) (same_Some d c at) are.0))
  table_of room (d ∷ cs) (t ∷ ts) are (suc i) c at = table_of (room_after room t.local.used) cs ts are.1 i c at

  -- ---- what a component reaches goes on

  fit : (c : Component Proc) (room : Room) (made : LocalTable) (x : Proc) → IsLocalTable p c room made → Reached (ComponentStep (ProcessStep p)) c (standing_at c x) → GoesOn p x
  fit c room made x table r =
      let l = listed_of p c table.terms made.table table.table x r in
      let f = table.fit l.0 x l.1 in
      record { endless = f.goes_on; whole = f.whole }

  pub all_go_on : (cs : List (Component Proc)) (ts : List ComponentTable) → AreTablesOf p cs ts → AllGoOn p cs
  all_go_on cs ts are i c d at r =
      let t = table_of whole_room cs ts are i c at in
      fit c t.1.0 t.0.local d.term t.1.1.table
      (subst (λ y. Reached (ComponentStep (ProcessStep p)) c y) (stands c d (path_alphabet (ProcessStep p) r.0 c d r.1)) r)
