-- Components with their tables, one after another, as a walk by numbers sees them.
use Rattle.network_walks.proofs.Prelude.{◌≡◌, ℕ, zero, suc, ◌+◌, ◌<◌, ◌≤◌, List, [], ◌∷◌, ◌++◌, length, drop, get_or, refl, sym, ap, ap₂, ◌∙◌, append_assoc, arith, append-nil, drop_all, Proc, AreTargets, visible, Component, as_many, AreTablesOf, AreTablesWithin, HasTable, room_after, whole_room, ComponentTable, Numbered, OwnsItsSteps, ProcessStep, numbered, one_numbered, drop_read, Content, Room}
use Rattle.network_walks.proofs.Ordered.{AllInOrder}
use Rattle.network_walks.proofs.Rows.{Row, components, numbered_rows}

-- the steps of a component's table are by events of its alphabet
pub owns : (p : Content) (c : Component Proc) (t : ComponentTable) → HasTable p c t → OwnsItsSteps c.alphabet t.local.table
owns p c t has m e n step = (has.1.table.table.sound m n (visible e) step).step.1

-- ---- while they are put together
module _ (p : Content) (cs : List (Component Proc)) (ts : List ComponentTable) (are : AreTablesOf p cs ts) where
  pub one_made : (old new : List Numbered) (i : ℕ) (c : Component Proc) (t : ComponentTable) (n : Numbered) → old ++ numbered (drop i cs) (drop i ts) ≡ numbered cs ts → i < length cs → c ≡ get_or cs i c
      → t ≡ get_or ts i t → n ≡ one_numbered c t → new ≡ old ++ n ∷ [] → new ++ numbered (drop (i + 1) cs) (drop (i + 1) ts) ≡ numbered cs ts
  one_made old new i c t n so_far below is has made grew =
      let many : length cs ≡ length ts = as_many p whole_room cs ts are in
      let left = numbered (drop (i + 1) cs) (drop (i + 1) ts) in
      ap (λ (ns : List Numbered). ns ++ left) (grew ∙ ap (λ (k : Numbered). old ++ k ∷ []) made) ∙ append_assoc old (one_numbered c t ∷ []) left
      ∙ ap (λ (ns : List Numbered). old ++ ns) (sym (ap₂ numbered (drop_read cs i c below is) (drop_read ts i t (omega (arith, many, below)) has))) ∙ so_far

  pub all_made : (made : List Numbered) (i : ℕ) → made ++ numbered (drop i cs) (drop i ts) ≡ numbered cs ts → length cs ≤ i → made ≡ numbered cs ts
  all_made made i so_far at_end =
      sym (append-nil made) ∙ sym (ap (λ (ds : List (Component Proc)). made ++ numbered ds (drop i ts)) (drop_all i cs at_end)) ∙ so_far

pub as_few : (cs : List (Component Proc)) (ts : List ComponentTable) → length (numbered cs ts) ≤ length cs
as_few [] ts = omega arith
as_few (c ∷ cs) [] = omega arith
as_few (c ∷ cs) (t ∷ ts) = let rest = as_few cs ts in omega (arith, rest)

-- ---- as rows
module _ (p : Content) where
  pub rows_of : (room : Room) (cs : List (Component Proc)) (ts : List ComponentTable) → AreTablesWithin p room cs ts → List (Row (ProcessStep p))
  rows_of room [] [] are = []
  rows_of room (c ∷ cs) (t ∷ ts) are =
      record { component = c; terms = are.0.table.terms; table = t.local.table; is = are.0.table.table } ∷ rows_of (room_after room t.local.used) cs ts are.1
  rows_of room _ _ are = absurd are

  pub rows_have_components : (room : Room) (cs : List (Component Proc)) (ts : List ComponentTable) (are : AreTablesWithin p room cs ts) → components (ProcessStep p) (rows_of room cs ts are) ≡ cs
  unfolding rows_of
  rows_have_components room [] [] are = refl
  rows_have_components room (c ∷ cs) (t ∷ ts) are = ap (λ (ds : List (Component Proc)). c ∷ ds) (rows_have_components (room_after room t.local.used) cs ts are.1)
  rows_have_components room _ _ are = absurd are

  pub rows_are_numbered : (room : Room) (cs : List (Component Proc)) (ts : List ComponentTable) (are : AreTablesWithin p room cs ts) → numbered_rows (ProcessStep p) (rows_of room cs ts are) ≡ numbered cs ts
  unfolding rows_of
  rows_are_numbered room [] [] are = refl
  rows_are_numbered room (c ∷ cs) (t ∷ ts) are = ap (λ (ns : List Numbered). one_numbered c t ∷ ns) (rows_are_numbered (room_after room t.local.used) cs ts are.1)
  rows_are_numbered room _ _ are = absurd are

  pub rows_in_order : (room : Room) (cs : List (Component Proc)) (ts : List ComponentTable) (are : AreTablesWithin p room cs ts) → AllInOrder (ProcessStep p) (AreTargets p) (rows_of room cs ts are)
  unfolding rows_of
  rows_in_order room [] [] are = tt
  rows_in_order room (c ∷ cs) (t ∷ ts) are = (
    λ m x l at inside. let o = are.0.table.order m x l at inside in record { targets = o.targets; are = o.are; same = o.same },
    rows_in_order (room_after room t.local.used) cs ts are.1,
  )
  rows_in_order room _ _ are = absurd are
