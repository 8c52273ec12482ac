-- Tables of components, one after another.
use Rattle.network_stages.proofs.Prelude.{◌≡◌, ℕ, zero, suc, ◌+◌, ◌<◌, ◌≤◌, ◌-◌, List, [], ◌∷◌, ◌++◌, length, take, get_or, slice_get, Some, Result, Ok, Err, IfErr, refl, sym, ap, subst, ◌∙◌, add-one, arith, inr, take-suc, none-some, same_Some, slice_get-get_or, length_push, take_all, Proc, Content, Component, IsLocalTable, Room, LocalTable, HasFault, TellsRound, at_component, HaveNoTables, AreTablesOf, AreTablesWithin, HasTable, IsTableWithin, room_after, room_left, whole_room, ComponentTable, Tells, Stop, Refusal, ComponentFault, MOST_COMPONENTS, MOST_NODES, MOST_STEPS}
use Rattle.csp_base.specs.declared.stop.Stop.TheVariants as stop

module _ (p : Content) where
  one_more : (room : Room) (cs : List (Component Proc)) (ts : List ComponentTable) (c : Component Proc) (t : ComponentTable) → AreTablesWithin p room cs ts
      → IsTableWithin p (room_left room ts) c t → AreTablesWithin p room (cs ++ c ∷ []) (ts ++ t ∷ [])
  one_more room [] [] c t are one = (one, tt)
  one_more room [] (u ∷ ts) c t are one = absurd are
  one_more room (d ∷ cs) [] c t are one = absurd are
  one_more room (d ∷ cs) (u ∷ ts) c t are one = (are.0, one_more (room_after room u.local.used) cs ts c t are.1 one)

  pub as_many : (room : Room) (cs : List (Component Proc)) (ts : List ComponentTable) → AreTablesWithin p room cs ts → length cs ≡ length ts
  as_many room [] [] are = refl
  as_many room [] (u ∷ ts) are = absurd are
  as_many room (d ∷ cs) [] are = absurd are
  as_many room (d ∷ cs) (u ∷ ts) are = let rest = as_many (room_after room u.local.used) cs ts are.1 in omega (arith, rest)

  pub few_tables : (cs : List (Component Proc)) (ts : List ComponentTable) → AreTablesOf p cs ts → length cs ≤ MOST_COMPONENTS → length ts ≤ MOST_COMPONENTS
  few_tables cs ts are few = subst (λ n. n ≤ MOST_COMPONENTS) (as_many whole_room cs ts are) few

  pub table_at : (room : Room) (cs : List (Component Proc)) (ts : List ComponentTable) → AreTablesWithin p room cs ts → (i : ℕ) (c : Component Proc) (t : ComponentTable)
      → slice_get cs i ≡ Some c → slice_get ts i ≡ Some t → HasTable p c t
  table_at room [] [] are i c t at at' = absurd (none-some c at)
  table_at room [] (u ∷ ts) are i c t at at' = absurd are
  table_at room (d ∷ cs) [] are i c t at at' = absurd are
  table_at room (d ∷ cs) (u ∷ ts) are zero c t at at' =
      let one : IsTableWithin p room c u = subst (λ x. IsTableWithin p room x u) (same_Some d c at) are.0 in
      (room, subst (λ x. IsTableWithin p room c x) (same_Some u t at') one)
  table_at room (d ∷ cs) (u ∷ ts) are (suc i) c t at at' = table_at (room_after room u.local.used) cs ts are.1 i c t at at'

  -- one more of the seats has its table
  pub next_table : (seats : List (Component Proc)) (made : List ComponentTable) (i : ℕ) (c : Component Proc) (t : ComponentTable) (room : Room) → i < length seats
      → c ≡ get_or seats i c → AreTablesOf p (take i seats) made → room ≡ room_left whole_room made → IsTableWithin p room c t → AreTablesOf p (take (i + 1) seats) (made ++ t ∷ [])
  next_table seats made i c t room within is so_far left one =
      let grown : take i seats ++ c ∷ [] ≡ take (i + 1) seats = rw (add-one) (ap (λ x. take i seats ++ x ∷ []) is ∙ sym (take-suc seats i c within)) in
      subst (λ cs. AreTablesOf p cs (made ++ t ∷ [])) grown (one_more whole_room (take i seats) made c t so_far (subst (λ r. IsTableWithin p r c t) left one))

  -- a fault is that of the first component that has one
  pub first_fault : (seats : List (Component Proc)) (made : List ComponentTable) (i first : ℕ) (c : Component Proc) (room : Room) (u : Stop ComponentFault) (told : Stop Refusal) → i < length seats
      → c ≡ get_or seats i c → AreTablesOf p (take i seats) made → room ≡ room_left whole_room made → Tells (λ f. HasFault p f room c) u → told ≡ at_component (first + i) u
      → Tells (HaveNoTables p first seats) told
  first_fault seats made i first c room stop.NoMemory told within is so_far left has tells = subst (Tells (HaveNoTables p first seats)) (sym tells) tt
  first_fault seats made i first c room (stop.Told f) told within is so_far left has tells =
      let at : slice_get seats i ≡ Some c = slice_get-get_or seats i c within ∙ ap Some (sym is) in
      subst (Tells (HaveNoTables p first seats)) (sym tells)
      (i, f, record { tables = made; earlier = so_far; component = c; at = at; has = subst (λ r. HasFault p f r c) left has }, refl)

module _ (p : Content) (seats : List (Component Proc)) (tables : List ComponentTable) (are : AreTablesOf p seats tables) where
  -- the seat and the table in the same place
  pub placed : (i : ℕ) (c : Component Proc) (t : ComponentTable) → i < length seats → c ≡ get_or seats i c → t ≡ get_or tables i t → HasTable p c t
  placed i c t within is is' =
      let many = as_many p whole_room seats tables are in
      table_at p whole_room seats tables are i c t (slice_get-get_or seats i c within ∙ ap Some (sym is))
      (slice_get-get_or tables i t (omega (arith, many, within)) ∙ ap Some (sym is'))

  pub still_within : (i : ℕ) → i < length seats → i < length tables
  still_within i within = let many = as_many p whole_room seats tables are in omega (arith, many, within)

pub left_after : (room : Room) (ts : List ComponentTable) (t : ComponentTable) → room_left room (ts ++ t ∷ []) ≡ room_after (room_left room ts) t.local.used
left_after room [] t = refl
left_after room (u ∷ ts) t = left_after (room_after room u.local.used) ts t

-- what stands while tables are made: the first seats have theirs, and the room is what these leave
pub record AreMade (p : Content) (seats : List (Component Proc)) (made : List ComponentTable) (i : ℕ) (room : Room) : Type 0 where
  pub so_far : AreTablesOf p (take i seats) made
  pub count : length made ≡ i
  pub left : room ≡ room_left whole_room made
  pub nodes : room.nodes ≤ MOST_NODES
  pub steps : room.steps ≤ MOST_STEPS

less : (a b m : ℕ) → a ≤ m → a - b ≤ m
less a b m low = omega arith

module _ (p : Content) (seats : List (Component Proc)) where
  pub none_made : AreMade p seats [] 0 whole_room
  none_made = record { so_far = tt; count = refl; left = refl; nodes = omega arith; steps = omega arith }

  pub one_made : (made new : List ComponentTable) (i : ℕ) (c : Component Proc) (t : ComponentTable) (room rest : Room) → AreMade p seats made i room → i < length seats
      → c ≡ get_or seats i c → IsTableWithin p room c t → new ≡ made ++ t ∷ [] → rest ≡ room_after room t.local.used → AreMade p seats new (i + 1) rest
  one_made made new i c t room rest are within is one grew after =
      let all = next_table p seats made i c t room within is are.so_far are.left one in
      let count = length_push made t in
      let same = are.count in
      record {
        so_far = subst (λ ts. AreTablesOf p (take (i + 1) seats) ts) (sym grew) all;
        count = ap length grew ∙ count ∙ ap (λ n. n + 1) same;
        left = after ∙ ap (λ r. room_after r t.local.used) are.left ∙ sym (left_after whole_room made t) ∙ ap (room_left whole_room) (sym grew);
        nodes = subst (λ n. n ≤ MOST_NODES) (sym (ap (λ (r : Room). r.nodes) after)) (less room.nodes t.local.used.nodes MOST_NODES are.nodes);
        steps = subst (λ n. n ≤ MOST_STEPS) (sym (ap (λ (r : Room). r.steps) after)) (less room.steps t.local.used.steps MOST_STEPS are.steps);
      }

  -- all seats have their tables
  pub all_made : (made : List ComponentTable) (i : ℕ) (room : Room) → AreMade p seats made i room → length seats ≤ i → AreTablesOf p seats made
  all_made made i room are at_end = subst (λ cs. AreTablesOf p cs made) (take_all i seats at_end) are.so_far

module _ (p : Content) where
  -- a component whose table goes round
  goes_round : (room : Room) (c : Component Proc) (made : LocalTable) (f : Stop ComponentFault) → IsLocalTable p c room made → Tells (TellsRound made) f → Tells (λ f. HasFault p f room c) f
  goes_round room c made stop.NoMemory table round = tt
  goes_round room c made (stop.Told f) table round = inr (round.0, record { made = made; table = table; circle = round.1.0; round = round.1.1 })

  pub round_there : {A : Type 0} (room : Room) (c d : Component Proc) (made : LocalTable) (result : Result A (Stop ComponentFault)) → d ≡ c → IsLocalTable p d room made → IfErr result (Tells (TellsRound made))
      → IfErr result (Tells (λ f. HasFault p f room c))
  round_there room c d made (Ok a) same table round = tt
  round_there room c d made (Err f) same table round = goes_round room c made f (subst (λ (x : Component Proc). IsLocalTable p x room made) same table) round
