-- From a walk by the numbers of terms to one of the network: where the components of a network stand at the terms with these numbers, the moves are the same,
-- and each leads to where they stand so again. The steps of the list of components are those of the tree.
use Rattle.network_walks.proofs.Prelude.{◌≡◌, ◌↔◌, ◌<◌, ℕ, Bool, List, [], ◌∷◌, length, set, refl, sym, subst, ◌∙◌, arith, same_Some, slice_get_within, Label, silent, visible, Component, ComponentStep, Tree, leaves, RawStep, WellNested, back, forth, kept, Numbered, first_terms, IsWalkOf, Move, Goes, Has, Takes}
use Rattle.numbered_walks.specs.Numbered.{Goes as GoesByNumber, Has as HasByNumber, Takes as TakesByNumber}
use Rattle.numbered_walks.specs.declared.moves.Move.TheVariants as move
use Rattle.network_walks.proofs.Likewise.{StepsAlike, walk_alike}
use Rattle.network_walks.proofs.Numbers.{leads, led}
use Rattle.network_walks.proofs.Ordered.{AllInOrder, drawn_alike}
use Rattle.network_walks.proofs.Rows.{Row, Stand, all_by_number, all_by_term, as_many, by_number, by_term, components, in_place, numbered_row, numbered_rows, same_owner}
use Rattle.network_walks.proofs.Runs.{moves_there}

module _ {T : Type 0} (Step : T → Label → T → Type 0) (Targets : T → Label → List T → Type 0) (rows : List (Row Step)) (order : AllInOrder Step Targets rows) where
  abbrev ns : List Numbered
  ns = numbered_rows Step rows

  -- the components of the network stand at the terms with these numbers
  pub record StandsBy (xs : List ℕ) (t : Tree T) : Type 0 where
    pub nested : WellNested t
    pub stand : Stand Step rows (leaves t) xs

  -- a step by numbers is one of the network
  record LeadsTo (t : Tree T) (m : Move) (ys : List ℕ) : Type 0 where
    state : Tree T
    takes : Takes Step t m state
    alike : StandsBy ys state

  leads_to : (xs ys : List ℕ) (t : Tree T) (m : Move) → StandsBy xs t → TakesByNumber ns xs m ys → LeadsTo t m ys
  leads_to xs ys t (move.Silent i) by does =
      let p = in_place Step rows (leaves t) xs i by.stand (slice_get_within xs i does.term does.at) in
      let row : does.component ≡ numbered_row Step p.row = same_Some does.component (numbered_row Step p.row) (sym does.there ∙ p.row_there) in
      let number : does.term ≡ p.number = same_Some does.term p.number (sym does.at ∙ p.number_there) in
      let raw = subst (λ (n : ℕ). RawStep p.row.table n silent does.next) number (subst (λ (c : Numbered). RawStep c.table does.term silent does.next) row does.step) in
      let s = by_term Step p.row p.component p.number does.next silent p.stands raw in
      let b = back Step t silent (set (leaves t) i s.next) by.nested (moves_there Step (leaves t) i p.component s.next p.there s.step) in
      let stand = subst (λ (zs : List ℕ). Stand Step rows (set (leaves t) i s.next) zs) (sym does.others) (p.others s.next does.next s.stands) in
      record {
        state = b.tree;
        takes = record { component = p.component; there = p.there; next = s.next; moves = s.step; others = b.whole; step = b.step };
        alike = record { nested = kept Step t silent b.tree by.nested b.step; stand = subst (λ (cs : List (Component T)). Stand Step rows cs ys) (sym b.whole) stand };
      }
  leads_to xs ys t (move.Event e) by does =
      let s = all_by_term Step e rows (leaves t) xs ys by.stand does.1 in
      let b = back Step t (visible e) s.next by.nested (sym (same_owner Step e rows (leaves t) xs by.stand) ∙ does.0, s.take) in
      record {
        state = b.tree;
        takes = b.step;
        alike = record { nested = kept Step t (visible e) b.tree by.nested b.step; stand = subst (λ (cs : List (Component T)). Stand Step rows cs ys) (sym b.whole) s.stand };
      }

  -- and what is drawn by number is drawn by term
  goes : (xs ys : List ℕ) (t : Tree T) (y z : ℕ) (m : Move) → StandsBy xs t → GoesByNumber ns xs y m ys z → StepsAlike (HasByNumber ns) (GoesByNumber ns) (Has Step) (Goes Step Targets) StandsBy t y m ys z
  goes xs ys t y z m by does =
      let r = leads_to xs ys t m by does.takes in
      record { state = r.state; goes = record { takes = r.takes; draws = drawn_alike Step Targets m 0 rows (leaves t) (leaves r.state) xs ys y z order by.stand r.alike.stand does.draws }; alike = r.alike }

  -- a step of the network is one by numbers
  comes : (xs : List ℕ) (t u : Tree T) (m : Move) → StandsBy xs t → Takes Step t m u → (ys : List ℕ) × TakesByNumber ns xs m ys
  comes xs t u (move.Silent i) by takes =
      let many : length (leaves t) ≡ length xs = as_many Step rows (leaves t) xs by.stand in
      let p = in_place Step rows (leaves t) xs i by.stand (let below : i < length (leaves t) = slice_get_within (leaves t) i takes.component takes.there in omega (arith, many, below)) in
      let here = subst (λ (c : Component T). ComponentStep Step c silent takes.next) (same_Some takes.component p.component (sym takes.there ∙ p.there)) takes.moves in
      let s = by_number Step p.row p.component takes.next p.number silent p.stands here in (
        set xs i s.number,
        record {
          component = numbered_row Step p.row;
          there = p.row_there;
          term = p.number;
          at = p.number_there;
          next = s.number;
          step = s.step;
          others = refl;
        },
      )
  comes xs t u (move.Event e) by takes =
      let flat = forth Step t (visible e) u by.nested takes in
      let s = all_by_number Step e rows (leaves t) (leaves u) xs by.stand flat.1 in
      (s.numbers, (same_owner Step e rows (leaves t) xs by.stand ∙ flat.0, s.does))

  same_moves : (xs : List ℕ) (t : Tree T) → StandsBy xs t → (m : Move) → HasByNumber ns xs m ↔ Has Step t m
  same_moves xs t by m = (
    λ has. let r = leads ns xs m has in let g = leads_to xs r.0 t m by r.1 in (g.state, g.takes),
    λ has. let r = comes xs t has.0 m by has.1 in led ns xs m r.0 r.1,
  )

  pub carried : (seed steps : ℕ) (xs : List ℕ) (t : Tree T) (moves : List Move) (is_stuck : Bool) → StandsBy xs t → IsWalkOf (HasByNumber ns) (GoesByNumber ns) seed steps xs moves is_stuck
      → IsWalkOf (Has Step) (Goes Step Targets) seed steps t moves is_stuck
  carried seed steps xs t moves is_stuck by walk = walk_alike (HasByNumber ns) (GoesByNumber ns) (Has Step) (Goes Step Targets) StandsBy same_moves goes seed steps xs t moves is_stuck by walk

-- where components begin
pub stand_first : {T : Type 0} (Step : T → Label → T → Type 0) (some : List (Row Step)) → Stand Step some (components Step some) (first_terms (numbered_rows Step some))
stand_first Step [] = tt
stand_first Step (r ∷ some) = (record { listed = r.is.first; alphabet = refl }, stand_first Step some)
