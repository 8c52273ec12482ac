-- Walks of a network: each move is a step, and where there is none the network is stuck.
use Rattle.network_walks.proofs.Prelude.{◌≡◌, ℕ, zero, suc, inl, inr, List, [], ◌∷◌, map, set, slice_get, Some, refl, sym, ap, ap₂, subst, none-some, same_Some, OneMoves, Label, silent, visible, Component, ComponentStep, NetworkStep, Tree, leaves, Path, WellNested, forth, kept, label, first_draw, next_number, Move, NoMoveMeansStuck, StuckIsNotLive, StuckWalksRefuteLive, WalksAreRuns, Takes}
use Rattle.numbered_walks.specs.declared.moves.Move.TheVariants as move

module _ {T : Type 0} (Step : T → Label → T → Type 0) where
  -- ---- one component of a list moves
  record MovesAt (cs ds : List (Component T)) : Type 0 where
    place : ℕ
    component : Component T
    there : slice_get cs place ≡ Some component
    next : Component T
    moves : ComponentStep Step component silent next
    others : ds ≡ set cs place next

  moves_at : (cs ds : List (Component T)) → OneMoves Step cs ds → MovesAt cs ds
  moves_at [] ds h = absurd h
  moves_at (c ∷ cs) [] h = absurd h
  moves_at (c ∷ cs) (d ∷ ds) (inl h) = record { place = 0; component = c; there = refl; next = d; moves = h.0; others = ap (λ (xs : List (Component T)). d ∷ xs) (sym h.1) }
  moves_at (c ∷ cs) (d ∷ ds) (inr h) =
      let r = moves_at cs ds h.1 in
      record { place = suc r.place; component = r.component; there = r.there; next = r.next; moves = r.moves; others = ap₂ (λ (x : Component T) (xs : List (Component T)). x ∷ xs) (sym h.0) r.others }

  pub moves_there : (cs : List (Component T)) (i : ℕ) (c d : Component T) → slice_get cs i ≡ Some c → ComponentStep Step c silent d → OneMoves Step cs (set cs i d)
  moves_there [] i c d at step = absurd (none-some c at)
  moves_there (b ∷ cs) zero c d at step = inl (subst (λ (x : Component T). ComponentStep Step x silent d) (sym (same_Some b c at)) step, refl)
  moves_there (b ∷ cs) (suc i) c d at step = inr (refl, moves_there cs i c d at step)

  -- ---- the moves of a network
  pub step_of : (t : Tree T) (m : Move) (u : Tree T) → Takes Step t m u → NetworkStep Step t (label m) u
  step_of t (move.Silent i) u takes = takes.step
  step_of t (move.Event e) u takes = takes

  -- each step is a move
  has_move : (t : Tree T) (l : Label) (u : Tree T) → WellNested t → NetworkStep Step t l u → (m : Move) × Takes Step t m u
  has_move t silent u nested step =
      let r = moves_at (leaves t) (leaves u) (forth Step t silent u nested step) in
      (move.Silent r.place, record { component = r.component; there = r.there; next = r.next; moves = r.moves; others = r.others; step = step })
  has_move t (visible e) u nested step = (move.Event e, step)

  pub no_move_means_stuck : NoMoveMeansStuck Step
  no_move_means_stuck t nested = (
    λ none l u step. let r = has_move t l u nested step in none r.0 (u, r.1),
    λ stuck m has. stuck (label m) has.0 (step_of t m has.0 has.1),
  )

  -- ---- walks
  pub stuck_is_not_live : StuckIsNotLive Step
  stuck_is_not_live t u bound reached stuck live =
      let moves = live.moves u reached (λ v step. stuck silent v step) in
      stuck (visible moves.0) moves.1 moves.2

  -- a run keeps the nesting
  pub stays_nested : (t u : Tree T) (ls : List Label) → WellNested t → Path (NetworkStep Step) t ls u → WellNested u
  stays_nested t u [] nested path = subst WellNested path nested
  stays_nested t u (l ∷ ls) nested path = stays_nested path.0 u ls (kept Step t l path.0 nested path.1) path.2

  module _ (Targets : T → Label → List T → Type 0) where
    pub walks_are_runs : WalksAreRuns Step Targets
    walks_are_runs x y z t u [] walk = walk.0
    walks_are_runs x y z t u (m ∷ ms) walk = (walk.0, step_of t m walk.0 walk.3.takes, walks_are_runs (next_number x) walk.1 z walk.0 u ms walk.4)

    pub stuck_walks_refute_live : StuckWalksRefuteLive Step Targets
    stuck_walks_refute_live seed steps bound t moves nested walk live =
        let path = walks_are_runs seed (first_draw seed) walk.drawn t walk.last moves walk.walk in
        let stuck = (no_move_means_stuck walk.last (stays_nested t walk.last (map label moves) nested path)).0 (walk.stuck.0 refl) in
        stuck_is_not_live t walk.last bound (map label moves, path) stuck live
