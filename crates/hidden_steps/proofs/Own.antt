-- The moves of a component's own: silent ones, and events that none of the taken components has. Between two shared ones it walks its own graph.
use Rattle.hidden_steps.proofs.Prelude.{◌≡◌, ◌≤◌, ◌+◌, ◌*◌, ℕ, suc, inl, inr, List, [], ◌∷◌, ◌++◌, Bool, true, false, ◌&&◌, not, nat_eq, refl, sym, ap, subst, ◌∙◌, arith, cases_Bool, Walk, has, Label, silent, visible, Component, ComponentStep, Path, Reached, by_test, step_alphabet, OwnEvent, OwnStep, Taken, is_passed}
use Rattle.digraph.proofs.WalkLaws.{Walk-arc}
use Rattle.hidden_steps.proofs.Moves.{Along, AreMoves, Move}
use Rattle.hidden_steps.proofs.Moves.Move.{event, quiet}
use Rattle.hidden_steps.proofs.Counting.{count}

-- whether a move belongs to the component i with this alphabet, over those taken before; and whether it takes part in one that does not
abbrev pub is_own : ℕ → List ℕ → List Taken → Move → Bool
is_own i a taken (quiet j) = nat_eq i j
is_own i a taken (event e) = has a e && not (is_passed taken e)

abbrev pub is_foreign : List ℕ → List Taken → Move → Bool
is_foreign a taken (quiet j) = false
is_foreign a taken (event e) = has a e && is_passed taken e

path_then : {S : Type 0} (Step : S → Label → S → Type 0) (ls : List Label) (s t u : S) (l : Label) → Path Step s ls t → Step t l u → Path Step s (ls ++ l ∷ []) u
path_then Step [] s t u l h k = (u, subst (λ w. Step w l u) (sym h) k, refl)
path_then Step (x ∷ ls) s t u l h k = (h.0, h.1, path_then Step ls h.0 t u l h.2 k)

module _ {T : Type 0} (Step : T → Label → T → Type 0) (hidden : List ℕ) (taken : List Taken) (start : Component T) (height : ℕ)
    (most : (s t : Component T) (m : ℕ) → Reached (ComponentStep Step) start s → Walk (OwnStep Step hidden taken) m s t → m ≤ height) where
  -- the component has come from s to c by k steps of its own graph
  pub record Walked (k : ℕ) (s c : Component T) : Type 0 where
    pub began : Reached (ComponentStep Step) start s
    pub walk : Walk (OwnStep Step hidden taken) k s c
    pub now : Reached (ComponentStep Step) start c

  further : (s c d : Component T) (l : Label) → Reached (ComponentStep Step) s c → ComponentStep Step c l d → Reached (ComponentStep Step) s d
  further s c d l r step = (r.0 ++ l ∷ [], path_then (ComponentStep Step) r.0 s c d l r.1 step)

  one_further : (k : ℕ) (s c d : Component T) (l : Label) → Walked k s c → ComponentStep Step c l d → OwnStep Step hidden taken c d → Walked (suc k) s d
  one_further k s c d l w step own = record { began = w.began; walk = Walk-arc (OwnStep Step hidden taken) k s c d w.walk own; now = further start c d l w.now step }

  pub own_moves : (cs : List (Component T)) (i : ℕ) (a : List ℕ) (ms : List Move) (k : ℕ) (s c d : Component T) → Walked k s c → c.alphabet ≡ a → AreMoves hidden cs ms → Along Step i c ms d
      → k + count (is_own i a taken) ms ≤ height * suc (count (is_foreign a taken) ms)
  own_moves cs i a [] k s c d w same moves along = let here : k ≤ height = most s c k w.began w.walk in omega arith
  own_moves cs i a (quiet j ∷ ms) k s c d w same moves along = elim (by_test (nat_eq i j) along.1) [
    | inl h ↦
        let rest = own_moves cs i a ms (suc k) s along.0 d (one_further k s c along.0 silent w h.1 (inl h.1)) (sym (step_alphabet Step c silent along.0 h.1) ∙ same) moves.1 along.2 in
        rw h.0 (omega (arith, rest))
    | inr h ↦
        let rest = own_moves cs i a ms k s c d w same moves.1 (subst (λ (x : Component T). Along Step i x ms d) (sym h.1) along.2) in
        rw h.0 (omega (arith, rest))
  ]
  own_moves cs i a (event e ∷ ms) k s c d w same moves along = elim (by_test (has c.alphabet e) along.1) [
    | inl h ↦
        let mine : has a e ≡ true = sym (ap (λ (b : List ℕ). has b e) same) ∙ h.0 in
        let next = sym (step_alphabet Step c (visible e) along.0 h.1) ∙ same in
        elim (cases_Bool (is_passed taken e)) [
          | inl passed ↦
              let here : k ≤ height = most s c k w.began w.walk in
              let now = further start c along.0 (visible e) w.now h.1 in
              let rest = own_moves cs i a ms 0 along.0 along.0 d (record { began = now; walk = refl; now = now }) next moves.2 along.2 in
              rw (mine, passed) (omega (arith, here, rest))
          | inr free ↦
              let own : OwnEvent Step hidden taken c along.0 = record { event = e; hides = moves.0; own = free; step = h.1 } in
              let rest = own_moves cs i a ms (suc k) s along.0 d (one_further k s c along.0 (visible e) w h.1 (inr own)) next moves.2 along.2 in
              rw (mine, free) (omega (arith, rest))
        ]
    | inr h ↦
        let not_mine : has a e ≡ false = sym (ap (λ (b : List ℕ). has b e) same) ∙ h.0 in
        let rest = own_moves cs i a ms k s c d w same moves.2 (subst (λ (x : Component T). Along Step i x ms d) (sym h.1) along.2) in
        rw not_mine (omega (arith, rest))
  ]
