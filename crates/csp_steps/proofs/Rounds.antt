-- Loops that make of the steps of a process those of an operator round it: the next step.
use Rattle.csp_steps.proofs.Prelude.{◌≡◌, ℕ, ◌+◌, ◌<◌, true, Some, List, [], ◌∷◌, ◌++◌, map, take, length, get_or, slice_get, refl, sym, ◌∙◌, subst, lt-ltb, and_from, slice_get_within, map-append, first_so, second_so, nat_lt, Proc, Move, in_choice, Label, at, IsFront, all_below, tree_at, ProcId, all_within, AreMoves, IsMove, all_moves, effect_as, labels_by, moves_of, IsWithin, seen, Operator, StepTo}
use Rattle.csp_steps.proofs.Computing.{next_move, next_moves}
use Rattle.csp_steps.proofs.Effects.{last_stays}
use Rattle.csp_steps.proofs.Places.{all_within_stay, moves_stay, one_move, seen_stay, still_within, tree_stays, trees_stay, within_at}

module _ (old mid new : List Proc) (f : IsFront old mid) (g : IsFront mid new) (below : List StepTo) (w : all_within (length old) below ≡ true)
    (i : ℕ) (s : StepTo) (lt : i < length below) (is : s ≡ get_or below i s) where
  pub step_within : s.to.0 < length old
  step_within = subst (λ (r : StepTo). r.to.0 < length old) (sym is) (within_at (length old) below i s w lt)

  pub step_in : s.to.0 < length mid
  step_in = still_within old mid f s.to step_within

  same_to : tree_at mid s.to ≡ tree_at old s.to
  same_to = tree_stays old mid f s.to step_within

  pub choice_next : (ids : List ProcId) → all_below (length old) ids ≡ true → (k : ℕ) (before : List Move) (steps more : List StepTo) (made : StepTo)
      → AreMoves mid steps (before ++ map (λ m. in_choice (map (tree_at old) ids) k m.0 m.1) (map (seen old) (take i below)))
      → IsMove new made (in_choice (map (tree_at mid) ids) k s.label (tree_at mid s.to)) → more ≡ steps ++ made ∷ []
      → AreMoves new more (before ++ map (λ m. in_choice (map (tree_at old) ids) k m.0 m.1) (map (seen old) (take (i + 1) below)))
  choice_next ids all k before steps more made h move grown =
      subst (λ (ss : List StepTo). AreMoves new ss (before ++ map (λ m. in_choice (map (tree_at old) ids) k m.0 m.1) (map (seen old) (take (i + 1) below)))) (sym grown)
      (next_move old mid new g below i s lt is (λ m. in_choice (map (tree_at old) ids) k m.0 m.1) before steps made h
      (subst (λ (m : Move). IsMove new made m) (λ j. in_choice (trees_stay old mid f ids all j) k s.label (same_to j)) move))

  pub made_next : (id : ProcId) → id.0 < length old → (op : Operator) → IsWithin (length old) op → (steps made : List StepTo)
      → AreMoves mid steps (all_moves (effect_as old op) (tree_at old id) (map (seen old) (take i below)))
      → AreMoves new made (map (seen mid) steps ++ moves_of (effect_as mid op) (tree_at mid id) s.label (tree_at mid s.to))
      → AreMoves new made (all_moves (effect_as old op) (tree_at old id) (map (seen old) (take (i + 1) below)))
  made_next id here op within steps made h move =
      next_moves old mid new g below i s lt is (λ m. moves_of (effect_as old op) (tree_at old id) m.0 m.1) steps made h.same
      (subst (λ (ms : List Move). AreMoves new made (map (seen mid) steps ++ ms))
      (λ j. moves_of (record { labels = labels_by op; last = last_stays old mid f op within j }) (tree_stays old mid f id here j) s.label (same_to j)) move)

-- steps with one more, or with more to one place, after those that were there
all_within_join : (count : ℕ) (xs ys : List StepTo) → all_within count xs ≡ true → all_within count ys ≡ true → all_within count (xs ++ ys) ≡ true
all_within_join count [] ys h g = g
all_within_join count (x ∷ xs) ys h g =
    and_from (nat_lt x.to.0 count) (all_within count (xs ++ ys)) (first_so (nat_lt x.to.0 count) (all_within count xs) h)
    (all_within_join count xs ys (second_so (nat_lt x.to.0 count) (all_within count xs) h) g)

module _ (old new : List Proc) (front : IsFront old new) (steps : List StepTo) (here : all_within (length old) steps ≡ true) where
  pub add_one : (s : StepTo) (m : Move) (more : List StepTo) → IsMove new s m → more ≡ steps ++ s ∷ [] → AreMoves new more (map (seen old) steps ++ m ∷ [])
  add_one s m more move is =
      subst (λ (all : List StepTo). AreMoves new all (map (seen old) steps ++ m ∷ [])) (sym is)
      (one_move new steps (map (seen old) steps) s m (moves_stay old new front steps (map (seen old) steps) (record { same = refl; within = here })) move)

  many_seen : (to : ProcId) (t : Proc) (labels : List Label) → slice_get new to.0 ≡ Some t → map (seen new) (map (λ l. record { label = l; to = to }) labels) ≡ map (λ l. (l, t)) labels
  many_seen to t [] h = refl
  many_seen to t (l ∷ labels) h = λ i. (l, at new to t h i) ∷ many_seen to t labels h i

  many_within : (to : ProcId) (labels : List Label) → to.0 < length new → all_within (length new) (map (λ l. record { label = l; to = to }) labels) ≡ true
  many_within to [] h = refl
  many_within to (l ∷ labels) h =
      and_from (nat_lt to.0 (length new)) (all_within (length new) (map (λ k. record { label = k; to = to }) labels)) (lt-ltb to.0 (length new) h) (many_within to labels h)

  pub add_many : (to : ProcId) (t : Proc) (labels : List Label) (more : List StepTo) → slice_get new to.0 ≡ Some t → more ≡ steps ++ map (λ l. record { label = l; to = to }) labels
      → AreMoves new more (map (seen old) steps ++ map (λ l. (l, t)) labels)
  add_many to t labels more h is =
      subst (λ (all : List StepTo). AreMoves new all (map (seen old) steps ++ map (λ l. (l, t)) labels)) (sym is) (record {
        same = map-append (seen new) steps (map (λ l. record { label = l; to = to }) labels) ∙ (λ i. seen_stay old new front steps here i ++ many_seen to t labels h i);
        within = all_within_join (length new) steps (map (λ l. record { label = l; to = to }) labels) (all_within_stay old new front steps here) (many_within to labels (slice_get_within new to.0 t h));
      })
