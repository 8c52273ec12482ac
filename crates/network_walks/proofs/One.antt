-- A network has at most one walk for a seed and a number of steps: the options are one list, each component goes to one target, and so a move leads to one network.
use Rattle.network_walks.proofs.Prelude.{◌≡◌, ◌<◌, ◌⊎◌, ◌↔◌, inl, inr, ℕ, zero, suc, ◌+◌, Bool, true, nat_eq, IsTrue, MatchBool, Ok, Some, List, [], ◌∷◌, length, slice_get, refl, sym, ap, ap₂, subst, ◌∙◌, arith, MatchBool-at_false, MatchBool-at_true, cases_Bool, none-some, same_Some, Label, Component, NetworkStep, Tree, leaves, IsDrawn, label, takes_part, first_draw, next_number, place_among, AreOptions, IsBefore, Chooses, HasNone, IsWalk, IsWalkOf, Move, AreDrawn, DrawsTarget, AreOneWalk, TheWalkIsOne, Goes, Has, same_tests, StandsIn, steps_are_told}
use Rattle.numbered_walks.specs.declared.moves.Move.TheVariants as move
use Rattle.network_walks.proofs.Runs.{step_of}

-- ---- the options are one list
not_both : (m n : Move) → IsBefore m n → IsBefore n m → ⊥
not_both (move.Silent i) (move.Silent j) one other = absurd (let less : i < j = one in let more : j < i = other in omega (arith, less, more))
not_both (move.Silent i) (move.Event e) one other = other
not_both (move.Event d) (move.Silent j) one other = one
not_both (move.Event d) (move.Event e) one other = absurd (let less : d < e = one in let more : e < d = other in omega (arith, less, more))

abbrev InTurn : List Move → Type 0
InTurn ms = (j k : ℕ) (m n : Move) → j < k → slice_get ms j ≡ Some m → slice_get ms k ≡ Some n → IsBefore m n

in_turn_after : (m : Move) (ms : List Move) → InTurn (m ∷ ms) → InTurn ms
in_turn_after m ms turn j k a b less at there = turn (suc j) (suc k) a b (omega (arith, less)) at there

-- the first of two such lists with the same members
same_head : (m n : Move) (ms ns : List Move) → InTurn (m ∷ ms) → InTurn (n ∷ ns) → StandsIn (n ∷ ns) m → StandsIn (m ∷ ms) n → m ≡ n
same_head m n ms ns turn other (zero, at) back = sym (same_Some n m at)
same_head m n ms ns turn other (suc k, at) (zero, there) = same_Some m n there
same_head m n ms ns turn other (suc k, at) (suc j, there) = absurd (not_both m n (turn 0 (suc j) m n (omega arith) refl there) (other 0 (suc k) n m (omega arith) refl at))

-- what stands in the rest of one stands in the rest of the other
rest_stands : (m n : Move) (ms ns : List Move) → m ≡ n → InTurn (m ∷ ms) → ((a : Move) → StandsIn (m ∷ ms) a → StandsIn (n ∷ ns) a) → (a : Move) → StandsIn ms a → StandsIn ns a
rest_stands m n ms ns same turn forth a (k, at) = after (forth a (suc k, at))
  where
    after : StandsIn (n ∷ ns) a → StandsIn ns a
    after (zero, there) = let before = turn 0 (suc k) m m (omega arith) refl (at ∙ ap Some (sym (same_Some n a there) ∙ sym same)) in absurd (not_both m m before before)
    after (suc j, there) = (j, there)

one_list : (ms ns : List Move) → InTurn ms → InTurn ns → ((a : Move) → StandsIn ms a → StandsIn ns a) → ((a : Move) → StandsIn ns a → StandsIn ms a) → ms ≡ ns
one_list [] [] turn other forth back = refl
one_list [] (n ∷ ns) turn other forth back = absurd (let there = back n (0, refl) in none-some n there.1)
one_list (m ∷ ms) [] turn other forth back = absurd (let there = forth m (0, refl) in none-some m there.1)
one_list (m ∷ ms) (n ∷ ns) turn other forth back =
    let same = same_head m n ms ns turn other (forth m (0, refl)) (back n (0, refl)) in
    ap₂ (λ (a : Move) (l : List Move). a ∷ l) same
    (one_list ms ns (in_turn_after m ms turn) (in_turn_after n ns other) (rest_stands m n ms ns same turn forth) (rest_stands n m ns ms (sym same) other back))

one_choice : (Has : Move → Type 0) (number : ℕ) (m n : Move) → Chooses Has number m → Chooses Has number n → m ≡ n
one_choice Has number m n one other =
    let same = one_list one.options other.options one.are.order other.are.order (λ a at. other.are.complete a (one.are.sound a at)) (λ a at. one.are.complete a (other.are.sound a at)) in
    same_Some m n (sym one.chosen ∙ ap (λ (l : List Move). slice_get l (place_among number (length l))) same ∙ other.chosen)

-- ---- each component goes to one target
head_is : {X : Type 0} (d e : X) → (d ∷ []) ≡ (e ∷ []) → d ≡ e
head_is {X} d e same = same_Some d e (ap (λ (l : List X). slice_get l 0) same)

one_target : {T : Type 0} (ts : List T) (y z w : ℕ) (d e : T) → IsDrawn ts y d z → IsDrawn ts y e w → (d ≡ e) × (z ≡ w)
one_target ts y z w d e drawn other = elim (cases_Bool (nat_eq (length ts) 1)) as (λ _. (d ≡ e) × (z ≡ w)) [
  | inl one ↦
      let a = MatchBool-at_true _ _ one drawn in
      let b = MatchBool-at_true _ _ one other in
      (head_is d e (sym a.0 ∙ b.0), a.1 ∙ sym b.1)
  | inr several ↦
      let a = MatchBool-at_false _ _ several drawn in
      let b = MatchBool-at_false _ _ several other in
      (same_Some d e (sym a.0 ∙ b.0), a.1 ∙ sym b.1)
]

module _ {T : Type 0} (Step : T → Label → T → Type 0) (Targets : T → Label → List T → Type 0) (fixed : (x : T) (l : Label) (ts us : List T) → Targets x l ts → Targets x l us → ts ≡ us) where
  one_goes : (c d e : Component T) (l : Label) (y z w : ℕ) → DrawsTarget Targets c d l y z → DrawsTarget Targets c e l y w → (d ≡ e) × (z ≡ w)
  one_goes c d e l y z w one other =
      let same = fixed c.term l one.targets other.targets one.are other.are in
      let r = one_target other.targets y z w d.term e.term (subst (λ (ts : List T). IsDrawn ts y d.term z) same one.drawn) other.drawn in
      let alphabet : d.alphabet ≡ e.alphabet = sym one.alphabet ∙ other.alphabet in
      let term : d.term ≡ e.term = r.0 in
      (λ i. record { alphabet = alphabet i; term = term i }, r.1)

  all_go : (m : Move) (i y z w : ℕ) (cs ds es : List (Component T)) → AreDrawn Targets m i y cs ds z → AreDrawn Targets m i y cs es w → (ds ≡ es) × (z ≡ w)
  all_go m i y z w [] [] [] one other = (refl, sym one ∙ other)
  all_go m i y z w [] [] (e ∷ es) one other = absurd other
  all_go m i y z w [] (d ∷ ds) es one other = absurd one
  all_go m i y z w (c ∷ cs) [] es one other = absurd one
  all_go m i y z w (c ∷ cs) (d ∷ ds) [] one other = absurd other
  all_go m i y z w (c ∷ cs) (d ∷ ds) (e ∷ es) one other =
      let first : (d ≡ e) × (one.0 ≡ other.0) = elim (cases_Bool (takes_part m i c.alphabet)) [
        | inl part ↦ one_goes c d e (label m) y one.0 other.0 (MatchBool-at_true _ _ part one.1) (MatchBool-at_true _ _ part other.1)
        | inr stays ↦
            let a = MatchBool-at_false _ _ stays one.1 in
            let b = MatchBool-at_false _ _ stays other.1 in
            (sym a.0 ∙ b.0, sym a.1 ∙ b.1)
      ] in
      let rest = all_go m (i + 1) one.0 z w cs ds es one.2 (subst (λ n. AreDrawn Targets m (i + 1) n cs es w) (sym first.1) other.2) in
      (ap₂ (λ (x : Component T) (l : List (Component T)). x ∷ l) first.0 rest.0, rest.1)

  -- ---- a move leads to one network
  one_next : (t u v : Tree T) (y z w : ℕ) (m : Move) → Goes Step Targets t y m u z → Goes Step Targets t y m v w → (u ≡ v) × (z ≡ w)
  one_next t u v y z w m one other =
      let r = all_go m 0 y z w (leaves t) (leaves u) (leaves v) one.draws other.draws in
      (steps_are_told Step t u v (label m) (label m) (step_of Step t m u one.takes) (step_of Step t m v other.takes) r.0, r.1)

  -- ---- walks
  -- there is no more to come: all steps are taken, or there is no option
  abbrev IsOver : ℕ → List Move → Tree T → Type 0
  IsOver steps ms t = (length ms ≡ steps) ⊎ ((length ms < steps) × HasNone (Has Step t))

  one_option : (Has : Move → Type 0) (number : ℕ) (m : Move) → Chooses Has number m → Has m
  one_option Has number m one = one.are.sound m (place_among number (length one.options), one.chosen)

  no_more : (steps x : ℕ) (s : Tree T) (m : Move) (ms : List Move) → IsOver steps [] s → ((length (m ∷ ms) ≡ steps) ⊎ (length (m ∷ ms) < steps)) → Chooses (Has Step s) x m → ⊥
  no_more steps x s m ms (inl none) (inl all) chooses = absurd (omega (arith, none, all))
  no_more steps x s m ms (inl none) (inr fewer) chooses = absurd (omega (arith, none, fewer))
  no_more steps x s m ms (inr none) count chooses = none.1 m (one_option (Has Step s) x m chooses)

  counted : (steps : ℕ) (ms : List Move) (t : Tree T) → IsOver steps ms t → (length ms ≡ steps) ⊎ (length ms < steps)
  counted steps ms t (inl all) = inl all
  counted steps ms t (inr fewer) = inr fewer.0

  fewer_over : (steps : ℕ) (m : Move) (ms : List Move) (t : Tree T) → IsOver (suc steps) (m ∷ ms) t → IsOver steps ms t
  fewer_over steps m ms t (inl all) = inl (omega (arith, all))
  fewer_over steps m ms t (inr fewer) = let less = fewer.0 in inr (omega (arith, less), fewer.1)

  none_over : (m : Move) (ms : List Move) (t : Tree T) → IsOver 0 (m ∷ ms) t → ⊥
  none_over m ms t (inl all) = absurd (omega (arith, all))
  none_over m ms t (inr fewer) = let less = fewer.0 in absurd (omega (arith, less))

  record SameEnd (ms ns : List Move) (t v : Tree T) : Type 0 where
    moves_same : ms ≡ ns
    last_same : t ≡ v

  one_walk : (steps x y z w : ℕ) (s t v : Tree T) (ms ns : List Move) → IsWalk (Has Step) (Goes Step Targets) x y s ms t z → IsWalk (Has Step) (Goes Step Targets) x y s ns v w → IsOver steps ms t → IsOver steps ns v → SameEnd ms ns t v
  one_walk steps x y z w s t v [] [] one other over also = record { moves_same = refl; last_same = sym one.0 ∙ other.0 }
  one_walk steps x y z w s t v [] (n ∷ ns) one other over also =
      absurd (no_more steps (next_number x) s n ns (subst (λ (a : Tree T). IsOver steps [] a) (sym one.0) over) (counted steps (n ∷ ns) v also) other.2)
  one_walk steps x y z w s t v (m ∷ ms) [] one other over also =
      absurd (no_more steps (next_number x) s m ms (subst (λ (a : Tree T). IsOver steps [] a) (sym other.0) also) (counted steps (m ∷ ms) t over) one.2)
  one_walk zero x y z w s t v (m ∷ ms) (n ∷ ns) one other over also = absurd (none_over m ms t over)
  one_walk (suc steps) x y z w s t v (m ∷ ms) (n ∷ ns) one other over also =
      let same : m ≡ n = one_choice (Has Step s) (next_number x) m n one.2 other.2 in
      let next = one_next s one.0 other.0 y one.1 other.1 m one.3 (subst (λ (a : Move). Goes Step Targets s y a other.0 other.1) (sym same) other.3) in
      let from : IsWalk (Has Step) (Goes Step Targets) (next_number x) one.1 one.0 ns v w =
      subst (λ (u : Tree T). IsWalk (Has Step) (Goes Step Targets) (next_number x) one.1 u ns v w) (sym next.0) (subst (λ k. IsWalk (Has Step) (Goes Step Targets) (next_number x) k other.0 ns v w) (sym next.1) other.4) in
      let rest = one_walk steps (next_number x) one.1 z w one.0 t v ms ns one.4 from (fewer_over steps m ms t over) (fewer_over steps n ns v also) in
      record { moves_same = ap₂ (λ (a : Move) (l : List Move). a ∷ l) same rest.moves_same; last_same = rest.last_same }

  pub the_walk_is_one : TheWalkIsOne Step Targets
  the_walk_is_one seed steps t moves others b c walk other =
      let r = one_walk steps seed (first_draw seed) walk.drawn other.drawn t walk.last other.last moves others walk.walk other.walk walk.count other.count in
      record {
        moves_same = r.moves_same;
        stuck_same =
            same_tests b c (λ h. other.stuck.1 (subst (λ (u : Tree T). HasNone (Has Step u)) r.last_same (walk.stuck.0 h)))
            (λ h. walk.stuck.1 (subst (λ (u : Tree T). HasNone (Has Step u)) (sym r.last_same) (other.stuck.0 h)));
        last_same = r.last_same;
      }
