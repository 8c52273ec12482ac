-- A run of silent and hidden steps as a list of moves, which each component goes along with.
use Rattle.hidden_steps.proofs.Prelude.{◌≡◌, ◌<◌, ◌+◌, ◌≤◌, ℕ, zero, suc, inl, inr, List, [], ◌∷◌, length, nat_eq, IsTrue, MatchBool, refl, sym, ap, subst, ◌∙◌, arith, eq-eqb, length-map, ne_eqb, Walk, has, Label, silent, visible, Component, ComponentStep, in_some_component, OneMoves, AllTakePart, FlatStep, alphabets, flat_alphabets, match_true, match_false, same_some, HiddenStep}

-- a component moves silently, or an event happens
pub data Move : Type 0 where
  quiet : ℕ → Move
  event : ℕ → Move

-- the component with the number i goes along with the moves: it moves silently where it is its turn, does its events, and stays else
abbrev pub Along : {T : Type 0} → (T → Label → T → Type 0) → ℕ → Component T → List Move → Component T → Type 0
Along Step i c [] d = c ≡ d
Along {T} Step i c (quiet j ∷ ms) d = (m : Component T) × MatchBool (nat_eq i j) (ComponentStep Step c silent m) (c ≡ m) × Along Step i m ms d
Along {T} Step i c (event e ∷ ms) d = (m : Component T) × MatchBool (has c.alphabet e) (ComponentStep Step c (visible e) m) (c ≡ m) × Along Step i m ms d

-- all do, numbered from k on
abbrev pub AllAlong : {T : Type 0} → (T → Label → T → Type 0) → ℕ → List (Component T) → List Move → List (Component T) → Type 0
AllAlong Step k [] ms [] = Unit {0}
AllAlong Step k [] ms (d ∷ ds) = ⊥
AllAlong Step k (c ∷ cs) ms [] = ⊥
AllAlong Step k (c ∷ cs) ms (d ∷ ds) = Along Step k c ms d × AllAlong Step (suc k) cs ms ds

none_along : {T : Type 0} (Step : T → Label → T → Type 0) (k : ℕ) (cs : List (Component T)) → AllAlong Step k cs [] cs
none_along Step k [] = tt
none_along Step k (c ∷ cs) = (refl, none_along Step (suc k) cs)

-- components with greater numbers stay
all_stay : {T : Type 0} (Step : T → Label → T → Type 0) (k j : ℕ) (cs : List (Component T)) (ms : List Move) (ds : List (Component T)) → j < k → AllAlong Step k cs ms ds → AllAlong Step k cs (quiet j ∷ ms) ds
all_stay Step k j [] ms [] h a = tt
all_stay Step k j [] ms (d ∷ ds) h a = absurd a
all_stay Step k j (c ∷ cs) ms [] h a = absurd a
all_stay Step k j (c ∷ cs) ms (d ∷ ds) h a = ((c, match_false (nat_eq k j) _ _ (ne_eqb k j (λ e. omega (arith, e, h))) refl, a.0), all_stay Step (suc k) j cs ms ds (omega arith) a.1)

-- a silent step of one of them, first
pub record OneFirst {T : Type 0} (Step : T → Label → T → Type 0) (k : ℕ) (cs : List (Component T)) (ms : List Move) (ds : List (Component T)) : Type 0 where
  pub mover : ℕ
  pub from : k ≤ mover
  pub to : mover < k + length cs
  pub along : AllAlong Step k cs (quiet mover ∷ ms) ds

one_first : {T : Type 0} (Step : T → Label → T → Type 0) (k : ℕ) (cs xs : List (Component T)) (ms : List Move) (ds : List (Component T)) → OneMoves Step cs xs → AllAlong Step k xs ms ds → OneFirst Step k cs ms ds
one_first Step k [] xs ms ds h a = absurd h
one_first Step k (c ∷ cs) [] ms ds h a = absurd h
one_first Step k (c ∷ cs) (x ∷ xs) ms [] h a = absurd a
one_first Step k (c ∷ cs) (x ∷ xs) ms (d ∷ ds) (inl h) a = record {
  mover = k;
  from = omega arith;
  to = omega arith;
  along = ((x, match_true (nat_eq k k) _ _ (eq-eqb k k refl) h.0, a.0), all_stay Step (suc k) k cs ms ds (omega arith) (subst (λ zs. AllAlong Step (suc k) zs ms ds) (sym h.1) a.1));
}
one_first Step k (c ∷ cs) (x ∷ xs) ms (d ∷ ds) (inr h) a =
    let r = one_first Step (suc k) cs xs ms ds h.1 a.1 in
    let from : suc k ≤ r.mover = r.from in
    let to : r.mover < suc k + length cs = r.to in
    record {
      mover = r.mover;
      from = omega arith;
      to = omega arith;
      along = ((x, match_false (nat_eq k r.mover) _ _ (ne_eqb k r.mover (λ e. omega (arith, e, from))) h.0, a.0), r.along);
    }

event_first : {T : Type 0} (Step : T → Label → T → Type 0) (k e : ℕ) (cs xs : List (Component T)) (ms : List Move) (ds : List (Component T)) → AllTakePart Step e cs xs → AllAlong Step k xs ms ds → AllAlong Step k cs (event e ∷ ms) ds
event_first Step k e [] [] ms [] h a = tt
event_first Step k e [] [] ms (d ∷ ds) h a = absurd a
event_first Step k e [] (x ∷ xs) ms ds h a = absurd h
event_first Step k e (c ∷ cs) [] ms ds h a = absurd h
event_first Step k e (c ∷ cs) (x ∷ xs) ms [] h a = absurd a
event_first Step k e (c ∷ cs) (x ∷ xs) ms (d ∷ ds) h a = ((x, h.0, a.0), event_first Step (suc k) e cs xs ms ds h.1 a.1)

-- each move is one of a component that there is, or of a hidden event that some component has
abbrev pub AreMoves : {T : Type 0} → List ℕ → List (Component T) → List Move → Type 0
AreMoves hidden cs [] = Unit {0}
AreMoves hidden cs (quiet j ∷ ms) = (j < length cs) × AreMoves hidden cs ms
AreMoves hidden cs (event e ∷ ms) = IsTrue (has hidden e) × IsTrue (in_some_component cs e) × AreMoves hidden cs ms

-- the same components have them, by their alphabets
as_many : {T : Type 0} (cs ds : List (Component T)) → alphabets cs ≡ alphabets ds → length cs ≡ length ds
as_many cs ds same = sym (length-map cs (λ c. c.alphabet)) ∙ ap length same ∙ length-map ds (λ c. c.alphabet)

pub moves_along : {T : Type 0} (hidden : List ℕ) (cs ds : List (Component T)) (ms : List Move) → alphabets cs ≡ alphabets ds → AreMoves hidden cs ms → AreMoves hidden ds ms
moves_along hidden cs ds [] same a = tt
moves_along hidden cs ds (quiet j ∷ ms) same a = (let less : j < length cs = a.0 in let many = as_many cs ds same in omega (arith, less, many), moves_along hidden cs ds ms same a.1)
moves_along hidden cs ds (event e ∷ ms) same a = (a.0, subst IsTrue (same_some cs ds e same) a.1, moves_along hidden cs ds ms same a.2)

-- the moves of a run of silent and hidden steps
pub record HasMoves {T : Type 0} (Step : T → Label → T → Type 0) (hidden : List ℕ) (n : ℕ) (cs ds : List (Component T)) : Type 0 where
  pub moves : List Move
  pub count : length moves ≡ n
  pub are : AreMoves hidden cs moves
  pub along : AllAlong Step 0 cs moves ds

pub has_moves : {T : Type 0} (Step : T → Label → T → Type 0) (hidden : List ℕ) (n : ℕ) (cs ds : List (Component T)) → Walk (HiddenStep (FlatStep Step) hidden) n cs ds → HasMoves Step hidden n cs ds
has_moves Step hidden zero cs ds h = record { moves = []; count = refl; are = tt; along = subst (AllAlong Step 0 cs []) h (none_along Step 0 cs) }
has_moves Step hidden (suc n) cs ds h =
    let r = has_moves Step hidden n h.0 ds h.2 in
    elim h.1 [
      | inl s ↦
          let one = one_first Step 0 cs h.0 r.moves ds s r.along in
          record {
            moves = quiet one.mover ∷ r.moves;
            count = ap suc r.count;
            are = ((let to : one.mover < 0 + length cs = one.to in omega arith), moves_along hidden h.0 cs r.moves (sym (flat_alphabets Step cs silent h.0 s)) r.are);
            along = one.along;
          }
      | inr s ↦ record {
        moves = event s.0 ∷ r.moves;
        count = ap suc r.count;
        are = (s.1, s.2.0, moves_along hidden h.0 cs r.moves (sym (flat_alphabets Step cs (visible s.0) h.0 s.2)) r.are);
        along = event_first Step 0 s.0 cs h.0 r.moves ds s.2.1 r.along;
      }
    ]
