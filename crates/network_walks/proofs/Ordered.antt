-- Targets by the numbers of terms and the terms themselves: where a table has the targets in order, what is drawn by number is drawn by term.
use Rattle.network_walks.proofs.Prelude.{◌≡◌, ℕ, zero, suc, ◌+◌, inl, inr, Bool, true, nat_eq, MatchBool, List, [], ◌∷◌, length, map, slice_get, Some, refl, sym, ap, subst, ◌∙◌, arith, MatchBool-at_false, MatchBool-at_true, cases_Bool, eqb-true, length-map, none-some, same_Some, slice_get-map, has, Label, Component, targets_in, match_false, match_true, IsDrawn, label, takes_part, AllDraw, next_number, place_among, Move, AreDrawn, DrawsTarget, option_map, IsInside}
use Rattle.numbered_walks.specs.declared.moves.Move.TheVariants as move
use Rattle.network_walks.proofs.Rows.{Row, Stand, numbered_rows}

-- ---- what stands at a place of a list, and of its image
some_at : {X : Type 0} (xs : List X) (k : ℕ) (x : X) → slice_get (map (λ (y : X). Some y) xs) k ≡ Some (Some x) → slice_get xs k ≡ Some x
some_at [] k x at = absurd (none-some (Some x) at)
some_at (y ∷ xs) zero x at = same_Some (Some y) (Some x) at
some_at (y ∷ xs) (suc k) x at = some_at xs k x at

only_one : {X : Type 0} (xs : List X) (x : X) → length xs ≡ 1 → slice_get xs 0 ≡ Some x → xs ≡ x ∷ []
only_one [] x one at = absurd (omega (arith, one))
only_one (y ∷ []) x one at = ap (λ z. z ∷ []) (same_Some y x at)
only_one (y ∷ z ∷ xs) x one at = absurd (omega (arith, one))

-- the component in this place is inside its alphabet
inside_of : (m : Move) (i : ℕ) (alphabet : List ℕ) → takes_part m i alphabet ≡ true → IsInside alphabet (label m)
inside_of (move.Silent j) i alphabet part = tt
inside_of (move.Event e) i alphabet part = part

module _ {T : Type 0} (Step : T → Label → T → Type 0) (Targets : T → Label → List T → Type 0) where
  -- the targets of a term by a label, and the same by number
  pub record InOrder (r : Row Step) (m : ℕ) (x : T) (l : Label) : Type 0 where
    pub targets : List T
    pub are : Targets x l targets
    pub same : map (λ n. slice_get r.terms n) (targets_in r.table m l) ≡ map (λ t. Some t) targets

  abbrev pub HasOrder : Row Step → Type 0
  HasOrder r = (m : ℕ) (x : T) (l : Label) → slice_get r.terms m ≡ Some x → IsInside r.component.alphabet l → InOrder r m x l

  abbrev pub AllInOrder : List (Row Step) → Type 0
  AllInOrder [] = Unit {0}
  AllInOrder (r ∷ rows) = HasOrder r × AllInOrder rows

  there : (terms ts : List T) (ns : List ℕ) (k n : ℕ) (d : T) → map (λ n. slice_get terms n) ns ≡ map (λ t. Some t) ts → slice_get terms n ≡ Some d → slice_get ns k ≡ Some n → slice_get ts k ≡ Some d
  there terms ts ns k n d same is at = some_at ts k d (sym (ap (λ l. slice_get l k) same) ∙ slice_get-map (λ n. slice_get terms n) ns k ∙ ap (option_map (λ n. slice_get terms n)) at ∙ ap Some is)

  as_many_targets : (terms ts : List T) (ns : List ℕ) → map (λ n. slice_get terms n) ns ≡ map (λ t. Some t) ts → length ns ≡ length ts
  as_many_targets terms ts ns same = sym (length-map ns (λ n. slice_get terms n)) ∙ ap length same ∙ length-map ts (λ t. Some t)

  drawn_by_term : (terms ts : List T) (ns : List ℕ) (y n z : ℕ) (d : T) → map (λ n. slice_get terms n) ns ≡ map (λ t. Some t) ts → slice_get terms n ≡ Some d → IsDrawn ns y n z → IsDrawn ts y d z
  drawn_by_term terms ts ns y n z d same is drawn =
      let many = as_many_targets terms ts ns same in
      elim (cases_Bool (nat_eq (length ns) 1)) as (λ _. IsDrawn ts y d z) [
        | inl one ↦
            let only = MatchBool-at_true _ _ one drawn in
            let count : length ts ≡ 1 = sym many ∙ eqb-true (length ns) 1 one in
            match_true (nat_eq (length ts) 1) _ _ (ap (λ k. nat_eq k 1) (sym many) ∙ one) (
              only_one ts d count (there terms ts ns 0 n d same is (ap (λ (l : List ℕ). slice_get l 0) only.0)),
              only.1,
            )
        | inr several ↦
            let chosen = MatchBool-at_false _ _ several drawn in
            match_false (nat_eq (length ts) 1) _ _ (ap (λ k. nat_eq k 1) (sym many) ∙ several) (
              subst (λ k. slice_get ts (place_among (next_number y) k) ≡ Some d) many (there terms ts ns (place_among (next_number y) (length ns)) n d same is chosen.0),
              chosen.1,
            )
      ]

  same_component : (c d : Component T) → c.term ≡ d.term → c.alphabet ≡ d.alphabet → c ≡ d
  same_component c d term alphabet = λ i. record { alphabet = alphabet i; term = term i }

  pub drawn_alike : (m : Move) (i : ℕ) (rows : List (Row Step)) (cs ds : List (Component T)) (xs ns : List ℕ) (y z : ℕ) → AllInOrder rows → Stand Step rows cs xs → Stand Step rows ds ns → AllDraw m i (numbered_rows Step rows) y xs ns z
      → AreDrawn Targets m i y cs ds z
  drawn_alike m i [] [] [] [] [] y z order stand after draws = draws
  drawn_alike m i [] [] ds [] ns y z order stand after draws = absurd after
  drawn_alike m i (r ∷ rows) (c ∷ cs) (d ∷ ds) (x ∷ xs) (n ∷ ns) y z order stand after draws =
      let w = draws.0 in
      let same : takes_part m i r.component.alphabet ≡ takes_part m i c.alphabet = ap (takes_part m i) stand.0.alphabet in
      let kept : c.alphabet ≡ d.alphabet = sym stand.0.alphabet ∙ after.0.alphabet in (
        w,
        elim (cases_Bool (takes_part m i r.component.alphabet)) as (λ _. MatchBool (takes_part m i c.alphabet) (DrawsTarget Targets c d (label m) y w) ((c ≡ d) × (y ≡ w))) [
          | inl part ↦
              let o = order.0 x c.term (label m) stand.0.listed (inside_of m i r.component.alphabet part) in
              match_true (takes_part m i c.alphabet) _ _ (sym same ∙ part)
              (record { targets = o.targets; are = o.are; drawn = drawn_by_term r.terms o.targets (targets_in r.table x (label m)) y n w d.term o.same after.0.listed (MatchBool-at_true _ _ part draws.1); alphabet = kept })
          | inr stays ↦
              let still = MatchBool-at_false _ _ stays draws.1 in
              let term : c.term ≡ d.term = same_Some c.term d.term (sym stand.0.listed ∙ ap (slice_get r.terms) still.0 ∙ after.0.listed) in
              match_false (takes_part m i c.alphabet) _ _ (sym same ∙ stays) (same_component c d term kept, still.1)
        ],
        drawn_alike m (i + 1) rows cs ds xs ns w z order.1 stand.1 after.1 draws.2,
      )
  drawn_alike m i (r ∷ rows) (c ∷ cs) ds (x ∷ xs) ns y z order stand after draws = absurd after
  drawn_alike m i _ _ ds _ ns y z order stand after draws = absurd stand
