-- The tree that a step leads to is told by its leaves, since a step keeps the tree's shape.
use Rattle.net_sound.proofs.Prelude.{◌≡◌, ℕ, ◌+◌, inl, inr, List, [], ◌∷◌, ◌++◌, length, refl, sym, ap, ap₂, subst, ◌∙◌, arith, length-append, has, Label, silent, visible, Tree, Operands, NetworkStep, OneSilent, AllTogether, leaves, leaves_of_operands, leaf, parallel, none, operand, StepsAreToldByLeaves}
use Rattle.net_sound.proofs.FlatLists.{by_test}

abbrev mutual
  SameShape : {T : Type 0} → Tree T → Tree T → Type 0
  SameShape (leaf c) (leaf d) = Unit {0}
  SameShape (parallel os) (parallel qs) = SameOperands os qs
  SameShape _ _ = ⊥

  SameOperands : {T : Type 0} → Operands T → Operands T → Type 0
  SameOperands none none = Unit {0}
  SameOperands (operand a t os) (operand b u qs) = (a ≡ b) × SameShape t u × SameOperands os qs
  SameOperands _ _ = ⊥

mutual
  itself : {T : Type 0} (t : Tree T) → SameShape t t
  itself (leaf c) = tt
  itself (parallel os) = operands_themselves os

  operands_themselves : {T : Type 0} (os : Operands T) → SameOperands os os
  operands_themselves none = tt
  operands_themselves (operand a t os) = (refl, itself t, operands_themselves os)

mutual
  step_shape : {T : Type 0} (Step : T → Label → T → Type 0) (t : Tree T) (l : Label) (u : Tree T) → NetworkStep Step t l u → SameShape t u
  step_shape Step (leaf c) l (leaf d) h = tt
  step_shape Step (parallel os) silent (parallel qs) h = silent_shape Step os qs h
  step_shape Step (parallel os) (visible e) (parallel qs) h = visible_shape Step e os qs h.1
  step_shape Step _ _ _ h = absurd h

  silent_shape : {T : Type 0} (Step : T → Label → T → Type 0) (os qs : Operands T) → OneSilent Step os qs → SameOperands os qs
  silent_shape Step (operand a t os) (operand b u qs) h =
      elim h.1 [
        | inl k ↦ (h.0, step_shape Step t silent u k.0, subst (SameOperands os) k.1 (operands_themselves os))
        | inr k ↦ (h.0, subst (SameShape t) k.0 (itself t), silent_shape Step os qs k.1)
      ]
  silent_shape Step _ _ h = absurd h

  visible_shape : {T : Type 0} (Step : T → Label → T → Type 0) (e : ℕ) (os qs : Operands T) → AllTogether Step e os qs → SameOperands os qs
  visible_shape Step e none none h = tt
  visible_shape Step e (operand a t os) (operand b u qs) h =
      elim (by_test (has a e) h.1) [
        | inl k ↦ (h.0, step_shape Step t (visible e) u k.1, visible_shape Step e os qs h.2)
        | inr k ↦ (h.0, subst (SameShape t) k.1 (itself t), visible_shape Step e os qs h.2)
      ]
  visible_shape Step e _ _ h = absurd h

mutual
  as_many : {T : Type 0} (t u : Tree T) → SameShape t u → length (leaves t) ≡ length (leaves u)
  as_many (leaf c) (leaf d) h = refl
  as_many (parallel os) (parallel qs) h = as_many_operands os qs h
  as_many _ _ h = absurd h

  as_many_operands : {T : Type 0} (os qs : Operands T) → SameOperands os qs → length (leaves_of_operands os) ≡ length (leaves_of_operands qs)
  as_many_operands none none h = refl
  as_many_operands (operand a t os) (operand b u qs) h =
      length-append (leaves t) (leaves_of_operands os) ∙ ap₂ (λ m n. m + n) (as_many t u h.1) (as_many_operands os qs h.2) ∙ sym (length-append (leaves u) (leaves_of_operands qs))
  as_many_operands _ _ h = absurd h

parts_of : {X : Type 0} (xs ys zs ws : List X) → length xs ≡ length ys → xs ++ zs ≡ ys ++ ws → (xs ≡ ys) × (zs ≡ ws)
parts_of [] [] zs ws n h = (refl, h)
parts_of [] (y ∷ ys) zs ws n h = absurd (omega arith)
parts_of (x ∷ xs) [] zs ws n h = absurd (omega arith)
parts_of (x ∷ xs) (y ∷ ys) zs ws n h =
    let first : x ≡ y = cc in
    let rest : xs ++ zs ≡ ys ++ ws = cc in
    let r = parts_of xs ys zs ws (omega arith) rest in
    (ap₂ (λ a b. a ∷ b) first r.0, r.1)

head_same : {X : Type 0} (x y : X) → ◌≡◌ {A = List X} (x ∷ []) (y ∷ []) → x ≡ y
head_same x y h = cc

mutual
  told : {T : Type 0} (t u v : Tree T) → SameShape t u → SameShape t v → leaves u ≡ leaves v → u ≡ v
  told (leaf c) (leaf d) (leaf e) h k same = ap leaf (head_same d e same)
  told (leaf c) (parallel qs) v h k same = absurd h
  told (parallel os) (leaf d) v h k same = absurd h
  told (parallel os) (parallel qs) (parallel rs) h k same = ap parallel (operands_told os qs rs h k same)
  told _ _ _ h k same = absurd k

  operands_told : {T : Type 0} (os qs rs : Operands T) → SameOperands os qs → SameOperands os rs → leaves_of_operands qs ≡ leaves_of_operands rs → qs ≡ rs
  operands_told none none none h k same = refl
  operands_told none (operand b u qs) rs h k same = absurd h
  operands_told (operand a t os) none rs h k same = absurd h
  operands_told (operand a t os) (operand b u qs) (operand c v rs) h k same =
      let p = parts_of (leaves u) (leaves v) (leaves_of_operands qs) (leaves_of_operands rs) (sym (as_many t u h.1) ∙ as_many t v k.1) same in
      let alphabet : b ≡ c = sym h.0 ∙ k.0 in
      let tree : u ≡ v = told t u v h.1 k.1 p.0 in
      let others : qs ≡ rs = operands_told os qs rs h.2 k.2 p.1 in
      ap (λ x. operand x u qs) alphabet ∙ ap (λ x. operand c x qs) tree ∙ ap (λ x. operand c v x) others
  operands_told _ _ _ h k same = absurd k

pub steps_are_told : {T : Type 0} (Step : T → Label → T → Type 0) → StepsAreToldByLeaves Step
steps_are_told Step t u v l m h k same = told t u v (step_shape Step t l u h) (step_shape Step t m v k) same
