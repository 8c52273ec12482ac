-- Operands for the values of a name, one after another.
use Rattle.network_layout.proofs.Prelude.{◌≡◌, ℕ, ◌+◌, ◌<◌, ◌≤◌, Ok, Err, List, [], ◌∷◌, ◌++◌, length, drop, get_or, refl, ap, sym, ◌∙◌, append_assoc, append-nil, drop_of_length-le, drop_read, union_of, Atom, Outcome, Proc, Component, Tree, Operands, leaves, leaves_of_operands, parallel, none, operand, joint, Walked, each_operand, events_under, goes_on, operand_first, side_by_side, tree_within, with_value, LayoutFault, IsLaid, Place, one_operand, operand_walked, operands_each, with_name, Operand}
use Rattle.network_layout.proofs.Laid.{first_made, grown_by}
use Rattle.network_layout.proofs.Together.{joint-append}

-- operands, and others after them
abbrev before : Operands Proc → Operands Proc → Operands Proc
before none qs = qs
before (operand a t os) qs = operand a t (before os qs)

before-last : (so_far : Operands Proc) (a : List ℕ) (t : Tree Proc) (os : Operands Proc) → before (before so_far (operand a t none)) os ≡ before so_far (operand a t os)
before-last none a t os = refl
before-last (operand b u so_far) a t os = ap (operand b u) (before-last so_far a t os)

before-none : (so_far : Operands Proc) → before so_far none ≡ so_far
before-none none = refl
before-none (operand b u so_far) = ap (operand b u) (before-none so_far)

leaves-last : (so_far : Operands Proc) (a : List ℕ) (t : Tree Proc) → leaves_of_operands (before so_far (operand a t none)) ≡ leaves_of_operands so_far ++ leaves t
leaves-last none a t = append-nil (leaves t)
leaves-last (operand b u so_far) a t = ap (λ cs. leaves u ++ cs) (leaves-last so_far a t) ∙ sym (append_assoc (leaves u) (leaves_of_operands so_far) (leaves t))

-- the next operand was made, or was not
nothing_before : (o : Walked (Operands Proc)) → o ≡ goes_on o (λ os. Ok os)
nothing_before (Ok os) = refl
nothing_before (Err f) = refl

one_before : (o : Walked (Operands Proc)) (so_far : Operands Proc) (a : List ℕ) (t : Tree Proc)
    → goes_on (goes_on o (λ os. Ok (operand a t os))) (λ os. Ok (before so_far os)) ≡ goes_on o (λ os. Ok (before (before so_far (operand a t none)) os))
one_before (Ok os) so_far a t = ap (λ all. Ok all) (sym (before-last so_far a t os))
one_before (Err f) so_far a t = refl

same_fault : {A B C : Type 0} (o : Outcome A) (g : A → Walked B) (next : A → B → Walked C) (f : LayoutFault) → with_value o g ≡ Err f → with_value o (λ a. goes_on (g a) (next a)) ≡ Err f
same_fault (Ok a) g next f is = ap (λ o. goes_on o (next a)) is
same_fault (Err why) g next f is = cc

-- a value was found, from which the next step came to b
record Had {A B : Type 0} (first : Outcome A) (next : A → Walked B) (b : B) : Type 0 where
  value : A
  is : first ≡ Ok value
  rest : next value ≡ Ok b

had : {A B : Type 0} (first : Outcome A) (next : A → Walked B) (b : B) → with_value first next ≡ Ok b → Had first next b
had (Ok a) next b h = record { value = a; is = refl; rest = h }
had (Err k) next b h = absurd cc

module _ (s : Place) (x : ℕ) (o : Operand) where
  -- the operands for these values, where k components come before
  pub each : List Atom → ℕ → Walked (Operands Proc)
  each vs k = each_operand s.program (tree_within s.program s.levels) s.env x o.alphabet.now o.net.now vs k

  -- The operands for all values, where some are done and the rest is still to come; the seats grew by the components of those that are done.
  pub record EachSoFar (all rest : List Atom) (old new : List (Component Proc)) (events : List ℕ) : Type 0 where
    pub so_far : Operands Proc
    pub split : each all (length old) ≡ goes_on (each rest (length new)) (λ os. Ok (before so_far os))
    pub seats : new ≡ old ++ leaves_of_operands so_far
    pub together : events ≡ joint (leaves_of_operands so_far)

  pub each_begin : (vs : List Atom) (old : List (Component Proc)) (events : List ℕ) → events ≡ [] → EachSoFar vs vs old old events
  each_begin vs old events is = record { so_far = none; split = nothing_before (each vs (length old)); seats = sym (append-nil old); together = is }

  pub each_end : (vs : List Atom) (i : ℕ) (old new : List (Component Proc)) (events : List ℕ) → EachSoFar vs (drop i vs) old new events → length vs ≤ i
      → IsLaid (operands_each s x o vs (length old)) old new events
  unfolding operands_each each
  each_end vs i old new events far past =
      record {
        tree = parallel far.so_far;
        made = ap (side_by_side s.program (tree_within s.program s.levels)) (far.split ∙ (ap (λ ws. goes_on (each ws (length new)) (λ os. Ok (before far.so_far os))) (drop_of_length-le vs past) ∙
            ap (λ os. Ok os) (before-none far.so_far)));
        seats = far.seats;
        together = far.together;
      }

  module _ (vs : List Atom) (i : ℕ) (v : Atom) (old mid : List (Component Proc)) (events : List ℕ) (far : EachSoFar vs (drop i vs) old mid events) (lt : i < length vs) (is : v ≡ get_or vs i v) where
    abbrev pub one : Walked (Tree Proc)
    one = one_operand (with_name s x v) o (length mid)

    abbrev pub rest : ℕ → Walked (Operands Proc)
    rest = each (drop (i + 1) vs)

    now_next : each vs (length old) ≡ goes_on (each (v ∷ drop (i + 1) vs) (length mid)) (λ os. Ok (before far.so_far os))
    now_next = far.split ∙ ap (λ ws. goes_on (each ws (length mid)) (λ os. Ok (before far.so_far os))) (drop_read vs i v lt is)

    pub each_fault : (f : LayoutFault) → one ≡ Err f → operands_each s x o vs (length old) ≡ Err f
    unfolding operands_each one_operand operand_walked each
    each_fault f bad =
        ap (side_by_side s.program (tree_within s.program s.levels)) (now_next ∙ ap (λ os. goes_on os (λ os. Ok (before far.so_far os)))
        (same_fault (events_under s.program (with_name s x v).env o.alphabet.now) (λ alphabet. operand_walked (with_name s x v) alphabet o.net.now (length mid))
        (λ alphabet tree. goes_on (rest (length mid + length (leaves tree))) (λ os. Ok (operand alphabet tree os))) f bad))

    -- the alphabet of the next one, and what follows
    record OneMade (tree : Tree Proc) : Type 0 where
      alphabet : List ℕ
      next : each (v ∷ drop (i + 1) vs) (length mid) ≡ goes_on (rest (length mid + length (leaves tree))) (λ os. Ok (operand alphabet tree os))

    one_made : (tree : Tree Proc) → one ≡ Ok tree → OneMade tree
    unfolding one_operand each
    one_made tree made =
        let at = with_name s x v in
        let found = had (events_under s.program at.env o.alphabet.now) (λ alphabet. operand_walked at alphabet o.net.now (length mid)) tree made in
        record {
          alphabet = found.value;
          next = ap (λ os. with_value os (λ alphabet. operand_first s.program (tree_within s.program s.levels) (length mid) alphabet at.env o.net.now rest)) found.is ∙
              first_made at found.value o.net.now (length mid) rest tree found.rest;
        }

    pub each_next : (new : List (Component Proc)) (next all : List ℕ) → IsLaid one mid new next → all ≡ union_of events next → EachSoFar vs (drop (i + 1) vs) old new all
    each_next new next all laid together =
        let made = one_made laid.tree laid.made in
        let so_far = before far.so_far (operand made.alphabet laid.tree none) in
        let leaves_so_far : leaves_of_operands so_far ≡ leaves_of_operands far.so_far ++ leaves laid.tree = leaves-last far.so_far made.alphabet laid.tree in
        record {
          so_far = so_far;
          split = now_next ∙ (ap (λ o. goes_on o (λ os. Ok (before far.so_far os))) made.next ∙
              (one_before (rest (length mid + length (leaves laid.tree))) far.so_far made.alphabet laid.tree ∙
              ap (λ k. goes_on (rest k) (λ os. Ok (before so_far os))) (sym (grown_by one mid new next laid))));
          seats = laid.seats ∙ (ap (λ cs. cs ++ leaves laid.tree) far.seats ∙ (append_assoc old (leaves_of_operands far.so_far) (leaves laid.tree) ∙ ap (λ cs. old ++ cs) (sym leaves_so_far)));
          together = together ∙ (ap (λ es. union_of es next) far.together ∙ (ap (union_of (joint (leaves_of_operands far.so_far))) laid.together ∙
              (sym (joint-append (leaves_of_operands far.so_far) (leaves laid.tree)) ∙ ap joint (sym leaves_so_far))));
        }
