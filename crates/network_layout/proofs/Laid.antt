-- What the walk has laid out, from what it has laid out below.
use Rattle.network_layout.proofs.Prelude.{◌≡◌, ℕ, ◌+◌, ◌<◌, if◌then◌else◌, Ok, Err, List, [], ◌∷◌, ◌++◌, length, ap, sym, ◌∙◌, subst, append_assoc, append-nil, lt-ltb, length-append, union_of, Net, Proc, Component, Tree, Operands, leaves, leaf, parallel, none, operand, joint, Walked, events_under, goes_on, operand_first, side_by_side, tree_within, LayoutFault, Stop, Result, Fails, IsLaid, Lays, Place, component, operand_walked, node, pair_walked, seated, Operand, IsErrAnd, MOST_COMPONENTS}
use Rattle.network_trees.specs.declared.fault.LayoutFault.TheVariants as fault
use Rattle.csp_base.specs.declared.stop.Stop.TheVariants as stop
use Rattle.network_layout.proofs.Together.{joint-append}

pub component_laid : (s : Place) (old new : List (Component Proc)) (alphabet : List ℕ) (q : Proc) (events : List ℕ) → length old < MOST_COMPONENTS
    → new ≡ old ++ component s alphabet q ∷ [] → events ≡ union_of alphabet [] → IsLaid (seated s alphabet q (length old)) old new events
component_laid s old new alphabet q events lt grown together =
    record {
      tree = leaf (component s alphabet q);
      made = ap (λ b. if b then Ok (leaf (component s alphabet q)) else Err fault.ComponentLimit) (lt-ltb (length old) MOST_COMPONENTS lt);
      seats = grown;
      together = together;
    }

-- how far the seats grew
pub grown_by : (outcome : Walked (Tree Proc)) (old new : List (Component Proc)) (events : List ℕ) (laid : IsLaid outcome old new events) → length new ≡ length old + length (leaves laid.tree)
grown_by outcome old new events laid = ap length laid.seats ∙ length-append old (leaves laid.tree)

-- a fault of a part is a fault of the whole
pub passes : (r : Result (List ℕ) (Stop LayoutFault)) (s : Stop LayoutFault) (part : Walked (Tree Proc)) (walk : ℕ → Walked (Tree Proc)) (old new : List (Component Proc))
    → IsErrAnd r (λ t. t ≡ s) → Fails part s → ((f : LayoutFault) → part ≡ Err f → walk (length old) ≡ Err f) → Lays r walk old new
passes (Ok events) s part walk old new is fails whole = absurd is
passes (Err t) stop.NoMemory part walk old new is fails whole = subst (Fails (walk (length old))) (sym is) tt
passes (Err t) (stop.Told f) part walk old new is fails whole = subst (Fails (walk (length old))) (sym is) (whole f fails)

module _ (s : Place) (alphabet : List ℕ) (n : Net) where
  pub first_made : (k : ℕ) (others : ℕ → Walked (Operands Proc)) (tree : Tree Proc) → operand_walked s alphabet n k ≡ Ok tree
      → operand_first s.program (tree_within s.program s.levels) k alphabet s.env n others ≡ goes_on (others (k + length (leaves tree))) (λ os. Ok (operand alphabet tree os))
  unfolding operand_walked
  first_made k others tree is = ap (λ o. goes_on o (λ tree. goes_on (others (k + length (leaves tree))) (λ os. Ok (operand alphabet tree os)))) is

-- ---- two operands

module _ (s : Place) (left right : Operand) (la ra : List ℕ) (has_left : events_under s.program s.env left.alphabet.now ≡ Ok la) (has_right : events_under s.program s.env right.alphabet.now ≡ Ok ra) where
  pair_made : (k : ℕ) (t u : Tree Proc) → operand_walked s la left.net.now k ≡ Ok t → operand_walked s ra right.net.now (k + length (leaves t)) ≡ Ok u
      → pair_walked s left right k ≡ Ok (parallel (operand la t (operand ra u none)))
  unfolding node
  pair_made k t u is also =
      let below = tree_within s.program s.levels in
      rw (has_left, has_right) (ap (side_by_side s.program below)
      (first_made s la left.net.now k (λ j. operand_first s.program below j ra s.env right.net.now (λ _. Ok none)) t is ∙
      ap (λ o. goes_on o (λ os. Ok (operand la t os))) (first_made s ra right.net.now (k + length (leaves t)) (λ _. Ok none) u also)))

  pub pair_laid : (old mid new : List (Component Proc)) (first second events : List ℕ) → IsLaid (operand_walked s la left.net.now (length old)) old mid first
      → IsLaid (operand_walked s ra right.net.now (length mid)) mid new second → events ≡ union_of first second → IsLaid (pair_walked s left right (length old)) old new events
  pair_laid old mid new first second events one other together =
      let place = grown_by (operand_walked s la left.net.now (length old)) old mid first one in
      record {
        tree = parallel (operand la one.tree (operand ra other.tree none));
        made = pair_made (length old) one.tree other.tree one.made (subst (λ j. operand_walked s ra right.net.now j ≡ Ok other.tree) place other.made);
        seats = other.seats ∙ (ap (λ xs. xs ++ leaves other.tree) one.seats ∙ (append_assoc old (leaves one.tree) (leaves other.tree) ∙
            ap (λ xs. old ++ (leaves one.tree ++ xs)) (sym (append-nil (leaves other.tree)))));
        together = together ∙ (ap (λ xs. union_of xs second) one.together ∙ (ap (union_of (joint (leaves one.tree))) other.together ∙
            (sym (joint-append (leaves one.tree) (leaves other.tree)) ∙ ap (λ xs. joint (leaves one.tree ++ xs)) (sym (append-nil (leaves other.tree))))));
      }
