-- The merged table while the nodes are gone through, and at the end.
use Rattle.normal_form.proofs.Prelude.{◌≡◌, ◌↔◌, ℕ, suc, ◌+◌, ◌<◌, inl, inr, cond, nat_eq, List, [], ◌∷◌, ◌++◌, length, get_or, refl, sym, ap, ◌∙◌, subst, arith, below_more, add-one, slice_index, cond-true, cond-false, eq-eqb, ne_eqb, get_or_append_left, get_or_default, get_or_push, length_push, Node, node_at, HaveEqualFuture, NodesRise, SeenInOrder, StepsRise, same_marks, AreMarksOf, renamed, IsFirst, AreMerged, IsMergedTable}
use Rattle.normal_form.proofs.MergedRuns.{in_classes}
use Rattle.normal_form.proofs.ClassOrder.{seen_by, step_at, class_seen, first_turn, seen_most}

-- the nodes of the classes that the first n nodes have
pub record AreMergedSoFar (nodes : List Node) (classes : List ℕ) (n : ℕ) (merged : List Node) : Type 0 where
  pub one_each : length merged ≡ seen_by 0 classes n
  pub first : (k : ℕ) → k < n → IsFirst classes k → node_at merged (slice_index classes k) ≡ renamed classes (node_at nodes k)

module _ (nodes : List Node) (classes : List ℕ) (count : ℕ) (order : SeenInOrder 0 classes count) (n : ℕ) (below : n < length classes) (merged new : List Node) (class : ℕ) (node : Node) (s : AreMergedSoFar nodes classes n merged) (class_is : class ≡ slice_index classes n) (node_is : node ≡ node_at nodes n) where
  pub one_more_merged : new ≡ cond (nat_eq class (length merged)) (merged ++ renamed classes node ∷ []) merged → AreMergedSoFar nodes classes (n + 1) new
  one_more_merged is = elim (step_at classes count order n below) as (λ _. AreMergedSoFar nodes classes (n + 1) new) [
    | inl h ↦
        let other : class ≡ length merged → ⊥ = λ e. absurd (omega (arith, h.0, e, class_is, s.one_each)) in
        let same : new ≡ merged = is ∙ cond-false (nat_eq class (length merged)) (merged ++ renamed classes node ∷ []) merged (ne_eqb class (length merged) other) in
        record {
          one_each = ap length same ∙ s.one_each ∙ sym h.1 ∙ ap (seen_by 0 classes) (sym (add-one n));
          first = below_more (λ k. IsFirst classes k → node_at new (slice_index classes k) ≡ renamed classes (node_at nodes k)) n
              (λ k early f. ap (λ (ns : List Node). node_at ns (slice_index classes k)) same ∙ s.first k early f)
              (λ f. let turn = first_turn classes count order n below f in absurd (omega (arith, turn, h.0)));
        }
    | inr h ↦
        let turn : class ≡ length merged = class_is ∙ h.0 ∙ sym s.one_each in
        let same : new ≡ merged ++ renamed classes node ∷ [] = is ∙ cond-true (nat_eq class (length merged)) (merged ++ renamed classes node ∷ []) merged (eq-eqb class (length merged) turn) in
        record {
          one_each = ap length same ∙ length_push merged (renamed classes node) ∙ ap (λ m. m + 1) s.one_each ∙ add-one (seen_by 0 classes n) ∙ sym h.1 ∙ ap (seen_by 0 classes) (sym (add-one n));
          first = below_more (λ k. IsFirst classes k → node_at new (slice_index classes k) ≡ renamed classes (node_at nodes k)) n
              (λ k early f.
              let inside : slice_index classes k < length merged = rw s.one_each (class_seen classes count order n k early (omega arith)) in
              ap (λ (ns : List Node). node_at ns (slice_index classes k)) same ∙ get_or_append_left merged (renamed classes node ∷ []) (record { next = []; accept = [] }) (slice_index classes k) inside ∙ s.first k early f)
              (λ f. ap (λ (ns : List Node). node_at ns (slice_index classes n)) same
              ∙ get_or_push merged (renamed classes node) (record { next = []; accept = [] }) (slice_index classes n) (sym turn ∙ class_is)
              ∙ ap (renamed classes) node_is);
        }
  ]

pub all_merged : (nodes : List Node) (classes : List ℕ) (count n : ℕ) (merged : List Node) → SeenInOrder 0 classes count → length classes ≡ length nodes → n ≡ length nodes → AreMergedSoFar nodes classes n merged → AreMerged nodes classes count merged
all_merged nodes classes count n merged order one whole s = record {
  one_each = s.one_each ∙ ap (seen_by 0 classes) (whole ∙ sym one) ∙ seen_most classes count order;
  first = λ k h. s.first k (rw whole h);
}

-- the same steps, as the code makes them
pub merged_step : (nodes : List Node) (classes numbers : List ℕ) (count n : ℕ) (merged new : List Node) (node : Node) → numbers ≡ classes → length classes ≡ length nodes → SeenInOrder 0 classes count → n < length nodes → AreMergedSoFar nodes numbers n merged → node ≡ get_or nodes n node → new ≡ cond (nat_eq (slice_index numbers n) (length merged)) (merged ++ renamed numbers node ∷ []) merged → AreMergedSoFar nodes numbers (n + 1) new
merged_step nodes classes numbers count n merged new node same one order below s read is =
    one_more_merged nodes numbers count (subst (λ (xs : List ℕ). SeenInOrder 0 xs count) (sym same) order) n (omega (arith, ap length same, one, below)) merged new (slice_index numbers n) node s refl (read ∙ get_or_default nodes n node (record { next = []; accept = [] }) below) is

pub merged_end : (nodes : List Node) (classes numbers : List ℕ) (count n : ℕ) (merged : List Node) → numbers ≡ classes → length classes ≡ length nodes → SeenInOrder 0 classes count → n ≡ length nodes → AreMergedSoFar nodes numbers n merged → AreMerged nodes classes count merged
merged_end nodes classes numbers count n merged same one order whole s = all_merged nodes classes count n merged order one whole (subst (λ (xs : List ℕ). AreMergedSoFar nodes xs n merged) same s)

-- ---- where no two nodes have the same mark

seen_places : (s : ℕ) (xs : List ℕ) → ((i : ℕ) → i < length xs → slice_index xs i ≡ s + i) → SeenInOrder s xs (s + length xs)
seen_places s [] places = omega arith
seen_places s (x ∷ xs) places =
    inr (places 0 (omega arith) ∙ omega arith, subst (SeenInOrder (s + 1) xs) (omega arith) (seen_places (s + 1) xs (λ i h. places (suc i) (omega arith) ∙ omega arith)))

module _ (nodes : List Node) (marks : List ℕ) (rise : NodesRise nodes) (told : AreMarksOf nodes marks) (places : (i : ℕ) → i < length marks → slice_index marks i ≡ i) where
  place_of : (i : ℕ) → i < length nodes → slice_index marks i ≡ i
  place_of i h = places i (rw told.one_each h)

  same_steps : (steps : List (ℕ × ℕ)) → StepsRise (length nodes) steps → in_classes marks steps ≡ steps
  same_steps [] rise = refl
  same_steps (step ∷ steps) rise = ap (λ t. (step.0, t) ∷ in_classes marks steps) (place_of step.1 rise.0) ∙ ap (λ ss. step ∷ ss) (same_steps steps rise.2)

  each_class : (i j : ℕ) → i < length nodes → j < length nodes → (slice_index marks i ≡ slice_index marks j) ↔ HaveEqualFuture nodes marks i j
  each_class i j a b = (
    λ e. subst (HaveEqualFuture nodes marks i) (sym (place_of i a) ∙ e ∙ place_of j b) (record { runs = λ w. refl; ends = λ w r. refl }),
    λ f. same_marks nodes marks i j f,
  )

  -- each is its own class, and the table is as it was
  pub apart_merged : IsMergedTable nodes nodes
  apart_merged = record {
    marks = marks;
    classes = marks;
    count = length nodes;
    told = told;
    futures = record { one_each = told.one_each; exact = each_class; order = subst (SeenInOrder 0 marks) (omega (arith, told.one_each)) (seen_places 0 marks (λ i h. places i h ∙ omega arith)) };
    is = record {
      one_each = refl;
      first = λ n below _.
          ap (node_at nodes) (place_of n below) ∙ ap (λ steps. record { next = steps; accept = (node_at nodes n).accept }) (sym (same_steps (node_at nodes n).next (rise n)));
    };
  }
