-- Runs of a merged table are runs of the table, and lead to the class of the node to which these lead.
use Rattle.normal_form.proofs.Prelude.{◌≡◌, ℕ, ◌<◌, inl, inr, Bool, true, false, ◌&&◌, ◌||◌, nat_eq, List, [], ◌∷◌, length, refl, sym, ap, ◌∙◌, arith, slice_index, map, and_parts, cases_Bool, cond-true, cond-false, false≢true, both_ways, Node, node_at, is_possible, target, node_after, is_run, end_of, HaveEqualFuture, AreFutureClasses, NodesRise, same_marks, same_events, future_after, target_below, AreMarksOf, renamed, AreMerged}
use Rattle.normal_form.proofs.ClassOrder.{FirstOf, first_of, is_first, class_seen}

abbrev pub in_classes : List ℕ → List (ℕ × ℕ) → List (ℕ × ℕ)
in_classes classes steps = map (λ step. (step.0, slice_index classes step.1)) steps

pub possible_renamed : (classes : List ℕ) (steps : List (ℕ × ℕ)) (e : ℕ) → is_possible (in_classes classes steps) e ≡ is_possible steps e
possible_renamed classes [] e = refl
possible_renamed classes (step ∷ steps) e = ap (λ (b : Bool). nat_eq step.0 e || b) (possible_renamed classes steps e)

pub target_renamed : (classes : List ℕ) (steps : List (ℕ × ℕ)) (e : ℕ) → is_possible steps e ≡ true → target (in_classes classes steps) e ≡ slice_index classes (target steps e)
target_renamed classes [] e h = absurd (false≢true h)
target_renamed classes (step ∷ steps) e h = elim (cases_Bool (nat_eq step.0 e)) as (λ _. target (in_classes classes (step ∷ steps)) e ≡ slice_index classes (target (step ∷ steps) e)) [
  | inl here ↦ cond-true (nat_eq step.0 e) (slice_index classes step.1) (target (in_classes classes steps) e) here ∙ ap (slice_index classes) (sym (cond-true (nat_eq step.0 e) step.1 (target steps e) here))
  | inr other ↦
      let later : is_possible steps e ≡ true = rw other at h in
      cond-false (nat_eq step.0 e) (slice_index classes step.1) (target (in_classes classes steps) e) other
      ∙ target_renamed classes steps e later
      ∙ ap (slice_index classes) (sym (cond-false (nat_eq step.0 e) step.1 (target steps e) other))
]

and_same : (a b c d : Bool) → a ≡ c → (c ≡ true → b ≡ d) → (a && b) ≡ (c && d)
and_same true b true d e h = h refl
and_same true b false d e h = absurd (both_ways true e refl)
and_same false b true d e h = absurd (both_ways true (sym e) refl)
and_same false b false d e h = refl

module _ (nodes : List Node) (marks classes : List ℕ) (count : ℕ) (merged : List Node) (rise : NodesRise nodes) (futures : AreFutureClasses nodes marks classes count) (are : AreMerged nodes classes count merged) where
  -- the first node with the class of a node
  pub record Standing (j : ℕ) : Type 0 where
    pub node : ℕ
    pub within : node < length nodes
    pub is : node_at merged (slice_index classes j) ≡ renamed classes (node_at nodes node)
    pub future : HaveEqualFuture nodes marks j node

  pub standing : (j : ℕ) → j < length nodes → Standing j
  standing j below =
      let one : length classes ≡ length nodes = futures.one_each in
      let f : FirstOf classes count futures.order (slice_index classes j) (length classes) =
      first_of classes count futures.order (length classes) (slice_index classes j) (omega arith)
      (class_seen classes count futures.order (length classes) j (omega (arith, one, below)) (omega arith)) in
      let inside : f.node < length nodes = omega (arith, one, f.within) in
      record {
        node = f.node;
        within = inside;
        is = ap (node_at merged) (sym f.class) ∙ are.first f.node inside (is_first classes count futures.order f.node f.within (f.class ∙ sym f.turn));
        future = (futures.exact j f.node below inside).0 (sym f.class);
      }

  same_class : (i j : ℕ) → i < length nodes → j < length nodes → HaveEqualFuture nodes marks i j → slice_index classes i ≡ slice_index classes j
  same_class i j a b f = (futures.exact i j a b).1 f

  pub possible_merged : (j e : ℕ) → j < length nodes → is_possible (node_at merged (slice_index classes j)).next e ≡ is_possible (node_at nodes j).next e
  possible_merged j e below =
      let s = standing j below in
      ap (λ (n : Node). is_possible n.next e) s.is ∙ possible_renamed classes (node_at nodes s.node).next e ∙ sym (same_events nodes marks j s.node s.future e)

  pub after_below : (j e : ℕ) → is_possible (node_at nodes j).next e ≡ true → node_after nodes j e < length nodes
  after_below j e h = target_below (length nodes) (node_at nodes j).next e (rise j) h

  pub target_merged : (j e : ℕ) → j < length nodes → is_possible (node_at nodes j).next e ≡ true → node_after merged (slice_index classes j) e ≡ slice_index classes (node_after nodes j e)
  target_merged j e below h =
      let s = standing j below in
      let there : is_possible (node_at nodes s.node).next e ≡ true = sym (same_events nodes marks j s.node s.future e) ∙ h in
      ap (λ (n : Node). target n.next e) s.is
      ∙ target_renamed classes (node_at nodes s.node).next e there
      ∙ sym (same_class (node_after nodes j e) (node_after nodes s.node e) (after_below j e h) (after_below s.node e there) (future_after nodes marks j s.node e s.future h))

  pub runs_merged : (w : List ℕ) (j : ℕ) → j < length nodes → is_run merged (slice_index classes j) w ≡ is_run nodes j w
  runs_merged [] j below = refl
  runs_merged (e ∷ w) j below =
      and_same (is_possible (node_at merged (slice_index classes j)).next e) (is_run merged (node_after merged (slice_index classes j) e) w) (is_possible (node_at nodes j).next e) (is_run nodes (node_after nodes j e) w)
      (possible_merged j e below)
      (λ h. ap (λ (n : ℕ). is_run merged n w) (target_merged j e below h) ∙ runs_merged w (node_after nodes j e) (after_below j e h))

  pub end_below : (w : List ℕ) (j : ℕ) → j < length nodes → is_run nodes j w ≡ true → end_of nodes j w < length nodes
  end_below [] j below h = below
  end_below (e ∷ w) j below h =
      let p = and_parts (is_possible (node_at nodes j).next e) (is_run nodes (node_after nodes j e) w) h in
      end_below w (node_after nodes j e) (after_below j e p.0) p.1

  pub ends_merged : (w : List ℕ) (j : ℕ) → j < length nodes → is_run nodes j w ≡ true → end_of merged (slice_index classes j) w ≡ slice_index classes (end_of nodes j w)
  ends_merged [] j below h = refl
  ends_merged (e ∷ w) j below h =
      let p = and_parts (is_possible (node_at nodes j).next e) (is_run nodes (node_after nodes j e) w) h in
      ap (λ (n : ℕ). end_of merged n w) (target_merged j e below p.0) ∙ ends_merged w (node_after nodes j e) (after_below j e p.0) p.1

  -- the acceptances of a class are those of each of its nodes
  pub accept_merged : AreMarksOf nodes marks → (j : ℕ) → j < length nodes → (node_at merged (slice_index classes j)).accept ≡ (node_at nodes j).accept
  accept_merged told j below =
      let s = standing j below in
      ap (λ (n : Node). n.accept) s.is ∙ sym ((told.exact j s.node below s.within).0 (same_marks nodes marks j s.node s.future))
