-- A merged table is numbered breadth first where the table is.
use Rattle.normal_form.proofs.Prelude.{◌≡◌, ℕ, zero, suc, ◌<◌, ◌≤◌, inl, inr, true, List, [], ◌∷◌, ◌++◌, length, take, sym, ap, ◌∙◌, subst, arith, slice_index, get_or-take, length-take-le, take-suc, take-length, Node, node_at, is_possible, target, node_after, targets_of_steps, targets_of_nodes, MeetsInOrder, MeetsUpTo, IsBreadthFirst, HaveEqualFuture, AreFutureClasses, NodesRise, same_events, future_after, target_below, renamed, AreMerged, meets_then}
use Rattle.normal_form.proofs.ClassOrder.{first_of, is_first, class_seen, seen_within, seen_most, step_at, seen_at}
use Rattle.normal_form.proofs.Meeting.{meets_more, MetBetween, meets_cut, meets_part, more_targets, EachTarget, each_target, target_is, nodes_met}
use Rattle.normal_form.proofs.MergedRuns.{in_classes}

module _ (nodes : List Node) (marks classes : List ℕ) (count : ℕ) (merged : List Node) (rise : NodesRise nodes) (futures : AreFutureClasses nodes marks classes count) (are : AreMerged nodes classes count merged) where
  abbrev seen : ℕ → ℕ
  seen n = seen_at classes count futures.order n

  -- the classes of what the steps meet
  renamed_meets : (steps : List (ℕ × ℕ)) (n m : ℕ) → m ≤ length classes → MeetsInOrder n (targets_of_steps steps) m → MeetsInOrder (seen n) (targets_of_steps (in_classes classes steps)) (seen m)
  renamed_meets [] n m most h = ap seen h
  renamed_meets (step ∷ steps) n m most (inl h) =
      let l : n ≤ m = meets_more n m (targets_of_steps steps) h.1 in
      inl (class_seen classes count futures.order n step.1 h.0 (omega (arith, l, most)), renamed_meets steps n m most h.1)
  renamed_meets (step ∷ steps) n m most (inr h) =
      let l : suc n ≤ m = meets_more (suc n) m (targets_of_steps steps) h.1 in
      let rest : MeetsInOrder (seen (suc n)) (targets_of_steps (in_classes classes steps)) (seen m) = renamed_meets steps (suc n) m most h.1 in
      elim (step_at classes count futures.order n (omega (arith, l, most))) as (λ _. MeetsInOrder (seen n) (targets_of_steps (in_classes classes (step ∷ steps))) (seen m)) [
        | inl s ↦ inl (subst (λ (t : ℕ). slice_index classes t < seen n) (sym h.0) s.0, subst (λ (r : ℕ). MeetsInOrder r (targets_of_steps (in_classes classes steps)) (seen m)) s.1 rest)
        | inr s ↦ inr (subst (λ (t : ℕ). slice_index classes t ≡ seen n) (sym h.0) s.0, subst (λ (r : ℕ). MeetsInOrder r (targets_of_steps (in_classes classes steps)) (seen m)) s.1 rest)
      ]

  -- steps to classes that were seen show no new one
  nothing_new : (steps : List (ℕ × ℕ)) (n m : ℕ) → m ≤ length classes → EachTarget (λ t. slice_index classes t < seen n) steps → MeetsInOrder n (targets_of_steps steps) m → seen m ≡ seen n
  nothing_new [] n m most all h = ap seen (sym h)
  nothing_new (step ∷ steps) n m most all (inl h) = nothing_new steps n m most all.1 h.1
  nothing_new (step ∷ steps) n m most all (inr h) =
      let l : suc n ≤ m = meets_more (suc n) m (targets_of_steps steps) h.1 in
      let low : slice_index classes n < seen n = subst (λ (t : ℕ). slice_index classes t < seen n) h.0 all.0 in
      elim (step_at classes count futures.order n (omega (arith, l, most))) as (λ _. seen m ≡ seen n) [
        | inl s ↦ nothing_new steps (suc n) m most (subst (λ (r : ℕ). EachTarget (λ t. slice_index classes t < r) steps) (sym s.1) all.1) h.1 ∙ s.1
        | inr s ↦ absurd (omega (arith, low, s.0))
      ]

  -- a node whose class was seen leads to classes that were seen
  known_targets : (i k : ℕ) → i < length nodes → k ≤ length classes → MeetsUpTo (take i nodes) k → slice_index classes i < seen i → EachTarget (λ t. slice_index classes t < seen k) (node_at nodes i).next
  known_targets i k below most met low =
      each_target (λ (t : ℕ). slice_index classes t < seen k) (length nodes) (node_at nodes i).next (rise i) (λ e h.
      let f = first_of classes count futures.order i (slice_index classes i) (omega (arith, futures.one_each, below)) low in
      let inside : f.node < length nodes = omega (arith, f.within, below) in
      let alike : HaveEqualFuture nodes marks i f.node = (futures.exact i f.node below inside).0 (sym f.class) in
      let there : is_possible (node_at nodes f.node).next e ≡ true = sym (same_events nodes marks i f.node alike e) ∙ h in
      let read : node_at (take i nodes) f.node ≡ node_at nodes f.node = get_or-take i nodes f.node (record { next = []; accept = [] }) f.within in
      let taken : is_possible (node_at (take i nodes) f.node).next e ≡ true = ap (λ (n : Node). is_possible n.next e) read ∙ there in
      let shorter : length (take i nodes) ≡ i = length-take-le i nodes (omega arith) in
      let early : target (node_at (take i nodes) f.node).next e < k = target_is (λ t. t < k) (node_at (take i nodes) f.node).next e (nodes_met 1 k (take i nodes) f.node met (omega (arith, shorter, f.within))) taken in
      let goal : node_after nodes f.node e < k = subst (λ (n : Node). target n.next e < k) read early in
      let same : slice_index classes (node_after nodes i e) ≡ slice_index classes (node_after nodes f.node e) =
      (futures.exact (node_after nodes i e) (node_after nodes f.node e) (target_below (length nodes) (node_at nodes i).next e (rise i) h) (target_below (length nodes) (node_at nodes f.node).next e (rise f.node) there)).1 (future_after nodes marks i f.node e alike h) in
      subst (λ (c : ℕ). c < seen k) (sym same) (class_seen classes count futures.order k (node_after nodes f.node e) goal most))

  first_class : 0 < length classes → seen 1 ≡ 1
  first_class some = elim (step_at classes count futures.order 0 some) as (λ _. seen 1 ≡ 1) [
    | inl s ↦ absurd (omega (arith, s.0))
    | inr s ↦ s.1
  ]

  pub meets_merged : (i m : ℕ) → i ≤ length nodes → m ≤ length nodes → MeetsUpTo (take i nodes) m → MeetsUpTo (take (seen i) merged) (seen m)
  meets_merged zero m few most met =
      let one : length classes ≡ length nodes = futures.one_each in
      let at : 1 ≡ m = met in
      sym (first_class (omega (arith, one, at, most))) ∙ ap seen at
  meets_merged (suc i) m few most met =
      let one : length classes ≡ length nodes = futures.one_each in
      let taken : take (suc i) nodes ≡ take i nodes ++ node_at nodes i ∷ [] = take-suc nodes i (record { next = []; accept = [] }) few in
      let r : MetBetween 1 (targets_of_nodes (take i nodes)) (targets_of_steps (node_at nodes i).next) m =
      meets_cut 1 m (targets_of_nodes (take i nodes)) (targets_of_steps (node_at nodes i).next) (subst (λ (ts : List ℕ). MeetsInOrder 1 ts m) (ap targets_of_nodes taken ∙ more_targets (take i nodes) (node_at nodes i)) met) in
      let l : r.middle ≤ m = meets_more r.middle m (targets_of_steps (node_at nodes i).next) r.back in
      let before : MeetsUpTo (take (seen i) merged) (seen r.middle) = meets_merged i r.middle (omega arith) (omega (arith, l, most)) r.front in
      elim (step_at classes count futures.order i (omega (arith, one, few))) as (λ _. MeetsUpTo (take (seen (suc i)) merged) (seen m)) [
        | inl s ↦
            let same : seen m ≡ seen r.middle = nothing_new (node_at nodes i).next r.middle m (omega (arith, one, most)) (known_targets i r.middle few (omega (arith, one, l, most)) r.front s.0) r.back in
            subst (λ (k : ℕ). MeetsUpTo (take k merged) (seen m)) (sym s.1) (subst (λ (k : ℕ). MeetsUpTo (take (seen i) merged) k) (sym same) before)
        | inr s ↦
            let is : node_at merged (seen i) ≡ renamed classes (node_at nodes i) = ap (node_at merged) (sym s.0) ∙ are.first i few (is_first classes count futures.order i (omega (arith, one, few)) s.0) in
            let most_seen : seen (suc i) ≤ seen (length classes) = seen_within classes count futures.order (length classes) (suc i) (omega (arith, one, few)) (omega arith) in
            let room : seen i < length merged = omega (arith, most_seen, s.1, seen_most classes count futures.order, are.one_each) in
            let grown : take (suc (seen i)) merged ≡ take (seen i) merged ++ renamed classes (node_at nodes i) ∷ [] = take-suc merged (seen i) (record { next = []; accept = [] }) room ∙ ap (λ (n : Node). take (seen i) merged ++ n ∷ []) is in
            let ends : MeetsInOrder (seen r.middle) (targets_of_steps (in_classes classes (node_at nodes i).next)) (seen m) = renamed_meets (node_at nodes i).next r.middle m (omega (arith, one, most)) r.back in
            let whole : MeetsInOrder 1 (targets_of_nodes (take (seen i) merged) ++ targets_of_steps (in_classes classes (node_at nodes i).next)) (seen m) = meets_then 1 (seen r.middle) (seen m) (targets_of_nodes (take (seen i) merged)) (targets_of_steps (in_classes classes (node_at nodes i).next)) before ends in
            subst (λ (ts : List ℕ). MeetsInOrder 1 ts (seen m)) (sym (ap (λ (k : ℕ). targets_of_nodes (take k merged)) s.1 ∙ ap targets_of_nodes grown ∙ more_targets (take (seen i) merged) (renamed classes (node_at nodes i)))) whole
      ]

  all_seen : seen (length nodes) ≡ length merged
  all_seen = ap seen (sym futures.one_each) ∙ seen_most classes count futures.order ∙ sym are.one_each

  pub breadth_merged : IsBreadthFirst nodes → IsBreadthFirst merged
  breadth_merged breadth = record {
    all_met =
        let whole : MeetsUpTo (take (seen (length nodes)) merged) (seen (length nodes)) = meets_merged (length nodes) (length nodes) (omega arith) (omega arith) (subst (λ (ns : List Node). MeetsUpTo ns (length nodes)) (sym (take-length nodes)) breadth.all_met) in
        subst (λ (ns : List Node). MeetsUpTo ns (length merged)) (take-length merged) (subst (λ (k : ℕ). MeetsUpTo (take k merged) k) all_seen whole);
    in_turn = λ k below.
        let one : length classes ≡ length nodes = futures.one_each in
        let f = first_of classes count futures.order (length classes) k (omega arith) (omega (arith, below, seen_most classes count futures.order, are.one_each)) in
        let inside : f.node < length nodes = omega (arith, one, f.within) in
        let t = breadth.in_turn f.node inside in
        let few : t.0 ≤ length nodes = meets_part nodes f.node t.0 (length nodes) t.1 breadth.all_met in
        let early : f.node < t.0 = t.2 in
        let met : MeetsUpTo (take (seen f.node) merged) (seen t.0) = meets_merged f.node t.0 (omega (arith, inside)) few t.1 in
        (seen t.0, subst (λ (j : ℕ). MeetsUpTo (take j merged) (seen t.0)) f.turn met, subst (λ (j : ℕ). j < seen t.0) f.class (class_seen classes count futures.order t.0 f.node early (omega (arith, one, few))));
  }
