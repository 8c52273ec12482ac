-- Each node of a table that is numbered breadth first is reached.
use Rattle.normal_form.proofs.Prelude.{◌≡◌, ℕ, zero, suc, ◌<◌, ◌≤◌, inl, inr, true, List, [], ◌∷◌, ◌++◌, length, take, refl, sym, ap, ◌∙◌, subst, arith, cases_lt, and_from, take-suc, take-length, Node, node_at, is_possible, target, node_after, is_run, end_of, IsReached, targets_of_steps, targets_of_nodes, MeetsInOrder, MeetsUpTo, IsBreadthFirst, NodesRise}
use Rattle.normal_form.proofs.Meeting.{MetBetween, meets_cut, meets_same, more_targets, LeadsTo, newly_met}
use Rattle.normal_form.proofs.SameFuture.{run_append, end_append}

module _ (nodes : List Node) (rise : NodesRise nodes) (breadth : IsBreadthFirst nodes) where
  -- a node before it that leads to it
  record IsLedTo (t : ℕ) : Type 0 where
    from : ℕ
    early : from < t
    within : from < length nodes
    leads : LeadsTo (node_at nodes from).next t

  led_to : (i m t : ℕ) → i ≤ length nodes → MeetsUpTo (take i nodes) m → 1 ≤ t → t < m → IsLedTo t
  led_to zero m t few met some below = let at : 1 ≡ m = met in absurd (omega arith)
  led_to (suc i) m t few met some below =
      let taken : take (suc i) nodes ≡ take i nodes ++ node_at nodes i ∷ [] = take-suc nodes i (record { next = []; accept = [] }) few in
      let r : MetBetween 1 (targets_of_nodes (take i nodes)) (targets_of_steps (node_at nodes i).next) m =
      meets_cut 1 m (targets_of_nodes (take i nodes)) (targets_of_steps (node_at nodes i).next) (subst (λ (ts : List ℕ). MeetsInOrder 1 ts m) (ap targets_of_nodes taken ∙ more_targets (take i nodes) (node_at nodes i)) met) in
      elim (cases_lt t r.middle) as (λ _. IsLedTo t) [
        | inl before ↦ led_to i r.middle t (omega arith) r.front some before
        | inr after ↦
            let turn = breadth.in_turn i few in
            let same : turn.0 ≡ r.middle = meets_same 1 turn.0 r.middle (targets_of_nodes (take i nodes)) turn.1 r.front in
            let sooner : i < turn.0 = turn.2 in
            record {
              from = i;
              early = omega (arith, same, sooner, after);
              within = few;
              leads = newly_met (length nodes) r.middle m t (node_at nodes i).next (rise i) r.back after below;
            }
      ]

  -- one event more
  reached_after : (n e t : ℕ) → IsReached nodes n → is_possible (node_at nodes n).next e ≡ true → target (node_at nodes n).next e ≡ t → IsReached nodes t
  reached_after n e t r possible leads =
      let there : is_possible (node_at nodes (end_of nodes 0 r.run)).next e ≡ true = subst (λ (k : ℕ). is_possible (node_at nodes k).next e ≡ true) (sym r.leads) possible in
      record {
        run = r.run ++ e ∷ [];
        follows = run_append nodes r.run (e ∷ []) 0 ∙ and_from (is_run nodes 0 r.run) (is_run nodes (end_of nodes 0 r.run) (e ∷ [])) r.follows (and_from (is_possible (node_at nodes (end_of nodes 0 r.run)).next e) true there refl);
        leads = end_append nodes r.run (e ∷ []) 0 ∙ ap (λ (k : ℕ). node_after nodes k e) r.leads ∙ leads;
      }

  reached_below : (bound n : ℕ) → n < bound → n < length nodes → IsReached nodes n
  reached_below zero n a b = absurd (omega arith)
  reached_below (suc bound) n a b = elim (cases_lt 0 n) as (λ _. IsReached nodes n) [
    | inl later ↦
        let whole : MeetsUpTo (take (length nodes) nodes) (length nodes) = subst (λ (ns : List Node). MeetsUpTo ns (length nodes)) (sym (take-length nodes)) breadth.all_met in
        let l = led_to (length nodes) (length nodes) n (omega arith) whole (omega arith) b in
        let early : l.from < n = l.early in
        reached_after l.from l.leads.event n (reached_below bound l.from (omega arith) l.within) l.leads.possible l.leads.leads
    | inr first ↦ record { run = []; follows = refl; leads = let here : 0 ≡ n = omega arith in here }
  ]

  pub reached : (n : ℕ) → n < length nodes → IsReached nodes n
  reached n below = reached_below (length nodes) n below below
