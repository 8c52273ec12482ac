-- Runs of the table of all sets are the traces of the numbered table, and its acceptances are theirs.
use Rattle.determinise.proofs.Prelude.{◌≡◌, ℕ, ◌<◌, true, IsTrue, List, [], ◌∷◌, ◌++◌, length, get_or, refl, sym, subst, ◌∙◌, first_so, second_so, All, append-nil, append_assoc, get_or_default, and_from, IsTrace, IsStableOffer, IsAcceptance, RawTable, RawStep, IsOfferOf, IsMinimalOffer, Node, is_possible, node_at, node_after, is_run, end_of, acceptances_after, IsBreadthFirst, MeetsUpTo, HasAcceptances, IsRisingNode, FollowsTraces, AreDifferentSets, set_at, AreNodeSteps, IsNodeOf, AreReachedSets, AreNodesSoFar, IsSetAfter}
use Rattle.determinise.proofs.Exploring.{move_after, next_after, event_of_move}

-- ---- acceptances of a set are those after its trace
module _ (raw : RawTable) (s set : List ℕ) (after : IsSetAfter raw s set) where
  offer_after : (M : List ℕ) → IsOfferOf raw set M → IsStableOffer (RawStep raw) 0 s M
  offer_after M o = record { state = o.term; reached = (after.terms o.term).0 o.listed; stable = o.stable; offered = o.offered }

  offer_of : (M : List ℕ) → IsStableOffer (RawStep raw) 0 s M → IsOfferOf raw set M
  offer_of M o = record { term = o.state; listed = (after.terms o.state).1 o.reached; stable = o.stable; offered = o.offered }

  acceptance_from : (M : List ℕ) → IsMinimalOffer raw set M → IsAcceptance (RawStep raw) 0 s M
  acceptance_from M m = record { offer = offer_after M m.offer; least = λ N o within. m.least N (offer_of N o) within }

  acceptance_into : (M : List ℕ) → IsAcceptance (RawStep raw) 0 s M → IsMinimalOffer raw set M
  acceptance_into M a = record { offer = offer_of M a.offer; least = λ N o within. a.least N (offer_after N o) within }

-- ---- runs
module _ (raw : RawTable) (sets : List (List ℕ)) (nodes : List Node) (so_far : AreNodesSoFar raw sets nodes) (all : length nodes ≡ length sets) where
  -- from a node whose set is the one after p
  pub record Followed (p : List ℕ) (n : ℕ) (w : List ℕ) : Type 0 where
    pub run : IsTrace (RawStep raw) 0 (p ++ w) → is_run nodes n w ≡ true
    pub within : is_run nodes n w ≡ true → end_of nodes n w < length nodes
    pub ends : is_run nodes n w ≡ true → IsSetAfter raw (p ++ w) (set_at sets (end_of nodes n w))

  pub follow : (w p : List ℕ) (n : ℕ) → n < length nodes → IsSetAfter raw p (set_at sets n) → Followed p n w
  follow [] p n below after = record {
    run = λ t. refl;
    within = λ r. below;
    ends = λ r. subst (λ (x : List ℕ). IsSetAfter raw x (set_at sets n)) (sym (append-nil p)) after;
  }
  follow (e ∷ w) p n below after =
      let node : IsNodeOf raw sets (set_at sets n) (node_at nodes n) = so_far.each n below in
      let moves : List (ℕ × ℕ) = node.steps.0 in
      let steps : AreNodeSteps raw moves sets (node_at nodes n).next = node.steps.2 in
      let longer : (p ++ e ∷ []) ++ w ≡ p ++ e ∷ w = append_assoc p (e ∷ []) w in
      let rest : IsTrue (is_possible (node_at nodes n).next e) → Followed (p ++ e ∷ []) (node_after nodes n e) w = λ possible.
      let lead = steps.leads e possible in
      let inside : node_after nodes n e < length nodes = rw all lead.within in
      follow w (p ++ e ∷ []) (node_after nodes n e) inside (next_after raw p (set_at sets n) moves after node.steps.1 e (set_at sets (node_after nodes n e)) (sym (steps.events e) ∙ possible) lead.is)
      in
      record {
        run = λ t.
            let m = move_after raw p (set_at sets n) moves after node.steps.1 e w t.0 t.1 in
            let possible : is_possible (node_at nodes n).next e ≡ true = steps.events e ∙ event_of_move moves e m.to m.move in
            and_from (is_possible (node_at nodes n).next e) (is_run nodes (node_after nodes n e) w) possible ((rest possible).run (subst (IsTrace (RawStep raw) 0) (sym longer) t));
        within = λ r. (rest (first_so (is_possible (node_at nodes n).next e) (is_run nodes (node_after nodes n e) w) r)).within (second_so (is_possible (node_at nodes n).next e) (is_run nodes (node_after nodes n e) w) r);
        ends = λ r. subst (λ (x : List ℕ). IsSetAfter raw x (set_at sets (end_of nodes (node_after nodes n e) w))) longer ((rest (first_so (is_possible (node_at nodes n).next e) (is_run nodes (node_after nodes n e) w) r)).ends (second_so (is_possible (node_at nodes n).next e) (is_run nodes (node_after nodes n e) w) r));
      }

  module _ (reached : AreReachedSets raw sets) where
    from_first : (s : List ℕ) → Followed [] 0 s
    from_first s = follow s [] 0 (rw all reached.not_empty) reached.first

    pub follows : FollowsTraces (RawStep raw) 0 (record { nodes = nodes; sets = sets })
    follows = record {
      traces = λ s. ((from_first s).run, λ r. ((from_first s).ends r).some);
      terms = λ s t r. ((from_first s).ends r).terms t;
    }

    pub different : AreDifferentSets (record { nodes = nodes; sets = sets })
    different = record {
      one_each = sym all;
      rising = λ k d h. rw (get_or_default sets k d [] h) ((reached.forms k h).rising);
      apart = reached.apart;
    }

    pub ends_at : (s : List ℕ) → IsTrace (RawStep raw) 0 s → (end_of nodes 0 s < length nodes) × IsSetAfter raw s (set_at sets (end_of nodes 0 s))
    ends_at s t = let r = (from_first s).run t in ((from_first s).within r, (from_first s).ends r)

    pub accepts : HasAcceptances (RawStep raw) 0 nodes
    accepts = record {
      sound = λ s k t below.
          let e = ends_at s t in
          let offers = (so_far.each (end_of nodes 0 s) e.0).accept in
          acceptance_from raw s (set_at sets (end_of nodes 0 s)) e.1 (get_or (acceptances_after nodes s) k []) (offers.sound k [] below);
      complete = λ s M a.
          let t : IsTrace (RawStep raw) 0 s = (a.offer.state, a.offer.reached) in
          let e = ends_at s t in
          (so_far.each (end_of nodes 0 s) e.0).accept.complete M (acceptance_into raw s (set_at sets (end_of nodes 0 s)) e.1 M a);
      covered = λ s t after stable.
          let e = ends_at s (t, after) in
          (so_far.each (end_of nodes 0 s) e.0).accept.covered t ((e.1.terms t).1 after) stable;
    }

  pub in_order : All IsRisingNode nodes
  in_order k d h =
      let node = so_far.each k h in
      subst IsRisingNode (sym (get_or_default nodes k d (record { next = []; accept = [] }) h)) (record { events = node.steps.2.rising; members = node.accept.rising; acceptances = node.accept.order })

  pub breadth_first : IsBreadthFirst nodes
  breadth_first = record { all_met = subst (MeetsUpTo nodes) (sym all) so_far.met; in_turn = so_far.in_turn }
