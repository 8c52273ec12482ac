-- Nodes of a determinised table have equal future exactly where the traces that lead to them have the same future.
use Rattle.normal_form.proofs.Prelude.{◌≡◌, ◌↔◌, ℕ, ◌<◌, Bool, true, false, ◌&&◌, List, [], ◌∷◌, ◌++◌, length, get_or, refl, sym, ap, ◌∙◌, subst, and_parts, has, Label, IsTrace, IsAcceptance, HaveSameFuture, Node, node_at, is_possible, node_after, is_run, end_of, acceptances_after, IsRun, HasAcceptances, IsRisingNode, Member, member_at, stands, Stands, HaveEqualFuture, NodesRise, target_below, AreMarksOf, same_tests, IsStrictlyIncreasing, same_set}
use Rattle.normal_form.proofs.SortedSets.{same_sorted}

-- ---- runs one after another
and_assoc : (a b c : Bool) → ((a && b) && c) ≡ (a && (b && c))
and_assoc true b c = refl
and_assoc false b c = refl

pub run_append : (nodes : List Node) (s w : List ℕ) (n : ℕ) → is_run nodes n (s ++ w) ≡ (is_run nodes n s && is_run nodes (end_of nodes n s) w)
run_append nodes [] w n = refl
run_append nodes (e ∷ s) w n =
    ap (λ (b : Bool). is_possible (node_at nodes n).next e && b) (run_append nodes s w (node_after nodes n e))
    ∙ sym (and_assoc (is_possible (node_at nodes n).next e) (is_run nodes (node_after nodes n e) s) (is_run nodes (end_of nodes (node_after nodes n e) s) w))

pub end_append : (nodes : List Node) (s w : List ℕ) (n : ℕ) → end_of nodes n (s ++ w) ≡ end_of nodes (end_of nodes n s) w
end_append nodes [] w n = refl
end_append nodes (e ∷ s) w n = end_append nodes s w (node_after nodes n e)

-- ---- acceptances with the same members
pub same_acceptance : (Step : ℕ → Label → ℕ → Type 0) (start : ℕ) (s M N : List ℕ) → ((e : ℕ) → has M e ≡ has N e) → IsAcceptance Step start s M → IsAcceptance Step start s N
same_acceptance Step start s M N same a = record {
  offer = record {
    state = a.offer.state;
    reached = a.offer.reached;
    stable = a.offer.stable;
    offered = λ e. (λ h. (a.offer.offered e).0 (same e ∙ h), λ o. sym (same e) ∙ (a.offer.offered e).1 o);
  };
  least = λ K offer within e h. a.least K offer (λ d k. same d ∙ within d k) e (same e ∙ h);
}

module _ (Step : ℕ → Label → ℕ → Type 0) (start : ℕ) (nodes : List Node) (marks : List ℕ) (some : 0 < length nodes) (rise : NodesRise nodes) (told : AreMarksOf nodes marks) (order : (n : ℕ) → n < length nodes → IsRisingNode (node_at nodes n)) (traces : (s : List ℕ) → IsTrace Step start s ↔ IsRun nodes s) (accepts : HasAcceptances Step start nodes) where
  pub end_within : (w : List ℕ) (j : ℕ) → j < length nodes → is_run nodes j w ≡ true → end_of nodes j w < length nodes
  end_within [] j below h = below
  end_within (e ∷ w) j below h =
      let p = and_parts (is_possible (node_at nodes j).next e) (is_run nodes (node_after nodes j e) w) h in
      end_within w (node_after nodes j e) (target_below (length nodes) (node_at nodes j).next e (rise j) p.0) p.1

  -- the same acceptances are after both traces, written alike
  acceptance_from : (u v M : List ℕ) → acceptances_after nodes u ≡ acceptances_after nodes v → IsTrace Step start v → IsAcceptance Step start u M → IsAcceptance Step start v M
  acceptance_from u v M same trace a =
      let l = accepts.complete u M a in
      let within : l.place < length (acceptances_after nodes v) = subst (λ (xs : List (List ℕ)). l.place < length xs) same l.within in
      let is : get_or (acceptances_after nodes v) l.place [] ≡ get_or (acceptances_after nodes u) l.place [] = ap (λ (xs : List (List ℕ)). get_or xs l.place []) (sym same) in
      same_acceptance Step start v (get_or (acceptances_after nodes v) l.place []) M (λ e. ap (λ (xs : List ℕ). has xs e) is ∙ l.members e) (accepts.sound v l.place trace within)

  rising_after : (u : List ℕ) → IsRun nodes u → IsRisingNode (node_at nodes (end_of nodes 0 u))
  rising_after u run = order (end_of nodes 0 u) (end_within u 0 some run)

  members_into : (u v : List ℕ) → IsTrace Step start u → IsTrace Step start v → ((M : List ℕ) → IsAcceptance Step start u M → IsAcceptance Step start v M) → (m : List ℕ) → Member m (acceptances_after nodes u) → Member m (acceptances_after nodes v)
  members_into u v a b turn m h =
      let s : Stands m (acceptances_after nodes u) = stands m (acceptances_after nodes u) h in
      let first : IsAcceptance Step start u m = subst (IsAcceptance Step start u) (s.read []) (accepts.sound u s.place a s.within) in
      let l = accepts.complete v m (turn m first) in
      let left : IsStrictlyIncreasing m = subst IsStrictlyIncreasing (s.read []) ((rising_after u ((traces u).0 a)).members s.place [] s.within) in
      let right : IsStrictlyIncreasing (get_or (acceptances_after nodes v) l.place []) = (rising_after v ((traces v).0 b)).members l.place [] l.within in
      let same : get_or (acceptances_after nodes v) l.place [] ≡ m = same_set (get_or (acceptances_after nodes v) l.place []) m right left l.members in
      subst (λ (x : List ℕ). Member x (acceptances_after nodes v)) same (member_at (acceptances_after nodes v) l.place [] l.within)

  lists_equal : (u v : List ℕ) → IsTrace Step start u → IsTrace Step start v → ((M : List ℕ) → IsAcceptance Step start u M ↔ IsAcceptance Step start v M) → acceptances_after nodes u ≡ acceptances_after nodes v
  lists_equal u v a b both = same_sorted (acceptances_after nodes u) (acceptances_after nodes v)
      (rising_after u ((traces u).0 a)).acceptances
      (rising_after v ((traces v).0 b)).acceptances
      (members_into u v a b (λ M. (both M).0))
      (members_into v u b a (λ M. (both M).1))

  module _ (s t : List ℕ) (left : IsRun nodes s) (right : IsRun nodes t) where
    first_within : end_of nodes 0 s < length nodes
    first_within = end_within s 0 some left

    second_within : end_of nodes 0 t < length nodes
    second_within = end_within t 0 some right

    after_first : (w : List ℕ) → is_run nodes 0 (s ++ w) ≡ is_run nodes (end_of nodes 0 s) w
    after_first w = run_append nodes s w 0 ∙ ap (λ (b : Bool). b && is_run nodes (end_of nodes 0 s) w) left

    after_second : (w : List ℕ) → is_run nodes 0 (t ++ w) ≡ is_run nodes (end_of nodes 0 t) w
    after_second w = run_append nodes t w 0 ∙ ap (λ (b : Bool). b && is_run nodes (end_of nodes 0 t) w) right

    -- ---- equal future of the nodes gives the same future of the traces
    module _ (f : HaveEqualFuture nodes marks (end_of nodes 0 s) (end_of nodes 0 t)) where
      runs_alike : (w : List ℕ) → is_run nodes 0 (s ++ w) ≡ is_run nodes 0 (t ++ w)
      runs_alike w = after_first w ∙ f.runs w ∙ sym (after_second w)

      lists_alike : (w : List ℕ) → IsRun nodes (s ++ w) → acceptances_after nodes (s ++ w) ≡ acceptances_after nodes (t ++ w)
      lists_alike w run =
          let there : is_run nodes (end_of nodes 0 s) w ≡ true = sym (after_first w) ∙ run in
          let here : is_run nodes (end_of nodes 0 t) w ≡ true = sym (f.runs w) ∙ there in
          let first : end_of nodes (end_of nodes 0 s) w < length nodes = end_within w (end_of nodes 0 s) first_within there in
          let second : end_of nodes (end_of nodes 0 t) w < length nodes = end_within w (end_of nodes 0 t) second_within here in
          ap (λ (n : ℕ). (node_at nodes n).accept) (end_append nodes s w 0)
          ∙ (told.exact (end_of nodes (end_of nodes 0 s) w) (end_of nodes (end_of nodes 0 t) w) first second).0 (f.ends w there)
          ∙ ap (λ (n : ℕ). (node_at nodes n).accept) (sym (end_append nodes t w 0))

      pub same_from_equal : HaveSameFuture Step start s t
      same_from_equal = record {
        traces = λ w. (
          λ h. (traces (t ++ w)).1 (sym (runs_alike w) ∙ (traces (s ++ w)).0 h),
          λ h. (traces (s ++ w)).1 (runs_alike w ∙ (traces (t ++ w)).0 h),
        );
        acceptances = λ w M. (
          λ a.
              let trace : IsTrace Step start (s ++ w) = (a.offer.state, a.offer.reached) in
              let run : IsRun nodes (s ++ w) = (traces (s ++ w)).0 trace in
              acceptance_from (s ++ w) (t ++ w) M (lists_alike w run) ((traces (t ++ w)).1 (sym (runs_alike w) ∙ run)) a,
          λ a.
              let trace : IsTrace Step start (t ++ w) = (a.offer.state, a.offer.reached) in
              let run : IsRun nodes (s ++ w) = runs_alike w ∙ (traces (t ++ w)).0 trace in
              acceptance_from (t ++ w) (s ++ w) M (sym (lists_alike w run)) ((traces (s ++ w)).1 run) a,
        );
      }

    -- ---- and back
    pub equal_from_same : HaveSameFuture Step start s t → HaveEqualFuture nodes marks (end_of nodes 0 s) (end_of nodes 0 t)
    equal_from_same f = record {
      runs = λ w. same_tests (is_run nodes (end_of nodes 0 s) w) (is_run nodes (end_of nodes 0 t) w)
          (λ h. sym (after_second w) ∙ (traces (t ++ w)).0 ((f.traces w).0 ((traces (s ++ w)).1 (after_first w ∙ h))))
          (λ h. sym (after_first w) ∙ (traces (s ++ w)).0 ((f.traces w).1 ((traces (t ++ w)).1 (after_second w ∙ h))));
      ends = λ w h.
          let trace : IsTrace Step start (s ++ w) = (traces (s ++ w)).1 (after_first w ∙ h) in
          let other : IsTrace Step start (t ++ w) = (f.traces w).0 trace in
          let here : is_run nodes (end_of nodes 0 t) w ≡ true = sym (after_second w) ∙ (traces (t ++ w)).0 other in
          let first : end_of nodes (end_of nodes 0 s) w < length nodes = end_within w (end_of nodes 0 s) first_within h in
          let second : end_of nodes (end_of nodes 0 t) w < length nodes = end_within w (end_of nodes 0 t) second_within here in
          (told.exact (end_of nodes (end_of nodes 0 s) w) (end_of nodes (end_of nodes 0 t) w) first second).1
          (ap (λ (n : ℕ). (node_at nodes n).accept) (sym (end_append nodes s w 0))
          ∙ lists_equal (s ++ w) (t ++ w) trace other (f.acceptances w)
          ∙ ap (λ (n : ℕ). (node_at nodes n).accept) (end_append nodes t w 0));
    }
