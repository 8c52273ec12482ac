-- The determinised table merged by equal future is the normal table.
use Rattle.normal_form.proofs.Prelude.{◌≡◌, ◌↔◌, ℕ, ◌+◌, ◌<◌, ◌≤◌, inl, inr, List, [], ◌∷◌, length, get_or, refl, sym, ap, ◌∙◌, subst, arith, slice_index, map, All, IsStrictlyIncreasing, cases_lt, All-from_get_or, get_or-eq_default, rises_from_increasing, Label, IsTrace, IsAcceptance, HaveSameFuture, Node, node_at, is_run, end_of, acceptances_after, IsRun, IsReached, IsListed, IsNormalTable, HasAcceptances, IsRisingNode, OffersAcceptance, IsBreadthFirst, targets_of_nodes, RawTable, RawStep, HasRawForm, NodesRise, StepsRise, renamed, IsMergedTable, Determinised, FollowsTraces, few_seen, MOST_SETS}
use Rattle.normal_form.proofs.ClassOrder.{FirstOf, first_of, is_first, seen_most, step_at}
use Rattle.normal_form.proofs.Meeting.{meets_more, nodes_met, rise_from}
use Rattle.normal_form.proofs.MergedRuns.{in_classes, runs_merged, ends_merged, accept_merged, end_below}
use Rattle.normal_form.proofs.MergedOrder.{breadth_merged}
use Rattle.normal_form.proofs.SameFuture.{same_from_equal, equal_from_same}
use Rattle.normal_form.proofs.Reaching.{reached}
use Rattle.normal_form.proofs.Few.{few_acceptances}

abbrev none : Node
none = record { next = []; accept = [] }

pub in_order_at : (nodes : List Node) → All IsRisingNode nodes → (n : ℕ) → n < length nodes → IsRisingNode (node_at nodes n)
in_order_at nodes order n below = order n none below

-- numbered breadth first, the events lead to nodes
pub nodes_rise : (nodes : List Node) → All IsRisingNode nodes → IsBreadthFirst nodes → NodesRise nodes
nodes_rise nodes order breadth n = elim (cases_lt n (length nodes)) as (λ _. StepsRise (length nodes) (node_at nodes n).next) [
  | inl below ↦ rise_from (length nodes) 0 (node_at nodes n).next (rises_from_increasing (map (λ step. step.0) (node_at nodes n).next) (in_order_at nodes order n below).events) (nodes_met 1 (length nodes) nodes n breadth.all_met below)
  | inr past ↦ subst (λ (node : Node). StepsRise (length nodes) node.next) (sym (get_or-eq_default nodes none past)) tt
]

pub some_node : (nodes : List Node) → IsBreadthFirst nodes → 0 < length nodes
some_node nodes breadth = let l : 1 ≤ length nodes = meets_more 1 (length nodes) (targets_of_nodes nodes) breadth.all_met in omega (arith, l)

same_events : (classes : List ℕ) (steps : List (ℕ × ℕ)) → map (λ (step : ℕ × ℕ). step.0) (in_classes classes steps) ≡ map (λ (step : ℕ × ℕ). step.0) steps
same_events classes [] = refl
same_events classes (step ∷ steps) = ap (λ (es : List ℕ). step.0 ∷ es) (same_events classes steps)

in_order_renamed : (classes : List ℕ) (node : Node) → IsRisingNode node → IsRisingNode (renamed classes node)
in_order_renamed classes node o = record {
  events = subst IsStrictlyIncreasing (sym (same_events classes node.next)) o.events;
  members = o.members;
  acceptances = o.acceptances;
}

module _ (Step : ℕ → Label → ℕ → Type 0) (nodes merged : List Node) (traces : (s : List ℕ) → IsTrace Step 0 s ↔ IsRun nodes s) (accepts : HasAcceptances Step 0 nodes) (order : All IsRisingNode nodes) (breadth : IsBreadthFirst nodes) (m : IsMergedTable nodes merged) where
  rise : NodesRise nodes
  rise = nodes_rise nodes order breadth

  some : 0 < length nodes
  some = some_node nodes breadth

  abbrev class : ℕ → ℕ
  class n = slice_index m.classes n

  first_class : class 0 ≡ 0
  first_class = elim (step_at m.classes m.count m.futures.order 0 (let one = m.futures.one_each in omega (arith, one, some))) as (λ _. class 0 ≡ 0) [
    | inl h ↦ absurd (omega (arith, h.0))
    | inr h ↦ h.0
  ]

  runs : (s : List ℕ) → is_run merged 0 s ≡ is_run nodes 0 s
  runs s = ap (λ (n : ℕ). is_run merged n s) (sym first_class) ∙ runs_merged nodes m.marks m.classes m.count merged rise m.futures m.is s 0 some

  ends : (s : List ℕ) → IsRun nodes s → end_of merged 0 s ≡ class (end_of nodes 0 s)
  ends s run = ap (λ (n : ℕ). end_of merged n s) (sym first_class) ∙ ends_merged nodes m.marks m.classes m.count merged rise m.futures m.is s 0 some run

  end_in : (s : List ℕ) → IsRun nodes s → end_of nodes 0 s < length nodes
  end_in s run = end_below nodes m.marks m.classes m.count merged rise m.futures m.is s 0 some run

  accepted : (s : List ℕ) → IsTrace Step 0 s → acceptances_after merged s ≡ acceptances_after nodes s
  accepted s trace =
      let run : IsRun nodes s = (traces s).0 trace in
      ap (λ (n : ℕ). (node_at merged n).accept) (ends s run) ∙ accept_merged nodes m.marks m.classes m.count merged rise m.futures m.is m.told (end_of nodes 0 s) (end_in s run)

  told_apart : (s t : List ℕ) → IsTrace Step 0 s → IsTrace Step 0 t → (end_of merged 0 s ≡ end_of merged 0 t) ↔ HaveSameFuture Step 0 s t
  told_apart s t a b =
      let left : IsRun nodes s = (traces s).0 a in
      let right : IsRun nodes t = (traces t).0 b in
      let exact = m.futures.exact (end_of nodes 0 s) (end_of nodes 0 t) (end_in s left) (end_in t right) in (
        λ e. same_from_equal Step 0 nodes m.marks some rise m.told (in_order_at nodes order) traces accepts s t left right (exact.0 (sym (ends s left) ∙ e ∙ ends t right)),
        λ f. ends s left ∙ exact.1 (equal_from_same Step 0 nodes m.marks some rise m.told (in_order_at nodes order) traces accepts s t left right f) ∙ sym (ends t right),
      )

  pub merged_traces : (s : List ℕ) → IsTrace Step 0 s ↔ IsRun merged s
  merged_traces s = (λ h. runs s ∙ (traces s).0 h, λ r. (traces s).1 (sym (runs s) ∙ r))

  pub merged_acceptances : HasAcceptances Step 0 merged
  merged_acceptances = record {
    sound = λ s k trace below.
        let same : acceptances_after merged s ≡ acceptances_after nodes s = accepted s trace in
        subst (λ (xs : List (List ℕ)). IsAcceptance Step 0 s (get_or xs k [])) (sym same) (accepts.sound s k trace (subst (λ (xs : List (List ℕ)). k < length xs) same below));
    complete = λ s M a.
        let trace : IsTrace Step 0 s = (a.offer.state, a.offer.reached) in
        subst (λ (xs : List (List ℕ)). IsListed xs M) (sym (accepted s trace)) (accepts.complete s M a);
    covered = λ s t after stable.
        let trace : IsTrace Step 0 s = (t, after) in
        subst (λ (xs : List (List ℕ)). OffersAcceptance Step t xs) (sym (accepted s trace)) (accepts.covered s t after stable);
  }

  -- ---- the form of the merged table
  first_node : (k : ℕ) → k < length merged → FirstOf m.classes m.count m.futures.order k (length m.classes)
  first_node k below = first_of m.classes m.count m.futures.order (length m.classes) k (omega arith) (let most = seen_most m.classes m.count m.futures.order in let one = m.is.one_each in omega (arith, most, one, below))

  node_is : (k : ℕ) (below : k < length merged) → node_at merged k ≡ renamed m.classes (node_at nodes (first_node k below).node)
  node_is k below =
      let f = first_node k below in
      let inside : f.node < length nodes = let w = f.within in let one = m.futures.one_each in omega (arith, w, one) in
      ap (node_at merged) (sym f.class) ∙ m.is.first f.node inside (is_first m.classes m.count m.futures.order f.node f.within (f.class ∙ sym f.turn))

  pub merged_rising : All IsRisingNode merged
  merged_rising = All-from_get_or IsRisingNode merged none (λ k below.
      let f = first_node k below in
      let inside : f.node < length nodes = let w = f.within in let one = m.futures.one_each in omega (arith, w, one) in
      subst IsRisingNode (sym (node_is k below)) (in_order_renamed m.classes (node_at nodes f.node) (in_order_at nodes order f.node inside)))

  pub all_reached : (k : ℕ) → k < length merged → IsReached merged k
  all_reached k below =
      let f = first_node k below in
      let inside : f.node < length nodes = let w = f.within in let one = m.futures.one_each in omega (arith, w, one) in
      let r : IsReached nodes f.node = reached nodes rise breadth f.node inside in
      record { run = r.run; follows = runs r.run ∙ r.follows; leads = ends r.run r.follows ∙ ap class r.leads ∙ f.class }

  pub no_more_nodes : length merged ≤ length nodes
  no_more_nodes = let few : m.count ≤ 0 + length m.classes = few_seen 0 m.classes m.count m.futures.order in let one = m.futures.one_each in let all = m.is.one_each in omega (arith, few, one, all)

  pub normal : (most : ℕ) → ((n : ℕ) → length (node_at merged n).accept ≤ most) → IsNormalTable Step 0 most merged
  normal most few = record {
    traces = merged_traces;
    classes = told_apart;
    acceptances = merged_acceptances;
    rising = merged_rising;
    breadth_first = breadth_merged nodes m.marks m.classes m.count merged rise m.futures m.is breadth;
    reached = all_reached;
    few = few;
  }

pub normal_of_raw : (raw : RawTable) (made : Determinised) (nodes merged : List Node) → HasRawForm raw → nodes ≡ made.nodes → FollowsTraces (RawStep raw) 0 made → HasAcceptances (RawStep raw) 0 made.nodes → All IsRisingNode made.nodes → IsBreadthFirst made.nodes → IsMergedTable nodes merged → IsNormalTable (RawStep raw) 0 raw.count merged
normal_of_raw raw made nodes merged form same follows accepts order breadth m =
    let is : IsMergedTable made.nodes merged = subst (λ (ns : List Node). IsMergedTable ns merged) same m in
    normal (RawStep raw) made.nodes merged follows.traces accepts order breadth is raw.count
    (few_acceptances raw merged form (merged_traces (RawStep raw) made.nodes merged follows.traces accepts order breadth is) (merged_acceptances (RawStep raw) made.nodes merged follows.traces accepts order breadth is)
    (merged_rising (RawStep raw) made.nodes merged follows.traces accepts order breadth is) (all_reached (RawStep raw) made.nodes merged follows.traces accepts order breadth is))

pub few_nodes : (raw : RawTable) (made : Determinised) (nodes merged : List Node) → nodes ≡ made.nodes → FollowsTraces (RawStep raw) 0 made → HasAcceptances (RawStep raw) 0 made.nodes → All IsRisingNode made.nodes → IsBreadthFirst made.nodes → length made.nodes ≤ MOST_SETS → IsMergedTable nodes merged → length merged ≤ MOST_SETS
few_nodes raw made nodes merged same follows accepts order breadth few m =
    let is : IsMergedTable made.nodes merged = subst (λ (ns : List Node). IsMergedTable ns merged) same m in
    let l = no_more_nodes (RawStep raw) made.nodes merged follows.traces accepts order breadth is in
    omega (arith, l, few)

pub rises : (made : Determinised) (nodes : List Node) → nodes ≡ made.nodes → All IsRisingNode made.nodes → IsBreadthFirst made.nodes → NodesRise nodes
rises made nodes same order breadth = subst NodesRise (sym same) (nodes_rise made.nodes order breadth)
