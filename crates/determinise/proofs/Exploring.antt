-- Traces lead from set to set, and the nodes of the sets come one after another.
use Rattle.determinise.proofs.Prelude.{◌≡◌, ℕ, ◌<◌, inl, inr, true, nat_eq, IsTrue, List, [], ◌∷◌, ◌++◌, length, get_or, take, sym, ap, subst, ◌∙◌, arith, eq-eqb, cases_lt, eqb-true, flat_map-append, append-nil, get_or_append_left, length-append, take-append-le, take_all, list_any_at, get_or-append_seam, has, visible, After, RawTable, RawStep, Node, target, node_at, targets_of_steps, targets_of_nodes, MeetsInOrder, MeetsUpTo, has_event, has_move, AreMovesOf, IsNextSet, set_at, IsReachedFromSet, AreMoreSets, AreNodeSteps, IsNodeOf, AreReachedSets, AreNodesSoFar, IsTermSet, IsSetAfter, any_place, place_of_move, listed_at, step_listed, listed_step, After-none, After-event, After-append, After-cut, After-first}
use Rattle.determinise.proofs.MoreSets.{meets_then}

-- ---- events and moves
pub event_of_move : (moves : List (ℕ × ℕ)) (e u : ℕ) → has_move moves e u ≡ true → has_event moves e ≡ true
event_of_move moves e u h =
    let p = place_of_move moves e u h in
    list_any_at (λ (step : ℕ × ℕ). nat_eq e step.0) moves p.0 (0, 0) p.1 (eq-eqb e (get_or moves p.0 (0, 0)).0 p.2)

pub move_of_event : (moves : List (ℕ × ℕ)) (e : ℕ) → has_event moves e ≡ true → (u : ℕ) × (has_move moves e u ≡ true)
move_of_event moves e h =
    let p = any_place (λ (step : ℕ × ℕ). nat_eq e step.0) moves (0, 0) h in
    let same : e ≡ (get_or moves p.0 (0, 0)).0 = eqb-true e (get_or moves p.0 (0, 0)).0 p.2 in
    ((get_or moves p.0 (0, 0)).1, subst (λ (f : ℕ). has_move moves f (get_or moves p.0 (0, 0)).1 ≡ true) (sym same) (listed_at moves p.0 p.1))

-- ---- the set after one event more
module _ (raw : RawTable) (s set : List ℕ) (moves : List (ℕ × ℕ)) (after : IsSetAfter raw s set) (are : AreMovesOf raw set moves) where
  into : (e u t : ℕ) → has_move moves e u ≡ true → After (RawStep raw) u [] t → After (RawStep raw) 0 (s ++ e ∷ []) t
  into e u t move rest =
      let source = are.sound e u move in
      let before : After (RawStep raw) 0 s source.0 = (after.terms source.0).0 source.1 in
      let step : RawStep raw source.0 (visible e) u = listed_step raw source.0 e u source.2 in
      let last : After (RawStep raw) source.0 (e ∷ []) t = After-append (RawStep raw) source.0 u t (e ∷ []) [] (After-event (RawStep raw) source.0 u e step) rest in
      After-append (RawStep raw) 0 source.0 t s (e ∷ []) before last

  -- the move that a trace takes after s
  pub record MoveAfter (e : ℕ) (w : List ℕ) (t : ℕ) : Type 0 where
    pub to : ℕ
    pub move : has_move moves e to ≡ true
    pub rest : After (RawStep raw) to w t

  pub move_after : (e : ℕ) (w : List ℕ) (t : ℕ) → After (RawStep raw) 0 (s ++ e ∷ w) t → MoveAfter e w t
  move_after e w t a =
      let c = After-cut (RawStep raw) 0 t s (e ∷ w) a in
      let f = After-first (RawStep raw) c.middle e w t c.back in
      let there : After (RawStep raw) 0 (s ++ []) f.from = After-append (RawStep raw) 0 c.middle f.from s [] c.front f.before in
      let listed : IsTrue (has set f.from) = (after.terms f.from).1 (subst (λ (x : List ℕ). After (RawStep raw) 0 x f.from) (append-nil s) there) in
      record { to = f.to; move = are.complete f.from e f.to listed (step_listed raw f.from e f.to f.step); rest = f.rest }

  pub next_after : (e : ℕ) (next : List ℕ) → has_event moves e ≡ true → IsNextSet raw moves e next → IsSetAfter raw (s ++ e ∷ []) next
  next_after e next listed is = record {
    terms = λ t. (
      λ h. let m = (is t).0 h in into e m.0 t m.1 m.2,
      λ a. let m = move_after e [] t a in (is t).1 (m.to, m.move, m.rest),
    );
    some = let m = move_of_event moves e listed in (m.0, into e m.0 m.0 m.1 (After-none (RawStep raw) m.0));
  }

pub reached_more : (raw : RawTable) (old new : List (List ℕ)) (place : ℕ) → place < length old → AreReachedSets raw old → AreMoreSets (IsReachedFromSet raw (set_at old place)) old new → AreReachedSets raw new
reached_more raw old new place below r more = record {
  first = subst (IsSetAfter raw []) (sym (more.kept 0 r.not_empty)) r.first;
  not_empty = omega (arith, r.not_empty, more.longer);
  each = λ n h. elim (cases_lt n (length old)) as (λ _. (s : List ℕ) × IsSetAfter raw s (set_at new n)) [
    | inl early ↦ let e = r.each n early in (e.0, subst (IsSetAfter raw e.0) (sym (more.kept n early)) e.1)
    | inr late ↦
        let a = more.added n late h in
        let before = r.each place below in
        (before.0 ++ a.2.event ∷ [], next_after raw before.0 (set_at old place) a.0 before.1 a.1 a.2.event (set_at new n) a.2.listed a.2.is)
  ];
  forms = λ n h. elim (cases_lt n (length old)) as (λ _. IsTermSet raw (set_at new n)) [
    | inl early ↦ subst (IsTermSet raw) (sym (more.kept n early)) (r.forms n early)
    | inr late ↦ (more.added n late h).2.form
  ];
  apart = more.apart r.apart;
}

-- ---- one node more
steps_kept : (raw : RawTable) (moves : List (ℕ × ℕ)) (P : List ℕ → Type 0) (old new : List (List ℕ)) (next : List (ℕ × ℕ)) → AreMoreSets P old new → AreNodeSteps raw moves old next → AreNodeSteps raw moves new next
steps_kept raw moves P old new next more s = record {
  events = s.events;
  leads = λ e h. let l = s.leads e h in record { within = omega (arith, l.within, more.longer); is = subst (IsNextSet raw moves e) (sym (more.kept (target next e) l.within)) l.is };
  rising = s.rising;
}

node_kept : (raw : RawTable) (P : List ℕ → Type 0) (old new : List (List ℕ)) (k : ℕ) (node : Node) → k < length old → AreMoreSets P old new → IsNodeOf raw old (set_at old k) node → IsNodeOf raw new (set_at new k) node
node_kept raw P old new k node below more n = subst (λ (X : List ℕ). IsNodeOf raw new X node) (sym (more.kept k below)) (record {
  steps = (n.steps.0, n.steps.1, steps_kept raw n.steps.0 P old new node.next more n.steps.2);
  accept = n.accept;
})

-- before the first node
pub no_nodes : (raw : RawTable) (sets : List (List ℕ)) → length sets ≡ 1 → AreNodesSoFar raw sets []
no_nodes raw sets one = record { fewer = omega arith; each = λ k h. absurd (omega arith); met = sym one; in_turn = λ k h. absurd (omega arith) }

pub nodes_more : (raw : RawTable) (P : List ℕ → Type 0) (old new : List (List ℕ)) (nodes : List Node) (node : Node) → length nodes < length old → AreNodesSoFar raw old nodes → AreMoreSets P old new → IsNodeOf raw new (set_at old (length nodes)) node → MeetsInOrder (length old) (targets_of_steps node.next) (length new) → AreNodesSoFar raw new (nodes ++ node ∷ [])
nodes_more raw P old new nodes node below so_far more is order = record {
  fewer = omega (arith, length-append nodes (node ∷ []), more.longer);
  each = λ k h. elim (cases_lt k (length nodes)) as (λ _. IsNodeOf raw new (set_at new k) (node_at (nodes ++ node ∷ []) k)) [
    | inl early ↦
        let inside : k < length old = omega (arith, so_far.fewer) in
        subst (IsNodeOf raw new (set_at new k)) (sym (get_or_append_left nodes (node ∷ []) (record { next = []; accept = [] }) k early)) (node_kept raw P old new k (node_at nodes k) inside more (so_far.each k early))
    | inr late ↦
        let here : k ≡ length nodes = omega (arith, length-append nodes (node ∷ [])) in
        let read : node_at (nodes ++ node ∷ []) k ≡ node = ap (node_at (nodes ++ node ∷ [])) here ∙ get_or-append_seam nodes node [] (record { next = []; accept = [] }) in
        let set : set_at new k ≡ set_at old (length nodes) = ap (set_at new) here ∙ more.kept (length nodes) below in
        subst (IsNodeOf raw new (set_at new k)) (sym read) (subst (λ (X : List ℕ). IsNodeOf raw new X node) (sym set) is)
  ];
  met = all_met;
  in_turn = λ k h. elim (cases_lt k (length nodes)) as (λ _. (m : ℕ) × MeetsUpTo (take k (nodes ++ node ∷ [])) m × (k < m)) [
    | inl early ↦
        let t = so_far.in_turn k early in
        let same : take k (nodes ++ node ∷ []) ≡ take k nodes = take-append-le k nodes (node ∷ []) (omega arith) in
        (t.0, subst (λ (ns : List Node). MeetsUpTo ns t.0) (sym same) t.1, t.2)
    | inr late ↦
        let here : k ≡ length nodes = omega (arith, length-append nodes (node ∷ [])) in
        let same : take k (nodes ++ node ∷ []) ≡ nodes = ap (λ n. take n (nodes ++ node ∷ [])) here ∙ (take-append-le (length nodes) nodes (node ∷ []) (omega arith) ∙ take_all (length nodes) nodes (omega arith)) in
        (length old, subst (λ (ns : List Node). MeetsUpTo ns (length old)) (sym same) so_far.met, omega arith)
  ];
}
  where
    all_met : MeetsUpTo (nodes ++ node ∷ []) (length new)
    all_met =
        let targets : targets_of_nodes (nodes ++ node ∷ []) ≡ targets_of_nodes nodes ++ targets_of_steps node.next = flat_map-append (λ (n : Node). targets_of_steps n.next) nodes (node ∷ []) ∙ ap (λ (ts : List ℕ). targets_of_nodes nodes ++ ts) (append-nil (targets_of_steps node.next)) in
        subst (λ (ts : List ℕ). MeetsInOrder 1 ts (length new)) (sym targets) (meets_then 1 (length old) (length new) (targets_of_nodes nodes) (targets_of_steps node.next) so_far.met order)
