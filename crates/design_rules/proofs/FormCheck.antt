-- A test that shows a written-out shape well formed: it is true by computation.
use Rattle.design_rules.proofs.Prelude.{◌≡◌, ℕ, ◌<◌, inl, inr, List, [], ◌∷◌, length, get_or, true, nat_le, refl, subst, arith, le-leb, cases_lt, false≢true, get_or-eq_default, has, Node, node_at, is_possible, is_run, IsReached, end_of, Part, part_at, alphabets_of, sharers, TripleDisjoint, BeginsAbove, StepsHaveForm, AreWithin, NodesHaveForm, HaveForm, Shape, link_at, JoinsTwo, AreJoined, IsBelow, IsLinked, IsWellFormed}
use Rattle.design_rules.proofs.Checks.{Test, shown, always, is_true, same, less, at_most, both, three, four, either, when, below, members, within, sets, nodes}
use Rattle.design_rules.proofs.Shapes.{sharer}

-- ---- the form of tables

abbrev begins_above : (e : ℕ) (steps : List (ℕ × ℕ)) → Test (BeginsAbove e steps)
begins_above e [] = always
begins_above e (step ∷ steps) = less e step.0

abbrev steps_form : (a : List ℕ) (m : ℕ) (steps : List (ℕ × ℕ)) → Test (StepsHaveForm a m steps)
steps_form a m [] = always
steps_form a m (step ∷ steps) = four (is_true (has a step.0)) (less step.1 m) (begins_above step.0 steps) (steps_form a m steps)

abbrev are_within : (a : List ℕ) (Ms : List (List ℕ)) → Test (AreWithin a Ms)
are_within a [] = always
are_within a (M ∷ Ms) = both (within M a) (are_within a Ms)

abbrev nodes_form : (a : List ℕ) (m : ℕ) (ns : List Node) → Test (NodesHaveForm a m ns)
nodes_form a m [] = always
nodes_form a m (node ∷ ns) = three (steps_form a m node.next) (are_within a node.accept) (nodes_form a m ns)

abbrev have_form : (ps : List Part) → Test (HaveForm ps)
have_form [] = always
have_form (p ∷ ps) =
    both
    (shown (three (at_most 1 (length p.table)) (at_most (length p.table) 2048) (nodes_form p.alphabet (length p.table) p.table)) (λ h. record { least = h.0; most = h.1; nodes = h.2 }))
    (have_form ps)

-- ---- links and vocabulary

abbrev alphabet_at : Shape → ℕ → List ℕ
alphabet_at shape i = (part_at shape.parts i).alphabet

abbrev sharing : Shape → ℕ → ℕ
sharing shape e = sharers (alphabets_of shape.parts) e

abbrev joins_two : (shape : Shape) (l : ℕ) → Test (JoinsTwo shape.parts (link_at shape l))
joins_two shape l =
    shown
    (both
    (three (less (link_at shape l).left (link_at shape l).right) (less (link_at shape l).right (length shape.parts)) (is_true (has (link_at shape l).shared (get_or (link_at shape l).shared 0 0))))
    (both
    (members (link_at shape l).shared (λ e. both (is_true (has (alphabet_at shape (link_at shape l).left) e)) (is_true (has (alphabet_at shape (link_at shape l).right) e))))
    (members (alphabet_at shape (link_at shape l).left) (λ e. when (has (alphabet_at shape (link_at shape l).right) e) (is_true (has (link_at shape l).shared e))))))
    (λ h. record { ordered = h.0.0; within = h.0.1; some = (get_or (link_at shape l).shared 0 0, h.0.2); shared = λ e. (h.1.0 e, λ k. h.1.1 e k.0 k.1) })

abbrev joined : (shape : Shape) (l i j : ℕ) → Test (AreJoined shape i j)
joined shape l i j =
    shown (three (less l (length shape.links)) (same (link_at shape l).left i) (same (link_at shape l).right j)) (λ h. record { link = l; within = h.0; left = h.1; right = h.2 })

abbrev is_below : (shape : Shape) (l m : ℕ) → Test (IsBelow (link_at shape l) (link_at shape m))
is_below shape l m = either (less (link_at shape l).left (link_at shape m).left) (both (same (link_at shape l).left (link_at shape m).left) (less (link_at shape l).right (link_at shape m).right))

-- it is told where the link of two parts stands
abbrev linked : (shape : Shape) (link_of : ℕ → ℕ → ℕ) → Test (IsLinked shape)
linked shape link_of =
    shown
    (both
    (three (at_most 1 (length shape.parts)) (at_most (length shape.parts) 512) (below (length shape.links) (joins_two shape)))
    (four
    (below (length shape.parts) (λ j. below j (λ i. members (alphabet_at shape i) (λ e. when (has (alphabet_at shape j) e) (joined shape (link_of i j) i j)))))
    (below (length shape.links) (λ m. below m (λ l. is_below shape l m)))
    (members shape.vocabulary (λ e. at_most 2 (sharing shape e)))
    (below (length shape.parts) (λ i. members (alphabet_at shape i) (λ e. when (nat_le 2 (sharing shape e)) (is_true (has shape.vocabulary e)))))))
    (λ h. record {
      least = h.0.0;
      most = h.0.1;
      links = h.0.2;
      all_links = λ i j order within meet. h.1.0 j within i order meet.event meet.first meet.second;
      links_rise = λ l m order within. h.1.1 m within l order;
      vocabulary = λ e. (h.1.2 e, λ k. let s = sharer shape.parts e (omega arith) in h.1.3 s.place s.within e s.owned (le-leb 2 (sharing shape e) k));
    })

-- ---- the whole

abbrev reached : (table : List Node) (run : List ℕ) (n : ℕ) → Test (IsReached table n)
reached table run n = shown (both (is_true (is_run table 0 run)) (same (end_of table 0 run) n)) (λ h. record { run = run; follows = h.0; leads = h.1 })

pub in_any : (P : ℕ → Type 0) (Ms : List (List ℕ)) → ((k : ℕ) → k < length Ms → (e : ℕ) → has (get_or Ms k []) e ≡ true → P e) → (k e : ℕ) → has (get_or Ms k []) e ≡ true → P e
in_any P Ms h k e there = elim (cases_lt k (length Ms)) [
  | inl less ↦ h k less e there
  | inr past ↦ absurd (false≢true (subst (λ (M : List ℕ). has M e ≡ true) (get_or-eq_default Ms [] past) there))
]

-- it is told how nodes are reached
abbrev pub well_formed : (shape : Shape) (runs : ℕ → ℕ → List ℕ) (link_of : ℕ → ℕ → ℕ) → Test (IsWellFormed shape)
well_formed shape runs link_of =
    shown
    (both
    (both (linked shape link_of) (have_form shape.parts))
    (three
    (below (length shape.parts) (λ i. nodes (part_at shape.parts i).table (λ n node. at_most (length node.accept) 16384) (λ n. refl)))
    (below (length shape.parts) (λ i. nodes (part_at shape.parts i).table (λ n node. sets node.accept (λ M. members M (λ e. is_true (is_possible node.next e)))) (λ n. refl)))
    (below (length shape.parts) (λ i. below (length (part_at shape.parts i).table) (λ n. reached (part_at shape.parts i).table (runs i n) n)))))
    (λ h. record { linked = h.0.0; form = h.0.1; few = λ i n here. h.1.0 i here n; possible = λ i n k e here. in_any (λ x. is_possible (node_at (part_at shape.parts i).table n).next x ≡ true) (node_at (part_at shape.parts i).table n).accept (h.1.1 i here n) k e; reached = λ i n here less. h.1.2 i here n less })

abbrev pub triple_disjoint : (shape : Shape) → Test (TripleDisjoint (alphabets_of shape.parts))
triple_disjoint shape =
    shown (below (length shape.parts) (λ i. members (alphabet_at shape i) (λ e. at_most (sharing shape e) 2)))
    (λ h e. elim (cases_lt (sharing shape e) 1) [
      | inl none ↦ omega arith
      | inr some ↦ let s = sharer shape.parts e (omega arith) in h s.place s.within e s.owned
    ])
