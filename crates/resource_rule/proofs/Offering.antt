-- What a user offers while it holds a resource.
use Rattle.resource_rule.proofs.Prelude.{link_at, ◌≡◌, ℕ, suc, ◌<◌, inl, inr, List, [], ◌∷◌, length, Bool, true, false, ◌&&◌, ◌||◌, cond, nat_eq, refl, sym, subst, ◌∙◌, arith, eq-eqb, list_any, cases_Bool, cond-true, and_parts, and_from, or_cases, or_left, eqb-true, false≢true, list_any_at, has, is_subset_of, IsRun, IsWellFormed, acceptances_after, accepted, end_of, part_at, end_within, holds, part_form, pair_at, any_at, HaveNodes, is_offered, is_offered_at, WatchesLink, IsOfferedHolding, Setting, node_of, member_of_superset, is_subset_of_from_members, parity_is}

-- ---- events that are collected

-- a set that is within another adds nothing to it
pub absorbed : (M N : List ℕ) (b : Bool) (e : ℕ) → is_subset_of M N ≡ true → has N e ≡ (has N e || (b && has M e))
absorbed M N b e within = elim (cases_Bool (has M e)) [
  | inl there ↦ let x = member_of_superset M N within e there in x ∙ sym (or_left (has N e) (b && has M e) x)
  | inr lacks ↦ nothing (has N e) b (has M e) lacks
]
  where
    nothing : (x y z : Bool) → z ≡ false → x ≡ (x || (y && z))
    nothing true y z h = refl
    nothing false true z h = sym h
    nothing false false z h = refl

any_pair : (test : ℕ × ℕ → Bool) (pairs : List (ℕ × ℕ)) → list_any test pairs ≡ true → (k : ℕ) × (k < length pairs) × (test (pair_at pairs k) ≡ true)
any_pair test [] some = absurd (false≢true some)
any_pair test (p ∷ ps) some = elim (or_cases (test p) (list_any test ps) some) [
  | inl here ↦ (0, omega arith, here)
  | inr later ↦ let r = any_pair test ps later in (suc r.0, (let h : r.0 < length ps = r.1 in omega arith), r.2)
]

-- each pair of an exploration has a node
pub have_nodes : (g : Setting) (i l : ℕ) (pairs : List (ℕ × ℕ)) → IsWellFormed g.shape → i < length g.shape.parts → WatchesLink g i l pairs → HaveNodes g i pairs
have_nodes g i l pairs w h x k below =
    let r = x.reached k below in
    subst (λ n. n < length (part_at g.shape.parts i).table) r.1.node (end_within (part_at g.shape.parts i) r.0 (part_form g.shape.parts i h w.form) r.1.follows)

-- ---- what is offered while a resource is held

one_is : (b : Bool) → ◌≡◌ {A = ℕ} (cond b 1 0) 1 → b ≡ true
one_is true h = refl
one_is false h = absurd (omega arith)

module _ (g : Setting) (i l : ℕ) (h : i < length g.shape.parts) where
  abbrev offers : ℕ → ℕ → Bool
  offers n e = is_offered g.shape.vocabulary (node_of g i n).accept e

  -- at the node of a run
  pub offer_sound : (s : List ℕ) (n e : ℕ) → IsRun (part_at g.shape.parts i).table s → end_of (part_at g.shape.parts i).table 0 s ≡ n → holds g.shape l s ≡ true → offers n e ≡ true → IsOfferedHolding g i l e
  offer_sound s n e follows leads holding some =
      let at = subst (λ n. offers n e ≡ true) (sym leads) some in
      let place = any_at (λ M. is_subset_of M g.shape.vocabulary && has M e) (acceptances_after (part_at g.shape.parts i).table s) at in
      let both = and_parts (is_subset_of (accepted g.shape i s place.0) g.shape.vocabulary) (has (accepted g.shape i s place.0) e) place.2 in
      record {
        run = s;
        place = place.0;
        accepts = record { runs = record { part = h; follows = follows }; listed = place.1; shared = member_of_superset (accepted g.shape i s place.0) g.shape.vocabulary both.0 };
        holding = holding;
        offered = both.1;
      }

  pub offer_complete : (e : ℕ) (o : IsOfferedHolding g i l e) → offers (end_of (part_at g.shape.parts i).table 0 o.run) e ≡ true
  offer_complete e o =
      list_any_at (λ M. is_subset_of M g.shape.vocabulary && has M e) (acceptances_after (part_at g.shape.parts i).table o.run) o.place [] o.accepts.listed
      (and_from (is_subset_of (accepted g.shape i o.run o.place) g.shape.vocabulary) (has (accepted g.shape i o.run o.place) e) (is_subset_of_from_members (accepted g.shape i o.run o.place) g.shape.vocabulary o.accepts.shared) o.offered)

  -- at the pairs of the exploration with the link's parity
  module _ (pairs : List (ℕ × ℕ)) (x : WatchesLink g i l pairs) where
    pub offered_sound : (e : ℕ) → is_offered_at g i pairs e ≡ true → IsOfferedHolding g i l e
    offered_sound e some =
        let k = any_pair (λ (pair : ℕ × ℕ). nat_eq pair.1 1 && offers pair.0 e) pairs some in
        let p = and_parts (nat_eq (pair_at pairs k.0).1 1) (offers (pair_at pairs k.0).0 e) k.2 in
        let s = x.reached k.0 k.1 in
        offer_sound s.0 (pair_at pairs k.0).0 e s.1.follows s.1.node (one_is (holds g.shape l s.0) (sym (parity_is (link_at g.shape l).shared s.0) ∙ s.1.state ∙ eqb-true (pair_at pairs k.0).1 1 p.0)) p.1

    pub offered_complete : (e : ℕ) → IsOfferedHolding g i l e → is_offered_at g i pairs e ≡ true
    offered_complete e o =
        let p = x.listed o.run o.accepts.runs.follows in
        let there = subst (λ n. offers n e ≡ true) p.2.node (offer_complete e o) in
        let one = sym p.2.state ∙ parity_is (link_at g.shape l).shared o.run ∙ cond-true (holds g.shape l o.run) 1 0 o.holding in
        list_any_at (λ (pair : ℕ × ℕ). nat_eq pair.1 1 && offers pair.0 e) pairs p.0 (0, 0) p.1 (and_from (nat_eq (pair_at pairs p.0).1 1) (offers (pair_at pairs p.0).0 e) (eq-eqb (pair_at pairs p.0).1 1 one) there)
