-- Which resources users hold while they offer to acquire others: as sets of links, and as arcs.
use Rattle.resource_rule.proofs.Prelude.{◌≡◌, ◌<◌, ◌≤◌, ◌&&◌, ◌||◌, ◌∙◌, ℕ, List, [], ◌∷◌, true, false, not, IsTrue, length, get_or, replicate, nat_eq, inl, inr, ap, refl, sym, subst, arith, eq-eqb, eqb-true, list_any, any_of, any_member, and_from, and_parts, cases_Bool, cases_lt, cond-false, cond-true, false≢true, get_or_from_slice_get, not-false, or_cases, or_left, slice_get_within, has, IsWellFormed, Joins, Link, TripleDisjoint, accepted, alphabets_of, end_of, is_end, link_at, part_at, use_at, end_within, first_end, IsHeldWhile, holds, part_form, HasArc, has_arc, AddsArcs, AreHeld, Below, HoldsWhile, LeadsToHeld, LeadsToSome, OffersWhile, is_acquiring, resource_of, IsOfferedHolding, WatchesLink, is_offered, is_offered_at, ends_complete, ends_sound, link_past, place_in, ends_of, IsUser, KeepKinds, Setting, node_of, at_place, acquired_link, is_part}
use Rattle.resource_rule.proofs.Adding.{adds_tested, no_arc}
use Rattle.resource_rule.proofs.Offering.{offer_complete, offer_sound, offered_complete, offered_sound}

-- ---- the resource of a link

module _ (g : Setting) (kinds : KeepKinds g) where
  -- the resource of a link is one
  pub resource_is : (l : ℕ) → l < length g.shape.links → (use_at g.uses (resource_of g l)).resource ≡ true
  resource_is l h = elim (cases_Bool (use_at g.uses (link_at g.shape l).left).resource) [
    | inl left ↦ subst (λ n. (use_at g.uses n).resource ≡ true) (sym (cond-true (use_at g.uses (link_at g.shape l).left).resource (link_at g.shape l).left (link_at g.shape l).right left)) left
    | inr right ↦ subst (λ n. (use_at g.uses n).resource ≡ true) (sym (cond-false (use_at g.uses (link_at g.shape l).left).resource (link_at g.shape l).left (link_at g.shape l).right right)) (not-false _ (sym (kinds.linked l h) ∙ right))
  ]

  -- an end that is a resource is the link's one
  pub end_resource : (j l : ℕ) → l < length g.shape.links → IsTrue (is_end g.shape j l) → (use_at g.uses j).resource ≡ true → resource_of g l ≡ j
  end_resource j l h end resource = elim (or_cases (nat_eq (link_at g.shape l).left j) (nat_eq (link_at g.shape l).right j) end) [
    | inl left ↦
        let same = eqb-true (link_at g.shape l).left j left in
        cond-true (use_at g.uses (link_at g.shape l).left).resource (link_at g.shape l).left (link_at g.shape l).right (subst (λ n. (use_at g.uses n).resource ≡ true) (sym same) resource) ∙ same
    | inr right ↦
        let same = eqb-true (link_at g.shape l).right j right in
        let other = kinds.linked l h ∙ ap not (subst (λ n. (use_at g.uses n).resource ≡ true) (sym same) resource) in
        cond-false (use_at g.uses (link_at g.shape l).left).resource (link_at g.shape l).left (link_at g.shape l).right other ∙ same
  ]

  -- a user is joined to the resource of its link
  pub user_joins : (i l : ℕ) → l < length g.shape.links → IsTrue (is_end g.shape i l) → IsUser g i → Joins g.shape i (resource_of g l) l
  user_joins i l h end user = elim (or_cases (nat_eq (link_at g.shape l).left i) (nat_eq (link_at g.shape l).right i) end) [
    | inl left ↦
        let same = eqb-true (link_at g.shape l).left i left in
        let other = cond-false (use_at g.uses (link_at g.shape l).left).resource (link_at g.shape l).left (link_at g.shape l).right (subst (λ n. (use_at g.uses n).resource ≡ false) (sym same) user) in
        record { within = h; ends = inl (same, sym other) }
    | inr right ↦
        let same = eqb-true (link_at g.shape l).right i right in
        let other = cond-true (use_at g.uses (link_at g.shape l).left).resource (link_at g.shape l).left (link_at g.shape l).right (kinds.linked l h ∙ ap not (subst (λ n. (use_at g.uses n).resource ≡ false) (sym same) user)) in
        record { within = h; ends = inr (sym other, same) }
  ]

  pub joined_resource : (i m l : ℕ) → IsUser g i → Joins g.shape i m l → resource_of g l ≡ m
  joined_resource i m l user joins = elim joins.ends [
    | inl ends ↦ cond-false (use_at g.uses (link_at g.shape l).left).resource (link_at g.shape l).left (link_at g.shape l).right (subst (λ n. (use_at g.uses n).resource ≡ false) (sym ends.0) user) ∙ ends.1
    | inr ends ↦ cond-true (use_at g.uses (link_at g.shape l).left).resource (link_at g.shape l).left (link_at g.shape l).right (kinds.linked l joins.within ∙ ap not (subst (λ n. (use_at g.uses n).resource ≡ false) (sym ends.1) user)) ∙ ends.0
  ]

-- ---- what a user holds, as sets of links

acquiring_within : (g : Setting) (k e : ℕ) → has (link_at g.shape k).shared e ≡ true → k < length g.shape.links
acquiring_within g k e on = elim (cases_lt k (length g.shape.links)) [
  | inl below ↦ below
  | inr past ↦ absurd (false≢true (ap (λ (x : Link). has x.shared e) (sym (link_past g.shape k g.shape.links refl past)) ∙ on))
]

module _ (g : Setting) (i : ℕ) (h : i < length g.shape.parts) (user : IsUser g i) where
  -- of all nodes, by the links on which it holds a resource there
  module _ (w : IsWellFormed g.shape) (held : List (List ℕ)) (are : AreHeld g i held) where
    pub nodes_sound : (k l : ℕ) → Below (λ n. OffersWhile g i n (get_or held n [])) (length held) k l → HoldsWhile g i k l
    nodes_sound k l at =
        let r = w.reached i at.0 h (subst (λ n. at.0 < n) are.count at.1) in
        let both = and_parts (has (ends_of g.shape i) l) (holds g.shape l r.run) (sym (are.each r.run l r.follows) ∙ subst (λ n. has (get_or held n []) l ≡ true) (sym r.leads) at.2.holding) in
        let end = ends_sound g.shape i (length g.shape.links) l both.0 in
        record { user = user; within = end.0; end = end.1; event = at.2.event; offered = offer_sound g i l h r.run at.0 at.2.event r.follows r.leads both.1 at.2.offered; acquiring = at.2.acquiring }

    pub nodes_complete : (k l : ℕ) → HoldsWhile g i k l → Below (λ n. OffersWhile g i n (get_or held n [])) (length held) k l
    nodes_complete k l x =
        let run = x.offered.accepts.runs.follows in
        let n = end_of (part_at g.shape.parts i).table 0 x.offered.run in
        let listed = ends_complete g.shape i (length g.shape.links) l x.within x.end in (
          n,
          subst (λ c. end_of (part_at g.shape.parts i).table 0 x.offered.run < c) (sym are.count) (end_within (part_at g.shape.parts i) x.offered.run (part_form g.shape.parts i h w.form) run),
          record {
            event = x.event;
            offered = offer_complete g i l h x.event x.offered;
            acquiring = x.acquiring;
            holding = are.each x.offered.run l run ∙ and_from (has (ends_of g.shape i) l) (holds g.shape l x.offered.run) listed x.offered.holding;
          },
        )

  -- on one link, by the exploration with its parity
  module _ (link : ℕ) (within : link < length g.shape.links) (end : IsTrue (is_end g.shape i link)) (pairs : List (ℕ × ℕ)) (x : WatchesLink g i link pairs) (offers held : List ℕ) (are : (e : ℕ) → has offers e ≡ is_offered_at g i pairs e) (one : (l : ℕ) → has held l ≡ has (link ∷ []) l) where
    pub link_sound : (k l : ℕ) → (list_any (is_acquiring g k) offers && has held l) ≡ true → (link ≡ l) × HoldsWhile g i k l
    link_sound k l both =
        let p = and_parts (list_any (is_acquiring g k) offers) (has held l) both in
        let e = any_member (is_acquiring g k) offers p.0 in
        let same : link ≡ l = elim (or_cases (nat_eq link l) false (sym (one l) ∙ p.1)) [ inl same ↦ eqb-true link l same | inr never ↦ absurd (false≢true never) ] in
        (same, subst (HoldsWhile g i k) same (record { user = user; within = within; end = end; event = e.0; offered = offered_sound g i link h pairs x e.0 (sym (are e.0) ∙ e.1); acquiring = e.2 }))

    pub link_complete : (k l : ℕ) → (link ≡ l) × HoldsWhile g i k l → (list_any (is_acquiring g k) offers && has held l) ≡ true
    link_complete k l of =
        let o = subst (λ n. IsOfferedHolding g i n of.1.event) (sym of.0) of.1.offered in
        and_from (list_any (is_acquiring g k) offers) (has held l)
        (any_of (is_acquiring g k) offers of.1.event (are of.1.event ∙ offered_complete g i link h pairs x of.1.event o) of.1.acquiring)
        (one l ∙ or_left (nat_eq link l) false (eq-eqb link l of.0))

-- the place of a link that is held among those of its user
pub place_of_end : (g : Setting) (i k l : ℕ) → HoldsWhile g i k l → (n : ℕ) × (n < length (ends_of g.shape i)) × (get_or (ends_of g.shape i) n 0 ≡ l)
place_of_end g i k l x =
    let at = place_in (ends_of g.shape i) l (ends_complete g.shape i (length g.shape.links) l x.within x.end) in
    (at.0, slice_get_within (ends_of g.shape i) at.0 l at.1, get_or_from_slice_get (ends_of g.shape i) at.0 l 0 at.1)

-- at one node
pub node_sound : (g : Setting) (i n : ℕ) (offers held : List ℕ) → ((e : ℕ) → has offers e ≡ is_offered g.shape.vocabulary (node_of g i n).accept e) → (k l : ℕ) → (list_any (is_acquiring g k) offers && has held l) ≡ true → OffersWhile g i n held k l
node_sound g i n offers held are k l both =
    let p = and_parts (list_any (is_acquiring g k) offers) (has held l) both in
    let e = any_member (is_acquiring g k) offers p.0 in
    record { event = e.0; offered = sym (are e.0) ∙ e.1; acquiring = e.2; holding = p.1 }

pub node_complete : (g : Setting) (i n : ℕ) (offers held : List ℕ) → ((e : ℕ) → has offers e ≡ is_offered g.shape.vocabulary (node_of g i n).accept e) → (k l : ℕ) → OffersWhile g i n held k l → (list_any (is_acquiring g k) offers && has held l) ≡ true
node_complete g i n offers held are k l x = and_from (list_any (is_acquiring g k) offers) (has held l) (any_of (is_acquiring g k) offers x.event (are x.event ∙ x.offered) x.acquiring) x.holding

-- ---- the arcs between resources

module _ (g : Setting) (w : IsWellFormed g.shape) (triple : TripleDisjoint (alphabets_of g.shape.parts)) (count : length g.uses ≡ length g.shape.parts) (kinds : KeepKinds g) where
  pub held_while : (i k l : ℕ) → HoldsWhile g i k l → IsHeldWhile g.shape g.uses (resource_of g l) (resource_of g k)
  held_while i k l x =
      let o = x.offered in
      let on = and_parts (has (link_at g.shape k).shared x.event) (has (use_at g.uses (resource_of g k)).acquire x.event) x.acquiring in
      let resource = resource_is g kinds k (acquiring_within g k x.event on.0) in
      record {
        user = i;
        link = l;
        run = o.run;
        acceptance = accepted g.shape i o.run o.place;
        is_user = x.user;
        accepts = at_place g.shape i o.run o.place o.accepts;
        within = is_part g (resource_of g k) count resource;
        acquiring = and_from (use_at g.uses (resource_of g k)).resource (list_any (λ e. has (use_at g.uses (resource_of g k)).acquire e) (accepted g.shape i o.run o.place)) resource (any_of (λ e. has (use_at g.uses (resource_of g k)).acquire e) (accepted g.shape i o.run o.place) x.event o.offered on.1);
        joins = user_joins g kinds i l x.within x.end x.user;
        holding = o.holding;
      }

  -- the links of which one is held while the other one's resource is offered
  pub links_of_held : (m j : ℕ) (x : IsHeldWhile g.shape g.uses m j) → (k : ℕ) × HoldsWhile g x.user k x.link × (resource_of g k ≡ j) × (resource_of g x.link ≡ m)
  links_of_held m j x =
      let q = and_parts (use_at g.uses j).resource (list_any (λ e. has (use_at g.uses j).acquire e) x.acceptance) x.acquiring in
      let e = any_member (λ e. has (use_at g.uses j).acquire e) x.acceptance q.1 in
      let k = acquired_link g w triple count kinds j e.0 (and_from (use_at g.uses j).resource (has (use_at g.uses j).acquire e.0) q.0 e.2) in
      let of = end_resource g kinds j k.0 k.1.within k.2 q.0 in (
        k.0,
        record {
          user = x.is_user;
          within = x.joins.within;
          end = first_end g.shape x.user m x.link x.joins;
          event = e.0;
          offered = record { run = x.run; place = x.accepts.place; accepts = x.accepts.at; holding = x.holding; offered = subst (λ M. has M e.0 ≡ true) (sym x.accepts.is) e.1 };
          acquiring = and_from (has (link_at g.shape k.0).shared e.0) (has (use_at g.uses (resource_of g k.0)).acquire e.0) k.1.event (subst (λ n. has (use_at g.uses n).acquire e.0 ≡ true) (sym of) e.2);
        },
        of,
        joined_resource g kinds x.user m x.link x.is_user x.joins,
      )

  -- the arcs of all links, by the sets of all users
  module _ (n : ℕ) (sets rows : List (List ℕ)) (gathered : AddsArcs (Below (HoldsWhile g) n) (replicate (length g.shape.links) []) sets) (adds : AddsArcs (LeadsToSome g sets) (replicate (length g.shape.parts) []) rows) where
    pub arcs_sound : (j m : ℕ) → HasArc rows j m → IsHeldWhile g.shape g.uses m j
    arcs_sound j m arc = elim (adds.sound j m arc) [
      | inl before ↦ absurd (no_arc (length g.shape.parts) j m before)
      | inr at ↦ elim (gathered.sound at.0 at.2.link at.2.listed) [
        | inl before ↦ absurd (no_arc (length g.shape.links) at.0 at.2.link before)
        | inr held ↦ subst (λ x. IsHeldWhile g.shape g.uses x j) at.2.to (subst (λ x. IsHeldWhile g.shape g.uses (resource_of g at.2.link) x) at.2.from (held_while held.0 at.0 at.2.link held.2))
      ]
    ]

    pub arcs_complete : length g.shape.parts ≤ n → (j m : ℕ) → IsHeldWhile g.shape g.uses m j → HasArc rows j m
    arcs_complete all j m x =
        let r = links_of_held m j x in
        let user : x.user < length g.shape.parts = x.accepts.at.runs.part in
        let within = acquiring_within g r.0 r.1.event (and_parts (has (link_at g.shape r.0).shared r.1.event) (has (use_at g.uses (resource_of g r.0)).acquire r.1.event) r.1.acquiring).0 in
        adds.added j m (r.0, within, record { link = x.link; from = r.2; listed = gathered.added r.0 x.link (x.user, omega arith, r.1); to = r.3 })

-- what the sets have are links
pub members_within : (g : Setting) (n : ℕ) (sets : List (List ℕ)) → AddsArcs (Below (HoldsWhile g) n) (replicate (length g.shape.links) []) sets → (k l : ℕ) → HasArc sets k l → l < length g.shape.links
members_within g n sets gathered k l arc = elim (gathered.sound k l arc) [
  | inl before ↦ absurd (no_arc (length g.shape.links) k l before)
  | inr held ↦ held.2.within
]

-- the arcs of one row
pub row_adds : (g : Setting) (k : ℕ) (held : List ℕ) (old new : List (List ℕ)) → length new ≡ length old → ((j m : ℕ) → has_arc new j m ≡ (has_arc old j m || (nat_eq (resource_of g k) j && list_any (λ l. nat_eq (resource_of g l) m) held))) → AddsArcs (LeadsToHeld g k held) old new
row_adds g k held old new count is = adds_tested (LeadsToHeld g k held) (λ j m. nat_eq (resource_of g k) j && list_any (λ l. nat_eq (resource_of g l) m) held) old new count is
    (λ j m both.
    let p = and_parts (nat_eq (resource_of g k) j) (list_any (λ l. nat_eq (resource_of g l) m) held) both in
    let x = any_member (λ l. nat_eq (resource_of g l) m) held p.1 in
    record { link = x.0; from = eqb-true (resource_of g k) j p.0; listed = x.1; to = eqb-true (resource_of g x.0) m x.2 })
    (λ j m x. and_from (nat_eq (resource_of g k) j) (list_any (λ l. nat_eq (resource_of g l) m) held) (eq-eqb (resource_of g k) j x.from) (any_of (λ l. nat_eq (resource_of g l) m) held x.link x.listed (eq-eqb (resource_of g x.link) m x.to)))
