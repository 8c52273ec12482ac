-- Acceptances that fall short of a link, and the first node of an end that has one.
use Rattle.cyclic_conditions.proofs.Prelude.{◌≡◌, ℕ, ◌+◌, ◌<◌, inl, inr, List, [], ◌∷◌, length, get_or, true, false, Option, Some, None, IsTrue, nat_eq, nat_le, refl, sym, ap, subst, ◌∙◌, arith, slice_set, unwrap_or, cases_Bool, cases_eq, cases_lt, both_ways, false≢true, or_right, get_or-set_same, get_or-set_other, get_or_read, length-set, none-some, same_Some, has, is_subset_of, IsReached, IsRun, end_of, node_at, Part, part_at, alphabets_of, TripleDisjoint, Shape, is_end, link_at, acceptance_at, IsWellFormed, part_form, AllKeepPlaces, FallsShort, IsWholeEnd, possible_within, end_within, IsOwner, IsOnOne, IsShort, IsAcceptance, IsShortBy, IsShortAt, Before, IsFirstShort, short_at, AreShorts, FallsFirst, on_one, owner_end, find_has, has_first, find, Shorts, and_second_false, member_of_superset, is_subset_of_from_members, at_place, set_shared}

-- ---- sets

-- a member that is missing
pub missing : (M N : List ℕ) → is_subset_of M N ≡ false → (e : ℕ) × (has M e ≡ true) × (has N e ≡ false)
missing [] N h = absurd (false≢true (sym h))
missing (y ∷ ys) N h = elim (cases_Bool (has N y)) [
  | inl there ↦ let r = missing ys N (and_second_false (has N y) (is_subset_of ys N) h there) in (r.0, or_right (nat_eq y r.0) (has ys r.0) r.1, r.2)
  | inr lacks ↦ (y, has_first y ys, lacks)
]

-- ---- short sets

pub short_set : (shape : Shape) (l e : ℕ) (M : List ℕ) → is_subset_of M shape.vocabulary ≡ true → find (nat_le 0) M ≡ Some e → IsOwner shape l e → is_subset_of (link_at shape l).shared M ≡ false → IsShort shape l M
short_set shape l e M within first o lacks =
    let x = missing (link_at shape l).shared M lacks in
    record {
      link = o.within;
      shared = member_of_superset M shape.vocabulary within;
      meets = record { event = e; first = find_has (nat_le 0) M e first; second = o.event };
      missing = x.0;
      on = x.1;
      lacks = x.2;
    }

pub short_subset : (shape : Shape) (l : ℕ) (M : List ℕ) → IsShort shape l M → is_subset_of M shape.vocabulary ≡ true
short_subset shape l M s = is_subset_of_from_members M shape.vocabulary s.shared

pub short_owner : (shape : Shape) (l m e : ℕ) (M : List ℕ) → IsOnOne shape M → IsShort shape l M → find (nat_le 0) M ≡ Some e → IsOwner shape m e → l ≡ m
short_owner shape l m e M one s first o = one l m s.meets.event e s.link o.within s.meets.first (find_has (nat_le 0) M e first) s.meets.second o.event

pub short_lacks : (shape : Shape) (l : ℕ) (M : List ℕ) → IsShort shape l M → is_subset_of (link_at shape l).shared M ≡ true → ⊥
short_lacks shape l M s h = both_ways (has M s.missing) s.lacks (member_of_superset (link_at shape l).shared M h s.missing s.on)

-- ---- one acceptance after another

-- What is short by one acceptance is that of one link, which the part is an end of.
short_end : (shape : Shape) (l i n k : ℕ) → IsWellFormed shape → TripleDisjoint (alphabets_of shape.parts) → IsShortBy shape l i n k → IsTrue (is_end shape i l)
short_end shape l i n k w triple s =
    let possible = w.possible i n k s.short.meets.event s.at.part s.short.meets.first in
    (owner_end shape i l s.short.meets.event w triple s.at.part (possible_within (part_at shape.parts i) n s.short.meets.event (part_form shape.parts i s.at.part w.form) possible) (record { within = s.short.link; event = s.short.meets.second })).end

module _ (shape : Shape) (part node place : ℕ) where
  -- an acceptance that falls short of no such link
  passed : (l i : ℕ) (first : Option ℕ) → (i ≡ part → IsShortBy shape l part node place → ⊥) → IsFirstShort shape (Before part node place) l i first → IsFirstShort shape (Before part node (place + 1)) l i first
  passed l i (Some n) other first = first
  passed l i None other none = go
    where
      go : (n k : ℕ) → Before part node (place + 1) i n k → IsShortBy shape l i n k → ⊥
      go n k (inl before) s = none n k (inl before) s
      go n k (inr (same, inl before)) s = none n k (inr (same, inl before)) s
      go n k (inr (same, inr (here, below))) s = elim (cases_lt k place) [
        | inl old ↦ none n k (inr (same, inr (here, old))) s
        | inr now ↦ other same (let is : k ≡ place = omega arith in subst (λ x. IsShortBy shape l part node x) is (subst (λ x. IsShortBy shape l part x k) here (subst (λ x. IsShortBy shape l x n k) same s)))
      ]

  -- the first acceptance that falls short of the link
  found : (l : ℕ) (first : Option ℕ) → IsShortBy shape l part node place → IsFirstShort shape (Before part node place) l part first → IsFirstShort shape (Before part node (place + 1)) l part (Some (unwrap_or first node))
  found l None s none = ((place, s), λ m less x. none m x.0 (inr (refl, inl less)) x.1)
  found l (Some n) s first = first

  -- the acceptance falls short of this link alone
  marked : (ends : ℕ → ℕ) (nodes : List (Option ℕ)) (l : ℕ) → l < length nodes → ends l ≡ part → IsShortBy shape l part node place → ((m : ℕ) → IsShortBy shape m part node place → m ≡ l)
      → ((m : ℕ) → IsFirstShort shape (Before part node place) m (ends m) (short_at nodes m))
      → (m : ℕ) → IsFirstShort shape (Before part node (place + 1)) m (ends m) (short_at (slice_set nodes l (Some (unwrap_or (short_at nodes l) node))) m)
  marked ends nodes l within end s only old m = elim (cases_eq m l) [
    | inl same ↦
        subst (λ x. IsFirstShort shape (Before part node (place + 1)) x (ends x) (short_at (slice_set nodes l (Some (unwrap_or (short_at nodes l) node))) x)) (sym same)
        (subst (IsFirstShort shape (Before part node (place + 1)) l (ends l)) (sym (get_or-set_same nodes l (Some (unwrap_or (short_at nodes l) node)) None within))
        (subst (λ i. IsFirstShort shape (Before part node (place + 1)) l i (Some (unwrap_or (short_at nodes l) node))) (sym end)
        (found l (short_at nodes l) s (subst (λ i. IsFirstShort shape (Before part node place) l i (short_at nodes l)) end (old l)))))
    | inr other ↦
        subst (IsFirstShort shape (Before part node (place + 1)) m (ends m)) (sym (get_or-set_other nodes l m (Some (unwrap_or (short_at nodes l) node)) None other))
        (passed m (ends m) (short_at nodes m) (λ _ x. other (only m x)) (old m))
  ]

  -- it falls short of no link
  none_marked : (shorts : Shorts) → ((l : ℕ) → IsShortBy shape l part node place → ⊥) → AreShorts shape (Before part node place) shorts → AreShorts shape (Before part node (place + 1)) shorts
  none_marked shorts none a = record {
    form = a.form;
    apart = a.apart;
    left_count = a.left_count;
    right_count = a.right_count;
    left = λ l. passed l (link_at shape l).left (short_at shorts.left.items l) (λ _. none l) (a.left l);
    right = λ l. passed l (link_at shape l).right (short_at shorts.right.items l) (λ _. none l) (a.right l);
  }

  -- it falls short of a link of which the part is the left end, or the right one
  left_marked : (old new : Shorts) (l : ℕ) → (link_at shape l).left ≡ part → IsShortBy shape l part node place → ((m : ℕ) → IsShortBy shape m part node place → m ≡ l)
      → new.left.items ≡ slice_set old.left.items l (Some (unwrap_or (short_at old.left.items l) node)) → new.right.items ≡ old.right.items → AreShorts shape (Before part node place) old → AreShorts shape (Before part node (place + 1)) new
  left_marked old new l end s only left right a = record {
    form = a.form;
    apart = a.apart;
    left_count = ap length left ∙ length-set old.left.items l (Some (unwrap_or (short_at old.left.items l) node)) ∙ a.left_count;
    right_count = ap length right ∙ a.right_count;
    left = λ m. subst (λ (xs : List (Option ℕ)). IsFirstShort shape (Before part node (place + 1)) m (link_at shape m).left (short_at xs m)) (sym left)
        (marked (λ k. (link_at shape k).left) old.left.items l (subst (λ n. l < n) (sym a.left_count) s.short.link) end s only a.left m);
    right = λ m. subst (λ (xs : List (Option ℕ)). IsFirstShort shape (Before part node (place + 1)) m (link_at shape m).right (short_at xs m)) (sym right)
        (passed m (link_at shape m).right (short_at old.right.items m) (λ other x. let is : (link_at shape l).right ≡ part = subst (λ k. (link_at shape k).right ≡ part) (only m x) other in let order : (link_at shape l).left < (link_at shape l).right = (a.form.linked.links l s.short.link).ordered in omega arith) (a.right m));
  }

  right_marked : (old new : Shorts) (l : ℕ) → ((link_at shape l).left ≡ part → ⊥) → (link_at shape l).right ≡ part → IsShortBy shape l part node place → ((m : ℕ) → IsShortBy shape m part node place → m ≡ l)
      → new.right.items ≡ slice_set old.right.items l (Some (unwrap_or (short_at old.right.items l) node)) → new.left.items ≡ old.left.items → AreShorts shape (Before part node place) old → AreShorts shape (Before part node (place + 1)) new
  right_marked old new l order end s only right left a = record {
    form = a.form;
    apart = a.apart;
    left_count = ap length left ∙ a.left_count;
    right_count = ap length right ∙ length-set old.right.items l (Some (unwrap_or (short_at old.right.items l) node)) ∙ a.right_count;
    left = λ m. subst (λ (xs : List (Option ℕ)). IsFirstShort shape (Before part node (place + 1)) m (link_at shape m).left (short_at xs m)) (sym left)
        (passed m (link_at shape m).left (short_at old.left.items m) (λ other x. order (subst (λ k. (link_at shape k).left ≡ part) (only m x) other)) (a.left m));
    right = λ m. subst (λ (xs : List (Option ℕ)). IsFirstShort shape (Before part node (place + 1)) m (link_at shape m).right (short_at xs m)) (sym right)
        (marked (λ k. (link_at shape k).right) old.right.items l (subst (λ n. l < n) (sym a.right_count) s.short.link) end s only a.right m);
  }

other_end : (shape : Shape) (i l : ℕ) → IsTrue (is_end shape i l) → ((link_at shape l).left ≡ i → ⊥) → (link_at shape l).right ≡ i
other_end shape i l end ne = grind (arith)

-- ---- what is looked for in an acceptance

-- an acceptance that is read
pub accept_read : (shape : Shape) (i n k : ℕ) (accept : List (List ℕ)) (M : List ℕ) → accept ≡ (node_at (part_at shape.parts i).table n).accept → IsAcceptance shape i n k → M ≡ get_or accept k M → M ≡ acceptance_at (part_at shape.parts i) n k
accept_read shape i n k accept M is at read = get_or_read accept k M (subst (λ (Ms : List (List ℕ)). k < length Ms) (sym is) at.listed) read [] ∙ ap (λ (Ms : List (List ℕ)). get_or Ms k []) is

-- the link that was looked for in the set, which is this acceptance
module _ (shape : Shape) (part node place : ℕ) (set : List ℕ) (is : set ≡ acceptance_at (part_at shape.parts part) node place) (at : IsAcceptance shape part node place) (keep : AllKeepPlaces shape)
    (result : Option ℕ) (short : (l : ℕ) → result ≡ Some l → IsShort shape l set) (all : (l : ℕ) → IsOnOne shape set → IsShort shape l set → result ≡ Some l) (old : Shorts) (a : AreShorts shape (Before part node place) old) where
  looked : (l : ℕ) → IsShortBy shape l part node place → result ≡ Some l
  looked l s = all l (subst (IsOnOne shape) (sym is) (on_one shape part node place a.form a.apart keep at.part at.node)) (subst (IsShort shape l) (sym is) s.short)

  short_by : (l : ℕ) → result ≡ Some l → IsShortBy shape l part node place
  short_by l h = record { at = at; short = subst (IsShort shape l) is (short l h) }

  only : (l : ℕ) → result ≡ Some l → (m : ℕ) → IsShortBy shape m part node place → m ≡ l
  only l h m s = same_Some m l (sym (looked m s) ∙ h)

  pub look_none : result ≡ None → AreShorts shape (Before part node (place + 1)) old
  look_none h = none_marked shape part node place old (λ l s. none-some l (sym h ∙ looked l s)) a

  pub look_left : (new : Shorts) (l : ℕ) → result ≡ Some l → (link_at shape l).left ≡ part → new.left.items ≡ slice_set old.left.items l (Some (unwrap_or (short_at old.left.items l) node)) → new.right.items ≡ old.right.items → AreShorts shape (Before part node (place + 1)) new
  look_left new l h end left right = left_marked shape part node place old new l end (short_by l h) (only l h) left right a

  pub look_right : (new : Shorts) (l : ℕ) → result ≡ Some l → ((link_at shape l).left ≡ part → ⊥) → new.right.items ≡ slice_set old.right.items l (Some (unwrap_or (short_at old.right.items l) node)) → new.left.items ≡ old.left.items → AreShorts shape (Before part node (place + 1)) new
  look_right new l h end right left = right_marked shape part node place old new l end (other_end shape part l (short_end shape l part node place a.form a.apart (short_by l h)) end) (short_by l h) (only l h) right left a

-- ---- ends that fall short

short_falls : (shape : Shape) (l i n : ℕ) (s : List ℕ) → IsShortAt shape l i n → IsRun (part_at shape.parts i).table s → end_of (part_at shape.parts i).table 0 s ≡ n → FallsShort shape l i s
short_falls shape l i n s x run leads =
    subst (λ m. IsShortAt shape l i m → FallsShort shape l i s) leads
    (λ y. record {
      acceptance = acceptance_at (part_at shape.parts i) (end_of (part_at shape.parts i).table 0 s) y.0;
      accepts = at_place shape i s y.0 (record { runs = record { part = y.1.at.part; follows = run }; listed = y.1.at.listed; shared = y.1.short.shared });
      meets = y.1.short.meets;
      missing = y.1.short.missing;
      on = y.1.short.on;
      lacks = y.1.short.lacks;
    })
    x

falls_short_at : (shape : Shape) (l i : ℕ) (s : List ℕ) → IsWellFormed shape → l < length shape.links → FallsShort shape l i s → IsShortAt shape l i (end_of (part_at shape.parts i).table 0 s)
falls_short_at shape l i s w h f = (
  f.accepts.place,
  record {
    at = record { part = f.accepts.at.runs.part; node = end_within (part_at shape.parts i) s (part_form shape.parts i f.accepts.at.runs.part w.form) f.accepts.at.runs.follows; listed = f.accepts.at.listed };
    short = subst (IsShort shape l) (sym f.accepts.is) (record { link = h; shared = set_shared shape i s f.acceptance f.accepts; meets = f.meets; missing = f.missing; on = f.on; lacks = f.lacks });
  },
)

-- the first node that falls short is reached
short_reached : (shape : Shape) (l i n : ℕ) → IsWellFormed shape → IsShortAt shape l i n → IsReached (part_at shape.parts i).table n
short_reached shape l i n w x = w.reached i n x.1.at.part x.1.at.node

-- an end of which no node falls short is whole
whole : (shape : Shape) (l i : ℕ) → IsWellFormed shape → l < length shape.links → IsFirstShort shape (λ i n k. i < length shape.parts) l i None → IsWholeEnd shape l i
whole shape l i w h none s f = let x = falls_short_at shape l i s w h f in none (end_of (part_at shape.parts i).table 0 s) x.0 x.1.at.part x.1

-- a mark that is read
mark_read : (shape : Shape) (l i : ℕ) (nodes : List (Option ℕ)) (first : Option ℕ) → l < length shape.links → length nodes ≡ length shape.links → IsFirstShort shape (λ i n k. i < length shape.parts) l i (short_at nodes l)
    → first ≡ get_or nodes l first → IsFirstShort shape (λ i n k. i < length shape.parts) l i first
mark_read shape l i nodes first h count x read = subst (IsFirstShort shape (λ i n k. i < length shape.parts) l i) (sym (get_or_read nodes l first (subst (λ n. l < n) (sym count) h) read None)) x

pub end_whole : (shape : Shape) (l i : ℕ) (nodes : List (Option ℕ)) (first : Option ℕ) → IsWellFormed shape → l < length shape.links → length nodes ≡ length shape.links → IsFirstShort shape (λ i n k. i < length shape.parts) l i (short_at nodes l)
    → first ≡ get_or nodes l first → first ≡ None → IsWholeEnd shape l i
end_whole shape l i nodes first w h count x read is = whole shape l i w h (subst (IsFirstShort shape (λ i n k. i < length shape.parts) l i) is (mark_read shape l i nodes first h count x read))

-- a run to the first node that does
falls_first : (shape : Shape) (l i n : ℕ) (s : List ℕ) → IsWellFormed shape → l < length shape.links → IsFirstShort shape (λ i n k. i < length shape.parts) l i (Some n) → IsRun (part_at shape.parts i).table s → end_of (part_at shape.parts i).table 0 s ≡ n → FallsFirst shape l i s
falls_first shape l i n s w h x run leads = record {
  falls = short_falls shape l i n s x.0 run leads;
  first = λ t f. elim (cases_lt (end_of (part_at shape.parts i).table 0 t) n) [
    | inl less ↦ absurd (x.1 (end_of (part_at shape.parts i).table 0 t) less (falls_short_at shape l i t w h f))
    | inr most ↦ let at : end_of (part_at shape.parts i).table 0 s ≡ n = leads in omega arith
  ];
}

-- the same, of a mark and a part that were read
module _ (shape : Shape) (l i n j : ℕ) (nodes : List (Option ℕ)) (first : Option ℕ) (p : Part) (w : IsWellFormed shape) (h : l < length shape.links) (count : length nodes ≡ length shape.links)
    (x : IsFirstShort shape (λ i n k. i < length shape.parts) l i (short_at nodes l)) (mark : first ≡ get_or nodes l first) (is : first ≡ Some n) (same : j ≡ i) (read : p ≡ part_at shape.parts j) where
  marked_first : IsFirstShort shape (λ i n k. i < length shape.parts) l i (Some n)
  marked_first = subst (IsFirstShort shape (λ i n k. i < length shape.parts) l i) is (mark_read shape l i nodes first h count x mark)

  pub end_reached : IsReached p.table n
  end_reached = subst (λ (q : Part). IsReached q.table n) (sym (read ∙ ap (part_at shape.parts) same)) (short_reached shape l i n w marked_first.0)

  pub end_first : (s : List ℕ) → IsRun p.table s → end_of p.table 0 s ≡ n → FallsFirst shape l i s
  end_first s run leads =
      let at : p ≡ part_at shape.parts i = read ∙ ap (part_at shape.parts) same in
      falls_first shape l i n s w h marked_first (subst (λ (q : Part). IsRun q.table s) at run) (subst (λ (q : Part). end_of q.table 0 s ≡ n) at leads)
