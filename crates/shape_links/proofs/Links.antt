-- The link of an event, the links of a part, and what is read of a shape.
use Rattle.shape_links.proofs.Prelude.{◌≡◌, ℕ, zero, suc, ◌+◌, ◌<◌, ◌≤◌, inl, inr, List, [], ◌∷◌, ◌++◌, length, get_or, cond, true, false, Some, IsTrue, nat_eq, refl, sym, ap, subst, ◌∙◌, arith, eq-eqb, slice_get, slice_index, cases_Bool, cases_eq, cond-true, cond-false, or_cases, or_left, or_right, eqb-true, both_ways, false≢true, list_any-append, slice_get_within, get_or_from_slice_get, get_or_read, get_or_past, has, Part, part_at, alphabets_of, sharers, TripleDisjoint, node_at, is_possible, Link, Shape, Joins, is_end, link_at, acceptance_at, IsWellFormed, IsOn, part_form, possible_within, first_end, sharer, some_link, IsOwner, IsOnOne, AreOwners, ends_below, ends_of, at_three, AllKeepPlaces, ReachesLink, one_link, one_link_at, has_push_cases}

-- a part that has the event is an end of the link that has it
pub owner_end : (shape : Shape) (i l e : ℕ) → IsWellFormed shape → TripleDisjoint (alphabets_of shape.parts) → i < length shape.parts → IsTrue (has (part_at shape.parts i).alphabet e) → IsOwner shape l e → IsOn shape i l e
owner_end shape i l e w triple h x o = record {
  within = o.within;
  event = o.event;
  end = elim (cases_eq (link_at shape l).left i) [
    | inl a ↦ or_left (nat_eq (link_at shape l).left i) (nat_eq (link_at shape l).right i) (eq-eqb (link_at shape l).left i a)
    | inr a ↦ elim (cases_eq (link_at shape l).right i) [
      | inl b ↦ or_right (nat_eq (link_at shape l).left i) (nat_eq (link_at shape l).right i) (eq-eqb (link_at shape l).right i b)
      | inr b ↦
          let t = w.linked.links l o.within in
          let both = (t.shared e).0 o.event in
          let order : (link_at shape l).left < (link_at shape l).right = t.ordered in
          let within : (link_at shape l).right < length shape.parts = t.within in
          let two : sharers (alphabets_of shape.parts) e ≤ 2 = triple e in
          absurd (let three : 3 ≤ sharers (alphabets_of shape.parts) e = at_three shape.parts e (link_at shape l).left (link_at shape l).right i (omega arith) within h (λ same. omega arith) a b both.0 both.1 x in omega arith)
    ]
  ];
}

-- an event has one link
pub one_owner : (shape : Shape) (l m e : ℕ) → IsWellFormed shape → TripleDisjoint (alphabets_of shape.parts) → IsOwner shape l e → IsOwner shape m e → l ≡ m
one_owner shape l m e w triple x y =
    let t = w.linked.links l x.within in
    let mine = ((t.shared e).0 x.event).0 in
    let order : (link_at shape l).left < (link_at shape l).right = t.ordered in
    let within : (link_at shape l).right < length shape.parts = t.within in
    let h : (link_at shape l).left < length shape.parts = omega arith in
    one_link shape (link_at shape l).left l m e w triple h (owner_end shape (link_at shape l).left l e w triple h mine x) (owner_end shape (link_at shape l).left m e w triple h mine y)

-- an event of the vocabulary has a link
pub vocabulary_owner : (shape : Shape) (e : ℕ) → IsWellFormed shape → IsTrue (has shape.vocabulary e) → (l : ℕ) × IsOwner shape l e
vocabulary_owner shape e w v =
    let two = (w.linked.vocabulary e).0 v in
    let s = sharer shape.parts e (omega arith) in
    let l = some_link shape s.place e w s.within s.owned v in
    (l.0, record { within = l.1.within; event = l.1.event })

-- all events of an acceptance lie on one link
pub on_one : (shape : Shape) (i n k : ℕ) → IsWellFormed shape → TripleDisjoint (alphabets_of shape.parts) → AllKeepPlaces shape → i < length shape.parts → n < length (part_at shape.parts i).table → IsOnOne shape (acceptance_at (part_at shape.parts i) n k)
on_one shape i n k w triple keep h below l m e f hl hm xe xf le mf =
    let r = w.reached i n h below in
    one_link_at shape i l m r.run r.run e f (keep i h) (reach l e hl xe le) (reach m f hm xf mf) refl
  where
    reach : (p x : ℕ) → p < length shape.links → IsTrue (has (acceptance_at (part_at shape.parts i) n k) x) → IsTrue (has (link_at shape p).shared x) → ReachesLink shape i p (w.reached i n h below).run x
    reach p x hp member on =
        let r = w.reached i n h below in
        let possible = w.possible i n k x h member in
        record {
          possible = record { runs = record { part = h; follows = r.follows }; next = subst (λ j. IsTrue (is_possible (node_at (part_at shape.parts i).table j).next x)) (sym r.leads) possible };
          on = owner_end shape i p x w triple h (possible_within (part_at shape.parts i) n x (part_form shape.parts i h w.form) possible) (record { within = hp; event = on });
        }

-- ---- for each event its link

-- the owners among the first n links
pub record AreOwnersBelow (shape : Shape) (n : ℕ) (owners : List ℕ) : Type 0 where
  pub sound : (e l : ℕ) → slice_index owners e ≡ suc l → (l < n) × IsOwner shape l e
  pub complete : (e l : ℕ) → l < n → IsOwner shape l e → slice_index owners e ≡ suc l

pub owners_more : (shape : Shape) (n : ℕ) (owners more : List ℕ) → IsWellFormed shape → TripleDisjoint (alphabets_of shape.parts) → n < length shape.links → AreOwnersBelow shape n owners → ((e : ℕ) → slice_index more e ≡ cond (has (link_at shape n).shared e) (n + 1) (slice_index owners e)) → AreOwnersBelow shape (n + 1) more
owners_more shape n owners more w triple h a is = record {
  sound = λ e l k. elim (cases_Bool (has (link_at shape n).shared e)) [
    | inl on ↦
        let at : n + 1 ≡ suc l = sym (cond-true (has (link_at shape n).shared e) (n + 1) (slice_index owners e) on) ∙ sym (is e) ∙ k in
        let same : n ≡ l = omega arith in
        subst (λ m. (m < n + 1) × IsOwner shape m e) same (omega arith, record { within = h; event = on })
    | inr off ↦
        let old = a.sound e l (sym (cond-false (has (link_at shape n).shared e) (n + 1) (slice_index owners e) off) ∙ sym (is e) ∙ k) in
        let less : l < n = old.0 in
        (omega arith, old.1)
  ];
  complete = λ e l k o. elim (cases_Bool (has (link_at shape n).shared e)) [
    | inl on ↦
        let same : n ≡ l = one_owner shape n l e w triple (record { within = h; event = on }) o in
        is e ∙ cond-true (has (link_at shape n).shared e) (n + 1) (slice_index owners e) on ∙ (let next : n + 1 ≡ suc l = omega arith in next)
    | inr off ↦
        let other = λ (same : l ≡ n). both_ways (has (link_at shape n).shared e) off (subst (λ m. IsTrue (has (link_at shape m).shared e)) same o.event) in
        let less : l < n = elim (cases_eq l n) [ inl same ↦ absurd (other same) | inr ne ↦ omega arith ] in
        is e ∙ cond-false (has (link_at shape n).shared e) (n + 1) (slice_index owners e) off ∙ a.complete e l less o
  ];
}

pub all_owners : (shape : Shape) (n : ℕ) (owners : List ℕ) → length shape.links ≤ n → AreOwnersBelow shape n owners → AreOwners shape owners
all_owners shape n owners h a = record {
  sound = λ e l k. (a.sound e l k).1;
  complete = λ e l o. let within : l < length shape.links = o.within in a.complete e l (omega arith) o;
}

-- ---- what is read

-- what a loop over the links reads
pub link_read : (shape : Shape) (links : List Link) (k : ℕ) (link : Link) → links ≡ shape.links → k < length links → link ≡ get_or links k link → link_at shape k ≡ link
link_read shape links k link is h at = sym (get_or_read shape.links k link (subst (λ ls. k < length ls) is h) (at ∙ ap (λ ls. get_or ls k link) is) (record { left = 0; right = 0; shared = [] }))

pub part_read : (shape : Shape) (parts : List Part) (i : ℕ) (p : Part) → parts ≡ shape.parts → i < length shape.parts → p ≡ get_or parts i p → p ≡ part_at shape.parts i
part_read shape parts i p is h at = get_or_read shape.parts i p h (at ∙ ap (λ (ps : List Part). get_or ps i p) is) (record { alphabet = []; table = [] })

-- ---- the links of a part

pub ends_sound : (shape : Shape) (i n m : ℕ) → has (ends_below shape i n) m ≡ true → (m < n) × IsTrue (is_end shape i m)
ends_sound shape i zero m h = absurd (false≢true h)
ends_sound shape i (suc n) m h =
    elim (cases_Bool (is_end shape i n)) [
      | inl end ↦ elim (has_push_cases (ends_below shape i n) n m (subst (λ xs. has xs m ≡ true) (cond-true (is_end shape i n) (ends_below shape i n ++ n ∷ []) (ends_below shape i n) end) h)) [
        | inl old ↦ let r = ends_sound shape i n m old in let less : m < n = r.0 in (omega arith, r.1)
        | inr new ↦ subst (λ k. (k < suc n) × IsTrue (is_end shape i k)) new (omega arith, end)
      ]
      | inr off ↦ let r = ends_sound shape i n m (subst (λ xs. has xs m ≡ true) (cond-false (is_end shape i n) (ends_below shape i n ++ n ∷ []) (ends_below shape i n) off) h) in let less : m < n = r.0 in (omega arith, r.1)
    ]

pub ends_complete : (shape : Shape) (i n m : ℕ) → m < n → is_end shape i m ≡ true → has (ends_below shape i n) m ≡ true
ends_complete shape i zero m less end = absurd (omega arith)
ends_complete shape i (suc n) m less end =
    elim (cases_eq m n) [
      | inl same ↦
          let here : is_end shape i n ≡ true = subst (λ k. is_end shape i k ≡ true) same end in
          subst (λ xs. has xs m ≡ true) (sym (cond-true (is_end shape i n) (ends_below shape i n ++ n ∷ []) (ends_below shape i n) here))
          (list_any-append (λ z. nat_eq z m) (ends_below shape i n) (n ∷ []) ∙ or_right (has (ends_below shape i n) m) (has (n ∷ []) m) (or_left (nat_eq n m) false (eq-eqb n m (sym same))))
      | inr other ↦
          let old = ends_complete shape i n m (omega arith) end in
          elim (cases_Bool (is_end shape i n)) [
            | inl h ↦ subst (λ xs. has xs m ≡ true) (sym (cond-true (is_end shape i n) (ends_below shape i n ++ n ∷ []) (ends_below shape i n) h)) (list_any-append (λ z. nat_eq z m) (ends_below shape i n) (n ∷ []) ∙ or_left (has (ends_below shape i n) m) (has (n ∷ []) m) old)
            | inr h ↦ subst (λ xs. has xs m ≡ true) (sym (cond-false (is_end shape i n) (ends_below shape i n ++ n ∷ []) (ends_below shape i n) h)) old
          ]
    ]

-- a number of a list stands at a place
pub place_in : (xs : List ℕ) (x : ℕ) → has xs x ≡ true → (k : ℕ) × (slice_get xs k ≡ Some x)
place_in [] x h = absurd (false≢true h)
place_in (y ∷ ys) x h = elim (or_cases (nat_eq y x) (has ys x) h) [
  | inl same ↦ (0, ap Some (eqb-true y x same))
  | inr later ↦ let r = place_in ys x later in (suc r.0, r.1)
]

pub has_place : (xs : List ℕ) (k x : ℕ) → slice_get xs k ≡ Some x → has xs x ≡ true
has_place [] k x h = absurd (let below : k < length {A = ℕ} [] = slice_get_within [] k x h in omega arith)
has_place (y ∷ ys) zero x h = let same : y ≡ x = cc in or_left (nat_eq y x) (has ys x) (eq-eqb y x same)
has_place (y ∷ ys) (suc k) x h = or_right (nat_eq y x) (has ys x) (has_place ys k x h)

pub some_at : (xs : List ℕ) (k : ℕ) → k < length xs → (x : ℕ) × (slice_get xs k ≡ Some x)
some_at [] k h = absurd (omega arith)
some_at (x ∷ xs) zero h = (x, refl)
some_at (x ∷ xs) (suc k) h = some_at xs k (omega arith)

-- past the end stands a link without events
pub link_past : (shape : Shape) (l : ℕ) (links : List Link) → links ≡ shape.links → length links ≤ l → link_at shape l ≡ record { left = 0; right = 0; shared = [] }
link_past shape l links is past = get_or_past shape.links l (record { left = 0; right = 0; shared = [] }) (subst (λ (ks : List Link). length ks ≤ l) is past)

-- a link that stands among those of a part
pub end_here : (shape : Shape) (i : ℕ) (links : List ℕ) (k : ℕ) → links ≡ ends_of shape i → k < length links → (get_or links k 0 < length shape.links) × IsTrue (is_end shape i (get_or links k 0))
end_here shape i links k is h =
    let x = some_at links k h in
    let at : get_or links k 0 ≡ x.0 = get_or_from_slice_get links k x.0 0 x.1 in
    let member = has_place links k x.0 x.1 in
    subst (λ l. (l < length shape.links) × IsTrue (is_end shape i l)) (sym at) (ends_sound shape i (length shape.links) x.0 (subst (λ (xs : List ℕ). has xs x.0 ≡ true) is member))

-- the place of a link among those of a part
pub end_place : (shape : Shape) (i j l : ℕ) → Joins shape i j l → (k : ℕ) × (k < length (ends_of shape i)) × (slice_get (ends_of shape i) k ≡ Some l)
end_place shape i j l joins =
    let x = place_in (ends_of shape i) l (ends_complete shape i (length shape.links) l joins.within (first_end shape i j l joins)) in
    (x.0, slice_get_within (ends_of shape i) x.0 l x.1, x.1)

pub same_end : (shape : Shape) (i : ℕ) (links : List ℕ) (k l : ℕ) → links ≡ ends_of shape i → slice_get (ends_of shape i) k ≡ Some l → get_or links k 0 ≡ l
same_end shape i links k l is at = ap (λ (xs : List ℕ). get_or xs k 0) is ∙ get_or_from_slice_get (ends_of shape i) k l 0 at
