-- What is said of an outline looks at members of sets alone, so it is the same of two outlines with the same alphabets, links and vocabulary.
use Rattle.design_rules.proofs.Prelude.{◌≡◌, ℕ, ◌+◌, ◌%◌, ◌<◌, inl, inr, List, [], ◌∷◌, length, map, Option, Some, None, Bool, not, ◌&&◌, ◌||◌, cond, nat_eq, nat_lt, refl, sym, ap, subst, ◌∙◌, list_any, has, same_tests, any_of, any_member, part_at, RoleSets, UseSets, role_at, use_at, Shape, Joins, is_end, link_at, IsOn, same_no_circle, SameOutline, PartShared, HasRoles, IsClientOn, HasClient, has_acknowledgements, is_open, Serves, LacksRoles, LacksClient, HaveClients, count_below, count_in, is_odd, place_of, IsNext, links_of, place_after, SamePlace, Clash, ends_of, JoinsKinds, HasUses, HaveKinds, is_held, last_from, IsHolder, holds, HasKind, LacksKind, HasNoCircle}
use Rattle.design_rules.proofs.Counts.{count_agree}

pub turned_outline : (x y : Shape) → SameOutline x y → SameOutline y x
turned_outline x y o = record {
  parts = sym o.parts;
  alphabets = λ i e. sym (o.alphabets i e);
  links = sym o.links;
  left = λ l. sym (o.left l);
  right = λ l. sym (o.right l);
  shared = λ l e. sym (o.shared l e);
  vocabulary = λ e. sym (o.vocabulary e);
}

-- ---- counts and tests

count_in_same : (M N : List ℕ) → ((e : ℕ) → has M e ≡ has N e) → (s : List ℕ) → count_in M s ≡ count_in N s
count_in_same M N same [] = refl
count_in_same M N same (e ∷ s) = ap (λ b. cond b (count_in M s + 1) (count_in M s)) (same e) ∙ ap (λ k. cond (has N e) (k + 1) k) (count_in_same M N same s)

last_same : (M N : List ℕ) → ((e : ℕ) → has M e ≡ has N e) → (before : Option ℕ) (s : List ℕ) → last_from before M s ≡ last_from before N s
last_same M N same before [] = refl
last_same M N same before (e ∷ s) = ap (λ b. last_from (cond b (Some e) before) M s) (same e) ∙ last_same M N same (cond (has N e) (Some e) before) s

any_same : (test : ℕ → Bool) (M N : List ℕ) → ((e : ℕ) → has M e ≡ has N e) → list_any test M ≡ list_any test N
any_same test M N same =
    same_tests (list_any test M) (list_any test N)
    (λ h. let e = any_member test M h in any_of test N e.0 (sym (same e.0) ∙ e.1) e.2)
    (λ h. let e = any_member test N h in any_of test M e.0 (same e.0 ∙ e.1) e.2)

module _ (x y : Shape) (o : SameOutline x y) where
  -- ---- links and places

  pub on_links : (l : ℕ) → l < length x.links → l < length y.links
  on_links l h = subst (λ n. l < n) o.links h

  pub on_parts : (i : ℕ) → i < length x.parts → i < length y.parts
  on_parts i h = subst (λ n. i < n) o.parts h

  pub same_end : (i l : ℕ) → is_end x i l ≡ is_end y i l
  same_end i l = ap (λ n. nat_eq n i || nat_eq (link_at x l).right i) (o.left l) ∙ ap (λ n. nat_eq (link_at y l).left i || nat_eq n i) (o.right l)

  pub same_ends : (l : ℕ) → ends_of x l ≡ ends_of y l
  same_ends l = λ i. (o.left l i, o.right l i)

  pub all_ends : (links : List ℕ) → map (ends_of x) links ≡ map (ends_of y) links
  all_ends [] = refl
  all_ends (l ∷ links) = let first = same_ends l in let rest = all_ends links in λ i. first i ∷ rest i

  pub is_on : (i l e : ℕ) → IsOn x i l e → IsOn y i l e
  is_on i l e h = record { within = on_links l h.within; end = sym (same_end i l) ∙ h.end; event = sym (o.shared l e) ∙ h.event }

  -- what holds of the ends of a link
  pub of_ends : (l : ℕ) (F : ℕ → ℕ → Type 0) → F (link_at x l).left (link_at x l).right → F (link_at y l).left (link_at y l).right
  of_ends l F h = subst (λ n. F (link_at y l).left n) (o.right l) (subst (λ n. F n (link_at x l).right) (o.left l) h)

  pub joins : (i j l : ℕ) → Joins x i j l → Joins y i j l
  joins i j l h = record {
    within = on_links l h.within;
    ends = elim h.ends [ inl e ↦ inl (sym (o.left l) ∙ e.0, sym (o.right l) ∙ e.1) | inr e ↦ inr (sym (o.left l) ∙ e.0, sym (o.right l) ∙ e.1) ];
  }

  same_count : (i : ℕ) → links_of x i ≡ links_of y i
  same_count i = count_agree (λ l. is_end x i l) (λ l. is_end y i l) (length x.links) (λ l _. same_end i l) ∙ ap (count_below (λ l. is_end y i l)) o.links

  pub same_place_after : (s : List ℕ) → place_after x s ≡ place_after y s
  same_place_after s = count_in_same x.vocabulary y.vocabulary o.vocabulary s

  lap_place : (i : ℕ) (s : List ℕ) → place_after x s % links_of x i ≡ place_after y s % links_of y i
  lap_place i s = ap (λ n. n % links_of x i) (same_place_after s) ∙ ap (λ k. place_after y s % k) (same_count i)

  pub same_place : (i : ℕ) (s t : List ℕ) → SamePlace x i s t → SamePlace y i s t
  same_place i s t h = sym (lap_place i s) ∙ h ∙ lap_place i t

  pub is_next : (number : ℕ → ℕ) (i : ℕ) (s : List ℕ) (l : ℕ) → IsNext x number i s l → IsNext y number i s l
  is_next number i s l h = sym same_order ∙ h ∙ lap_place i s
    where
      same_order : place_of x number i l ≡ place_of y number i l
      same_order =
          count_agree (λ m. is_end x i m && nat_lt (number m) (number l)) (λ m. is_end y i m && nat_lt (number m) (number l)) (length x.links) (λ m _. ap (λ b. b && nat_lt (number m) (number l)) (same_end i m))
          ∙ ap (count_below (λ m. is_end y i m && nat_lt (number m) (number l))) o.links

  pub clash : (i l : ℕ) (s : List ℕ) (m : ℕ) (t : List ℕ) → Clash x i l s m t → Clash y i l s m t
  clash i l s m t h = elim h [
    | inl apart ↦ inl (apart.0, same_place i s t apart.1)
    | inr one ↦ inr (one.0, λ same. one.1 (lap_place i s ∙ same ∙ sym (lap_place i t)))
  ]

  -- ---- sets of a component

  part_shared : (i : ℕ) (sets : List (List ℕ)) → PartShared x i sets → PartShared y i sets
  part_shared i sets h e =
      h e
      ∙ ap (λ b. cond (b && has x.vocabulary e) 1 0) (o.alphabets i e)
      ∙ ap (λ b. cond (has (part_at y.parts i).alphabet e && b) 1 0) (o.vocabulary e)

  -- ---- clients and servers

  module _ (roles : List RoleSets) where
    pub has_roles : (i : ℕ) → HasRoles x roles i → HasRoles y roles i
    has_roles i h = part_shared i ((role_at roles i).creq ∷ (role_at roles i).cack ∷ (role_at roles i).sreq ∷ (role_at roles i).sack ∷ []) h

    pub client_on : (l i j : ℕ) → IsClientOn x roles l i j → IsClientOn y roles l i j
    client_on l i j h = record {
      requests = λ e on. h.requests e (o.shared l e ∙ on);
      acknowledgements = λ e on. h.acknowledgements e (o.shared l e ∙ on);
      no_service = λ e on. h.no_service e (o.shared l e ∙ on);
      no_asking = λ e on. h.no_asking e (o.shared l e ∙ on);
    }

    pub has_client : (l : ℕ) → HasClient x roles l → HasClient y roles l
    has_client l h = elim h [
      | inl left ↦ inl (client_on l (link_at y l).left (link_at y l).right (of_ends l (λ i j. IsClientOn x roles l i j) left))
      | inr right ↦ inr (client_on l (link_at y l).right (link_at y l).left (of_ends l (λ i j. IsClientOn x roles l j i) right))
    ]

    same_acknowledgements : (l : ℕ) → has_acknowledgements x roles l ≡ has_acknowledgements y roles l
    same_acknowledgements l =
        ap (λ i. list_any (λ e. has (role_at roles i).cack e || has (role_at roles (link_at x l).right).cack e) (link_at x l).shared) (o.left l)
        ∙ ap (λ j. list_any (λ e. has (role_at roles (link_at y l).left).cack e || has (role_at roles j).cack e) (link_at x l).shared) (o.right l)
        ∙ any_same (λ e. has (role_at roles (link_at y l).left).cack e || has (role_at roles (link_at y l).right).cack e) (link_at x l).shared (link_at y l).shared (o.shared l)

    pub same_open : (l : ℕ) (s : List ℕ) → is_open x roles l s ≡ is_open y roles l s
    same_open l s =
        ap (λ b. b && is_odd (count_in (link_at x l).shared s)) (same_acknowledgements l)
        ∙ ap (λ n. has_acknowledgements y roles l && is_odd n) (count_in_same (link_at x l).shared (link_at y l).shared (o.shared l) s)

    pub serves : (i j : ℕ) → Serves x roles i j → Serves y roles i j
    serves i j h = record { link = h.link; joins = joins i j h.link h.joins; client = client_on h.link i j h.client }

  -- ---- users and resources

  pub same_held : (s : List ℕ) → is_held x s ≡ is_held y s
  same_held s = ap is_odd (count_in_same x.vocabulary y.vocabulary o.vocabulary s)

  pub same_holds : (l : ℕ) (s : List ℕ) → holds x l s ≡ holds y l s
  same_holds l s = ap is_odd (count_in_same (link_at x l).shared (link_at y l).shared (o.shared l) s)

  pub holder : (i : ℕ) (s : List ℕ) (l : ℕ) → IsHolder x i s l → IsHolder y i s l
  holder i s l h = record {
    within = on_links l h.within;
    end = sym (same_end i l) ∙ h.end;
    event = h.event;
    last = sym (last_same x.vocabulary y.vocabulary o.vocabulary None s) ∙ h.last;
    on = sym (o.shared l h.event) ∙ h.on;
  }

  module _ (uses : List UseSets) where
    joins_kinds : (l : ℕ) → JoinsKinds x uses l → JoinsKinds y uses l
    joins_kinds l h = of_ends l (λ i j. (use_at uses i).resource ≡ not (use_at uses j).resource) h

    has_uses : (i : ℕ) → HasUses x uses i → HasUses y uses i
    has_uses i h resource = part_shared i ((use_at uses i).acquire ∷ (use_at uses i).release ∷ []) (h resource)

-- what is asked of each component or link, with the bounds of the other outline
module _ (x y : Shape) (o : SameOutline x y) where
  has_kind : (uses : List UseSets) (i : ℕ) → HasKind x uses i → HasKind y uses i
  has_kind uses i h = record {
    linked = λ l below left. joins_kinds x y o uses l (h.linked l (on_links y x (turned_outline x y o) l below) (o.left l ∙ left));
    parted = has_uses x y o uses i h.parted;
  }

module _ (x y : Shape) (o : SameOutline x y) where
  pub have_clients : (roles : List RoleSets) → HaveClients x roles → HaveClients y roles
  have_clients roles h = record {
    parted = λ i below. has_roles x y o roles i (h.parted i (on_parts y x (turned_outline x y o) i below));
    linked = λ l below. has_client x y o roles l (h.linked l (on_links y x (turned_outline x y o) l below));
  }

  pub lacks_roles : (roles : List RoleSets) (i : ℕ) → LacksRoles x roles i → LacksRoles y roles i
  lacks_roles roles i h = record {
    within = on_parts x y o i h.within;
    broken = λ kept. h.broken (has_roles y x (turned_outline x y o) roles i kept);
    first = λ j less. has_roles x y o roles j (h.first j less);
  }

  pub lacks_client : (roles : List RoleSets) (i : ℕ) → LacksClient x roles i → LacksClient y roles i
  lacks_client roles i h = record {
    parted = λ j below. has_roles x y o roles j (h.parted j (on_parts y x (turned_outline x y o) j below));
    link = h.link;
    within = on_links x y o h.link h.within;
    broken = λ kept. h.broken (has_client y x (turned_outline x y o) roles h.link kept);
    first = λ m less. has_client x y o roles m (h.first m less);
    left = sym (o.left h.link) ∙ h.left;
  }

  pub no_circle : (roles : List RoleSets) → HasNoCircle (Serves x roles) → HasNoCircle (Serves y roles)
  no_circle roles = same_no_circle (Serves x roles) (Serves y roles) (serves y x (turned_outline x y o) roles)

  pub have_kinds : (uses : List UseSets) → HaveKinds x uses → HaveKinds y uses
  have_kinds uses h = record {
    linked = λ l below. joins_kinds x y o uses l (h.linked l (on_links y x (turned_outline x y o) l below));
    parted = λ i below. has_uses x y o uses i (h.parted i (on_parts y x (turned_outline x y o) i below));
  }

  pub lacks_kind : (uses : List UseSets) (i : ℕ) → LacksKind x uses i → LacksKind y uses i
  lacks_kind uses i h = record {
    within = on_parts x y o i h.within;
    broken = λ kept. h.broken (has_kind y x (turned_outline x y o) uses i kept);
    first = λ j less. has_kind x y o uses j (h.first j less);
  }
