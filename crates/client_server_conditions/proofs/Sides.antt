-- The ends of links.
use Rattle.client_server_conditions.proofs.Prelude.{◌≡◌, ℕ, ◌+◌, ◌<◌, List, [], ◌∷◌, ◌++◌, Bool, true, false, not, nat_eq, IsTrue, length, get_or, inl, inr, refl, sym, ap, subst, ◌∙◌, arith, cases_lt, or_cases, both_ways, eqb-true, false≢true, length-append, get_or_append_left, get_or_read, get_or-append_seam, beq, Link, Shape, is_end, link_at, RoleSets, role_at, HasClient, IsClientOn, Network, Asks, Grants, AreSides, IsClient, IsSide}
use Rattle.client_server_conditions.proofs.Reading.{link_read}

-- the side of one link more
pub sides_more : (shape : Shape) (roles : List RoleSets) (n : ℕ) (sides more : List Bool) (side : Bool) → AreSides shape roles n sides → IsSide shape roles n side → more ≡ sides ++ side ∷ [] → AreSides shape roles (n + 1) more
sides_more shape roles n sides more side a new is = record {
  count = ap length is ∙ length-append sides (side ∷ []) ∙ ap (λ k. k + 1) a.count;
  each = λ l h. elim (cases_lt l n) [
    | inl old ↦ subst (IsSide shape roles l) (sym (ap (λ zs. get_or zs l false) is ∙ get_or_append_left sides (side ∷ []) false l (omega (arith, a.count)))) (a.each l old)
    | inr now ↦
        let same : n ≡ l = omega arith in
        let last : get_or more n false ≡ side = ap (λ zs. get_or zs n false) is ∙ (ap (λ j. get_or (sides ++ side ∷ []) j false) (sym a.count) ∙ get_or-append_seam sides side [] false) in
        subst (λ j. IsSide shape roles j (get_or more j false)) same (subst (IsSide shape roles n) (sym last) new)
  ];
}

-- who is the client on a link, by the events and the roles that were read
pub client_on : (shape : Shape) (roles : List RoleSets) (l i j : ℕ) (events : List ℕ) (client server : RoleSets) → events ≡ (link_at shape l).shared → client ≡ role_at roles i → server ≡ role_at roles j
    → IsClient events client server → IsClientOn shape roles l i j
client_on shape roles l i j events client server shared mine other k =
    let there : IsClient (link_at shape l).shared client server = subst (λ (es : List ℕ). IsClient es client server) shared k in
    let asked : IsClient (link_at shape l).shared (role_at roles i) server = subst (λ (role : RoleSets). IsClient (link_at shape l).shared role server) mine there in
    let both : IsClient (link_at shape l).shared (role_at roles i) (role_at roles j) = subst (IsClient (link_at shape l).shared (role_at roles i)) other asked in
    record {
      requests = both.requests;
      acknowledgements = both.acknowledgements;
      no_service = λ e h. (both.no_other.requests_taken e h, both.no_other.acknowledged e h);
      no_asking = λ e h. (both.no_other.requests_made e h, both.no_other.awaited e h);
    }

pub client_read : (shape : Shape) (roles : List RoleSets) (l i j : ℕ) (events : List ℕ) (client server : RoleSets) → events ≡ (link_at shape l).shared → client ≡ role_at roles i → server ≡ role_at roles j
    → IsClientOn shape roles l i j → IsClient events client server
client_read shape roles l i j events client server shared mine other k =
    let both : IsClient (link_at shape l).shared (role_at roles i) (role_at roles j) = record {
      requests = k.requests;
      acknowledgements = k.acknowledgements;
      no_other = record {
        requests_taken = λ e h. (k.no_service e h).0;
        acknowledged = λ e h. (k.no_service e h).1;
        requests_made = λ e h. (k.no_asking e h).0;
        awaited = λ e h. (k.no_asking e h).1;
      };
    } in
    let asked : IsClient (link_at shape l).shared (role_at roles i) server = subst (IsClient (link_at shape l).shared (role_at roles i)) (sym other) both in
    let there : IsClient (link_at shape l).shared client server = subst (λ (role : RoleSets). IsClient (link_at shape l).shared role server) (sym mine) asked in
    subst (λ (es : List ℕ). IsClient es client server) (sym shared) there

side_is : (shape : Shape) (roles : List RoleSets) (l : ℕ) (side : Bool) → IsSide shape roles l side → HasClient shape roles l
side_is shape roles l true s = inl s
side_is shape roles l false s = inr s

pub side_client : (shape : Shape) (roles : List RoleSets) (l : ℕ) (sides : List Bool) (n : ℕ) → AreSides shape roles n sides → l < n → HasClient shape roles l
side_client shape roles l sides n a h = side_is shape roles l (get_or sides l false) (a.each l h)

-- ---- who asks on a link

beq_true : (a b : Bool) → beq a b ≡ true → a ≡ b
beq_true true true h = refl
beq_true true false h = absurd (false≢true h)
beq_true false true h = absurd (false≢true h)
beq_true false false h = refl

beq_false : (a b : Bool) → beq a b ≡ false → a ≡ not b
beq_false true true h = absurd (false≢true (sym h))
beq_false true false h = refl
beq_false false true h = refl
beq_false false false h = absurd (false≢true (sym h))

-- the part is an end of a link, whose side is known
pub record IsEnd (network : Network) (i l : ℕ) (side : Bool) : Type 0 where
  pub within : l < length network.shape.links
  pub end : IsTrue (is_end network.shape i l)
  pub side_is : IsSide network.shape network.roles l side

right_end : (shape : Shape) (i l : ℕ) → IsTrue (is_end shape i l) → nat_eq (link_at shape l).left i ≡ false → (link_at shape l).right ≡ i
right_end shape i l end ne = elim (or_cases (nat_eq (link_at shape l).left i) (nat_eq (link_at shape l).right i) end) [
  | inl left ↦ absurd (both_ways (nat_eq (link_at shape l).left i) ne left)
  | inr right ↦ eqb-true (link_at shape l).right i right
]

module _ (network : Network) (i l : ℕ) where
  left_client : (link_at network.shape l).left ≡ i → l < length network.shape.links → IsClientOn network.shape network.roles l (link_at network.shape l).left (link_at network.shape l).right → Asks network i l
  left_client at h x = record { server = (link_at network.shape l).right; joins = record { within = h; ends = inl (at, refl) }; client = subst (λ j. IsClientOn network.shape network.roles l j (link_at network.shape l).right) at x }

  right_client : (link_at network.shape l).right ≡ i → l < length network.shape.links → IsClientOn network.shape network.roles l (link_at network.shape l).right (link_at network.shape l).left → Asks network i l
  right_client at h x = record { server = (link_at network.shape l).left; joins = record { within = h; ends = inr (refl, at) }; client = subst (λ j. IsClientOn network.shape network.roles l j (link_at network.shape l).left) at x }

  left_server : (link_at network.shape l).left ≡ i → l < length network.shape.links → IsClientOn network.shape network.roles l (link_at network.shape l).right (link_at network.shape l).left → Grants network i l
  left_server at h x = record { asker = (link_at network.shape l).right; joins = record { within = h; ends = inr (at, refl) }; client = subst (λ j. IsClientOn network.shape network.roles l (link_at network.shape l).right j) at x }

  right_server : (link_at network.shape l).right ≡ i → l < length network.shape.links → IsClientOn network.shape network.roles l (link_at network.shape l).left (link_at network.shape l).right → Grants network i l
  right_server at h x = record { asker = (link_at network.shape l).left; joins = record { within = h; ends = inl (refl, at) }; client = subst (λ j. IsClientOn network.shape network.roles l (link_at network.shape l).left j) at x }

  pub asks_is : (side : Bool) → IsEnd network i l side → beq (nat_eq (link_at network.shape l).left i) side ≡ true → Asks network i l
  asks_is true e h = left_client (eqb-true (link_at network.shape l).left i (beq_true (nat_eq (link_at network.shape l).left i) true h)) e.within e.side_is
  asks_is false e h = right_client (right_end network.shape i l e.end (beq_true (nat_eq (link_at network.shape l).left i) false h)) e.within e.side_is

  pub grants_is : (side : Bool) → IsEnd network i l side → beq (nat_eq (link_at network.shape l).left i) side ≡ false → Grants network i l
  grants_is true e h = right_server (right_end network.shape i l e.end (beq_false (nat_eq (link_at network.shape l).left i) true h)) e.within e.side_is
  grants_is false e h = left_server (eqb-true (link_at network.shape l).left i (beq_false (nat_eq (link_at network.shape l).left i) false h)) e.within e.side_is

-- what is read of an end
pub read_end : (network : Network) (shape : Shape) (roles : List RoleSets) (sides : List Bool) (links : List Link) (link : Link) (left i l : ℕ) (side : Bool) → record { shape = shape; roles = roles } ≡ network → AreSides shape roles (length shape.links) sides → links ≡ shape.links → link ≡ get_or links l link → left ≡ link.left → side ≡ get_or sides l side → l < length network.shape.links → IsTrue (is_end network.shape i l) → IsEnd network i l side × (left ≡ (link_at network.shape l).left)
read_end network shape roles sides links link left i l side is a ls at left_is side_is h end =
    subst (λ (n : Network). l < length n.shape.links → IsTrue (is_end n.shape i l) → IsEnd n i l side × (left ≡ (link_at n.shape l).left)) is
    (λ (k : l < length shape.links) x. (
      record { within = k; end = x; side_is = subst (IsSide shape roles l) (sym (get_or_read sides l side (subst (λ m. l < m) (sym a.count) k) side_is false)) (a.each l k) },
      left_is ∙ ap (λ (m : Link). m.left) (link_read shape links l link ls k at),
    )) h end
