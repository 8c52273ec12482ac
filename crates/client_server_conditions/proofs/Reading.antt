-- What is read of a shape.
use Rattle.client_server_conditions.proofs.Prelude.{◌≡◌, ℕ, ◌<◌, List, [], IsTrue, length, get_or, sym, ap, subst, ◌∙◌, arith, get_or_from_slice_get, slice_get_within, get_or_read, RoleSets, role_at, IsWellFormed, Link, Shape, is_end, link_at, ends_complete, place_in, ends_of}

pub link_read : (shape : Shape) (links : List Link) (k : ℕ) (link : Link) → links ≡ shape.links → k < length shape.links → link ≡ get_or links k link → link ≡ link_at shape k
link_read shape links k link is h at = get_or_read shape.links k link h (at ∙ ap (λ (ls : List Link). get_or ls k link) is) (record { left = 0; right = 0; shared = [] })

-- the roles of the part in this place
role_read : (roles : List RoleSets) (i : ℕ) (role : RoleSets) → i < length roles → role ≡ get_or roles i role → role ≡ role_at roles i
role_read roles i role h at = get_or_read roles i role h at (record { creq = []; cack = []; sreq = []; sack = [] })

-- a link that was read, and the roles at its ends
module _ (shape : Shape) (roles : List RoleSets) (l : ℕ) (w : IsWellFormed shape) (count : length roles ≡ length shape.parts) (inside : l < length shape.links)
    (links : List Link) (link : Link) (all : links ≡ shape.links) (is : link ≡ get_or links l link) where
  there : link ≡ link_at shape l
  there = link_read shape links l link all inside is

  pub shared_there : (events : List ℕ) → events ≡ link.shared → events ≡ (link_at shape l).shared
  shared_there events e = e ∙ ap (λ (k : Link). k.shared) there

  pub left_role : (i : ℕ) (role : RoleSets) → i ≡ link.left → role ≡ get_or roles i role → role ≡ role_at roles (link_at shape l).left
  left_role i role e at =
      let two = w.linked.links l inside in
      role_read roles (link_at shape l).left role (omega (arith, count, two.ordered, two.within)) (at ∙ ap (λ k. get_or roles k role) (e ∙ ap (λ (k : Link). k.left) there))

  pub right_role : (i : ℕ) (role : RoleSets) → i ≡ link.right → role ≡ get_or roles i role → role ≡ role_at roles (link_at shape l).right
  right_role i role e at =
      let two = w.linked.links l inside in
      role_read roles (link_at shape l).right role (omega (arith, count, two.within)) (at ∙ ap (λ k. get_or roles k role) (e ∙ ap (λ (k : Link). k.right) there))

-- a link of the part stands among its links
pub end_listed : (shape : Shape) (i l : ℕ) (links : List ℕ) → links ≡ ends_of shape i → l < length shape.links → IsTrue (is_end shape i l) → (k : ℕ) × (k < length links) × (get_or (ends_of shape i) k 0 ≡ l)
end_listed shape i l links is h end =
    let p = place_in (ends_of shape i) l (ends_complete shape i (length shape.links) l h end) in
    (p.0, subst (λ (xs : List ℕ). p.0 < length xs) (sym is) (slice_get_within (ends_of shape i) p.0 l p.1), get_or_from_slice_get (ends_of shape i) p.0 l 0 p.1)
