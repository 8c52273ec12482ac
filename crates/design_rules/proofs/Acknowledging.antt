-- A client and a server with requests and acknowledgements on their link meet the rule of clients and servers.
use Rattle.design_rules.proofs.Prelude.{◌≡◌, ℕ, zero, suc, ◌<◌, ◌≤◌, ◌⊎◌, inl, inr, List, [], ◌∷◌, length, Bool, true, false, refl, sym, subst, arith, false≢true, link_at, IsWellFormed, Walk, IsLongestWalk, IsClientOn, Serves, KeepRoles, pair, pair_roles, pair_ranking, PairIsClientServer}
use Rattle.design_rules.proofs.Walks.{no_circle}
use Rattle.design_rules.proofs.FormCheck.{well_formed}
use Rattle.design_rules.proofs.ClientServerCheck.{keep_roles, role_ranking}

abbrev pub runs : ℕ → ℕ → List ℕ
runs i zero = []
runs i (suc n) = 0 ∷ []

pub pair_form : IsWellFormed pair
pair_form = (well_formed pair runs (λ i j. 0)).shows refl

-- the link is open at the second node
abbrev told : ℕ → ℕ → ℕ → Bool
told i l zero = false
told i l (suc n) = true

pair_keeps_roles : KeepRoles pair pair_roles
pair_keeps_roles = (keep_roles pair pair_roles told).shows refl

link_is : (l : ℕ) → l < length pair.links → l ≡ 0
link_is l h = omega arith

-- the only arc leads from the first to the second
arc_is : (i j : ℕ) → Serves pair pair_roles i j → (i ≡ 0) × (j ≡ 1)
arc_is i j a =
    let zero_link : a.link ≡ 0 = link_is a.link a.joins.within in
    let ends = subst (λ m. ((link_at pair m).left ≡ i) × ((link_at pair m).right ≡ j) ⊎ ((link_at pair m).left ≡ j) × ((link_at pair m).right ≡ i)) zero_link a.joins.ends in
    elim ends [
      | inl e ↦ (sym e.0, sym e.1)
      | inr e ↦ absurd (not_client (subst (λ x. IsClientOn pair pair_roles 0 x 0) (sym e.1) (subst (λ y. IsClientOn pair pair_roles 0 i y) (sym e.0) (subst (λ m. IsClientOn pair pair_roles m i j) zero_link a.client))))
    ]
  where
    not_client : IsClientOn pair pair_roles 0 1 0 → ⊥
    not_client c = false≢true (sym (c.no_service 0 refl).0)

abbrev height : ℕ → ℕ
height zero = 1
height (suc i) = 0

longest : (i n y : ℕ) → Walk (Serves pair pair_roles) n i y → n ≤ height i
longest i zero y w = omega arith
longest zero (suc zero) y w = omega arith
longest zero (suc (suc n)) y w = let p : w.0 ≡ 1 = (arc_is 0 w.0 w.1).1 in let q : w.0 ≡ 0 = (arc_is w.0 w.2.0 w.2.1).0 in absurd (omega arith)
longest (suc i) (suc n) y w = let p : suc i ≡ 0 = (arc_is (suc i) w.0 w.1).0 in absurd (omega arith)

heights : (i : ℕ) → i < length pair.parts → IsLongestWalk (Serves pair pair_roles) i (height i)
heights zero h = record { end = 1; attained = (1, record { link = 0; joins = record { within = omega arith; ends = inl (refl, refl) }; client = first_is_client }, refl); most = longest 0 }
  where
    first_is_client : IsClientOn pair pair_roles 0 0 1
    first_is_client = elim (pair_keeps_roles.linked 0 (omega arith)) [ inl c ↦ c | inr c ↦ absurd (false≢true (sym (c.no_service 0 refl).0)) ]
heights (suc i) h = record { end = suc i; attained = refl; most = longest (suc i) }

pub pair_is_client_server : PairIsClientServer
pair_is_client_server = record {
  form = pair_form;
  rule = record { keep_roles = pair_keeps_roles; no_circle = no_circle (Serves pair pair_roles) (λ i. i) (λ x y a. let p : x ≡ 0 = (arc_is x y a).0 in let q : y ≡ 1 = (arc_is x y a).1 in omega arith) };
  ranking = (role_ranking pair pair_roles height pair_ranking heights).shows refl;
}
