-- When a link is open, as the exploration of one end shows it; and which events of the link are acknowledgements.
use Rattle.client_server_conditions.proofs.Prelude.{or_comm, same_tests, ◌≡◌, ℕ, List, Bool, true, false, ◌&&◌, ◌||◌, cond, IsTrue, nat_eq, inl, inr, refl, sym, ap, ◌∙◌, list_any, or_cases, or_left, or_right, common_member, meets_of_from_member, has, meets_of, Joins, RoleSets, link_at, role_at, count_in, is_odd, has_acknowledgements, is_acknowledgement, is_open, observed, parity_step, Network, Asks, Grants, is_open_at, or_unless}
use Rattle.csp_base.proofs.Listed.{any_member, any_of}
use Rattle.shape_links.proofs.Parity.{parity_is}

-- ---- parities

-- the parity that a run leaves tells whether the link is open
pub opened_is : (network : Network) (l : ℕ) (s : List ℕ) (acknowledged : Bool) → acknowledged ≡ has_acknowledgements network.shape network.roles l → is_open_at acknowledged (observed (parity_step (link_at network.shape l).shared) 0 s) ≡ is_open network.shape network.roles l s
opened_is network l s acknowledged is =
    let S = (link_at network.shape l).shared in
    let odd : nat_eq (observed (parity_step (link_at network.shape l).shared) 0 s) 1 ≡ is_odd (count_in (link_at network.shape l).shared s) = ap (λ n. nat_eq n 1) (parity_is S s) ∙ one_is (is_odd (count_in S s)) in
    ap (λ a. a && nat_eq (observed (parity_step S) 0 s) 1) is ∙ ap (λ b. has_acknowledgements network.shape network.roles l && b) odd
  where
    one_is : (b : Bool) → nat_eq (cond b 1 0) 1 ≡ b
    one_is true = refl
    one_is false = refl

-- ---- acknowledgements

-- a set meets one of two others where one of its members is in either
either_met : (S A B : List ℕ) (test : ℕ → Bool) → ((e : ℕ) → has S e ≡ true → test e ≡ (has A e || has B e)) → (meets_of S A || meets_of S B) ≡ list_any test S
either_met S A B test same = same_tests (meets_of S A || meets_of S B) (list_any test S)
    (λ meets. elim (or_cases (meets_of S A) (meets_of S B) meets) [
      | inl first ↦ let x = common_member S A first in any_of test S x.0 x.1 (same x.0 x.1 ∙ or_left (has A x.0) (has B x.0) x.2)
      | inr second ↦ let x = common_member S B second in any_of test S x.0 x.1 (same x.0 x.1 ∙ or_right (has A x.0) (has B x.0) x.2)
    ])
    (λ some.
    let x = any_member test S some in
    elim (or_cases (has A x.0) (has B x.0) (sym (same x.0 x.1) ∙ x.2)) [
      | inl first ↦ or_left (meets_of S A) (meets_of S B) (meets_of_from_member S A x.0 x.1 first)
      | inr second ↦ or_right (meets_of S A) (meets_of S B) (meets_of_from_member S B x.0 x.1 second)
    ])

module _ (network : Network) (i l : ℕ) where
  -- an acknowledgement for the client, whichever end it is, is one of either end
  abbrev for_ends : ℕ → Bool
  for_ends e = has (role_at network.roles (link_at network.shape l).left).cack e || has (role_at network.roles (link_at network.shape l).right).cack e

  for_both : (j k e : ℕ) → Joins network.shape j k l → for_ends e ≡ (has (role_at network.roles j).cack e || has (role_at network.roles k).cack e)
  for_both j k e joins = elim joins.ends [
    | inl x ↦ ap (λ p. has (role_at network.roles p).cack e || has (role_at network.roles (link_at network.shape l).right).cack e) x.0 ∙ ap (λ p. has (role_at network.roles j).cack e || has (role_at network.roles p).cack e) x.1
    | inr x ↦ ap (λ p. has (role_at network.roles p).cack e || has (role_at network.roles (link_at network.shape l).right).cack e) x.0 ∙ ap (λ p. has (role_at network.roles k).cack e || has (role_at network.roles p).cack e) x.1 ∙ or_comm (has (role_at network.roles k).cack e) (has (role_at network.roles j).cack e)
  ]

  ends_ask : (e : ℕ) → Asks network i l → IsTrue (has (link_at network.shape l).shared e) → for_ends e ≡ is_acknowledgement network.roles i e
  ends_ask e a on = for_both i a.server e a.joins ∙ or_unless (has (role_at network.roles i).cack e) (has (role_at network.roles a.server).cack e) (a.client.no_asking e on).1 ∙ sym (or_unless (has (role_at network.roles i).cack e) (has (role_at network.roles i).sack e) (a.client.no_service e on).1)

  ends_grant : (e : ℕ) → Grants network i l → IsTrue (has (link_at network.shape l).shared e) → for_ends e ≡ is_acknowledgement network.roles i e
  ends_grant e g on = for_both g.asker i e g.joins ∙ or_unless (has (role_at network.roles g.asker).cack e) (has (role_at network.roles i).cack e) (g.client.no_asking e on).1 ∙ g.client.acknowledgements e on ∙ sym (or_comm (has (role_at network.roles i).cack e) (has (role_at network.roles i).sack e) ∙ or_unless (has (role_at network.roles i).sack e) (has (role_at network.roles i).cack e) (g.client.no_asking e on).1)

  -- the part is the one or the other
  pub record HasSide (asks : Bool) : Type 0 where
    pub client : asks ≡ true → Asks network i l
    pub server : asks ≡ false → Grants network i l

  ends_are : (asks : Bool) (e : ℕ) → HasSide asks → IsTrue (has (link_at network.shape l).shared e) → for_ends e ≡ is_acknowledgement network.roles i e
  ends_are true e h on = ends_ask e (h.client refl) on
  ends_are false e h on = ends_grant e (h.server refl) on

  -- the link has acknowledgements where some of its events are such of the part
  pub acknowledged_meets : (asks : Bool) (S : List ℕ) (mine : RoleSets) → HasSide asks → S ≡ (link_at network.shape l).shared → mine ≡ role_at network.roles i → (meets_of S mine.cack || meets_of S mine.sack) ≡ has_acknowledgements network.shape network.roles l
  acknowledged_meets asks S mine side S_is mine_is =
      either_met S mine.cack mine.sack for_ends (λ e on.
      ends_are asks e side (ap (λ (T : List ℕ). has T e) (sym S_is) ∙ on) ∙ ap (λ (r : RoleSets). has r.cack e || has r.sack e) (sym mine_is))
      ∙ ap (list_any for_ends) S_is
