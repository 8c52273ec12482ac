-- What the conditions ask of a part on a link, and what tests of a node say of it.
use Rattle.client_server_conditions.proofs.Prelude.{◌≡◌, ℕ, List, Bool, true, false, inl, inr, sym, ◌∙◌, list_any, and_second_false, and_parts, and_from, cases_Bool, not-false, not-true, has, IsWithin, link_at, role_at, Network, takes, refuses, keeps, KeepsAt, HasAnswers, IsOnSide, node_in, AreAcknowledgements, RunCondition, Turns, Service, Answers}
use Rattle.client_server_conditions.proofs.Looking.{in_turn, out_of_turn, none_takes, one_takes, none_refuses, one_refuses}

module _ (network : Network) (i l n : ℕ) (opened : Bool) where
  -- the acceptance has the acknowledgements of the link where it has their set
  client_acks : (acks : List ℕ) → AreAcknowledgements network i l acks → (M : List ℕ) → IsWithin acks M → HasAnswers network i l M
  client_acks acks are M within e on ack = within e (are e ∙ and_from (has (link_at network.shape l).shared e) (has (role_at network.roles i).cack e) on ack)

  acks_client : (acks : List ℕ) → AreAcknowledgements network i l acks → (M : List ℕ) → HasAnswers network i l M → IsWithin acks M
  acks_client acks are M all e h = let p = and_parts (has (link_at network.shape l).shared e) (has (role_at network.roles i).cack e) (sym (are e) ∙ h) in all e p.0 p.1

  -- the test of the node of this part on this link
  abbrev test : RunCondition → List ℕ → Bool
  test condition acks = keeps condition network.shape.vocabulary (link_at network.shape l).shared (role_at network.roles i) acks (node_in network i n) opened

  pub keeps_at : (condition : RunCondition) (acks : List ℕ) → IsOnSide network condition i l → AreAcknowledgements network i l acks → test condition acks ≡ true → KeepsAt network condition i l n opened
  keeps_at Turns acks side are h = in_turn (node_in network i n).next (link_at network.shape l).shared (role_at network.roles i) opened (not-true _ h)
  keeps_at Service acks side are h = λ yet g. none_takes network.shape.vocabulary (role_at network.roles i).sreq (node_in network i n).accept (and_second_false opened _ (not-true _ h) yet)
  keeps_at Answers acks side are h = λ yet a k below within. client_acks acks are _ (none_refuses network.shape.vocabulary acks (node_in network i n).accept (and_second_false opened _ (not-true _ h) yet) k below within)

  fails_at : (condition : RunCondition) (acks : List ℕ) → IsOnSide network condition i l → AreAcknowledgements network i l acks → test condition acks ≡ false → KeepsAt network condition i l n opened → ⊥
  fails_at Turns acks side are h k = out_of_turn (node_in network i n).next (link_at network.shape l).shared (role_at network.roles i) opened (not-false _ h) k
  fails_at Service acks side are h k =
      let p = and_parts opened (list_any (takes network.shape.vocabulary (role_at network.roles i).sreq) (node_in network i n).accept) (not-false _ h) in
      one_takes network.shape.vocabulary (role_at network.roles i).sreq (node_in network i n).accept p.1 (k p.0 side)
  fails_at Answers acks side are h k =
      let p = and_parts opened (list_any (refuses network.shape.vocabulary acks) (node_in network i n).accept) (not-false _ h) in
      one_refuses network.shape.vocabulary acks (node_in network i n).accept p.1 (λ q below within. acks_client acks are _ (k p.0 side q below within))

  pub passes : (condition : RunCondition) (acks : List ℕ) → IsOnSide network condition i l → AreAcknowledgements network i l acks → KeepsAt network condition i l n opened → test condition acks ≡ true
  passes condition acks side are k = elim (cases_Bool (test condition acks)) [ inl yet ↦ yet | inr fails ↦ absurd (fails_at condition acks side are fails k) ]
