-- The theorem about rankings, at the steps of a program.
use Rattle.judgement.proofs.Prelude.{◌≡◌, ℕ, List, [], ◌∷◌, refl, sym, ap, subst, ◌∙◌, arith, Content, Proc, Tree, Component, Label, leaves, Ranking, Shape, Fits, Falls, IsGoodRanking, IsGreatestSilence, IsSilentBound, IsSound, HasSilentBound, HasTables, IsApart, IsLive, IsSpelled, AreSeatsOf, Network, StaysBusy, network_at, tree_at, tree_in, ComponentTable, ProcessStep, bound_is, bound_of, good_rankings_mean_live, network_is_tree, shapes_are_well_formed, shapes_behave, spelled_is_walked}

-- ---- the silent bound is one

one_silence : {S : Type 0} (Step : S → Label → S → Type 0) (start : S) (m n : ℕ) → IsGreatestSilence Step start m → IsGreatestSilence Step start n → m ≡ n
one_silence Step start m n a b =
    let up = b.most a.attained.0 a.attained.1 m a.attained.2 a.attained.3 in
    let down = a.most b.attained.0 b.attained.1 n b.attained.2 b.attained.3 in
    omega (arith, up, down)

pub one_bound : {T : Type 0} (Step : T → Label → T → Type 0) (cs : List (Component T)) (m n : ℕ) → IsSilentBound Step cs m → IsSilentBound Step cs n → m ≡ n
one_bound Step [] m n a b = a ∙ sym b
one_bound Step (c ∷ cs) m n (first, others, silence, rest, sum) (first', others', silence', rest', sum') =
    let here = one_silence _ c first first' silence silence' in
    let there = one_bound Step cs others others' rest rest' in
    omega (arith, here, there, sum, sum')

-- ---- the network of a program that spells one

pub is_network_at : (network : Network) → IsSpelled network → network_at network.program ≡ network
unfolding tree_at
is_network_at network spelled = ap (λ (t : Tree Proc). record { program = network.program; tree = t }) (ap tree_in (spelled_is_walked network.program network.tree spelled))

pub seats_of : (p : Content) (seats : List (Component Proc)) (network : Network) → p ≡ network.program → seats ≡ leaves network.tree → IsSpelled network → AreSeatsOf p seats
seats_of p seats network program are spelled =
    let at : network_at p ≡ network = ap network_at program ∙ is_network_at network spelled in
    record { spelled = subst IsSpelled (sym at) spelled; are = are ∙ ap (λ (n : Network). leaves n.tree) (sym at) }

-- ---- the theorem

module _ (network : Network) (tables : List ComponentTable) (spelled : IsSpelled network) (tabled : HasTables network tables) where
  pub exact : HasSilentBound network (bound_of tables)
  exact = bound_is tables (bound_of tables) refl network.program (leaves network.tree) tabled

  pub rankings_mean_live : (shape : Shape) (ranking : Ranking) → IsApart network shape → StaysBusy network → Fits shape.parts ranking → Falls shape.parts ranking
      → IsLive network (bound_of tables)
  rankings_mean_live shape ranking shaped busy fits falls =
      let made = network_is_tree network.program network.tree spelled in
      let sound : IsSound (ProcessStep network.program) network.tree (bound_of tables) = record { some = made.1; nested = made.0.nesting; triple = shaped.apart; silence = exact } in
      let form = shapes_are_well_formed (ProcessStep network.program) network.tree shape shaped.is in
      let good : IsGoodRanking (ProcessStep network.program) (leaves network.tree) shape.parts ranking =
      record { form = form.form; behaviours = shapes_behave (ProcessStep network.program) network.tree shape shaped.is busy; fits = fits; falls = falls } in
      good_rankings_mean_live (ProcessStep network.program) network.tree (bound_of tables) shape.parts ranking sound good
