-- The greatest silent height of a component's numbered table is the component's greatest number of silent steps in a row,
-- exactly: a silent walk in the table is one of the component from a state that it reaches, and the other way round.
use Rattle.std.specs.Prelude.{◌+◌, ℕ, List, [], ◌∷◌}
use Rattle.digraph.specs.Walk.{AreHeights}
use Rattle.csp_tables.specs.Prelude.{Label, SilentStep, Component, ComponentStep, IsGreatestSilence, IsSilentBound, RawTable, RawStep, IsTableOf}
use Rattle.csp_base.specs.Lists.{greatest}

-- one number for each term of the table, the greatest number of silent steps that follow one another from it
abbrev pub AreSilentHeights : RawTable → List ℕ → Type 0
AreSilentHeights raw heights = AreHeights (SilentStep (RawStep raw)) raw.count heights

abbrev pub HeightsAreExact : {T : Type 0} → (T → Label → T → Type 0) → Type 0
HeightsAreExact {T} Step = (c : Component T) (terms : List T) (raw : RawTable) (heights : List ℕ) → IsTableOf Step c terms raw → AreSilentHeights raw heights → IsGreatestSilence (ComponentStep Step) c (greatest heights)

-- a numbered table of the component with these heights
pub record HasHeights {T : Type 0} (Step : T → Label → T → Type 0) (c : Component T) (heights : List ℕ) : Type 0 where
  pub terms : List T
  pub raw : RawTable
  pub table : IsTableOf Step c terms raw
  pub are_heights : AreSilentHeights raw heights

-- one list of heights for each component
abbrev pub HaveHeights : {T : Type 0} → (T → Label → T → Type 0) → List (Component T) → List (List ℕ) → Type 0
HaveHeights Step [] [] = Unit {0}
HaveHeights Step (c ∷ cs) (h ∷ hs) = HasHeights Step c h × HaveHeights Step cs hs
HaveHeights Step _ _ = ⊥

abbrev pub sum_of_greatest : List (List ℕ) → ℕ
sum_of_greatest [] = 0
sum_of_greatest (h ∷ hs) = greatest h + sum_of_greatest hs

-- the sum of the components' greatest heights is the silent bound
abbrev pub HeightsAddUp : {T : Type 0} → (T → Label → T → Type 0) → Type 0
HeightsAddUp {T} Step = (cs : List (Component T)) (heights : List (List ℕ)) → HaveHeights Step cs heights → IsSilentBound Step cs (sum_of_greatest heights)
