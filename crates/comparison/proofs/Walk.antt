-- The spine of a comparison: what a walk answers that is past some of its points, and one that stops at the parts of a network.
use Rattle.comparison.proofs.Prelude.{◌≡◌, List, Result, leaves, Part, alphabets, Network, HasParts, HasTables, at_halt, goes_on, halts_weaker, passed, told, Answers, HaltsWith, Side, Verdict, printed_events, ConformanceDecides, IsCompared, PartsOr, IsErrAnd, ComponentTable, Halt, Done}
use Rattle.report.specs.declared.answer.Side.TheVariants as side

-- a fault at these points is one whatever follows
fails : (s : Side) (network : Network) (Then : Verdict → Type 0) (v : Verdict) → PartsOr s network (λ w. ⊥) v → PartsOr s network Then v
unfolding PartsOr
fails s network Then v (told r is tells) = told r is tells
fails s network Then v (passed tables are (told r is tells)) = passed tables are (told r is tells)
fails s network Then v (passed tables are (passed parts by never)) = absurd never

module _ (r : Result Done Halt) where
  pub past_agreement : (network specified : Network) → printed_events network.program ≡ printed_events specified.program → alphabets (leaves network.tree) ≡ alphabets (leaves specified.tree)
      → Answers (PartsOr side.Script network (PartsOr side.Specification specified (ConformanceDecides network specified))) r → Answers (IsCompared network specified) r
  unfolding IsCompared
  past_agreement network specified events shape rest = goes_on _ _ _ _ tt events r (goes_on _ _ _ _ tt shape r rest)

  module _ (s : Side) (network : Network) (Then : Verdict → Type 0) where
    pub at_parts : (why : Halt) → IsErrAnd r (λ t. t ≡ why) → HaltsWith (PartsOr s network (λ v. ⊥)) why → Answers (PartsOr s network Then) r
    at_parts why exit tells = at_halt r (PartsOr s network Then) why exit (halts_weaker (PartsOr s network (λ v. ⊥)) (PartsOr s network Then) (fails s network Then) why tells)

    pub past_parts : (tables : List ComponentTable) (parts : List Part) → HasTables network tables → HasParts network parts → Answers Then r → Answers (PartsOr s network Then) r
    unfolding PartsOr
    past_parts tables parts are by rest = goes_on _ _ _ _ tables are r (goes_on _ _ _ _ parts by r rest)
