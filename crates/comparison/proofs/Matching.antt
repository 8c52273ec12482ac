-- A verdict on a network and its specification tells a fault by which they do not match, or that they match.
use Rattle.comparison.proofs.Prelude.{◌≡◌, ◌↔◌, ℕ, zero, suc, List, [], ◌∷◌, Some, slice_get, inl, inr, sym, ap, subst, same_Some, faults_refute, Label, Component, leaves, alphabets, Network, HaveFewSets, HasNoParts, ProcessStep, AllConform, Conforms, Point, passed, told, verdict_status, Side, Verdict, DifferFirstAt, printed_events, ConformanceDecides, IsCompared, IsConforming, PartsOr, ComponentsConform, FailsToConform, none-some, slice_get_within, faults_exclude_tables, Refusal, Shortfall, ComparisonIsExact, IsWithinLimits, Matches}
use Rattle.report.specs.declared.answer.Side.TheVariants as side
use Rattle.report.specs.declared.answer.Verdict.TheVariants as verdict

-- ---- each of the faults excludes its point

no_difference : (xs ys : List (List ℕ)) (n : ℕ) → xs ≡ ys → DifferFirstAt xs ys n → ⊥
no_difference xs ys n same first = first.differ (ap (λ (zs : List (List ℕ)). slice_get zs n) same)

few_sets : (network : Network) (r : Refusal) → HaveFewSets network.program (leaves network.tree) → HasNoParts network r → ⊥
few_sets network r few (i, first, is) = few i first.component (slice_get_within (leaves network.tree) i first.component first.at) first.at first.many

-- one of components that all conform
conforms_at : {T U : Type 0} (Step : T → Label → T → Type 0) (Specified : U → Label → U → Type 0) (cs : List (Component T)) (ds : List (Component U)) (i : ℕ) (c : Component T) (d : Component U)
    → AllConform Step Specified cs ds → slice_get cs i ≡ Some c → slice_get ds i ≡ Some d → Conforms Step Specified c d
conforms_at Step Specified [] ds i c d all here there = absurd (none-some c here)
conforms_at Step Specified (a ∷ cs) [] i c d all here there = absurd (none-some d there)
conforms_at Step Specified (a ∷ cs) (b ∷ ds) zero c d all here there =
    subst (λ (x : Component _). Conforms Step Specified x d) (same_Some a c here) (subst (λ (y : Component _). Conforms Step Specified a y) (same_Some b d there) all.0)
conforms_at Step Specified (a ∷ cs) (b ∷ ds) (suc i) c d all here there = conforms_at Step Specified cs ds i c d all.1 here there

none_fails : (network specified : Network) (s : Shortfall) → ComponentsConform network specified → FailsToConform network specified s → ⊥
none_fails network specified s all (i, c, d, trace, stands, fault) =
    let P = ProcessStep network.program in
    let Q = ProcessStep specified.program in
    let conforms = conforms_at P Q (leaves network.tree) (leaves specified.tree) i c d all stands.here stands.there in
    let refute = faults_refute P Q in
    elim fault [
      | inl outside ↦ refute.outside c d trace conforms outside.0
      | inr refuses ↦ refute.refuses c d trace conforms refuses.0
    ]

-- ---- the points together

point_cases : {F X : Type 0} (Fails : F → Type 0) (tell : F → Verdict) (Is : X → Type 0) (Then : X → Verdict → Type 0) (Q : Verdict → Type 0) → ((f : F) → Fails f → Q (tell f))
    → ((x : X) (v : Verdict) → Is x → Then x v → Q v) → (v : Verdict) → Point Fails (λ f w. w ≡ tell f) Is Then v → Q v
point_cases Fails tell Is Then Q of rest v (told f fails same) = subst Q (sym same) (of f fails)
point_cases Fails tell Is Then Q of rest v (passed x is next) = rest x v is next

module _ (network specified : Network) (Q : Verdict → Type 0) (refused : (s : Side) (r : Refusal) → (Matches network specified → ⊥) → Q (verdict.Refused s r)) where
  parts_cases : (s : Side) (of : Network) (Then : Verdict → Type 0) → (Matches network specified → IsWithinLimits of) → ((v : Verdict) → IsWithinLimits of → Then v → Q v) → (v : Verdict)
      → PartsOr s of Then v → Q v
  unfolding PartsOr
  parts_cases s of Then within rest =
      point_cases _ (verdict.Refused s) _ _ Q (λ r fails. refused s r (λ m. faults_exclude_tables of.program (leaves of.tree) (within m).tables 0 r (within m).are fails)) (λ tables v are.
      point_cases _ (verdict.Refused s) _ _ Q (λ r fails. refused s r (λ m. few_sets of r (within m).few fails)) (λ parts w by. rest w (record { tables = tables; are = are; few = by.few })) v)

  -- What holds of each fault, which then is there, and where the network conforms, holds of the verdict.
  pub compared_cases : ((s : Shortfall) → (Matches network specified → ⊥) → Q (verdict.NotProved s)) → ((v : Verdict) → Matches network specified → IsConforming network specified v → Q v)
      → (v : Verdict) → IsCompared network specified v → Q v
  unfolding IsCompared ConformanceDecides
  compared_cases short whole =
      point_cases _ (verdict.Refused side.Script) _ _ Q (λ r fails. refused side.Script r (λ m. no_difference (printed_events network.program) (printed_events specified.program) fails.0 m.events fails.1)) (λ u a events.
      point_cases _ (verdict.Refused side.Script) _ _ Q (λ r fails. refused side.Script r (λ m. no_difference (alphabets (leaves network.tree)) (alphabets (leaves specified.tree)) fails.0 m.shape fails.1)) (λ u b shape.
      parts_cases side.Script network _ (λ m. m.within) (λ c within.
      parts_cases side.Specification specified _ (λ m. m.specified_within) (λ d others.
      point_cases _ verdict.NotProved _ _ Q (λ s fails. short s (λ m. none_fails network specified s m.conform fails)) (λ u e conform.
      whole e (record { within = within; specified_within = others; events = events; shape = shape; conform = conform })) d) c) b) a)

pub comparison_is_exact : ComparisonIsExact
comparison_is_exact network specified v =
    compared_cases network specified (λ w. (verdict_status w ≡ 0) ↔ Matches network specified)
    (λ s r no. ((λ is. absurd (let never : ◌≡◌ {A = ℕ} 2 0 = is in cc)), (λ m. absurd (no m))))
    (λ s no. ((λ is. absurd (let never : ◌≡◌ {A = ℕ} 1 0 = is in cc)), (λ m. absurd (no m))))
    (λ w matches conforming. ((λ is. matches), (λ m. ap verdict_status conforming.is))) v
