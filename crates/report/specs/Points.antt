-- The points of a walk to an answer, one after another: the order in which faults are told is the order of the points.
use Rattle.std.specs.Prelude.{◌≡◌}
use Rattle.report.specs.declared.answer.Refusal.{Refusal}
use Rattle.report.specs.declared.answer.Shortfall.{Shortfall}
use Rattle.report.specs.declared.answer.Side.{Side}
use Rattle.report.specs.declared.answer.Verdict.{Verdict}
use Rattle.report.specs.declared.answer.Verdict.TheVariants as verdict

-- At a point of a walk a fault that is there is told; else the walk goes on with what is there.
pub data Point {A F X : Type 0} (Fails : F → Type 0) (Tells : F → A → Type 0) (Is : X → Type 0) (Then : X → A → Type 0) (a : A) : Type 0 where
  told : (f : F) → Fails f → Tells f a → Point Fails Tells Is Then a
  passed : (x : X) → Is x → Then x a → Point Fails Tells Is Then a

-- the fault is a refusal of the program of this side
abbrev pub RefusedOr : {X : Type 0} → Side → (Refusal → Type 0) → (X → Type 0) → (X → Verdict → Type 0) → Verdict → Type 0
RefusedOr side Fails Is Then v = Point Fails (λ r w. w ≡ verdict.Refused side r) Is Then v

-- the fault is a reason why a network is not proved
abbrev pub UnprovedOr : {X : Type 0} → (Shortfall → Type 0) → (X → Type 0) → (X → Verdict → Type 0) → Verdict → Type 0
UnprovedOr Fails Is Then v = Point Fails (λ s w. w ≡ verdict.NotProved s) Is Then v

-- the same where the rest of the walk needs nothing that is made here: it goes on where this holds
abbrev pub RefusedUnless : Side → (Refusal → Type 0) → Type 0 → (Verdict → Type 0) → Verdict → Type 0
RefusedUnless side Fails Holds Then = RefusedOr side Fails (λ (u : Unit {0}). Holds) (λ u. Then)

abbrev pub UnprovedUnless : (Shortfall → Type 0) → Type 0 → (Verdict → Type 0) → Verdict → Type 0
UnprovedUnless Fails Holds Then = UnprovedOr Fails (λ (u : Unit {0}). Holds) (λ u. Then)
