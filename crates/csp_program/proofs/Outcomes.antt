-- Laws of outcomes that follow on one another.
use Rattle.std.proofs.Common.{◌≡◌, Ok, Err, refl}
use Rattle.csp_program.specs.Outcome.{Outcome, and_then}

pub and_then_regroup : {A B C : Type 0} (o : Outcome A) (f : A → Outcome B) (g : B → Outcome C) → and_then o (λ a. and_then (f a) g) ≡ and_then (and_then o f) g
and_then_regroup (Ok a) f g = refl
and_then_regroup (Err k) f g = refl

pub came_through : {A B : Type 0} (o : Outcome A) (next : A → Outcome B) (b : B) → and_then o next ≡ Ok b → (a : A) × (o ≡ Ok a) × (next a ≡ Ok b)
came_through (Ok a) next b h = (a, refl, h)
came_through (Err k) next b h = absurd (cc)
