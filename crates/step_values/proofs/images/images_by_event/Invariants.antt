use Rattle.step_values.proofs.Prelude.{◌≡◌, ℕ, take, kept_for, named_for}
use Rattle.step_values.proofs.images.images_by_event.Given as goal

abbrev pub invariant-loop-pair : goal.invariant-loop-pair
invariant-loop-pair l = (e : ℕ) → kept_for l.images.by_event e ≡ named_for (take l.pair-index l.renamed) e
