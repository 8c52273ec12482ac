use Rattle.normal_form.proofs.Prelude.{◌≡◌, ◌<◌, ℕ, slice_index}
use Rattle.normal_form.proofs.merged.are_places.Given as goal

abbrev pub invariant-loop-place : goal.invariant-loop-place
invariant-loop-place l = (i : ℕ) → i < l.place → slice_index l.numbers i ≡ i
