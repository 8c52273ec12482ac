use Rattle.acceptances.proofs.Prelude.{◌≡◌, false, [], take, get_or, list_any, is_smaller}
use Rattle.acceptances.proofs.rows.row_has_smaller.Given as goal

abbrev pub invariant-loop-place : goal.invariant-loop-place
invariant-loop-place l = list_any (λ p. is_smaller (get_or l.sets p []) l.set) (take l.place-index l.row) ≡ false
