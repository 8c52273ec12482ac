use Rattle.acceptances.proofs.Prelude.{◌≡◌, ℕ, ◌<◌, false, nat_eq, length, take, get_or, list_any}
use Rattle.acceptances.proofs.offers.unstable_marks.Given as goal

abbrev pub invariant-loop-from : goal.invariant-loop-from
invariant-loop-from l = record {
  one_each : length l.marks.items ≡ l.table.count;
  marks : (n : ℕ) → n < l.table.count → get_or l.marks.items n false ≡ list_any (λ step. nat_eq n step.0) (take l.from-index l.from-items);
}
