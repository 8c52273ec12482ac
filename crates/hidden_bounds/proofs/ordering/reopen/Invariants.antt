use Rattle.hidden_bounds.proofs.Prelude.{◌≡◌, ◌≤◌, ◌<◌, ℕ, length, meets_of, reopened_to, standing_at, alphabet_at}
use Rattle.hidden_bounds.proofs.ordering.reopen.Given as goal

abbrev pub invariant-loop-part : goal.invariant-loop-part
invariant-loop-part l = record {
  as_many : length l.standings.items ≡ length l.initial.standings.items;
  done : (i : ℕ) → i < l.part → standing_at l.standings.items i ≡ reopened_to (standing_at l.initial.standings.items i) (meets_of (alphabet_at l.scope.seats.now i) l.events);
  rest : (i : ℕ) → l.part ≤ i → standing_at l.standings.items i ≡ standing_at l.initial.standings.items i;
}
