use Rattle.numbered_walks.proofs.Prelude.{◌≡◌, length, IsStanding, WalksOn, number_after}
use Rattle.numbered_walks.proofs.walking.go.Given as goal

abbrev pub invariant-loop : goal.invariant-loop
invariant-loop l = record {
  form : IsStanding l.movers l.standing;
  walk : WalksOn l.movers l.seed l.moves.items l.initial.standing l.standing;
  count : length l.moves.items ≡ l.counter;
  number : l.number ≡ number_after l.seed l.moves.items;
}
