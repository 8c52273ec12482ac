-- Nothing is left out of a list by as many places as it has.
use Rattle.typed_trees.proofs.Prelude.{◌≡◌, ℕ, ◌≤◌, length, take, Scope, take_all}

pub take_whole : (n : ℕ) (s : Scope) → length s ≤ n → take n s ≡ s
take_whole n s short = take_all n s short

pub ruleset take_laws = (take_whole)
