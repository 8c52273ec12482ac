use Rattle.std.proofs.Common.{◌≡◌, length, refl, replicate, rules}
use Rattle.hidden_bounds.specs.declared.standings.Standing.TheVariants as standing
use Rattle.hidden_bounds.proofs.Finish.{begun}
use Rattle.hidden_bounds.proofs.ordering.nothing_taken.Goals as goal

pub returns : goal.returns
returns c =
    let unknown : c.in_ok-standings.standings.items ≡ replicate (length c.args.scope.now.seats.now) standing.Unknown = search rules in
    begun _ _ _ _ _ _ (length c.args.scope.now.seats.now) c.new-order.ensures.items unknown c.in_ok-left.ensures refl
