use Rattle.std.proofs.Common.{◌+◌, Some, ap, ◌∙◌, arith}
use Rattle.value_operators.proofs.Held.{held_added}
use Rattle.value_operators.proofs.sets.holds_events.Goals as goal

pub returns : goal.returns
returns c =
    λ apart. let places = c.stands_after.ensures apart in
    held_added c.args.atoms.now c.event-lowest.result c.event-highest.result c.args.first c.args.count places.0 c.as_slice.ensures.rising c.as_slice.ensures.one_kind (omega arith) (omega arith) c.event-lowest.ensures c.event-highest.ensures places.1 (places.2 ∙ ap (λ m. Some (places.0 + m)) c.from.ensures)
