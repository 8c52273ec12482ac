use Rattle.std.proofs.Common.{◌*◌, min, ap, ◌∙◌}
use Rattle.value_operators.proofs.EventSteps.{sum_stops}
use Rattle.value_operators.proofs.numbers.with_field.Goals as goal

pub returns : goal.returns
returns c =
    c.saturating_add.ensures ∙
    sum_stops _ _ _ _ 18446744073709551615 (c.saturating_mul-before.ensures ∙ ap (λ n. min (c.args.number * n) 18446744073709551615) c.len.ensures) c.saturating_mul-here.ensures
