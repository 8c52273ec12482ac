use Rattle.std.proofs.lemmas.Result.{IfOk-weaker}
use Rattle.resource_rule.proofs.rule.checked_numbers.Goals as goal

pub numbers-requires-clause-keep : goal.numbers-requires-clause-keep
numbers-requires-clause-keep c = record { kinds = c.in_ok-check_kinds.ensures.kinds; used = c.in_ok-check_turns.ensures.turns; grants = c.in_ok-check_grants.ensures.grants; turns = c.in_ok-check_users.ensures.users }

pub returns-clause-keep : goal.returns-clause-keep
returns-clause-keep c =
    IfOk-weaker c.numbers.result _ _ (λ _ _. record { kinds = c.in_ok-check_kinds.ensures.kinds; used = c.in_ok-check_turns.ensures.turns; grants = c.in_ok-check_grants.ensures.grants; turns = c.in_ok-check_users.ensures.users }) c.numbers.ensures.count
