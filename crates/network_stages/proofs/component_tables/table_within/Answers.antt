use Rattle.network_stages.proofs.Tabling.{round_there}
use Rattle.network_stages.proofs.component_tables.table_within.Goals as goal

pub returns-clause-fault : goal.returns-clause-fault
returns-clause-fault c =
    round_there c.args.program.now c.args.room c.args.seat.now _ c.in_ok-local.local c.with_heights.result (λ i. record { alphabet = c.alphabet.ensures i; term = c.term.ensures i }) c.in_ok-local.ensures.table
    c.with_heights.ensures.fault
