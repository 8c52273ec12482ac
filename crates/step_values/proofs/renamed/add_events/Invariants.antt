use Rattle.step_values.proofs.Prelude.{◌≡◌, ◌+◌, ◌++◌, Ok, drop, and_then, each_joined, new_event, renamed_as}
use Rattle.step_values.proofs.Lists.{left}
use Rattle.step_values.proofs.renamed.add_events.Given as goal

-- the events that are left are still to be renamed
abbrev pub invariant-loop-place : goal.invariant-loop-place
invariant-loop-place l =
    and_then (each_joined (renamed_as (new_event l.new.program.now l.new.channel l.new.values.now) l.new.given) l.first l.events) (λ more. Ok (l.fn.renamed ++ more)) ≡
    left (renamed_as (new_event l.new.program.now l.new.channel l.new.values.now) l.new.given) (λ rs. rs) l.renamed (l.first + l.place) (drop l.place l.events)
