use Rattle.hidden_bounds.proofs.Prelude.{◌<◌, length, refl, ap₂, arith, ◌∙◌, length-set, reopened_to}
use Rattle.hidden_bounds.proofs.Steps.{reopened_next, reopened_rest}
use Rattle.hidden_bounds.proofs.ordering.reopen.Goals as goal

pub loop-part-init : goal.loop-part-init
loop-part-init c = record { as_many = refl; done = λ i below. absurd (omega arith); rest = λ i above. refl }

pub loop-part-preserved : goal.loop-part-preserved
loop-part-preserved c =
    let within : c.loop-part.part < length c.loop-part.standings.items = omega arith in
    let is = c.reopen_standing.ensures ∙ ap₂ reopened_to c.index.ensures c.shares.ensures in
    record {
      as_many = length-set c.loop-part.standings.items c.loop-part.part c.reopen_standing.result ∙ c.loop-part.invariant.as_many;
      done =
          reopened_next c.args.scope.now.seats.now c.args.events.now c.args.standings.now.items c.loop-part.standings.items c.loop-part.part c.reopen_standing.result within c.loop-part.invariant.as_many c.loop-part.invariant.rest _ is c.loop-part.invariant.done;
      rest =
          reopened_rest c.args.scope.now.seats.now c.args.events.now c.args.standings.now.items c.loop-part.standings.items c.loop-part.part c.reopen_standing.result within c.loop-part.invariant.as_many c.loop-part.invariant.rest _ is;
    }

pub returns-clause-reopened : goal.returns-clause-reopened
returns-clause-reopened c = λ i below. c.loop-part.invariant.done i (omega arith)
