use Rattle.csp_steps.proofs.Prelude.{List, [], length, map, Ok, ap, sym, ◌∙◌, tree_at, all_within, seen, filled, StepTo}
use Rattle.csp_steps.proofs.Places.{front_same, still_within}
use Rattle.csp_steps.proofs.Walking.{begins, begins_sound, no_ways}
use Rattle.csp_steps.proofs.prefix.prefix_steps.Goals as goal

pub returns-then-are_blocked-clause-steps : goal.returns-then-are_blocked-clause-steps
returns-then-are_blocked-clause-steps c = record {
  same = ap (filled [] c.args.filling.now.start.now.first (tree_at c.args.pool.now c.args.filling.now.to)) (no_ways c.args.filling.now.program.now c.args.filling.now.start.now.sets.now c.args.fields.now (sym c.are_blocked.ensures ∙ c.if-are_blocked.true) [] 0) ∙
      ap (λ (ss : List StepTo). Ok (map (seen c.args.pool.now) ss)) (sym c.new-steps.ensures);
  within = ap (all_within (length c.args.pool.now)) c.new-steps.ensures;
}

pub turns-init : goal.turns-init
turns-init c = record {
  front = front_same c.args.pool.now;
  sound = begins_sound _ c.begin-walk.result c.begin-walk.ensures;
  sets = c.requires.sets;
  within = ap (all_within (length c.args.pool.now)) c.new-steps.ensures;
  moves = begins c.args.filling.now.program.now c.args.filling.now.start.now.first c.args.filling.now.to c.args.pool.now _ c.begin-walk.result c.new-steps.result c.begin-walk.ensures c.new-steps.ensures;
}

pub turn_on-requires-clause-to : goal.turn_on-requires-clause-to
turn_on-requires-clause-to c = still_within c.args.pool.now c.turns.pool c.turns.invariant.front c.args.filling.now.to c.requires.within
