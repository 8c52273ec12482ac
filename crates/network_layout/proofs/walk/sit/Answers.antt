use Rattle.network_layout.proofs.Prelude.{ap, arith, length, ◌<◌, ◌∙◌, union_of, component, place_of, pushed, MOST_COMPONENTS}
use Rattle.network_layout.proofs.Laid.{component_laid}
use Rattle.network_layout.proofs.walk.sit.Goals as goal

pub returns : goal.returns
returns c =
    let few : length c.args.seats.now < MOST_COMPONENTS = omega arith in
    component_laid (place_of c.args.scope.now) c.args.seats.now c.push_made.new.self c.args.alphabet.now c.args.process.now c.in_ok-union.field-0 few
    (pushed c.seat_of.result (component (place_of c.args.scope.now) c.args.alphabet.now c.args.process.now) c.args.seats.now c.push_made.new.self c.seat_of.ensures c.in_ok-push_made.ensures.ok)
    (c.in_ok-union.ensures.value ∙ ap (union_of c.args.alphabet.now) c.new.ensures)
