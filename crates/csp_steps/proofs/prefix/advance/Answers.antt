use Rattle.csp_steps.proofs.Walking.{popped_under, turned_to_end, turned_to_value}
use Rattle.csp_steps.proofs.prefix.advance.Goals as goal

pub take-requires : goal.take-requires
take-requires c =
    popped_under c.args.walk.now c.pop.new.walk c.in-Some-pop.frame c.requires.sound c.in-Some-pop.ensures.frames c.in-Some-pop.ensures.values (c.in-Some-pop.ensures.names c.requires.sound.names)

pub returns-in_ok-take-in-Some-pop-clause-turned : goal.returns-in_ok-take-in-Some-pop-clause-turned
returns-in_ok-take-in-Some-pop-clause-turned c =
    turned_to_value c.args.filling.now.program.now c.args.walk.now c.take.new.walk c.pop.new.walk c.in-Some-pop.frame c.requires.sound c.in_default.is c.in-Some-pop.ensures.frames c.in-Some-pop.ensures.values
    (c.in-Some-pop.ensures.names c.requires.sound.names) c.in_ok-take-in-Some-pop.ensures

pub returns-in-None-clause-turned : goal.returns-in-None-clause-turned
returns-in-None-clause-turned c = turned_to_end c.args.filling.now.program.now c.args.walk.now c.args.walk.now c.in_default.is c.in-None.ensures
