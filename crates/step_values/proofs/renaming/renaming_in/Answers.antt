use Rattle.step_values.proofs.Prelude.{Ok, Err, ap, gathering_of}
use Rattle.step_values.proofs.Walking.{value_of_tally, whole_walk}
use Rattle.step_values.proofs.renaming.renaming_in.Goals as goal

pub returns-in_err-tally : goal.returns-in_err-tally
returns-in_err-tally c =
    value_of_tally _ _ _ _ c.from_residual.ensures.1 c.in_err-tally.ensures
    (λ k e. whole_walk c.args.program.now c.args.pairs.now c.args.gens.now (record { bindings = 0; renamed = c.new-renamed.result }) (Err k) (ap (λ rs. record { bindings = 0; renamed = rs }) c.new-renamed.ensures) e)

pub returns : goal.returns
returns c =
    whole_walk c.args.program.now c.args.pairs.now c.args.gens.now (record { bindings = 0; renamed = c.new-renamed.result }) (Ok (gathering_of c.in_ok-tally.tally)) (ap (λ rs. record { bindings = 0; renamed = rs }) c.new-renamed.ensures)
    c.in_ok-tally.ensures
