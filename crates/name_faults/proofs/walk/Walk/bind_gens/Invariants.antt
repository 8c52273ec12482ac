use Rattle.name_faults.proofs.Prelude.{◌≡◌, take, under_gens}
use Rattle.name_faults.proofs.walk.Walk.bind_gens.Given as goal

abbrev pub invariant-loop-generator : goal.invariant-loop-generator
invariant-loop-generator l = l.self ≡ record l.initial.self { bound = under_gens l.initial.self.names (take l.generator-index l.gens) l.initial.self.bound }
