use Rattle.csp_values.proofs.Prelude.{◌≡◌, drop, bind}
use Rattle.csp_values.proofs.reads.is_bound.Given as goal

-- none of the generators that were passed binds the name
abbrev pub invariant-loop-generator : goal.invariant-loop-generator
invariant-loop-generator l = bind l.gens l.name ≡ bind (drop l.generator-index l.gens) l.name
