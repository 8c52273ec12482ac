use Rattle.substitution.proofs.Prelude.{◌≡◌, drop, given_by, past}
use Rattle.substitution.proofs.fields.pass_gens.Given as goal

-- what the rest leaves of the values is what all leave
abbrev pub invariant-loop-generator : goal.invariant-loop-generator
invariant-loop-generator l = past (drop l.generator-index l.gens) (given_by l.values) ≡ past l.gens (given_by l.fn.values)
