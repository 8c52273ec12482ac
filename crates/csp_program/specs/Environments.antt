-- Environments as code keeps them: names with atoms, the last one bound at the end.
use Rattle.std.specs.Prelude.{ℕ, List, [], ◌∷◌}
use Rattle.csp_atoms.specs.declared.atom.Atom.{Atom}
use Rattle.csp_atoms.specs.declared.value.Value.TheVariants.{One}
use Rattle.csp_program.specs.Value.{Env}

-- the names of the list over others
abbrev pub with_bound : List (ℕ × Atom) → Env → Env
with_bound [] env = env
with_bound (b ∷ bs) env = with_bound bs ((b.0, One b.1) ∷ env)
