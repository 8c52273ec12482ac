use Rattle.typed_laws.proofs.Programs.{faultless_is_program, program_resolves}
use Rattle.typed_laws.proofs.programs_are_typed.Goals as goal

pub returns-clause-given : goal.returns-clause-given
returns-clause-given c = faultless_is_program

pub returns-clause-resolved : goal.returns-clause-resolved
returns-clause-resolved c = program_resolves
