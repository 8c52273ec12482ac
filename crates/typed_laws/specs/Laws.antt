-- The rules of typing give a script a program exactly where the functions do that tell its faults in order.
use Rattle.std.specs.Prelude.{◌≡◌, Ok, List}
use Rattle.csp_program.specs.declared.programs.Content.{Content}
use Rattle.csp_text.specs.declared.script.Script.{Script}
use Rattle.script_names.specs.Prelude.{AreKinds, IsProgram, resolved}
use Rattle.script_names.specs.declared.kinds.Kind.{Kind}

-- what the functions give is the program by the rules
abbrev pub ResolvedIsProgram : Type 0
ResolvedIsProgram = (script : Script) (kinds : List Kind) (p : Content) → AreKinds script.decls kinds → resolved script.decls kinds ≡ Ok p → IsProgram script p

-- and the functions give each such program
abbrev pub ProgramIsResolved : Type 0
ProgramIsResolved = (script : Script) (p : Content) (is : IsProgram script p) → resolved script.decls is.kinds ≡ Ok p
