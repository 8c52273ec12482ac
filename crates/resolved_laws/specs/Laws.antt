-- The program of a faultless script is in order. Each list of a program is numbered by 32 bits, and that a script declares no more than they number
-- is no matter of its faults: it is asked for here.
use Rattle.std.specs.Prelude.{◌≡◌, ◌<◌, ◌^◌, None, Ok, List, length}
use Rattle.csp_program.specs.Prelude.{IsInOrder}
use Rattle.csp_program.specs.declared.programs.Content.{Content}
use Rattle.csp_text.specs.declared.script.Decl.{Decl}
use Rattle.script_names.specs.Prelude.{plain_content, AreKinds, resolved, name_fault}
use Rattle.script_names.specs.declared.kinds.Kind.{Kind}

-- channels, constants and definitions are no more than numbers of 32 bits number
pub record HasFew (p : Content) : Type 0 where
  pub channels : length p.channels < 2 ^ 32
  pub consts : length p.consts < 2 ^ 32
  pub defs : length p.defs < 2 ^ 32

-- what faultless declarations put into a program is in order while channels have no field sets
abbrev pub PlainIsInOrder : Type 0
PlainIsInOrder =
    (decls : List Decl) (kinds : List Kind) → AreKinds decls kinds → name_fault decls kinds ≡ None →
    HasFew (plain_content decls kinds) → IsInOrder (plain_content decls kinds)

-- and so is the program
abbrev pub ResolvedIsInOrder : Type 0
ResolvedIsInOrder =
    (decls : List Decl) (kinds : List Kind) (p : Content) → AreKinds decls kinds → resolved decls kinds ≡ Ok p → HasFew (plain_content decls kinds) → IsInOrder p
