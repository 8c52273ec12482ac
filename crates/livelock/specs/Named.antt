-- The set of hidden events: the value of a definition of data without parameters.
use Rattle.std.specs.Prelude.{◌≡◌, ℕ, Bool, ◌&&◌, Option, Some, None, Ok, List, [], ◌∷◌}
use Rattle.csp_base.specs.Standard.{find, is_some, option_and_then, bytes_eq}
use Rattle.csp_program.specs.declared.expressions.Expr.{Expr}
use Rattle.csp_program.specs.declared.programs.Body.{Body}
use Rattle.csp_program.specs.declared.programs.Content.{Content}
use Rattle.csp_program.specs.declared.programs.Def.{Def}
use Rattle.csp_program.specs.declared.programs.Body.TheVariants as body
use Rattle.process_steps.specs.Needed.{events_in}

-- the expression of a body that is data, where there are no parameters
abbrev pub datum_of : List ℕ → Body → Option Expr
datum_of [] (body.Datum e) = Some e
datum_of [] (body.Nametype e) = None
datum_of [] (body.Datatype ks) = None
datum_of [] (body.Process q) = None
datum_of [] (body.Network n) = None
datum_of (x ∷ xs) b = None

abbrev pub datum : Def → Option Expr
datum def = datum_of def.params def.body

-- whether a definition is data without parameters, and has the name
abbrev pub is_data_named : List ℕ → Def → Bool
is_data_named name def = bytes_eq def.name name && is_some (datum def)

-- the expression of the first such definition
abbrev pub data_among : List Def → List ℕ → Option Expr
data_among defs name = option_and_then datum (find (is_data_named name) defs)

abbrev pub data_named : Content → List ℕ → Option Expr
data_named p name = data_among p.defs name

-- the name stands for this set of events
pub record IsSetNamed (p : Content) (name events : List ℕ) : Type 0 where
  pub expr : Expr
  pub named : data_named p name ≡ Some expr
  pub value : events_in p expr ≡ Ok events
