-- How reports tell which of the texts that a request names is meant.
use Rattle.std.specs.Prelude.{ℕ, List, [], codes}
use Rattle.csp_base.specs.Texts.{line}
use Rattle.report.specs.declared.answer.Side.{Side}
use Rattle.report.specs.declared.answer.Side.TheVariants as side

abbrev pub side_name : Side → List ℕ
side_name side.Script = codes "script"
side_name side.Specification = codes "specification"

-- the line before the reason of a refusal: of a script there is none
abbrev pub side_line : Side → List ℕ
side_line side.Script = []
side_line side.Specification = line (codes "in the specification")
