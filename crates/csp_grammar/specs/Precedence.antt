-- How tightly the operators of expressions bind (Aho, Sethi, Ullman 1986, section 2.2; Scattergood and Armstrong, CSPm). One level a row of the table,
-- from the loosest to the tightest. The operators of a level other than a comparison associate to the left, and comparisons do not associate.
use Rattle.csp_text.specs.declared.token.Token.{Token}
use Rattle.csp_text.specs.declared.token.Token.TheVariants as token
use Rattle.csp_text.specs.declared.token.Word.TheVariants as word
use Rattle.csp_text.specs.declared.token.Symbol.TheVariants as symbol
use Rattle.csp_base.specs.declared.operators.BinOp.{BinOp}
use Rattle.csp_base.specs.declared.operators.BinOp.TheVariants.{Or, And, Eq, Ne, Lt, Le, Gt, Ge, Add, Sub, Mul, Div, Rem}

pub data Level : Type 0 where
  -- `or`
  disjunction : Level
  -- `and`
  conjunction : Level
  -- `not`
  negation : Level
  -- `==`, `<` and their kin
  comparison : Level
  -- `+` and `-` between operands
  sum : Level
  -- `*`, `/` and `%`
  product : Level
  -- `-` before an operand
  minus : Level
  -- `[[ ]]` behind an operand
  renaming : Level

-- each level with the one that binds next tighter
pub data IsNext : Level → Level → Type 0 where
  disjunction-conjunction : IsNext disjunction conjunction
  conjunction-negation : IsNext conjunction negation
  negation-comparison : IsNext negation comparison
  comparison-sum : IsNext comparison sum
  sum-product : IsNext sum product
  product-minus : IsNext product minus
  minus-renaming : IsNext minus renaming

-- the operators that associate to the left: their levels, and how they are written
pub data IsLeftOperator : Level → Token → BinOp → Type 0 where
  or : IsLeftOperator disjunction (token.Word word.Or) Or
  and : IsLeftOperator conjunction (token.Word word.And) And
  plus : IsLeftOperator sum (token.Symbol symbol.Plus) Add
  minus-sign : IsLeftOperator sum (token.Symbol symbol.Minus) Sub
  star : IsLeftOperator product (token.Symbol symbol.Star) Mul
  slash : IsLeftOperator product (token.Symbol symbol.Slash) Div
  percent : IsLeftOperator product (token.Symbol symbol.Percent) Rem

-- the comparisons, and how they are written
pub data IsComparison : Token → BinOp → Type 0 where
  equal : IsComparison (token.Symbol symbol.Equal) Eq
  not-equal : IsComparison (token.Symbol symbol.NotEqual) Ne
  less : IsComparison (token.Symbol symbol.Less) Lt
  less-equal : IsComparison (token.Symbol symbol.LessEqual) Le
  greater : IsComparison (token.Symbol symbol.Greater) Gt
  greater-equal : IsComparison (token.Symbol symbol.GreaterEqual) Ge
