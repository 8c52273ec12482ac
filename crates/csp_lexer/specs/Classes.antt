-- Classes of bytes, for private contracts.
use Rattle.std.specs.Prelude.{ℕ, Bool, not, nat_eq}
use Rattle.csp_lexer.specs.Words.{is_digit, is_name_byte}
use Rattle.csp_lexer.specs.WordTokens.{is_prime}
use Rattle.csp_lexer.specs.declared.classes.Class.{Class}
use Rattle.csp_lexer.specs.declared.classes.Class.TheVariants as class

-- the test of a byte of the class
abbrev pub is_of : Class → ℕ → Bool
is_of class.Name b = is_name_byte b
is_of class.Prime b = is_prime b
is_of class.Digit b = is_digit b
is_of class.Line b = not (nat_eq b 10)
