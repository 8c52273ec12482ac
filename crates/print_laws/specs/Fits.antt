-- What the lexer knows of the tokens of a text: names are names, and numbers are at most a million.
use Rattle.std.specs.Prelude.{◌≡◌, ℕ, ◌≤◌, Bool, true, false, List, [], ◌∷◌}
use Rattle.csp_text.specs.declared.token.ResourceNames.{ResourceNames}
use Rattle.csp_text.specs.declared.token.RolesNames.{RolesNames}
use Rattle.csp_text.specs.declared.token.Token.{Token}
use Rattle.csp_text.specs.declared.token.Word.TheVariants.{Assert}
use Rattle.csp_text.specs.declared.token.Word.{Word}
use Rattle.csp_text.specs.declared.token.Token.TheVariants as token
use Rattle.csp_lexer.specs.Lexemes.{is_single}
use Rattle.csp_lexer.specs.WordTokens.{is_name}
use Rattle.dl_limits.specs.declared.TheConstants.{GREATEST_NUMBER}

-- each of the tokens has the fact
abbrev pub Every : (Token → Type 0) → List Token → Type 0
Every P [] = Unit {0}
Every P (t ∷ ts) = P t × Every P ts

abbrev pub IsName : List ℕ → Type 0
IsName x = is_name x ≡ true

-- the names of an annotation
pub record AreRoles (names : RolesNames) : Type 0 where
  pub process : IsName names.process
  pub creq : IsName names.creq
  pub cack : IsName names.cack
  pub sreq : IsName names.sreq
  pub sack : IsName names.sack

pub record AreResource (names : ResourceNames) : Type 0 where
  pub process : IsName names.process
  pub acquire : IsName names.acquire
  pub release : IsName names.release

-- a token of a text
abbrev pub Fits : Token → Type 0
Fits (token.Name x) = IsName x
Fits (token.Num n) = n ≤ GREATEST_NUMBER
Fits (token.Word w) = Unit {0}
Fits (token.Symbol s) = Unit {0}
Fits (token.Roles names) = AreRoles names
Fits (token.Resource names) = AreResource names

-- a token on the line of an assertion
abbrev pub FitsLine : Token → Type 0
FitsLine (token.Name x) = IsName x
FitsLine (token.Num n) = n ≤ GREATEST_NUMBER
FitsLine (token.Word w) = Unit {0}
FitsLine (token.Symbol s) = is_single s ≡ true
FitsLine (token.Roles names) = ⊥
FitsLine (token.Resource names) = ⊥

-- the word begins no assertion
abbrev pub is_common : Word → Bool
is_common Assert = false
is_common _ = true
