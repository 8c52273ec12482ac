-- What a text spells: it is cut into tokens, and they are a text of the script.
use Rattle.std.specs.Prelude.{◌≡◌, ℕ, List}
use Rattle.csp_lexer.specs.Cut.{Cut}
use Rattle.csp_text.specs.declared.script.Script.{Script}
use Rattle.csp_text.specs.declared.token.Token.{Token}
use Rattle.csp_grammar.specs.Declarations.{ScriptText}

pub record Spells (text : List ℕ) (script : Script) : Type 0 where
  pub tokens : List Token
  pub cut : Cut text tokens
  pub spelled : ScriptText tokens script

-- a text spells at most one script
abbrev pub EachTextSpellsOneScript : Type 0
EachTextSpellsOneScript = (text : List ℕ) (s t : Script) → Spells text s → Spells text t → s ≡ t
