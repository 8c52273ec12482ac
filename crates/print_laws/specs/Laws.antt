-- The laws of the printed text.
use Rattle.std.specs.Prelude.{◌≡◌, ℕ, List, flat_map}
use Rattle.csp_text.specs.declared.script.Script.{Script}
use Rattle.csp_text.specs.declared.token.Token.{Token}
use Rattle.csp_lexer.specs.Cut.{Cut}
use Rattle.csp_grammar.specs.Declarations.{ScriptText}
use Rattle.script_printer.specs.PrintedScript.{decl_tokens, script_text}
use Rattle.print_laws.specs.Fits.{Every, Fits}
use Rattle.print_laws.specs.Lines.{Lines, outside}

-- the tokens of the lines of a printed script
abbrev pub script_tokens : Script → List Token
script_tokens script = flat_map decl_tokens script.decls

-- the printed tokens of each script that some tokens spell are a text of it
abbrev pub PrintedTokensAreAText : Type 0
PrintedTokensAreAText = (tokens : List Token) (script : Script) → ScriptText tokens script → ScriptText (script_tokens script) script

-- Each token that is found in a text fits, and on the lines of assertions each bracket is a token by itself.
abbrev pub FoundTokensAreWellFormed : Type 0
FoundTokensAreWellFormed = (text : List ℕ) (tokens : List Token) → Cut text tokens → Every Fits tokens × Lines outside tokens

-- where a text spells a script, the printed text of that script spells it too
abbrev pub PrintedTextSpellsTheScript : Type 0
PrintedTextSpellsTheScript = (text : List ℕ) (tokens : List Token) (script : Script) → Cut text tokens → ScriptText tokens script →
    (again : List Token) × Cut (script_text script) again × ScriptText again script

-- and no other script
abbrev pub PrintedTextSpellsNoOther : Type 0
PrintedTextSpellsNoOther = (text : List ℕ) (tokens : List Token) (script : Script) → Cut text tokens → ScriptText tokens script →
    (again : List Token) (other : Script) → Cut (script_text script) again → ScriptText again other → other ≡ script
