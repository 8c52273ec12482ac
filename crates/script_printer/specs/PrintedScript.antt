-- How a script is printed: one declaration a line, in their order.
use Rattle.std.specs.Prelude.{ℕ, List, [], ◌∷◌, ◌++◌, codes, flat_map}
use Rattle.csp_text.specs.declared.script.Decl.{Decl}
use Rattle.csp_text.specs.declared.script.Script.{Script}
use Rattle.csp_text.specs.declared.token.Symbol.TheVariants.{Colon, Dot, Defines, Comma, Bar, OpenParen, CloseParen, OpenBracket, CloseBracket}
use Rattle.csp_text.specs.declared.token.Token.{Token}
use Rattle.csp_text.specs.declared.token.Token.TheVariants.{Name, Word, Symbol}
use Rattle.csp_text.specs.declared.token.Word.TheVariants.{Assert, Channel, Datatype, Nametype}
use Rattle.csp_text.specs.declared.tree.Tree.{Tree}
use Rattle.csp_text.specs.declared.token.Token.TheVariants as token
use Rattle.csp_text.specs.declared.script.Decl.TheVariants as decl
use Rattle.script_printer.specs.PrintedTree.{operand_tokens, printed_tokens, separated}
use Rattle.script_printer.specs.TokenText.{line}

-- a, b, c with the sign between two names
unfoldable pub names_tokens : Token → List (List ℕ) → List Token
names_tokens sign names = separated (λ name. Name name ∷ []) sign names

-- the types of channels behind a colon, or nothing
unfoldable pub types_tokens : List Tree → List Token
types_tokens [] = []
types_tokens (a ∷ types) = Symbol Colon ∷ separated operand_tokens (Symbol Dot) (a ∷ types)

-- the parameters of a definition in parentheses, or nothing
unfoldable pub parameters_tokens : List (List ℕ) → List Token
parameters_tokens [] = []
parameters_tokens (x ∷ names) = Symbol OpenParen ∷ names_tokens (Symbol Comma) (x ∷ names) ++ Symbol CloseParen ∷ []

-- : [ deadlock free ]
abbrev pub deadlock_free_tokens : List Token
deadlock_free_tokens =
    Symbol Colon ∷ Symbol OpenBracket ∷ Name (codes "deadlock") ∷ Name (codes "free") ∷ Symbol CloseBracket ∷ []

-- the tokens of a declaration
abbrev pub decl_tokens : Decl → List Token
decl_tokens (decl.Channel names types) = Word Channel ∷ names_tokens (Symbol Comma) names ++ types_tokens types
decl_tokens (decl.Datatype d names) = Word Datatype ∷ Name d ∷ Symbol Defines ∷ names_tokens (Symbol Bar) names
decl_tokens (decl.Nametype x s) = Word Nametype ∷ Name x ∷ Symbol Defines ∷ operand_tokens s
decl_tokens (decl.Define f names t) = Name f ∷ parameters_tokens names ++ Symbol Defines ∷ printed_tokens t
decl_tokens (decl.Assert t) = Word Assert ∷ printed_tokens t ++ deadlock_free_tokens
decl_tokens (decl.Roles names) = token.Roles names ∷ []
decl_tokens (decl.Resource names) = token.Resource names ∷ []

-- the text of a script
unfoldable pub script_text : Script → List ℕ
script_text script = flat_map (λ d. line (decl_tokens d)) script.decls
