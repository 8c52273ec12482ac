-- The reserved words and the symbols of the language, and how each is written.
use Rattle.std.specs.Prelude.{ℕ, Bool, List, [], ◌∷◌, codes}
use Rattle.std.specs.Str.{bytes_eq}
use Rattle.csp_base.specs.declared.operators.SetOp.{SetOp}
use Rattle.csp_base.specs.declared.operators.SetOp.TheVariants as set_op
use Rattle.csp_text.specs.declared.token.Token.{Token}
use Rattle.csp_text.specs.declared.token.Token.TheVariants as token
use Rattle.csp_text.specs.declared.token.Word.{Word}
use Rattle.csp_text.specs.declared.token.Word.TheVariants.{And, Assert, Channel, Datatype, Diff, Else, False, If, Inter, Nametype, Not, Or, Then, True, Union, Stop, Skip}
use Rattle.csp_text.specs.declared.token.Symbol.{Symbol}
use Rattle.csp_text.specs.declared.token.Symbol.TheVariants.{Arrow, ExternalChoice, InternalChoice, Parallel, OpenRename, CloseRename, OpenProduct, CloseProduct, LeftArrow, DotDot, Dot, Bang, Question, Colon, At, Defines, Equal, NotEqual, Less, LessEqual, Greater, GreaterEqual, Plus, Minus, Star, Slash, Percent, OpenParen, CloseParen, OpenBrace, CloseBrace, OpenBracket, CloseBracket, Comma, Ampersand, Bar, Backslash, Semicolon}

abbrev pub word_text : Word → List ℕ
word_text And = codes "and"
word_text Assert = codes "assert"
word_text Channel = codes "channel"
word_text Datatype = codes "datatype"
word_text Diff = codes "diff"
word_text Else = codes "else"
word_text False = codes "false"
word_text If = codes "if"
word_text Inter = codes "inter"
word_text Nametype = codes "nametype"
word_text Not = codes "not"
word_text Or = codes "or"
word_text Then = codes "then"
word_text True = codes "true"
word_text Union = codes "union"
word_text Stop = codes "STOP"
word_text Skip = codes "SKIP"

abbrev pub symbol_text : Symbol → List ℕ
symbol_text Arrow = codes "->"
symbol_text ExternalChoice = codes "[]"
symbol_text InternalChoice = codes "|~|"
symbol_text Parallel = codes "||"
symbol_text OpenRename = codes "[["
symbol_text CloseRename = codes "]]"
symbol_text OpenProduct = codes "{|"
symbol_text CloseProduct = codes "|}"
symbol_text LeftArrow = codes "<-"
symbol_text DotDot = codes ".."
symbol_text Dot = codes "."
symbol_text Bang = codes "!"
symbol_text Question = codes "?"
symbol_text Colon = codes ":"
symbol_text At = codes "@"
symbol_text Defines = codes "="
symbol_text Equal = codes "=="
symbol_text NotEqual = codes "!="
symbol_text Less = codes "<"
symbol_text LessEqual = codes "<="
symbol_text Greater = codes ">"
symbol_text GreaterEqual = codes ">="
symbol_text Plus = codes "+"
symbol_text Minus = codes "-"
symbol_text Star = codes "*"
symbol_text Slash = codes "/"
symbol_text Percent = codes "%"
symbol_text OpenParen = codes "("
symbol_text CloseParen = codes ")"
symbol_text OpenBrace = codes "{"
symbol_text CloseBrace = codes "}"
symbol_text OpenBracket = codes "["
symbol_text CloseBracket = codes "]"
symbol_text Comma = codes ","
symbol_text Ampersand = codes "&"
symbol_text Bar = codes "|"
symbol_text Backslash = 92 ∷ []
symbol_text Semicolon = codes ";"

-- the words that the language reserves
abbrev pub words : List Word
words =
    And ∷ Assert ∷ Channel ∷ Datatype ∷ Diff ∷ Else ∷ False ∷ If ∷ Inter ∷ Nametype ∷ Not ∷ Or ∷ Then ∷ True ∷ Union
    ∷ Stop ∷ Skip ∷ []

-- all symbols, longer ones first
abbrev pub symbols : List Symbol
symbols =
    InternalChoice ∷ Arrow ∷ DotDot ∷ ExternalChoice ∷ Parallel ∷ OpenRename ∷ CloseRename ∷ OpenProduct ∷ CloseProduct ∷ LeftArrow
    ∷ Equal ∷ NotEqual ∷ LessEqual ∷ GreaterEqual
    ∷ Defines ∷ Dot ∷ OpenBrace ∷ Bar ∷ OpenBracket ∷ CloseBracket ∷ Bang ∷ Less ∷ Greater ∷ Minus
    ∷ Question ∷ Colon ∷ At ∷ Plus ∷ Star ∷ Slash ∷ Percent ∷ OpenParen ∷ CloseParen ∷ CloseBrace ∷ Comma ∷ Ampersand
    ∷ Backslash ∷ Semicolon ∷ []

-- whether two words, and two symbols, are one: those that are written alike
abbrev pub same_word : Word → Word → Bool
same_word w v = bytes_eq (word_text w) (word_text v)

abbrev pub same_symbol : Symbol → Symbol → Bool
same_symbol s u = bytes_eq (symbol_text s) (symbol_text u)

-- the word of an operation on two sets
abbrev pub set_op_word : SetOp → Token
set_op_word set_op.Union = token.Word Union
set_op_word set_op.Inter = token.Word Inter
set_op_word set_op.Diff = token.Word Diff
