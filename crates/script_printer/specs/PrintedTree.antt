-- How a tree is printed: its tokens. One fold over the tree, in which the printed parts of a tree stand in their places.
--
-- An operand that is no atom is put in parentheses. Operands are the parts of every operator, of every choice and of `;`, the bodies of prefixes
-- and guards, what is hidden in or renamed, the two processes of a parallel, fields, conditions, sets, alphabets, types and bounds. An item of a
-- list or of a set operation is the same, but a dotted event has no parentheses there. The two parts of an `if` and the bodies of replicated forms
-- have none.
use Rattle.std.specs.Prelude.{ℕ, Some, None, List, [], ◌∷◌, ◌++◌, flat_map}
use Rattle.std.specs.List.{join_by}
use Rattle.csp_text.specs.Prelude.{set_op_word}
use Rattle.csp_text.specs.declared.token.Symbol.TheVariants.{Arrow, ExternalChoice, InternalChoice, Parallel, OpenRename, CloseRename, OpenProduct, CloseProduct, LeftArrow, DotDot, Dot, Bang, Question, Colon, At, Minus, OpenParen, CloseParen, OpenBrace, CloseBrace, OpenBracket, CloseBracket, Comma, Ampersand, Bar, Backslash, Semicolon}
use Rattle.csp_text.specs.declared.token.Token.{Token}
use Rattle.csp_text.specs.declared.token.Token.TheVariants.{Name, Num, Word, Symbol}
use Rattle.csp_text.specs.declared.tree.EventTree.{EventTree}
use Rattle.csp_text.specs.declared.tree.FieldTree.{FieldTree, fold-FieldTree}
use Rattle.csp_text.specs.declared.tree.FieldTree.TheFolds.{fold-GenTree, fold-Tree, fold-EventTree, fold-PartTree}
use Rattle.csp_text.specs.declared.tree.FieldTree.TheOpen.{FieldTree-F, GenTree-F, Tree-F, EventTree-F, PartTree-F}
use Rattle.csp_text.specs.declared.tree.GenTree.{GenTree}
use Rattle.csp_text.specs.declared.tree.PartTree.{PartTree}
use Rattle.csp_text.specs.declared.tree.Tree.{Tree}
use Rattle.csp_text.specs.declared.token.Word.TheVariants as word
use Rattle.csp_text.specs.declared.token.Symbol.TheVariants as symbol
use Rattle.csp_base.specs.declared.operators.BinOp.{BinOp}
use Rattle.csp_base.specs.declared.operators.SetOp.{SetOp}
use Rattle.csp_base.specs.declared.operators.BinOp.TheVariants as op
use Rattle.script_printer.specs.declared.shape.Shape.{Shape}
use Rattle.script_printer.specs.declared.shape.Shape.TheVariants.{Atom, Dotted, Compound}

-- a printed tree: its tokens, and whether they need parentheses
pub record Printed : Type 0 where
  pub shape : Shape
  pub tokens : List Token

abbrev pub in_parentheses : List Token → List Token
in_parentheses tokens = Symbol OpenParen ∷ tokens ++ Symbol CloseParen ∷ []

-- tokens of this shape as an operand
abbrev pub as_operand : Shape → List Token → List Token
as_operand Atom tokens = tokens
as_operand Dotted tokens = in_parentheses tokens
as_operand Compound tokens = in_parentheses tokens

-- tokens of this shape as an item
abbrev pub as_item : Shape → List Token → List Token
as_item Atom tokens = tokens
as_item Dotted tokens = tokens
as_item Compound tokens = in_parentheses tokens

abbrev pub operand : Printed → List Token
operand printed = as_operand printed.shape printed.tokens

abbrev pub item : Printed → List Token
item printed = as_item printed.shape printed.tokens

-- how an operator between two operands is written
abbrev pub operator_token : BinOp → Token
operator_token op.Or = Word word.Or
operator_token op.And = Word word.And
operator_token op.Eq = Symbol symbol.Equal
operator_token op.Ne = Symbol symbol.NotEqual
operator_token op.Lt = Symbol symbol.Less
operator_token op.Le = Symbol symbol.LessEqual
operator_token op.Gt = Symbol symbol.Greater
operator_token op.Ge = Symbol symbol.GreaterEqual
operator_token op.Add = Symbol symbol.Plus
operator_token op.Sub = Symbol symbol.Minus
operator_token op.Mul = Symbol symbol.Star
operator_token op.Div = Symbol symbol.Slash
operator_token op.Rem = Symbol symbol.Percent

-- what is shown of each, with a sign between two
abbrev pub separated : {X : Type 0} → (X → List Token) → Token → List X → List Token
separated shown sign xs = join_by shown (sign ∷ []) xs

-- .a.b: each with a dot before it
abbrev pub dotted : {X : Type 0} → (X → List Token) → List X → List Token
dotted shown xs = flat_map (λ x. Symbol Dot ∷ shown x) xs

-- generators behind a bar, or nothing
abbrev pub conditions : {X : Type 0} → (X → List Token) → List X → List Token
conditions shown [] = []
conditions shown (g ∷ gens) = Symbol Bar ∷ separated shown (Symbol Comma) (g ∷ gens)

-- x:S, the bound name of a replicated form and its set
abbrev pub bound_in : List ℕ → List Token → List Token
bound_in x set = Name x ∷ Symbol Colon ∷ set

-- c <- d
abbrev pub pair_tokens : List Token × List Token → List Token
pair_tokens pair = pair.0 ++ Symbol LeftArrow ∷ pair.1

abbrev pub atom : List Token → Printed
atom tokens = record { shape = Atom; tokens = tokens }

abbrev pub compound : List Token → Printed
compound tokens = record { shape = Compound; tokens = tokens }

-- how a form is printed whose parts are: a tree as an operand, as an item or bare, and what is no tree
module _ {F G T E P : Type 0} (operand item bare : T → List Token) (condition : G → List Token) (event : E → List Token) (part : P → List Token) (pair : P × P → List Token) where
  abbrev pub form_printed : Tree-F F G T E P → Printed
  form_printed Tree-F.Stop = atom (Word word.Stop ∷ [])
  form_printed Tree-F.Skip = atom (Word word.Skip ∷ [])
  form_printed (Tree-F.Num n) = atom (Num n ∷ [])
  form_printed Tree-F.True = atom (Word word.True ∷ [])
  form_printed Tree-F.False = atom (Word word.False ∷ [])
  form_printed (Tree-F.Name x) = atom (Name x ∷ [])
  form_printed (Tree-F.Call f items) =
      atom (Name f ∷ Symbol OpenParen ∷ separated item (Symbol Comma) items ++ Symbol CloseParen ∷ [])
  form_printed (Tree-F.«Tree::Dot» c fields) = record { shape = Dotted; tokens = Name c ∷ dotted operand fields }
  form_printed (Tree-F.Neg a) = compound (Symbol Minus ∷ operand a)
  form_printed (Tree-F.Not a) = compound (Word word.Not ∷ operand a)
  form_printed (Tree-F.Binary op a b) = compound (operand a ++ operator_token op ∷ operand b)
  form_printed (Tree-F.If c a b) =
      compound (Word word.If ∷ operand c ++ Word word.Then ∷ bare a ++ Word word.Else ∷ bare b)
  form_printed (Tree-F.Display items) =
      atom (Symbol OpenBrace ∷ separated item (Symbol Comma) items ++ Symbol CloseBrace ∷ [])
  form_printed (Tree-F.Range a b) =
      atom (Symbol OpenBrace ∷ operand a ++ Symbol DotDot ∷ operand b ++ Symbol CloseBrace ∷ [])
  form_printed (Tree-F.Comp items gens) =
      atom (Symbol OpenBrace ∷ separated item (Symbol Comma) items
      ++ Symbol Bar ∷ separated condition (Symbol Comma) gens ++ Symbol CloseBrace ∷ [])
  form_printed (Tree-F.Product parts gens) =
      atom (Symbol OpenProduct ∷ separated part (Symbol Comma) parts
      ++ conditions condition gens ++ Symbol CloseProduct ∷ [])
  form_printed (Tree-F.SetOp op a b) =
      atom (set_op_word op ∷ Symbol OpenParen ∷ item a ++ Symbol Comma ∷ item b ++ Symbol CloseParen ∷ [])
  form_printed (Tree-F.Prefix e p) = compound (event e ++ Symbol Arrow ∷ operand p)
  form_printed (Tree-F.Guard c p) = compound (operand c ++ Symbol Ampersand ∷ operand p)
  form_printed (Tree-F.External ps) = compound (separated operand (Symbol ExternalChoice) ps)
  form_printed (Tree-F.Internal ps) = compound (separated operand (Symbol InternalChoice) ps)
  form_printed (Tree-F.EachExternal x s p) =
      compound (Symbol ExternalChoice ∷ bound_in x (operand s) ++ Symbol At ∷ bare p)
  form_printed (Tree-F.EachInternal x s p) =
      compound (Symbol InternalChoice ∷ bound_in x (operand s) ++ Symbol At ∷ bare p)
  form_printed (Tree-F.Parallel p a b q) =
      compound (operand p ++ Symbol OpenBracket ∷ operand a ++ Symbol Parallel ∷ operand b ++ Symbol CloseBracket ∷ operand q)
  form_printed (Tree-F.EachParallel x s a p) =
      compound (Symbol Parallel ∷ bound_in x (operand s)
      ++ Symbol At ∷ Symbol OpenBracket ∷ operand a ++ Symbol CloseBracket ∷ bare p)
  form_printed (Tree-F.Seq p q) = compound (operand p ++ Symbol Semicolon ∷ operand q)
  form_printed (Tree-F.Hide p s) = compound (operand p ++ Symbol Backslash ∷ operand s)
  form_printed (Tree-F.Rename p pairs gens) =
      compound (operand p ++ Symbol OpenRename ∷ separated pair (Symbol Comma) pairs
      ++ conditions condition gens ++ Symbol CloseRename ∷ [])

-- one layer of a tree, with its printed parts in their places
abbrev pub tree_layer_printed : Tree-F (List Token) (List Token) Printed (List Token) (List Token) → Printed
tree_layer_printed d = form_printed operand item (λ p. p.tokens) (λ tokens. tokens) (λ tokens. tokens) (λ tokens. tokens) pair_tokens d

-- .a, !a, ?x and ?x:S
abbrev pub field_layer_printed : FieldTree-F (List Token) (List Token) Printed (List Token) (List Token) → List Token
field_layer_printed (FieldTree-F.«FieldTree::Dot» a) = Symbol Dot ∷ operand a
field_layer_printed (FieldTree-F.Output a) = Symbol Bang ∷ operand a
field_layer_printed (FieldTree-F.Input x (Some s)) = Symbol Question ∷ bound_in x (operand s)
field_layer_printed (FieldTree-F.Input x None) = Symbol Question ∷ Name x ∷ []

-- x <- S, or a condition
abbrev pub gen_layer_printed : GenTree-F (List Token) (List Token) Printed (List Token) (List Token) → List Token
gen_layer_printed (GenTree-F.From x s) = Name x ∷ Symbol LeftArrow ∷ operand s
gen_layer_printed (GenTree-F.Cond c) = operand c

-- a channel and the fields of a prefix
abbrev pub event_layer_printed : EventTree-F (List Token) (List Token) Printed (List Token) (List Token) → List Token
event_layer_printed event = Name event.name ∷ flat_map (λ tokens. tokens) event.fields

-- a channel and some of its fields
abbrev pub part_layer_printed : PartTree-F (List Token) (List Token) Printed (List Token) (List Token) → List Token
part_layer_printed part = Name part.name ∷ dotted operand part.fields

unfoldable pub printed : Tree → Printed
printed = fold-Tree (List Token) (List Token) Printed (List Token) (List Token) field_layer_printed gen_layer_printed tree_layer_printed event_layer_printed part_layer_printed

unfoldable pub field_tokens : FieldTree → List Token
field_tokens = fold-FieldTree (List Token) (List Token) Printed (List Token) (List Token) field_layer_printed gen_layer_printed tree_layer_printed event_layer_printed part_layer_printed

unfoldable pub gen_tokens : GenTree → List Token
gen_tokens = fold-GenTree (List Token) (List Token) Printed (List Token) (List Token) field_layer_printed gen_layer_printed tree_layer_printed event_layer_printed part_layer_printed

unfoldable pub event_tokens : EventTree → List Token
event_tokens = fold-EventTree (List Token) (List Token) Printed (List Token) (List Token) field_layer_printed gen_layer_printed tree_layer_printed event_layer_printed part_layer_printed

unfoldable pub part_tokens : PartTree → List Token
part_tokens = fold-PartTree (List Token) (List Token) Printed (List Token) (List Token) field_layer_printed gen_layer_printed tree_layer_printed event_layer_printed part_layer_printed

-- the tokens of a tree that stands bare
unfoldable pub printed_tokens : Tree → List Token
printed_tokens t = (printed t).tokens

unfoldable pub shape_of : Tree → Shape
shape_of t = (printed t).shape

-- the tokens of a tree that is an operand, and of one that is an item
unfoldable pub operand_tokens : Tree → List Token
operand_tokens t = as_operand (shape_of t) (printed_tokens t)

unfoldable pub item_tokens : Tree → List Token
item_tokens t = as_item (shape_of t) (printed_tokens t)

-- the tokens of a pair of a renaming
unfoldable pub renamed_tokens : PartTree × PartTree → List Token
renamed_tokens pair = part_tokens pair.0 ++ Symbol LeftArrow ∷ part_tokens pair.1

-- a form whose parts are trees
abbrev pub form : Tree-F FieldTree GenTree Tree EventTree PartTree → Printed
form d = form_printed operand_tokens item_tokens printed_tokens gen_tokens event_tokens part_tokens renamed_tokens d

abbrev pub form_tokens : Tree-F FieldTree GenTree Tree EventTree PartTree → List Token
form_tokens d = (form d).tokens
