-- What the first tokens of a text say of what is to be read.
use Rattle.std.specs.Prelude.{ℕ, Bool, false, ◌&&◌, if◌then◌else◌, Option, Some, None, List, [], ◌∷◌}
use Rattle.csp_text.specs.Prelude.{same_symbol, same_word}
use Rattle.csp_text.specs.declared.token.Symbol.{Symbol}
use Rattle.csp_text.specs.declared.token.Token.{Token}
use Rattle.csp_text.specs.declared.tree.EventTree.{EventTree}
use Rattle.csp_text.specs.declared.tree.FieldTree.{FieldTree}
use Rattle.csp_text.specs.declared.tree.FieldTree.TheOpen.{FieldTree-F}
use Rattle.csp_text.specs.declared.tree.FieldTree.TheViews.{out-FieldTree}
use Rattle.csp_text.specs.declared.tree.GenTree.{GenTree}
use Rattle.csp_text.specs.declared.tree.PartTree.{PartTree}
use Rattle.csp_text.specs.declared.tree.Tree.{Tree}
use Rattle.csp_text.specs.declared.token.Word.{Word}
use Rattle.csp_text.specs.declared.token.Token.TheVariants as token
use Rattle.csp_text.specs.declared.token.Word.TheVariants as word
use Rattle.csp_text.specs.declared.token.Symbol.TheVariants as symbol
use Rattle.csp_base.specs.declared.operators.BinOp.TheVariants as operator
use Rattle.csp_base.specs.declared.operators.SetOp.TheVariants as set_op
use Rattle.csp_text.specs.declared.tree.Tree.TheVariants as tree
use Rattle.csp_grammar.specs.Prelude.{Choice, external, internal, Reading, and_then, case, begins_event, dotted_tree, with_first, skip, skip_word}
use Rattle.tree_reading.specs.Bindings.{at_least, left_operand}
use Rattle.tree_reading.specs.declared.look.Chain.{Chain}
use Rattle.tree_reading.specs.declared.look.Chain.TheVariants as chain
use Rattle.tree_reading.specs.declared.look.Sign.{Sign}
use Rattle.tree_reading.specs.declared.look.Sign.TheVariants as sign
use Rattle.tree_reading.specs.declared.look.AtomStart.{AtomStart}
use Rattle.tree_reading.specs.declared.look.AtomStart.TheVariants as start
use Rattle.tree_reading.specs.declared.look.PrefixStart.{PrefixStart}
use Rattle.tree_reading.specs.declared.look.PrefixStart.TheVariants as opening
use Rattle.tree_reading.specs.declared.read.Binding.{Binding}
use Rattle.tree_reading.specs.declared.read.Binding.TheVariants as binding

-- whether a token is the symbol
abbrev pub is_symbol_token : Symbol → Token → Bool
is_symbol_token s (token.Symbol u) = same_symbol u s
is_symbol_token s _ = false

-- whether a token is the word
abbrev pub is_word_token : Word → Token → Bool
is_word_token w (token.Word u) = same_word u w
is_word_token w _ = false

-- the name at the front
abbrev pub named : List Token → Reading (List ℕ)
named (token.Name x ∷ ts) = Some (x, ts)
named _ = None

-- a choice as the grammar names it
abbrev pub choice : Chain → Choice
choice chain.External = external
choice chain.Internal = internal

abbrev pub chain_symbol : Chain → Symbol
chain_symbol chain.External = symbol.ExternalChoice
chain_symbol chain.Internal = symbol.InternalChoice

-- the choice whose sign is at the front
abbrev pub first_chain : List Token → Option (Chain × List Token)
first_chain ts = case (skip symbol.ExternalChoice ts) (λ us. Some (chain.External, us)) λ _. and_then (skip symbol.InternalChoice ts) λ us. Some (chain.Internal, us)

-- the tree of a replicated choice
abbrev pub each_tree : Chain → List ℕ → Tree → Tree → Tree
each_tree chain.External x s p = tree.EachExternal x s p
each_tree chain.Internal x s p = tree.EachInternal x s p

-- the tree of a field with a dot
abbrev pub layer_dot : FieldTree-F FieldTree GenTree Tree EventTree PartTree → Option Tree
layer_dot (FieldTree-F.«FieldTree::Dot» a) = Some a
layer_dot _ = None

abbrev pub dot_field : FieldTree → Option Tree
dot_field f = layer_dot (out-FieldTree f)

-- the trees of the fields, where each of them has a dot
abbrev pub dot_fields : List FieldTree → Option (List Tree)
dot_fields [] = Some []
dot_fields (f ∷ fs) = and_then (dot_field f) λ a. with_first a (dot_fields fs)

-- the dotted event of a name and these fields
abbrev pub dotted_fields : List ℕ → List FieldTree → Option Tree
dotted_fields c fs = and_then (dot_fields fs) λ fields. dotted_tree c fields

-- how tightly a sign binds the operand before it
abbrev pub sign_binding : Sign → Binding
sign_binding (sign.Operator op k) = k
sign_binding sign.Renaming = binding.Renaming

-- the sign that a symbol is
abbrev pub symbol_sign : Symbol → Option Sign
symbol_sign symbol.Equal = Some (sign.Operator operator.Eq binding.Comparison)
symbol_sign symbol.NotEqual = Some (sign.Operator operator.Ne binding.Comparison)
symbol_sign symbol.Less = Some (sign.Operator operator.Lt binding.Comparison)
symbol_sign symbol.LessEqual = Some (sign.Operator operator.Le binding.Comparison)
symbol_sign symbol.Greater = Some (sign.Operator operator.Gt binding.Comparison)
symbol_sign symbol.GreaterEqual = Some (sign.Operator operator.Ge binding.Comparison)
symbol_sign symbol.Plus = Some (sign.Operator operator.Add binding.Sum)
symbol_sign symbol.Minus = Some (sign.Operator operator.Sub binding.Sum)
symbol_sign symbol.Star = Some (sign.Operator operator.Mul binding.Product)
symbol_sign symbol.Slash = Some (sign.Operator operator.Div binding.Product)
symbol_sign symbol.Percent = Some (sign.Operator operator.Rem binding.Product)
symbol_sign symbol.OpenRename = Some sign.Renaming
symbol_sign _ = None

abbrev pub word_sign : Word → Option Sign
word_sign word.Or = Some (sign.Operator operator.Or binding.Disjunction)
word_sign word.And = Some (sign.Operator operator.And binding.Conjunction)
word_sign _ = None

-- the sign that a token is
abbrev pub token_sign : Token → Option Sign
token_sign (token.Symbol s) = symbol_sign s
token_sign (token.Word w) = word_sign w
token_sign _ = None

-- whether a sign of the level or a tighter one goes on with an operand that is bound as k says
abbrev pub may_follow : Binding → Binding → Sign → Bool
may_follow level k s = at_least level (sign_binding s) && at_least (left_operand (sign_binding s)) k

-- the sign that goes on with an operand
abbrev pub sign_behind : Binding → Binding → List Token → Option (Sign × List Token)
sign_behind level k [] = None
sign_behind level k (t ∷ ts) = and_then (token_sign t) λ s. if may_follow level k s then Some (s, ts) else None

-- what a word begins as an atom
abbrev pub word_start : Word → Option AtomStart
word_start word.Stop = Some (start.Leaf tree.Stop)
word_start word.Skip = Some (start.Leaf tree.Skip)
word_start word.True = Some (start.Leaf tree.True)
word_start word.False = Some (start.Leaf tree.False)
word_start word.Union = Some (start.SetOperator set_op.Union)
word_start word.Inter = Some (start.SetOperator set_op.Inter)
word_start word.Diff = Some (start.SetOperator set_op.Diff)
word_start _ = None

abbrev pub symbol_start : Symbol → Option AtomStart
symbol_start symbol.OpenParen = Some start.Parentheses
symbol_start symbol.OpenBrace = Some start.Set
symbol_start symbol.OpenProduct = Some start.Product
symbol_start _ = None

-- what a token that is no name begins as an atom
abbrev pub token_start : Token → Option AtomStart
token_start (token.Num k) = Some (start.Leaf (tree.Num k))
token_start (token.Word w) = word_start w
token_start (token.Symbol s) = symbol_start s
token_start _ = None

abbrev pub other_start : List Token → Option (AtomStart × List Token)
other_start [] = None
other_start (t ∷ ts) = and_then (token_start t) λ s. Some (s, ts)

-- the first token of an atom, with the parenthesis of a call
abbrev pub atom_start : List Token → Option (AtomStart × List Token)
atom_start ts =
    case (named ts)
    (λ x. case (skip symbol.OpenParen x.1) (λ us. Some (start.Call x.0, us)) (λ _. Some (start.Leaf (tree.Name x.0), x.1)))
    (λ _. other_start ts)

-- what a process or an expression that is no event begins with
abbrev pub form_start : List Token → Option (PrefixStart × List Token)
form_start ts =
    case (skip_word word.If ts) (λ us. Some (opening.If, us)) λ _.
    case (first_chain ts) (λ c. Some (opening.Each c.0, c.1)) λ _.
    case (skip symbol.Parallel ts) (λ us. Some (opening.EachParallel, us)) λ _.
    Some (opening.Expression, ts)

-- what a process or an expression begins with
abbrev pub prefix_start : List Token → Option (PrefixStart × List Token)
prefix_start ts = if begins_event ts then Some (opening.Event, ts) else form_start ts
