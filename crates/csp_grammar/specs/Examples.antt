-- Texts worked out by hand, each with its tree.
use Rattle.std.specs.Prelude.{ℕ, suc, List, [], ◌∷◌}
use Rattle.csp_text.specs.declared.token.Symbol.TheVariants.{Arrow, ExternalChoice, Bang, Colon, At, Plus, Minus, Percent, OpenParen, CloseParen, OpenBrace, CloseBrace, Backslash, Semicolon}
use Rattle.csp_text.specs.declared.token.Token.{Token}
use Rattle.csp_text.specs.declared.token.Token.TheVariants.{Name, Num, Word, Symbol}
use Rattle.csp_text.specs.declared.tree.Tree.{Tree}
use Rattle.csp_text.specs.declared.token.Word.TheVariants as word
use Rattle.csp_text.specs.declared.tree.Tree.TheVariants as tree
use Rattle.csp_base.specs.declared.operators.BinOp.TheVariants.{Add, Sub, Rem}
use Rattle.csp_text.specs.declared.tree.FieldTree.TheVariants as field
use Rattle.csp_grammar.specs.Grammar.{TreeText, event_tree}

-- a -> p
abbrev pub prefix_tokens : List ℕ → List ℕ → List Token → List Token
prefix_tokens a p rest = Name a ∷ Symbol Arrow ∷ Name p ∷ rest

-- a prefix with an event that has no fields
abbrev pub plain_prefix : List ℕ → Tree → Tree
plain_prefix a p = tree.Prefix (event_tree a []) p

-- `a -> p [] a -> STOP` is a choice of two prefixes
abbrev pub PrefixBindsTighterThanChoice : Type 0
PrefixBindsTighterThanChoice = (n : ℕ) (a p : List ℕ) →
    TreeText n (prefix_tokens a p (Symbol ExternalChoice ∷ Name a ∷ Symbol Arrow ∷ Word word.Stop ∷ []))
    (tree.External (plain_prefix a (tree.Name p) ∷ plain_prefix a tree.Stop ∷ [])) []

-- `a -> SKIP ; p` is a sequence that begins with the prefix
abbrev pub PrefixBindsTighterThanSequence : Type 0
PrefixBindsTighterThanSequence = (n : ℕ) (a p : List ℕ) →
    TreeText n (Name a ∷ Symbol Arrow ∷ Word word.Skip ∷ Symbol Semicolon ∷ Name p ∷ []) (tree.Seq (plain_prefix a tree.Skip) (tree.Name p)) []

-- `{ -k }` is the set of one negative number, and opens a bracket
abbrev pub SetOfOneNegativeNumber : Type 0
SetOfOneNegativeNumber = (n k : ℕ) →
    TreeText (suc n) (Symbol OpenBrace ∷ Symbol Minus ∷ Num k ∷ Symbol CloseBrace ∷ []) (tree.Display (tree.Neg (tree.Num k) ∷ [])) []

-- `p ; q ; s` nests from the right
abbrev pub SequencesNestFromTheRight : Type 0
SequencesNestFromTheRight = (n : ℕ) (p q s : List ℕ) →
    TreeText n (Name p ∷ Symbol Semicolon ∷ Name q ∷ Symbol Semicolon ∷ Name s ∷ []) (tree.Seq (tree.Name p) (tree.Seq (tree.Name q) (tree.Name s))) []

-- `p \ a \ b` nests from the left
abbrev pub HidingsNestFromTheLeft : Type 0
HidingsNestFromTheLeft = (n : ℕ) (p a b : List ℕ) →
    TreeText n (Name p ∷ Symbol Backslash ∷ Name a ∷ Symbol Backslash ∷ Name b ∷ []) (tree.Hide (tree.Hide (tree.Name p) (tree.Name a)) (tree.Name b)) []

-- `i - j - k` nests from the left
abbrev pub DifferencesNestFromTheLeft : Type 0
DifferencesNestFromTheLeft = (n i j k : ℕ) →
    TreeText n (Num i ∷ Symbol Minus ∷ Num j ∷ Symbol Minus ∷ Num k ∷ []) (tree.Binary Sub (tree.Binary Sub (tree.Num i) (tree.Num j)) (tree.Num k)) []

-- `c!i!(i + k) % m -> p` has two fields
abbrev pub FieldsAreArithmetic : Type 0
FieldsAreArithmetic = (n k m : ℕ) (c i p : List ℕ) →
    TreeText (suc n)
    (Name c ∷ Symbol Bang ∷ Name i ∷ Symbol Bang ∷ Symbol OpenParen ∷ Name i ∷ Symbol Plus ∷ Num k ∷ Symbol CloseParen ∷ Symbol Percent ∷ Num m ∷ Symbol Arrow ∷ Name p ∷ [])
    (tree.Prefix (event_tree c (field.Output (tree.Name i) ∷ field.Output (tree.Binary Rem (tree.Binary Add (tree.Name i) (tree.Num k)) (tree.Num m)) ∷ [])) (tree.Name p)) []

-- `[] x:s @ p [] q`: the body of the first form takes the choice
abbrev pub OpenFormsReachToTheRight : Type 0
OpenFormsReachToTheRight = (n : ℕ) (x s p q : List ℕ) →
    TreeText n (Symbol ExternalChoice ∷ Name x ∷ Symbol Colon ∷ Name s ∷ Symbol At ∷ Name p ∷ Symbol ExternalChoice ∷ Name q ∷ [])
    (tree.EachExternal x (tree.Name s) (tree.External (tree.Name p ∷ tree.Name q ∷ []))) []

-- `(p)` is p, and opens a bracket
abbrev pub ParenthesesLeaveNoTrace : Type 0
ParenthesesLeaveNoTrace = (n : ℕ) (p : List ℕ) → TreeText (suc n) (Symbol OpenParen ∷ Name p ∷ Symbol CloseParen ∷ []) (tree.Name p) []
