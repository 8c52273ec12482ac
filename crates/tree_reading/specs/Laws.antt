-- No text has two trees, and no text is two scripts; the reader gives whatever the grammar has within the limits, and nothing else.
use Rattle.std.specs.Prelude.{◌≡◌, ℕ, ◌≤◌, ◌<◌, Some, None, List, [], ◌∷◌}
use Rattle.csp_text.specs.Prelude.{tree_depth}
use Rattle.csp_text.specs.declared.script.Script.{Script}
use Rattle.csp_text.specs.declared.token.Symbol.TheVariants.{ExternalChoice, InternalChoice, Parallel, Question, Dot, Backslash, OpenParen, OpenBrace, CloseBrace, OpenBracket, CloseBracket}
use Rattle.csp_text.specs.declared.token.Token.{Token}
use Rattle.csp_text.specs.declared.token.Token.TheVariants.{Name, Symbol}
use Rattle.csp_text.specs.declared.tree.Tree.{Tree}
use Rattle.csp_grammar.specs.Prelude.{ScriptText, prefix_tokens, TreeText, begins}
use Rattle.tree_reading.specs.Limited.{limited}
use Rattle.tree_reading.specs.Nesting.{limits}
use Rattle.tree_reading.specs.Settled.{Settles}

-- [a || b]
abbrev pub alphabets_between : List ℕ → List ℕ → List Token → List Token
alphabets_between a b rest = Symbol OpenBracket ∷ Name a ∷ Symbol Parallel ∷ Name b ∷ Symbol CloseBracket ∷ rest

-- a list of tokens has at most one tree
abbrev pub EachTextHasOneTree : Type 0
EachTextHasOneTree = (n : ℕ) (tokens : List Token) (t u : Tree) → TreeText n tokens t [] → TreeText n tokens u [] → t ≡ u

-- a list of tokens is at most one script
abbrev pub EachTextIsOneScript : Type 0
EachTextIsOneScript = (tokens : List Token) (s t : Script) → ScriptText tokens s → ScriptText tokens t → s ≡ t

-- `a -> p [] a -> p |~| a -> p` has no tree: a mixed choice needs parentheses
abbrev pub MixedChoiceHasNoTree : Type 0
MixedChoiceHasNoTree = (n : ℕ) (a p : List ℕ) (t : Tree) →
    TreeText n (prefix_tokens a p (Symbol ExternalChoice ∷ prefix_tokens a p (Symbol InternalChoice ∷ prefix_tokens a p []))) t [] → ⊥

-- `a?x.x -> p` has no tree: no field with a dot stands directly behind one with a question mark
abbrev pub NoDotBehindQuestion : Type 0
NoDotBehindQuestion = (n : ℕ) (a x p : List ℕ) (t : Tree) →
    TreeText n (Name a ∷ Symbol Question ∷ Name x ∷ Symbol Dot ∷ prefix_tokens x p []) t [] → ⊥

-- `p [a || b] q [a || b] s` has no tree: two parallels need parentheses
abbrev pub ChainOfParallelsHasNoTree : Type 0
ChainOfParallelsHasNoTree = (n : ℕ) (a b p q s : List ℕ) (t : Tree) →
    TreeText n (Name p ∷ alphabets_between a b (Name q ∷ alphabets_between a b (Name s ∷ []))) t [] → ⊥

-- `p [] q \ a` has no tree: a hiding beside a choice needs parentheses
abbrev pub HidingBesideChoiceHasNoTree : Type 0
HidingBesideChoiceHasNoTree = (n : ℕ) (a p q : List ℕ) (t : Tree) →
    TreeText n (Name p ∷ Symbol ExternalChoice ∷ Name q ∷ Symbol Backslash ∷ Name a ∷ []) t [] → ⊥

-- where no bracket may be opened, a text does not begin with one, and the empty set is none
abbrev pub NoBracketBeyondTheLimit : Type 0
NoBracketBeyondTheLimit = (tokens : List Token) (t : Tree) → TreeText 0 (Symbol OpenParen ∷ tokens) t [] → ⊥

abbrev pub NoEmptySetBeyondTheLimit : Type 0
NoEmptySetBeyondTheLimit = (t : Tree) → TreeText 0 (Symbol OpenBrace ∷ Symbol CloseBrace ∷ []) t [] → ⊥

-- the reader gives the declarations of each script
abbrev pub ReaderIsComplete : Type 0
ReaderIsComplete = (tokens : List Token) (s : Script) → ScriptText tokens s →
    (enough : ℕ) × ((f : ℕ) → enough ≤ f → (limited f).declarations tokens ≡ Some s.decls)

-- what the reader gives are the declarations of a script with this text
abbrev pub ReaderIsSound : Type 0
ReaderIsSound = (tokens : List Token) (s : Script) (f : ℕ) → (limited f).declarations tokens ≡ Some s.decls → ScriptText tokens s

-- the reader gives each tree within the limits, in front of every rest that does not begin with a token that goes on with a tree
abbrev pub ReaderGivesTrees : Type 0
ReaderGivesTrees = (n d : ℕ) (tokens : List Token) (t : Tree) (rest : List Token) → TreeText n tokens t rest → tree_depth t ≤ d → begins rest < 6 →
    (enough : ℕ) × ((f : ℕ) → enough ≤ f → (limited f).tree (limits n d) tokens ≡ Some (t, rest))

-- what the reader gives is a tree of the tokens in front of what is left, and within the limits
abbrev pub ReadTreesAreTrees : Type 0
ReadTreesAreTrees = (n d : ℕ) (tokens : List Token) (t : Tree) (rest : List Token) (f : ℕ) → (limited f).tree (limits n d) tokens ≡ Some (t, rest) →
    TreeText n tokens t rest × (tree_depth t ≤ d)

-- A reading settles where it answers the same from some number of calls on. A program that reads a text is exact where it answers what the reader
-- settles on: if that is a script, then the one that the text is; if it is nothing, then the text is no script.

-- what a reading of declarations settles on is a script with this text
abbrev pub SettledScriptIsOne : Type 0
SettledScriptIsOne = (tokens : List Token) (s : Script) → Settles (λ L. L.declarations tokens) (Some s.decls) → ScriptText tokens s

-- where it settles on nothing, the text is no script
abbrev pub SettledNothingIsNone : Type 0
SettledNothingIsNone = (tokens : List Token) (s : Script) → Settles (λ L. L.declarations tokens) None → ScriptText tokens s → ⊥

-- each text of a script settles on it
abbrev pub ScriptsSettle : Type 0
ScriptsSettle = (tokens : List Token) (s : Script) → ScriptText tokens s → Settles (λ L. L.declarations tokens) (Some s.decls)
