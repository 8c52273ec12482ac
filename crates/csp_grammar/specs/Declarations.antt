-- The texts of declarations and of a script. `DeclarationText tokens d rest` says that the list of tokens is a text of the declaration d and then
-- `rest`; `ScriptText tokens s` that it is a text of the script s: the texts of its declarations, one after another.
--
-- Two limits hold in each declaration: at no place are more than MOST_BRACKETS brackets (400) open, and no tree is deeper than MOST_TREE_DEPTH (200).
use Rattle.std.specs.Prelude.{ℕ, ◌-◌, ◌≤◌, List, [], ◌∷◌, codes}
use Rattle.csp_text.specs.Prelude.{tree_depth}
use Rattle.csp_text.specs.declared.script.Decl.{Decl}
use Rattle.csp_text.specs.declared.script.Script.{Script}
use Rattle.csp_text.specs.declared.token.ResourceNames.{ResourceNames}
use Rattle.csp_text.specs.declared.token.RolesNames.{RolesNames}
use Rattle.csp_text.specs.declared.token.Symbol.{Symbol}
use Rattle.csp_text.specs.declared.token.Symbol.TheVariants.{Colon, Dot, Defines, Comma, Bar, OpenParen, CloseParen, OpenBracket, CloseBracket}
use Rattle.csp_text.specs.declared.token.Token.{Token}
use Rattle.csp_text.specs.declared.token.Token.TheVariants.{Name, Word}
use Rattle.csp_text.specs.declared.token.Word.TheVariants.{Assert, Channel, Datatype, Nametype}
use Rattle.csp_text.specs.declared.tree.Tree.{Tree}
use Rattle.csp_text.specs.declared.token.Token.TheVariants as token
use Rattle.csp_text.specs.declared.tree.Tree.TheVariants as tree
use Rattle.csp_text.specs.declared.script.Decl.TheVariants as decl
use Rattle.csp_grammar.specs.Grammar.{TreeText, AtomText, ItemsText}
use Rattle.dl_limits.specs.declared.TheConstants.{MOST_BRACKETS, MOST_TREE_DEPTH}

-- a, b, c: one name or more, with the sign between them
pub data NamesText (sign : Symbol) : List Token → List (List ℕ) → List Token → Type 0 where
  one : {x : List ℕ} {r : List Token} → NamesText sign (Name x ∷ r) (x ∷ []) r
  more : {x : List ℕ} {ts : List Token} {xs : List (List ℕ)} {r : List Token} → NamesText sign ts xs r → NamesText sign (Name x ∷ token.Symbol sign ∷ ts) (x ∷ xs) r

-- S.T: one type or more
pub data TypesText : List Token → List Tree → List Token → Type 0 where
  one : {ts : List Token} {a : Tree} {r : List Token} → AtomText MOST_BRACKETS ts a r → tree_depth a ≤ MOST_TREE_DEPTH → TypesText ts (a ∷ []) r
  more : {ts : List Token} {a : Tree} {us : List Token} {types : List Tree} {r : List Token} →
      AtomText MOST_BRACKETS ts a (token.Symbol Dot ∷ us) → tree_depth a ≤ MOST_TREE_DEPTH → TypesText us types r → TypesText ts (a ∷ types) r

-- the parameters of a definition: names in parentheses, or nothing
pub data ParametersText : List Token → List (List ℕ) → List Token → Type 0 where
  none : {r : List Token} → ParametersText r [] r
  some : {ts : List Token} {xs : List (List ℕ)} {r : List Token} → NamesText Comma ts xs (token.Symbol CloseParen ∷ r) → ParametersText (token.Symbol OpenParen ∷ ts) xs r

-- the process of an assertion: a name or a call
pub data AssertedText : List Token → Tree → List Token → Type 0 where
  name : {x : List ℕ} {r : List Token} → AssertedText (Name x ∷ r) (tree.Name x) r
  call : {x : List ℕ} {ts : List Token} {items : List Tree} {r : List Token} →
      ItemsText (MOST_BRACKETS - 1) ts items (token.Symbol CloseParen ∷ r) → AssertedText (Name x ∷ token.Symbol OpenParen ∷ ts) (tree.Call x items) r

-- the model of an assertion: [F], [FD] or nothing
pub data ModelText : List Token → List Token → Type 0 where
  none : {r : List Token} → ModelText r r
  failures : {r : List Token} → ModelText (token.Symbol OpenBracket ∷ Name (codes "F") ∷ token.Symbol CloseBracket ∷ r) r
  failures-divergences : {r : List Token} → ModelText (token.Symbol OpenBracket ∷ Name (codes "FD") ∷ token.Symbol CloseBracket ∷ r) r

pub data DeclarationText : List Token → Decl → List Token → Type 0 where
  channel : {ts : List Token} {cs : List (List ℕ)} {r : List Token} → NamesText Comma ts cs r → DeclarationText (Word Channel ∷ ts) (decl.Channel cs []) r
  channel-of : {ts : List Token} {cs : List (List ℕ)} {us : List Token} {types : List Tree} {r : List Token} →
      NamesText Comma ts cs (token.Symbol Colon ∷ us) → TypesText us types r → DeclarationText (Word Channel ∷ ts) (decl.Channel cs types) r
  datatype : {d : List ℕ} {ts : List Token} {xs : List (List ℕ)} {r : List Token} →
      NamesText Bar ts xs r → DeclarationText (Word Datatype ∷ Name d ∷ token.Symbol Defines ∷ ts) (decl.Datatype d xs) r
  nametype : {x : List ℕ} {ts : List Token} {s : Tree} {r : List Token} →
      AtomText MOST_BRACKETS ts s r → tree_depth s ≤ MOST_TREE_DEPTH → DeclarationText (Word Nametype ∷ Name x ∷ token.Symbol Defines ∷ ts) (decl.Nametype x s) r
  define : {f : List ℕ} {ts : List Token} {xs : List (List ℕ)} {us : List Token} {t : Tree} {r : List Token} →
      ParametersText ts xs (token.Symbol Defines ∷ us) → TreeText MOST_BRACKETS us t r → tree_depth t ≤ MOST_TREE_DEPTH → DeclarationText (Name f ∷ ts) (decl.Define f xs t) r
  assertion : {ts : List Token} {t : Tree} {us : List Token} {r : List Token} →
      AssertedText ts t (token.Symbol Colon ∷ token.Symbol OpenBracket ∷ Name (codes "deadlock") ∷ Name (codes "free") ∷ us) → tree_depth t ≤ MOST_TREE_DEPTH →
      ModelText us (token.Symbol CloseBracket ∷ r) → DeclarationText (Word Assert ∷ ts) (decl.Assert t) r
  roles : {names : RolesNames} {r : List Token} → DeclarationText (token.Roles names ∷ r) (decl.Roles names) r
  resource : {names : ResourceNames} {r : List Token} → DeclarationText (token.Resource names ∷ r) (decl.Resource names) r

-- none or more declarations, one after another
pub data DeclarationsText : List Token → List Decl → Type 0 where
  none : DeclarationsText [] []
  more : {ts : List Token} {d : Decl} {us : List Token} {ds : List Decl} → DeclarationText ts d us → DeclarationsText us ds → DeclarationsText ts (d ∷ ds)

abbrev pub ScriptText : List Token → Script → Type 0
ScriptText tokens script = DeclarationsText tokens script.decls
