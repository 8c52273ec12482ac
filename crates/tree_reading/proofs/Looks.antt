-- What a look at the tokens tells, where something is there.
use Rattle.tree_reading.proofs.Prelude.{◌≡◌, ℕ, Bool, true, false, if◌then◌else◌, Some, None, List, [], ◌∷◌, refl, ap, same_symbol, same_word, Symbol, Token, BinOp, choice_sign, Level, IsLeftOperator, IsComparison, disjunction, conjunction, negation, comparison, sum, product, minus, renaming, skip, skip_word, symbol_is, word_is, choice, chain_symbol, first_chain, may_follow, named, sign_behind, symbol_sign, token_sign, word_sign, Chain, Sign, Binding, bytes_eq-Decides, bytes_eq}
use Rattle.csp_text.specs.declared.token.Word.{Word}
use Rattle.csp_text.specs.declared.token.Token.TheVariants as token
use Rattle.csp_text.specs.declared.token.Word.TheVariants as word
use Rattle.csp_text.specs.declared.token.Symbol.TheVariants as symbol
use Rattle.csp_grammar.specs.Precedence as table
use Rattle.tree_reading.specs.declared.look.Chain.TheVariants as chain
use Rattle.tree_reading.specs.declared.look.Sign.TheVariants as sign
use Rattle.tree_reading.specs.declared.read.Binding.TheVariants as binding
use Rattle.tree_reading.proofs.Holds.{Holds, by_case, by_then}
use Rattle.tree_reading.proofs.Holds.Holds.{none, some}

when_true : {A : Type 0} {P : A → Type 0} (b : Bool) (x : A) → (b ≡ true → P x) → Holds P (if b then Some x else None)
when_true false x f = none
when_true true x f = some (f refl)

pub skips : (s : Symbol) (ts : List Token) → Holds (λ us. ts ≡ token.Symbol s ∷ us) (skip s ts)
skips s (token.Symbol u ∷ ts) = when_true (same_symbol u s) ts (λ h. ap (λ v. token.Symbol v ∷ ts) (symbol_is u s h))
skips s _ = none

pub skips_word : (w : Word) (ts : List Token) → Holds (λ us. ts ≡ token.Word w ∷ us) (skip_word w ts)
skips_word w (token.Word u ∷ ts) = when_true (same_word u w) ts (λ h. ap (λ v. token.Word v ∷ ts) (word_is u w h))
skips_word w _ = none

pub names : (ts : List Token) → Holds (λ x. ts ≡ token.Name x.0 ∷ x.1) (named ts)
names (token.Name x ∷ ts) = some refl
names _ = none

-- how tightly an operator binds
abbrev pub binding_of : Level → Binding
binding_of disjunction = binding.Disjunction
binding_of conjunction = binding.Conjunction
binding_of negation = binding.Complement
binding_of comparison = binding.Comparison
binding_of sum = binding.Sum
binding_of product = binding.Product
binding_of minus = binding.Negative
binding_of renaming = binding.Renaming

-- what an operator between two operands is in the table
pub data IsOperator : Token → BinOp → Binding → Type 0 where
  left : {l : Level} {sign : Token} {op : BinOp} → IsLeftOperator l sign op → IsOperator sign op (binding_of l)
  compared : {sign : Token} {op : BinOp} → IsComparison sign op → IsOperator sign op binding.Comparison

-- what goes on with an operand
pub data IsSign : Token → Sign → Type 0 where
  operator : {t : Token} {op : BinOp} {m : Binding} → IsOperator t op m → IsSign t (sign.Operator op m)
  pairs : IsSign (token.Symbol symbol.OpenRename) sign.Renaming

symbol_signs : (s : Symbol) → Holds (IsSign (token.Symbol s)) (symbol_sign s)
symbol_signs symbol.OpenRename = some pairs
symbol_signs symbol.Equal = some (operator (compared table.equal))
symbol_signs symbol.NotEqual = some (operator (compared table.not-equal))
symbol_signs symbol.Less = some (operator (compared table.less))
symbol_signs symbol.LessEqual = some (operator (compared table.less-equal))
symbol_signs symbol.Greater = some (operator (compared table.greater))
symbol_signs symbol.GreaterEqual = some (operator (compared table.greater-equal))
symbol_signs symbol.Plus = some (operator (left table.plus))
symbol_signs symbol.Minus = some (operator (left table.minus-sign))
symbol_signs symbol.Star = some (operator (left table.star))
symbol_signs symbol.Slash = some (operator (left table.slash))
symbol_signs symbol.Percent = some (operator (left table.percent))
symbol_signs _ = none

word_signs : (w : Word) → Holds (IsSign (token.Word w)) (word_sign w)
word_signs word.And = some (operator (left table.and))
word_signs word.Or = some (operator (left table.or))
word_signs _ = none

pub token_signs : (t : Token) → Holds (IsSign t) (token_sign t)
token_signs (token.Symbol s) = symbol_signs s
token_signs (token.Word w) = word_signs w
token_signs _ = none

-- the list begins with a sign that goes on with an operand bound like this
pub record GoesOn (level k : Binding) (ts : List Token) (p : Sign × List Token) : Type 0 where
  pub first : Token
  pub split : ts ≡ first ∷ p.1
  pub is : IsSign first p.0
  pub may : may_follow level k p.0 ≡ true

pub signs : (level k : Binding) (ts : List Token) → Holds (GoesOn level k ts) (sign_behind level k ts)
signs level k [] = none
signs level k (t ∷ ts) = by_then _ (token_signs t) λ s is. when_true (may_follow level k s) (s, ts) (λ h. record { first = t; split = refl; is = is; may = h })

pub chains : (ts : List Token) → Holds (λ c. ts ≡ choice_sign (choice c.0) ∷ c.1) (first_chain ts)
chains ts = by_case _ _ (skips symbol.ExternalChoice ts) (λ us e. some e) (by_then _ (skips symbol.InternalChoice ts) (λ us e. some e))

pub skips_chain : (c : Chain) (ts : List Token) → Holds (λ us. ts ≡ choice_sign (choice c) ∷ us) (skip (chain_symbol c) ts)
skips_chain chain.External ts = skips symbol.ExternalChoice ts
skips_chain chain.Internal ts = skips symbol.InternalChoice ts

pub texts : (xs ys : List ℕ) → bytes_eq xs ys ≡ true → xs ≡ ys
texts xs ys = (bytes_eq-Decides xs ys).0
