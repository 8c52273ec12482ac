-- What the answer of each reader means.
use Rattle.tree_reading.proofs.Prelude.{◌≡◌, ℕ, ◌≤◌, Bool, List, [], ◌∷◌, map, arith, field_depth, gen_depth, part_depth, tree_depth, Symbol, Token, Tree, NamesText, TypesText, DeclarationsText, Choice, choice_sign, TreeText, Reach, SideText, HidingText, ChoiceText, SequenceText, PrefixText, FieldsText, DottedText, DotsText, ExpressionText, PairsText, PartsText, GensText, ItemText, ItemsText, AtomText, closed, opened, Level, disjunction, conjunction, negation, comparison, sum, product, minus, renaming, number, Limited, limits, choice, Chain, Binding, greatest}
use Rattle.csp_grammar.specs.Grammar as g
use Rattle.csp_grammar.specs.Precedence as table
use Rattle.tree_reading.specs.declared.read.Binding.TheVariants as bound
use Rattle.tree_reading.proofs.Holds.{Holds}
use Rattle.tree_reading.proofs.Levels.{pairs_depth, tightness}

-- an expression at each level up to the number
abbrev pub Expressions : ℕ → ℕ → List Token → Tree → List Token → Type 0
Expressions n k ts t r = (l : Level) → tightness l ≤ k → ExpressionText n l ts t r

pub record ExpressionRead (n d : ℕ) (m : Binding) (ts : List Token) (p : Binding × Tree × List Token) : Type 0 where
  pub above : number m ≤ number p.0
  pub is : Expressions n (number p.0) ts p.1 p.2
  pub fits : tree_depth p.1 ≤ d

-- whether something may follow what is bound like this
abbrev pub reach : Binding → Reach
reach bound.Open = opened
reach _ = closed

-- a process of such texts, or a dotted event
pub record ProcessRead (Text : ℕ → Reach → List Token → Tree → List Token → Type 0) (n d : ℕ) (ts : List Token) (p : Binding × Tree × List Token) : Type 0 where
  pub dotted : number p.0 ≡ 0 → DottedText n ts p.1 p.2
  pub process : 1 ≤ number p.0 → Text n (reach p.0) ts p.1 p.2
  pub is : Expressions n (number p.0) ts p.1 p.2
  pub fits : tree_depth p.1 ≤ d

pub record SideRead (n d : ℕ) (ts : List Token) (p : Binding × Tree × List Token) : Type 0 where
  pub dotted : number p.0 ≡ 0 → DottedText n ts p.1 p.2
  pub process : 1 ≤ number p.0 → SideText n (reach p.0) ts p.1 p.2
  pub fits : tree_depth p.1 ≤ d

-- the operands behind the first one
pub record ChoicesRead (n d : ℕ) (c : Choice) (ts : List Token) (p : Binding × List Tree × List Token) : Type 0 where
  pub bound : 1 ≤ number p.0
  pub process : (us : List Token) (q : Tree) → SequenceText n closed us q (choice_sign c ∷ ts) → ChoiceText n (reach p.0) c us (q ∷ p.1) p.2
  pub fit : greatest (map tree_depth p.1) ≤ d

-- what hidings begin with: a renaming or an atom, or a hiding
pub data Hideable (n : ℕ) (ts : List Token) (t : Tree) (r : List Token) : Type 0 where
  bare : ExpressionText n renaming ts t r → Hideable n ts t r
  hidden : HidingText n ts t r → Hideable n ts t r

pub record HiddenRead (n d : ℕ) (ts : List Token) (p : Binding × Tree × List Token) : Type 0 where
  pub bound : number p.0 ≡ 2
  pub is : Hideable n ts p.1 p.2
  pub fits : tree_depth p.1 ≤ d

abbrev pub HidingsRead : ℕ → ℕ → Tree → List Token → Binding × Tree × List Token → Type 0
HidingsRead n d t ts p = (us : List Token) → Hideable n us t ts → tree_depth t ≤ d → HiddenRead n d us p

abbrev pub OperatorsRead : ℕ → ℕ → Binding → Binding → Tree → List Token → Binding × Tree × List Token → Type 0
OperatorsRead n d m k t ts p = (us : List Token) → number m ≤ number k → Expressions n (number k) us t ts → tree_depth t ≤ d → ExpressionRead n d m us p

pub record ItemRead (n d : ℕ) (ts : List Token) (p : Binding × Tree × List Token) : Type 0 where
  pub item : ItemText n ts p.1 p.2
  pub is : Expressions n (number p.0) ts p.1 p.2
  pub fits : tree_depth p.1 ≤ d

pub record ItemsRead (n d : ℕ) (ts : List Token) (p : Binding × List Tree × List Token) : Type 0 where
  pub items : ItemsText n ts p.1 p.2
  pub single : (a : Tree) → p.1 ≡ a ∷ [] → Expressions n (number p.0) ts a p.2
  pub fit : greatest (map tree_depth p.1) ≤ d

-- the readers give nothing but what the grammar has, and that within the limits
pub record Sound (L : Limited) : Type 0 where
  pub tree : (n d : ℕ) (ts : List Token) → Holds (λ p. TreeText n ts p.0 p.1 × (tree_depth p.0 ≤ d)) (L.tree (limits n d) ts)
  pub choices : (n d : ℕ) (c : Chain) (ts : List Token) → Holds (ChoicesRead n d (choice c) ts) (L.choices (limits n d) c ts)
  pub hidings : (n d : ℕ) (t : Tree) (ts : List Token) → Holds (HidingsRead n d t ts) (L.hidings (limits n d) t ts)
  pub sequence : (n d : ℕ) (ts : List Token) → Holds (ProcessRead SequenceText n d ts) (L.sequence (limits n d) ts)
  pub prefix : (n d : ℕ) (ts : List Token) → Holds (ProcessRead PrefixText n d ts) (L.prefix (limits n d) ts)
  pub fields : (n d : ℕ) (dot : Bool) (ts : List Token) → Holds (λ p. FieldsText n dot ts p.0 p.1 × (greatest (map field_depth p.0) ≤ d)) (L.fields (limits n d) dot ts)
  pub dots : (n d : ℕ) (ts : List Token) → Holds (λ p. DotsText n ts p.0 p.1 × (greatest (map tree_depth p.0) ≤ d)) (L.dots (limits n d) ts)
  pub expression : (n d : ℕ) (m : Binding) (ts : List Token) → number m ≤ 18 → Holds (ExpressionRead n d m ts) (L.expression (limits n d) m ts)
  pub operators : (n d : ℕ) (m k : Binding) (t : Tree) (ts : List Token) → Holds (OperatorsRead n d m k t ts) (L.operators (limits n d) m k t ts)
  pub pairs : (n d : ℕ) (ts : List Token) → Holds (λ p. PairsText n ts p.0 p.1 × (pairs_depth p.0 ≤ d)) (L.pairs (limits n d) ts)
  pub parts : (n d : ℕ) (ts : List Token) → Holds (λ p. PartsText n ts p.0 p.1 × (greatest (map part_depth p.0) ≤ d)) (L.parts (limits n d) ts)
  pub gens : (n d : ℕ) (ts : List Token) → Holds (λ p. GensText n ts p.0 p.1 × (greatest (map gen_depth p.0) ≤ d)) (L.gens (limits n d) ts)
  pub items : (n d : ℕ) (ts : List Token) → Holds (ItemsRead n d ts) (L.items (limits n d) ts)
  pub atom : (n d : ℕ) (ts : List Token) → Holds (λ p. AtomText n ts p.0 p.1 × (tree_depth p.0 ≤ d)) (L.atom (limits n d) ts)
  pub names : (s : Symbol) (ts : List Token) → Holds (λ p. NamesText s ts p.0 p.1) (L.names s ts)
  pub types : (ts : List Token) → Holds (λ p. TypesText ts p.0 p.1) (L.types ts)
  pub declarations : (ts : List Token) → Holds (λ ds. DeclarationsText ts ds) (L.declarations ts)

eleven : (l : Level) → 11 ≤ tightness l
eleven disjunction = omega arith
eleven _ = omega arith

apart : (a k : ℕ) → 11 ≤ a → k ≤ 2 → a ≤ k → ⊥
apart a k e few le = omega arith

-- no process that is no expression is bound as tightly as one
pub not_so_tight : {A : Type 0} (l : Level) (k : ℕ) → k ≤ 2 → tightness l ≤ k → A
not_so_tight l k few le = absurd (apart (tightness l) k (eleven l) few le)

from_disjunction : {n : ℕ} {ts : List Token} {t : Tree} {r : List Token} → ExpressionText n disjunction ts t r → Expressions n 11 ts t r
from_disjunction e disjunction le = e
from_disjunction e _ le = absurd (omega arith)

from_conjunction : {n : ℕ} {ts : List Token} {t : Tree} {r : List Token} → ExpressionText n conjunction ts t r → Expressions n 12 ts t r
from_conjunction e conjunction le = e
from_conjunction e disjunction le = from_disjunction (g.expression-tighter table.disjunction-conjunction e) disjunction (omega arith)
from_conjunction e _ le = absurd (omega arith)

from_negation : {n : ℕ} {ts : List Token} {t : Tree} {r : List Token} → ExpressionText n negation ts t r → Expressions n 13 ts t r
from_negation e negation le = e
from_negation e disjunction le = from_conjunction (g.expression-tighter table.conjunction-negation e) disjunction (omega arith)
from_negation e conjunction le = from_conjunction (g.expression-tighter table.conjunction-negation e) conjunction (omega arith)
from_negation e _ le = absurd (omega arith)

from_comparison : {n : ℕ} {ts : List Token} {t : Tree} {r : List Token} → ExpressionText n comparison ts t r → Expressions n 14 ts t r
from_comparison e comparison le = e
from_comparison e disjunction le = from_negation (g.expression-tighter table.negation-comparison e) disjunction (omega arith)
from_comparison e conjunction le = from_negation (g.expression-tighter table.negation-comparison e) conjunction (omega arith)
from_comparison e negation le = from_negation (g.expression-tighter table.negation-comparison e) negation (omega arith)
from_comparison e _ le = absurd (omega arith)

from_sum : {n : ℕ} {ts : List Token} {t : Tree} {r : List Token} → ExpressionText n sum ts t r → Expressions n 15 ts t r
from_sum e sum le = e
from_sum e product le = absurd (omega arith)
from_sum e minus le = absurd (omega arith)
from_sum e renaming le = absurd (omega arith)
from_sum e l le = from_comparison (g.expression-tighter table.comparison-sum e) l (omega arith)

from_product : {n : ℕ} {ts : List Token} {t : Tree} {r : List Token} → ExpressionText n product ts t r → Expressions n 16 ts t r
from_product e product le = e
from_product e minus le = absurd (omega arith)
from_product e renaming le = absurd (omega arith)
from_product e l le = from_sum (g.expression-tighter table.sum-product e) l (omega arith)

from_minus : {n : ℕ} {ts : List Token} {t : Tree} {r : List Token} → ExpressionText n minus ts t r → Expressions n 17 ts t r
from_minus e minus le = e
from_minus e renaming le = absurd (omega arith)
from_minus e l le = from_product (g.expression-tighter table.product-minus e) l (omega arith)

from_renaming : {n : ℕ} {ts : List Token} {t : Tree} {r : List Token} → ExpressionText n renaming ts t r → Expressions n 18 ts t r
from_renaming e renaming le = e
from_renaming e l le = from_minus (g.expression-tighter table.minus-renaming e) l (omega arith)

-- an expression of a level is one of each looser level
pub loosen : (l : Level) {n : ℕ} {ts : List Token} {t : Tree} {r : List Token} → ExpressionText n l ts t r → Expressions n (tightness l) ts t r
loosen disjunction e = from_disjunction e
loosen conjunction e = from_conjunction e
loosen negation e = from_negation e
loosen comparison e = from_comparison e
loosen sum e = from_sum e
loosen product e = from_product e
loosen minus e = from_minus e
loosen renaming e = from_renaming e

at_most : (l : Level) → tightness l ≤ 18
at_most disjunction = omega arith
at_most _ = omega arith

-- an atom is an expression of each level
pub of_atom : {n : ℕ} {ts : List Token} {t : Tree} {r : List Token} → AtomText n ts t r → Expressions n 19 ts t r
of_atom a l le = from_renaming (g.expression-atom a) l (at_most l)

pub at_level : {n : ℕ} {ts : List Token} {t : Tree} {r : List Token} → (l : Level) → AtomText n ts t r → ExpressionText n l ts t r
at_level l a = from_renaming (g.expression-atom a) l (at_most l)

-- and each expression is one of the loosest level
pub from_level : {n : ℕ} {ts : List Token} {t : Tree} {r : List Token} → (l : Level) → ExpressionText n l ts t r → ExpressionText n disjunction ts t r
from_level l e = loosen l e disjunction (eleven l)
