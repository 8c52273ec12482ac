-- The derivations of the worked texts.
use Rattle.std.proofs.Common.{ℕ, suc, List, ◌∷◌}
use Rattle.csp_text.specs.declared.token.Symbol.TheVariants.{OpenParen, CloseParen, Plus}
use Rattle.csp_text.specs.declared.token.Token.{Token}
use Rattle.csp_text.specs.declared.token.Token.TheVariants.{Name, Num, Symbol}
use Rattle.csp_text.specs.declared.tree.Tree.{Tree}
use Rattle.csp_text.specs.declared.tree.Tree.TheVariants as tree
use Rattle.csp_base.specs.declared.operators.BinOp.TheVariants.{Add}
use Rattle.csp_grammar.specs.Prelude.{disjunction-conjunction, conjunction-negation, negation-comparison, comparison-sum, sum-product, product-minus, minus-renaming, minus-sign, percent, plus, disjunction, minus, product, sum, AtomText, ExpressionText, PrefixText, closed, PrefixBindsTighterThanChoice, PrefixBindsTighterThanSequence, SetOfOneNegativeNumber, SequencesNestFromTheRight, HidingsNestFromTheLeft, DifferencesNestFromTheLeft, FieldsAreArithmetic, OpenFormsReachToTheRight, ParenthesesLeaveNoTrace}
use Rattle.csp_grammar.specs.Grammar as g

above_sum : {n : ℕ} {ts : List Token} {t : Tree} {r : List Token} → ExpressionText n sum ts t r → ExpressionText n disjunction ts t r
above_sum e =
    g.expression-tighter disjunction-conjunction (g.expression-tighter conjunction-negation (g.expression-tighter negation-comparison
    (g.expression-tighter comparison-sum e)))

above_minus : {n : ℕ} {ts : List Token} {t : Tree} {r : List Token} → ExpressionText n minus ts t r → ExpressionText n disjunction ts t r
above_minus e = above_sum (g.expression-tighter sum-product (g.expression-tighter product-minus e))

atom_alone : {n : ℕ} {ts : List Token} {t : Tree} {r : List Token} → AtomText n ts t r → ExpressionText n minus ts t r
atom_alone a = g.expression-tighter minus-renaming (g.expression-atom a)

pub process : {n : ℕ} {ts : List Token} {t : Tree} {r : List Token} → AtomText n ts t r → PrefixText n closed ts t r
process a = g.prefix-expression (above_minus (atom_alone a))

pub choice : PrefixBindsTighterThanChoice
choice n a p =
    g.tree-side (g.side-choice g.external (g.choice-two
    (g.sequence-one (g.prefix-event (g.event-fields g.fields-none) (process g.atom-name)))
    (g.sequence-one (g.prefix-event (g.event-fields g.fields-none) (process g.atom-stop)))))

pub sequence : PrefixBindsTighterThanSequence
sequence n a p =
    g.tree-side (g.side-sequence (g.sequence-more
    (g.prefix-event (g.event-fields g.fields-none) (process g.atom-skip))
    (g.sequence-one (process g.atom-name))))

pub negative : SetOfOneNegativeNumber
negative n k =
    g.tree-side (g.side-sequence (g.sequence-one (process (g.atom-display (g.items-one (g.item-expression
    (above_minus (g.expression-negative (atom_alone g.atom-number)))))))))

pub sequences : SequencesNestFromTheRight
sequences n p q s =
    g.tree-side (g.side-sequence
    (g.sequence-more (process g.atom-name) (g.sequence-more (process g.atom-name) (g.sequence-one (process g.atom-name)))))

pub hidings : HidingsNestFromTheLeft
hidings n p a b = g.tree-side (g.side-hiding (g.hiding-more (g.hiding-one (g.expression-atom g.atom-name) g.atom-name) g.atom-name))

operand : {n : ℕ} {ts : List Token} {t : Tree} {r : List Token} → AtomText n ts t r → ExpressionText n product ts t r
operand a = g.expression-tighter product-minus (atom_alone a)

pub differences : DifferencesNestFromTheLeft
differences n i j k =
    g.tree-side (g.side-sequence (g.sequence-one (g.prefix-expression (above_sum
    (g.expression-left-operator sum-product minus-sign
    (g.expression-left-operator sum-product minus-sign (g.expression-tighter sum-product (operand g.atom-number)) (operand g.atom-number)) (operand g.atom-number))))))

-- (i + k)
in_parentheses : {n k : ℕ} {i : List ℕ} {r : List Token} →
    AtomText (suc n) (Symbol OpenParen ∷ Name i ∷ Symbol Plus ∷ Num k ∷ Symbol CloseParen ∷ r) (tree.Binary Add (tree.Name i) (tree.Num k)) r
in_parentheses =
    g.atom-parentheses (g.tree-side (g.side-sequence (g.sequence-one (g.prefix-expression (above_sum
    (g.expression-left-operator sum-product plus (g.expression-tighter sum-product (operand g.atom-name)) (operand g.atom-number)))))))

pub fields : FieldsAreArithmetic
fields n k m c i p =
    g.tree-side (g.side-sequence (g.sequence-one (g.prefix-event (g.event-fields
    (g.fields-output (g.expression-tighter sum-product (operand g.atom-name))
    (g.fields-output (g.expression-tighter sum-product (g.expression-left-operator product-minus percent (operand in_parentheses) (atom_alone g.atom-number)))
    g.fields-none))) (process g.atom-name))))

pub open_forms : OpenFormsReachToTheRight
open_forms n x s p q =
    g.tree-side (g.side-sequence (g.sequence-one (g.prefix-open-form (g.open-external g.atom-name
    (g.tree-side (g.side-choice g.external (g.choice-two
    (g.sequence-one (process g.atom-name)) (g.sequence-one (process g.atom-name)))))))))

pub parentheses : ParenthesesLeaveNoTrace
parentheses n p =
    g.tree-side (g.side-sequence (g.sequence-one (process (g.atom-parentheses
    (g.tree-side (g.side-sequence (g.sequence-one (process g.atom-name))))))))
