-- Texts of printed forms, from those of their parts: a form is an atom, a dotted event or compound, and may open a bracket of its own. The brackets that a printed tree opens are at most two a level: an operand or an item of depth d
-- is a text where 2 * d brackets may be opened, and a bare tree where one fewer may be.
use Rattle.print_laws.proofs.Prelude.{◌≡◌, ℕ, zero, suc, ◌+◌, ◌*◌, ◌<◌, ◌≤◌, List, [], ◌∷◌, ◌++◌, ap, sym, refl, ◌∙◌, subst, append_assoc, arith, tree_depth, set_op_word, OpenParen, CloseParen, Comma, Token, EventTree, FieldTree, Tree-F, roll-Tree, GenTree, PartTree, Tree, Symbol, BinOp, SetOp, TreeText, PrefixText, SequenceText, OpenText, DottedText, ExpressionText, ItemText, AtomText, closed, disjunction-conjunction, conjunction-negation, sum-product, product-minus, disjunction, conjunction, negation, comparison, sum, product, minus, Shape, Atom, Dotted, Compound, as_item, as_operand, form, in_parentheses, item_tokens, operand_tokens, operator_token, printed_tokens, shape_of, at_level, from_level, shape_is}
use Rattle.csp_text.specs.declared.tree.Tree.TheVariants as tree
use Rattle.csp_base.specs.declared.operators.BinOp.TheVariants as op
use Rattle.csp_base.specs.declared.operators.SetOp.TheVariants as set_op
use Rattle.csp_grammar.specs.Grammar as g
use Rattle.csp_grammar.specs.Precedence as table
use Rattle.print_laws.proofs.Onto as onto
use Rattle.tree_reading.proofs.NodeDepths as depths

pub as_prefix : {n : ℕ} {ts : List Token} {t : Tree} {r : List Token} → AtomText n ts t r → PrefixText n closed ts t r
as_prefix a = g.prefix-expression (at_level disjunction a)

pub as_sequence : {n : ℕ} {ts : List Token} {t : Tree} {r : List Token} → AtomText n ts t r → SequenceText n closed ts t r
as_sequence a = g.sequence-one (as_prefix a)

pub prefix_tree : {n : ℕ} {ts : List Token} {t : Tree} {r : List Token} → PrefixText n closed ts t r → TreeText n ts t r
prefix_tree p = g.tree-side (g.side-sequence (g.sequence-one p))

pub expression_tree : {n : ℕ} {ts : List Token} {t : Tree} {r : List Token} → ExpressionText n disjunction ts t r → TreeText n ts t r
expression_tree e = prefix_tree (g.prefix-expression e)

pub open_tree : {n : ℕ} {ts : List Token} {t : Tree} {r : List Token} → OpenText n ts t r → TreeText n ts t r
open_tree o = g.tree-side (g.side-sequence (g.sequence-one (g.prefix-open-form o)))

-- two operands with an operator between them

pub operator_text : {n : ℕ} {ts : List Token} {a : Tree} {us : List Token} {b : Tree} {r : List Token} → (o : BinOp) →
    AtomText n ts a (operator_token o ∷ us) → AtomText n us b r → ExpressionText n disjunction ts (tree.Binary o a b) r
operator_text op.Or a b = g.expression-left-operator disjunction-conjunction table.or (at_level disjunction a) (at_level conjunction b)
operator_text op.And a b = from_level conjunction (g.expression-left-operator conjunction-negation table.and (at_level conjunction a) (at_level negation b))
operator_text op.Eq a b = from_level comparison (g.expression-compare table.equal (at_level sum a) (at_level sum b))
operator_text op.Ne a b = from_level comparison (g.expression-compare table.not-equal (at_level sum a) (at_level sum b))
operator_text op.Lt a b = from_level comparison (g.expression-compare table.less (at_level sum a) (at_level sum b))
operator_text op.Le a b = from_level comparison (g.expression-compare table.less-equal (at_level sum a) (at_level sum b))
operator_text op.Gt a b = from_level comparison (g.expression-compare table.greater (at_level sum a) (at_level sum b))
operator_text op.Ge a b = from_level comparison (g.expression-compare table.greater-equal (at_level sum a) (at_level sum b))
operator_text op.Add a b = from_level sum (g.expression-left-operator sum-product table.plus (at_level sum a) (at_level product b))
operator_text op.Sub a b = from_level sum (g.expression-left-operator sum-product table.minus-sign (at_level sum a) (at_level product b))
operator_text op.Mul a b = from_level product (g.expression-left-operator product-minus table.star (at_level product a) (at_level minus b))
operator_text op.Div a b = from_level product (g.expression-left-operator product-minus table.slash (at_level product a) (at_level minus b))
operator_text op.Rem a b = from_level product (g.expression-left-operator product-minus table.percent (at_level product a) (at_level minus b))

pub set_operator_text : {n : ℕ} {ts : List Token} {a : Tree} {us : List Token} {b : Tree} {r : List Token} → (o : SetOp) →
    ItemText n ts a (Symbol Comma ∷ us) → ItemText n us b (Symbol CloseParen ∷ r) → AtomText (suc n) (set_op_word o ∷ Symbol OpenParen ∷ ts) (tree.SetOp o a b) r
set_operator_text set_op.Union a b = g.atom-set-operator {op = set_op.Union} a b
set_operator_text set_op.Inter a b = g.atom-set-operator {op = set_op.Inter} a b
set_operator_text set_op.Diff a b = g.atom-set-operator {op = set_op.Diff} a b

-- a printed tree, in front of every rest
pub record Texted (t : Tree) : Type 0 where
  pub bare : (n : ℕ) (r : List Token) → 2 * tree_depth t ≤ n + 1 → TreeText n (printed_tokens t ++ r) t r
  pub operand : (n : ℕ) (r : List Token) → 2 * tree_depth t ≤ n → AtomText n (operand_tokens t ++ r) t r
  pub item : (n : ℕ) (r : List Token) → 2 * tree_depth t ≤ n → ItemText n (item_tokens t ++ r) t r

pub operand_is : (t : Tree) → operand_tokens t ≡ as_operand (shape_of t) (printed_tokens t)
unfolding operand_tokens
operand_is t = refl

pub item_is : (t : Tree) → item_tokens t ≡ as_item (shape_of t) (printed_tokens t)
unfolding item_tokens
item_is t = refl

parenthesised : (t : Tree) (n : ℕ) (r : List Token) → 0 < tree_depth t → 2 * tree_depth t ≤ n → ((n : ℕ) (r : List Token) → 2 * tree_depth t ≤ n + 1 → TreeText n (printed_tokens t ++ r) t r) →
    AtomText n (in_parentheses (printed_tokens t) ++ r) t r
parenthesised t zero r p h b = absurd (omega arith)
parenthesised t (suc n) r p h b =
    subst (λ l. AtomText (suc n) (Symbol OpenParen ∷ l) t r) (sym (append_assoc (printed_tokens t) (Symbol CloseParen ∷ []) r))
    (g.atom-parentheses (b n (Symbol CloseParen ∷ r) (omega arith)))

as_operand_of : (t : Tree) (s : Shape) → shape_of t ≡ s → operand_tokens t ≡ as_operand s (printed_tokens t)
as_operand_of t s e = operand_is t ∙ ap (λ x. as_operand x (printed_tokens t)) e

as_item_of : (t : Tree) (s : Shape) → shape_of t ≡ s → item_tokens t ≡ as_item s (printed_tokens t)
as_item_of t s e = item_is t ∙ ap (λ x. as_item x (printed_tokens t)) e

pub atom_form : (d : Tree-F FieldTree GenTree Tree EventTree PartTree) {t : Tree} → roll-Tree d ≡ t → (form d).shape ≡ Atom →
    ((n : ℕ) (r : List Token) → 2 * depths.layer_depth d ≤ n + 1 → AtomText n (onto.form_onto d r) t r) → Texted t
atom_form d {t} is s a =
    let e = depths.of_tree d is in
    let b : (n : ℕ) (r : List Token) → 2 * depths.layer_depth d ≤ n + 1 → AtomText n (printed_tokens t ++ r) t r = λ n r h. subst (λ l. AtomText n l t r) (sym (onto.onto d is r)) (a n r h) in
    record {
      bare = λ n r h. expression_tree (at_level disjunction (b n r (omega arith)));
      operand = λ n r h. subst (λ l. AtomText n (l ++ r) t r) (sym (as_operand_of t Atom (shape_is d is ∙ s))) (b n r (omega arith));
      item = λ n r h. subst (λ l. ItemText n (l ++ r) t r) (sym (as_item_of t Atom (shape_is d is ∙ s))) (g.item-expression (at_level disjunction (b n r (omega arith))));
    }

pub dotted_form : (d : Tree-F FieldTree GenTree Tree EventTree PartTree) {t : Tree} → roll-Tree d ≡ t → (form d).shape ≡ Dotted →
    ((n : ℕ) (r : List Token) → 2 * depths.layer_depth d ≤ n + 1 → DottedText n (onto.form_onto d r) t r) → Texted t
dotted_form d {t} is s a =
    let e = depths.of_tree d is in
    let p = depths.deep d in
    let b : (n : ℕ) (r : List Token) → 2 * depths.layer_depth d ≤ n + 1 → DottedText n (printed_tokens t ++ r) t r = λ n r h. subst (λ l. DottedText n l t r) (sym (onto.onto d is r)) (a n r h) in
    record {
      bare = λ n r h. g.tree-dotted (b n r (omega arith));
      operand = λ n r h.
          subst (λ l. AtomText n (l ++ r) t r) (sym (as_operand_of t Dotted (shape_is d is ∙ s)))
          (parenthesised t n r (omega arith) h (λ m q k. g.tree-dotted (b m q (omega arith))));
      item = λ n r h. subst (λ l. ItemText n (l ++ r) t r) (sym (as_item_of t Dotted (shape_is d is ∙ s))) (g.item-dotted (b n r (omega arith)));
    }

pub compound_form : (d : Tree-F FieldTree GenTree Tree EventTree PartTree) {t : Tree} → roll-Tree d ≡ t → (form d).shape ≡ Compound →
    ((n : ℕ) (r : List Token) → 2 * depths.layer_depth d ≤ n + 1 → TreeText n (onto.form_onto d r) t r) → Texted t
compound_form d {t} is s a =
    let e = depths.of_tree d is in
    let p = depths.deep d in
    let b : (n : ℕ) (r : List Token) → 2 * tree_depth t ≤ n + 1 → TreeText n (printed_tokens t ++ r) t r = λ n r h. subst (λ l. TreeText n l t r) (sym (onto.onto d is r)) (a n r (omega arith)) in
    record {
      bare = b;
      operand = λ n r h. subst (λ l. AtomText n (l ++ r) t r) (sym (as_operand_of t Compound (shape_is d is ∙ s))) (parenthesised t n r (omega arith) h b);
      item = λ n r h.
          subst (λ l. ItemText n (l ++ r) t r) (sym (as_item_of t Compound (shape_is d is ∙ s)))
          (g.item-expression (at_level disjunction (parenthesised t n r (omega arith) h b)));
    }

-- a form that opens a bracket
opening : (e : ℕ) → 0 < e → (Q : ℕ → Type 0) (n : ℕ) → 2 * e ≤ n + 1 → ((m : ℕ) → 2 * e ≤ m + 2 → Q (suc m)) → Q n
opening e p Q zero h f = absurd (omega arith)
opening e p Q (suc n) h f = f n (omega arith)

pub closed_form : (d : Tree-F FieldTree GenTree Tree EventTree PartTree) {t : Tree} → roll-Tree d ≡ t → (form d).shape ≡ Atom →
    ((n : ℕ) (r : List Token) → 2 * depths.layer_depth d ≤ n + 2 → AtomText (suc n) (onto.form_onto d r) t r) → Texted t
closed_form d {t} is s a = atom_form d is s (λ n r h. opening (depths.layer_depth d) (depths.deep d) (λ n. AtomText n (onto.form_onto d r) t r) n h (λ m k. a m r k))

pub bracket_form : (d : Tree-F FieldTree GenTree Tree EventTree PartTree) {t : Tree} → roll-Tree d ≡ t → (form d).shape ≡ Compound →
    ((n : ℕ) (r : List Token) → 2 * depths.layer_depth d ≤ n + 2 → TreeText (suc n) (onto.form_onto d r) t r) → Texted t
bracket_form d {t} is s a = compound_form d is s (λ n r h. opening (depths.layer_depth d) (depths.deep d) (λ n. TreeText n (onto.form_onto d r) t r) n h (λ m k. a m r k))
