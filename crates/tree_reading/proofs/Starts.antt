-- How the text of an expression starts: not as an event, a generator, an open form or the end of a set does.
use Rattle.tree_reading.proofs.Prelude.{◌≡◌, ℕ, false, nat_eq, None, List, ◌∷◌, refl, Token, Tree, BinOp, ExpressionText, AtomText, ItemText, ItemsText, Level, IsLeftOperator, IsComparison, begins_event, begins, binding, skip, skip_word, behind_name}
use Rattle.csp_text.specs.declared.token.Word.TheVariants as word
use Rattle.csp_text.specs.declared.token.Symbol.TheVariants as symbol
use Rattle.csp_base.specs.declared.operators.SetOp.TheVariants as set_op
use Rattle.csp_grammar.specs.Grammar as g
use Rattle.csp_grammar.specs.Precedence as table

left_no_event : {l : Level} {sign : Token} {op : BinOp} → IsLeftOperator l sign op → nat_eq (binding sign) 10 ≡ false
left_no_event table.or = refl
left_no_event _ = refl

comparison_no_event : {sign : Token} {op : BinOp} → IsComparison sign op → nat_eq (binding sign) 10 ≡ false
comparison_no_event table.equal = refl
comparison_no_event _ = refl

left_no_arrow : {l : Level} {sign : Token} {op : BinOp} (us : List Token) → IsLeftOperator l sign op → skip symbol.LeftArrow (sign ∷ us) ≡ None
left_no_arrow us table.or = refl
left_no_arrow us _ = refl

comparison_no_arrow : {sign : Token} {op : BinOp} (us : List Token) → IsComparison sign op → skip symbol.LeftArrow (sign ∷ us) ≡ None
comparison_no_arrow us table.equal = refl
comparison_no_arrow us _ = refl

atom_no_event : {n : ℕ} {ts : List Token} {t : Tree} {r : List Token} → AtomText n ts t r → nat_eq (begins r) 10 ≡ false → begins_event ts ≡ false
atom_no_event g.atom-name h = h
atom_no_event (g.atom-set-operator {op = set_op.Union} i j) h = refl
atom_no_event (g.atom-set-operator {op = set_op.Inter} i j) h = refl
atom_no_event (g.atom-set-operator {op = set_op.Diff} i j) h = refl
atom_no_event _ h = refl

pub no_event : {n : ℕ} {l : Level} {ts : List Token} {t : Tree} {r : List Token} → ExpressionText n l ts t r → nat_eq (begins r) 10 ≡ false → begins_event ts ≡ false
no_event (g.expression-tighter next e) h = no_event e h
no_event (g.expression-left-operator next op a b) h = no_event a (left_no_event op)
no_event (g.expression-negated a) h = refl
no_event (g.expression-compare c a b) h = no_event a (comparison_no_event c)
no_event (g.expression-negative a) h = refl
no_event (g.expression-rename p pairs gens) h = no_event p refl
no_event (g.expression-atom a) h = atom_no_event a h

atom_no_arrow : {n : ℕ} {ts : List Token} {t : Tree} {r : List Token} → AtomText n ts t r → skip symbol.LeftArrow r ≡ None → skip symbol.LeftArrow (behind_name ts) ≡ None
atom_no_arrow g.atom-name h = h
atom_no_arrow (g.atom-set-operator {op = set_op.Union} i j) h = refl
atom_no_arrow (g.atom-set-operator {op = set_op.Inter} i j) h = refl
atom_no_arrow (g.atom-set-operator {op = set_op.Diff} i j) h = refl
atom_no_arrow _ h = refl

pub no_arrow : {n : ℕ} {l : Level} {ts : List Token} {t : Tree} {r : List Token} → ExpressionText n l ts t r → skip symbol.LeftArrow r ≡ None → skip symbol.LeftArrow (behind_name ts) ≡ None
no_arrow (g.expression-tighter next e) h = no_arrow e h
no_arrow (g.expression-left-operator {us = us} next op a b) h = no_arrow a (left_no_arrow us op)
no_arrow (g.expression-negated a) h = refl
no_arrow (g.expression-compare {us = us} c a b) h = no_arrow a (comparison_no_arrow us c)
no_arrow (g.expression-negative a) h = refl
no_arrow (g.expression-rename p pairs gens) h = no_arrow p refl
no_arrow (g.expression-atom a) h = atom_no_arrow a h

-- the list begins with the sign of no open form, and with no `}`
pub record IsPlain (ts : List Token) : Type 0 where
  pub no_if : skip_word word.If ts ≡ None
  pub no_external : skip symbol.ExternalChoice ts ≡ None
  pub no_internal : skip symbol.InternalChoice ts ≡ None
  pub no_parallel : skip symbol.Parallel ts ≡ None
  pub no_brace : skip symbol.CloseBrace ts ≡ None

-- the list begins with no operator before an operand
pub record IsOperand (ts : List Token) : Type 0 where
  pub no_not : skip_word word.Not ts ≡ None
  pub no_minus : skip symbol.Minus ts ≡ None

atom_plain : {n : ℕ} {ts : List Token} {t : Tree} {r : List Token} → AtomText n ts t r → IsPlain ts
atom_plain (g.atom-set-operator {op = set_op.Union} i j) = record { no_if = refl; no_external = refl; no_internal = refl; no_parallel = refl; no_brace = refl }
atom_plain (g.atom-set-operator {op = set_op.Inter} i j) = record { no_if = refl; no_external = refl; no_internal = refl; no_parallel = refl; no_brace = refl }
atom_plain (g.atom-set-operator {op = set_op.Diff} i j) = record { no_if = refl; no_external = refl; no_internal = refl; no_parallel = refl; no_brace = refl }
atom_plain _ = record { no_if = refl; no_external = refl; no_internal = refl; no_parallel = refl; no_brace = refl }

pub atom_operand : {n : ℕ} {ts : List Token} {t : Tree} {r : List Token} → AtomText n ts t r → IsOperand ts
atom_operand (g.atom-set-operator {op = set_op.Union} i j) = record { no_not = refl; no_minus = refl }
atom_operand (g.atom-set-operator {op = set_op.Inter} i j) = record { no_not = refl; no_minus = refl }
atom_operand (g.atom-set-operator {op = set_op.Diff} i j) = record { no_not = refl; no_minus = refl }
atom_operand _ = record { no_not = refl; no_minus = refl }

pub plain : {n : ℕ} {l : Level} {ts : List Token} {t : Tree} {r : List Token} → ExpressionText n l ts t r → IsPlain ts
plain (g.expression-tighter next e) = plain e
plain (g.expression-left-operator next op a b) = plain a
plain (g.expression-negated a) = record { no_if = refl; no_external = refl; no_internal = refl; no_parallel = refl; no_brace = refl }
plain (g.expression-compare c a b) = plain a
plain (g.expression-negative a) = record { no_if = refl; no_external = refl; no_internal = refl; no_parallel = refl; no_brace = refl }
plain (g.expression-rename p pairs gens) = plain p
plain (g.expression-atom a) = atom_plain a

item_no_brace : {n : ℕ} {ts : List Token} {t : Tree} {r : List Token} → ItemText n ts t r → skip symbol.CloseBrace ts ≡ None
item_no_brace (g.item-dotted (g.dotted-fields a more)) = refl
item_no_brace (g.item-expression e) = (plain e).no_brace

pub items_no_brace : {n : ℕ} {ts : List Token} {items : List Tree} {r : List Token} → ItemsText n ts items r → skip symbol.CloseBrace ts ≡ None
items_no_brace (g.items-one i) = item_no_brace i
items_no_brace (g.items-more i more) = item_no_brace i
