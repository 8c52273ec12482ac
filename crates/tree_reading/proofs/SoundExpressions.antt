-- What is read of expressions and sets, the grammar has: a wall of cases, one lemma for each form, with the name of its reader. `Holds P` says P of what is
-- read, if there is something; `Sound L` says of the readers `L` of the parts that what they read the grammar has, within their limits of open brackets and
-- of depth. A case goes along its reader, by `by_then` at each part that may be missing: what the parts gave is put together by the grammar's own
-- constructor, and the depth of the node by `node`. `begun`, `joins` and `a_field` choose the case by the token in front, as the reader does.
-- A new form gets a lemma of its own, as `call` (an atom in brackets) or `negative` (an expression behind a sign), and a case in `begun_word`,
-- `begun_symbol` or `joins`, by the token with which it begins.
use Rattle.tree_reading.proofs.Prelude.{◌≡◌, ℕ, suc, ◌≤◌, max, Bool, true, nat_le, Option, Some, None, List, [], ◌∷◌, map, refl, sym, ap, subst, ◌∙◌, arith, field_depth, gen_depth, part_depth, tree_depth, set_op_word, Token, Name, Num, Word, FieldTree, GenTree, PartTree, Tree, greatest, BinOp, SetOp, TreeText, FieldsText, DottedText, DotsText, ExpressionText, PairsText, PartText, PartsText, ConditionsText, GensText, GenText, ItemText, ItemsText, AtomText, part_tree, disjunction, conjunction, negation, comparison, sum, product, minus, renaming, and_then, begins_event, case, dotted_tree, only, at_least, left_operand, number, tighter, Limited, read_dotted, read_item, read_items, read_dots, read_part, read_parts, read_pair, read_pairs, read_condition, read_gen, read_gens, read_conditions, read_call, read_set_operator, read_range, read_comprehension, read_filled, read_set, read_product, read_parentheses, read_atom_rest, read_atom, read_complement, read_negative, read_expression, read_renaming, read_with, read_operators, read_input, read_field, read_fields, limits, atom_start, other_start, sign_binding, symbol_start, word_start, Sign, Binding, AtomStart, and_first, and_second}
use Rattle.csp_text.specs.declared.token.Token.TheVariants.{Symbol}
use Rattle.csp_text.specs.declared.token.Token.TheVariants as token
use Rattle.csp_text.specs.declared.token.Word as words
use Rattle.csp_text.specs.declared.token.Word.TheVariants as word
use Rattle.csp_text.specs.declared.token.Symbol as symbols
use Rattle.csp_text.specs.declared.token.Symbol.TheVariants as symbol
use Rattle.csp_text.specs.declared.tree.Tree.TheVariants as tree
use Rattle.csp_base.specs.declared.operators.SetOp.TheVariants as set_op
use Rattle.csp_text.specs.declared.tree.GenTree.TheVariants as generator
use Rattle.csp_text.specs.declared.tree.FieldTree.TheVariants as field
use Rattle.csp_grammar.specs.Grammar as g
use Rattle.csp_grammar.specs.Precedence as table
use Rattle.tree_reading.specs.declared.look.AtomStart.TheVariants as start
use Rattle.tree_reading.specs.declared.read.Binding.TheVariants as bound
use Rattle.tree_reading.proofs.Fitting.{both, node}
use Rattle.tree_reading.proofs.Holds.{Holds, by_then, by_case, by_sure, by_if, by_bracketed, by_inside, by_around, is_le, mapped}
use Rattle.tree_reading.proofs.Holds.Holds.{none, some}
use Rattle.tree_reading.proofs.Levels.{pairs_depth}
use Rattle.tree_reading.proofs.Looks as look
use Rattle.tree_reading.proofs.Looks.{IsOperator, IsSign}
use Rattle.tree_reading.proofs.Meaning.{Sound, Expressions, ExpressionRead, ItemRead, ItemsRead, OperatorsRead, not_so_tight, loosen, of_atom}
use Rattle.tree_reading.proofs.NodeDepths as depths

head_same : (x y : Tree) → ◌≡◌ {A = List Tree} (x ∷ []) (y ∷ []) → x ≡ y
head_same x y e = cc

pub as_deep : {x a d : ℕ} → x ≡ a → a ≤ d → x ≤ d
as_deep {x} {a} {d} e h = omega arith

pub alone : (a : ℕ) {d : ℕ} → a ≤ d → max a 0 ≤ d
alone a {d} h = grind (arith)

nothing : (d : ℕ) → 0 ≤ d
nothing d = omega arith

leaf : (x d e : ℕ) → x ≡ 1 → d ≡ suc e → x ≤ d
leaf x d e is deep = omega arith

pub dotted_read : (n d e : ℕ) (c : List ℕ) (ts : List Token) (fields : List Tree) (r : List Token) → d ≡ suc e → DotsText n ts fields r → greatest (map tree_depth fields) ≤ e →
    Holds (λ t. DottedText n (Name c ∷ ts) t r × (tree_depth t ≤ d)) (dotted_tree c fields)
dotted_read n d e c ts fields r deep g.dots-none fits = none
dotted_read n d e c ts fields r deep (g.dots-more {a = a'} {fields = more} a ds) fits = some (g.dotted-fields a ds, node (depths.of_tree _ (tree.rolls-Dot c (a' ∷ more))) deep fits)

only_one : (items : List Tree) → Holds (λ a. items ≡ a ∷ []) (only items)
only_one [] = none
only_one (a ∷ []) = some refl
only_one (a ∷ b ∷ items) = none

-- the operator between its operands
joined : {n e k : ℕ} {t : Token} {op : BinOp} {m : Binding} {us : List Token} {a : Tree} {ts : List Token} {p : Binding × Tree × List Token} → IsOperator t op m →
    nat_le (number (left_operand m)) k ≡ true → Expressions n k us a (t ∷ ts) → ExpressionRead n e (tighter m) ts p → Expressions n (number m) us (tree.Binary op a p.1) p.2
joined {k = k} (look.left table.or) h e q = loosen disjunction (g.expression-left-operator table.disjunction-conjunction table.or (e disjunction (is_le 11 k h)) (q.is conjunction q.above))
joined {k = k} (look.left table.and) h e q = loosen conjunction (g.expression-left-operator table.conjunction-negation table.and (e conjunction (is_le 12 k h)) (q.is negation q.above))
joined {k = k} (look.left table.plus) h e q = loosen sum (g.expression-left-operator table.sum-product table.plus (e sum (is_le 15 k h)) (q.is product q.above))
joined {k = k} (look.left table.minus-sign) h e q = loosen sum (g.expression-left-operator table.sum-product table.minus-sign (e sum (is_le 15 k h)) (q.is product q.above))
joined {k = k} (look.left table.star) h e q = loosen product (g.expression-left-operator table.product-minus table.star (e product (is_le 16 k h)) (q.is minus q.above))
joined {k = k} (look.left table.slash) h e q = loosen product (g.expression-left-operator table.product-minus table.slash (e product (is_le 16 k h)) (q.is minus q.above))
joined {k = k} (look.left table.percent) h e q = loosen product (g.expression-left-operator table.product-minus table.percent (e product (is_le 16 k h)) (q.is minus q.above))
joined {k = k} (look.compared c) h e q = loosen comparison (g.expression-compare c (e sum (is_le 15 k h)) (q.is sum q.above))

low : {t : Token} {op : BinOp} {m : Binding} → IsOperator t op m → number (tighter m) ≤ 18
low (look.left table.or) = omega arith
low _ = omega arith

renamed : {n m : ℕ} {us : List Token} {t : Tree} {ts : List Token} {pairs : List (PartTree × PartTree)} {vs : List Token} {gs : List GenTree} {r : List Token} → n ≡ suc m →
    ExpressionText n renaming us t (Symbol symbol.OpenRename ∷ ts) → PairsText m ts pairs vs → ConditionsText m vs gs (Symbol symbol.CloseRename ∷ r) →
    ExpressionText n renaming us (tree.Rename t pairs gs) r
renamed {n} {m} {us} {t} {ts} {pairs} {vs} {gs} {r} e a b c =
    subst (λ z. ExpressionText z renaming us (tree.Rename t pairs gs) r) (sym e) (g.expression-rename (subst (λ z. ExpressionText z renaming us t (Symbol symbol.OpenRename ∷ ts)) e a) b c)

below_eighteen : (m : ℕ) → m ≤ 18 → m ≤ 19
below_eighteen m h = omega arith

-- an operand with a sign and what that takes to its right
pub record WithRead (n d : ℕ) (k : Binding) (t : Tree) (ts : List Token) (s : Sign) (p : Binding × Tree × List Token) : Type 0 where
  pub bound : p.0 ≡ sign_binding s
  pub is : (us : List Token) → Expressions n (number k) us t ts → Expressions n (number p.0) us p.1 p.2
  pub fits : tree_depth p.1 ≤ d

-- what a field is, in front of the fields that follow it
abbrev pub FieldRead : ℕ → ℕ → Bool → List Token → Option (FieldTree × Bool × List Token) → Type 0
FieldRead n d dot ts None = Unit {0}
FieldRead n d dot ts (Some p) = ((fs : List FieldTree) (r : List Token) → FieldsText n p.1 p.2 fs r → FieldsText n dot ts (p.0 ∷ fs) r) × (field_depth p.0 ≤ d)

module _ (L : Limited) (S : Sound L) where
  dotted : (n d : ℕ) (ts : List Token) → Holds (λ p. (p.0 ≡ bound.Dotted) × DottedText n ts p.1 p.2 × (tree_depth p.1 ≤ d)) (read_dotted L (limits n d) ts)
  dotted n d ts =
      by_inside n d _ λ e deep. by_then _ (look.names ts) λ c is. by_then _ (S.dots n e c.1) λ p ds. by_then _ (dotted_read n d e c.0 c.1 p.0 p.1 deep ds.0 ds.1) λ t h.
      some (refl, subst (λ z. DottedText n z t p.1) (sym is) h.0, h.1)

  pub item : (n d : ℕ) (ts : List Token) → Holds (ItemRead n d ts) (read_item L (limits n d) ts)
  item n d ts =
      by_if (begins_event ts) _ _
      (mapped (λ p h. record { item = g.item-dotted h.1; is = λ l le. not_so_tight l (number p.0) (as_deep (ap number h.0) (nothing 2)) le; fits = h.2 }) (dotted n d ts))
      (mapped (λ p e. record { item = g.item-expression (e.is disjunction e.above); is = e.is; fits = e.fits }) (S.expression n d bound.Disjunction ts (omega arith)))

  pub items : (n d : ℕ) (ts : List Token) → Holds (ItemsRead n d ts) (read_items L (limits n d) ts)
  items n d ts =
      by_then _ (item n d ts) λ p i.
      by_case _ _ (look.skips symbol.Comma p.2)
      (λ us e. by_then _ (S.items n d us) λ q j.
      some (record { items = g.items-more (subst (λ z. ItemText n ts p.1 z) e i.item) j.items; single = λ a eq l le. not_so_tight l 0 (omega arith) le; fit = both i.fits j.fit }))
      (some (record { items = g.items-one i.item; single = λ a eq l le. subst (λ z. ExpressionText n l ts z p.2) (head_same p.1 a eq) (i.is l le); fit = alone (tree_depth p.1) i.fits }))

  pub dots : (n d : ℕ) (ts : List Token) → Holds (λ p. DotsText n ts p.0 p.1 × (greatest (map tree_depth p.0) ≤ d)) (read_dots L (limits n d) ts)
  dots n d ts =
      by_case _ _ (look.skips symbol.Dot ts)
      (λ us e. by_then _ (S.expression n d bound.Sum us (omega arith)) λ p a. by_then _ (S.dots n d p.2) λ q ds.
      some (subst (λ z. DotsText n z (p.1 ∷ q.0) q.1) (sym e) (g.dots-more (a.is sum a.above) ds.0), both a.fits ds.1))
      (some (g.dots-none, nothing d))

  pub part : (n d : ℕ) (ts : List Token) → Holds (λ p. PartText n ts p.0 p.1 × (part_depth p.0 ≤ d)) (read_part L (limits n d) ts)
  part n d ts =
      by_then _ (look.names ts) λ c e. by_then _ (S.dots n d c.1) λ p ds.
      some (subst (λ z. PartText n z (part_tree c.0 p.0) p.1) (sym e) (g.part-dots ds.0), as_deep (depths.depth-part c.0 p.0) ds.1)

  pub parts : (n d : ℕ) (ts : List Token) → Holds (λ p. PartsText n ts p.0 p.1 × (greatest (map part_depth p.0) ≤ d)) (read_parts L (limits n d) ts)
  parts n d ts =
      by_then _ (part n d ts) λ p c.
      by_case _ _ (look.skips symbol.Comma p.1)
      (λ us e. by_then _ (S.parts n d us) λ q cs. some (g.parts-more (subst (λ z. PartText n ts p.0 z) e c.0) cs.0, both c.1 cs.1))
      (some (g.parts-one c.0, alone (part_depth p.0) c.1))

  pair : (n d : ℕ) (ts : List Token) → Holds (λ p. ((us : List Token) × PartText n ts p.0.0 (Symbol symbol.LeftArrow ∷ us) × PartText n us p.0.1 p.1) × (max (part_depth p.0.0) (part_depth p.0.1) ≤ d)) (read_pair L (limits n d) ts)
  pair n d ts =
      by_then _ (part n d ts) λ p c. by_then _ (look.skips symbol.LeftArrow p.1) λ us e. by_then _ (part n d us) λ q f.
      some ((us, subst (λ z. PartText n ts p.0 z) e c.0, f.0), both c.1 f.1)

  pub pairs : (n d : ℕ) (ts : List Token) → Holds (λ p. PairsText n ts p.0 p.1 × (pairs_depth p.0 ≤ d)) (read_pairs L (limits n d) ts)
  pairs n d ts =
      by_then _ (pair n d ts) λ p c.
      by_case _ _ (look.skips symbol.Comma p.1)
      (λ us e. by_then _ (S.pairs n d us) λ q cs. some (g.pairs-more c.0.1 (subst (λ z. PartText n c.0.0 p.0.1 z) e c.0.2) cs.0, both c.1 cs.1))
      (some (g.pairs-one c.0.1 c.0.2, alone (max (part_depth p.0.0) (part_depth p.0.1)) c.1))

  condition : (n d : ℕ) (ts : List Token) → Holds (λ p. GenText n ts p.0 p.1 × (gen_depth p.0 ≤ d)) (read_condition L (limits n d) ts)
  condition n d ts = by_then _ (S.expression n d bound.Disjunction ts (omega arith)) λ p a. some (g.gen-condition (a.is disjunction a.above), as_deep (depths.of_generator _ (generator.rolls-Cond p.1)) a.fits)

  pub gen : (n d : ℕ) (ts : List Token) → Holds (λ p. GenText n ts p.0 p.1 × (gen_depth p.0 ≤ d)) (read_gen L (limits n d) ts)
  gen n d ts =
      by_case _ _ (look.names ts)
      (λ x f. by_case _ _ (look.skips symbol.LeftArrow x.1)
      (λ us e. by_then _ (S.atom n d us) λ p a.
      some (subst (λ z. GenText n z (generator.From x.0 p.0) p.1) (sym (f ∙ ap (λ z. Name x.0 ∷ z) e)) (g.gen-from a.0), as_deep (depths.of_generator _ (generator.rolls-From x.0 p.0)) a.1))
      (condition n d ts))
      (condition n d ts)

  pub gens : (n d : ℕ) (ts : List Token) → Holds (λ p. GensText n ts p.0 p.1 × (greatest (map gen_depth p.0) ≤ d)) (read_gens L (limits n d) ts)
  gens n d ts =
      by_then _ (gen n d ts) λ p c.
      by_case _ _ (look.skips symbol.Comma p.1)
      (λ us e. by_then _ (S.gens n d us) λ q cs. some (g.gens-more (subst (λ z. GenText n ts p.0 z) e c.0) cs.0, both c.1 cs.1))
      (some (g.gens-one c.0, alone (gen_depth p.0) c.1))

  pub conditions : (n d : ℕ) (ts : List Token) → Holds (λ p. ConditionsText n ts p.0 p.1 × (greatest (map gen_depth p.0) ≤ d)) (read_conditions L (limits n d) ts)
  conditions n d ts =
      by_case _ _ (look.skips symbol.Bar ts)
      (λ us e. mapped (λ p h. (subst (λ z. ConditionsText n z p.0 p.1) (sym e) (g.conditions-some h.0), h.1)) (S.gens n d us))
      (some (g.conditions-none, nothing d))

  -- ATOMS, within a bracket and a node

  call : (m d e : ℕ) (x : List ℕ) (ts : List Token) → d ≡ suc e → Holds (λ p. AtomText (suc m) (Name x ∷ Symbol symbol.OpenParen ∷ ts) p.0 p.1 × (tree_depth p.0 ≤ d)) (read_call L (limits m e) x ts)
  call m d e x ts deep =
      by_then _ (S.items m e ts) λ p i. by_then _ (look.skips symbol.CloseParen p.2) λ us f.
      some (g.atom-call (subst (λ z. ItemsText m ts p.1 z) f i.items), node (depths.of_tree _ (tree.rolls-Call x p.1)) deep i.fit)

  set_operator : (m d e : ℕ) (op : SetOp) (ts : List Token) → d ≡ suc e → Holds (λ p. AtomText (suc m) (set_op_word op ∷ ts) p.0 p.1 × (tree_depth p.0 ≤ d)) (read_set_operator L (limits m e) op ts)
  set_operator m d e op ts deep =
      by_then _ (look.skips symbol.OpenParen ts) λ us o.
      by_then _ (item m e us) λ p i. by_then _ (look.skips symbol.Comma p.2) λ vs f.
      by_then _ (item m e vs) λ q j. by_then _ (look.skips symbol.CloseParen q.2) λ ws h.
      some (
        subst (λ z. AtomText (suc m) (set_op_word op ∷ z) (tree.SetOp op p.1 q.1) ws) (sym o)
            (g.atom-set-operator (subst (λ z. ItemText m us p.1 z) f i.item) (subst (λ z. ItemText m vs q.1 z) h j.item)),
        node (depths.of_tree _ (tree.rolls-SetOp op p.1 q.1)) deep (both i.fits j.fits),
      )

  first_fits : (a e : ℕ) → max a 0 ≤ e → a ≤ e
  first_fits a e h = grind (arith)

  one_fits : (listed : List Tree) (a : Tree) (e : ℕ) → listed ≡ a ∷ [] → greatest (map tree_depth listed) ≤ e → tree_depth a ≤ e
  one_fits listed a e one fit = first_fits (tree_depth a) e (subst (λ z. greatest (map tree_depth z) ≤ e) one fit)

  range : (m d e : ℕ) (ts : List Token) (p : Binding × List Tree × List Token) (us : List Token) → d ≡ suc e → ItemsRead m e ts p → p.2 ≡ Symbol symbol.DotDot ∷ us →
      Holds (λ q. AtomText (suc m) (Symbol symbol.OpenBrace ∷ ts) q.0 q.1 × (tree_depth q.0 ≤ d)) (read_range L (limits m e) p.0 p.1 us)
  range m d e ts p us deep i is =
      by_sure (at_least bound.Sum p.0) _ λ h. by_then _ (only_one p.1) λ a one. by_then _ (S.expression m e bound.Sum us (omega arith)) λ q b. by_then _ (look.skips symbol.CloseBrace q.2) λ vs f.
      some (
        g.atom-range (subst (λ z. ExpressionText m sum ts a z) is (i.single a one sum (is_le 15 (number p.0) h))) (subst (λ z. ExpressionText m sum us q.1 z) f (b.is sum b.above)),
        node (depths.of_tree _ (tree.rolls-Range a q.1)) deep (both (one_fits p.1 a e one i.fit) b.fits),
      )

  comprehension : (m d e : ℕ) (ts : List Token) (items : List Tree) (us : List Token) → d ≡ suc e → ItemsText m ts items (Symbol symbol.Bar ∷ us) → greatest (map tree_depth items) ≤ e →
      Holds (λ q. AtomText (suc m) (Symbol symbol.OpenBrace ∷ ts) q.0 q.1 × (tree_depth q.0 ≤ d)) (read_comprehension L (limits m e) items us)
  comprehension m d e ts listed us deep i fit =
      by_then _ (S.gens m e us) λ q gs. by_then _ (look.skips symbol.CloseBrace q.1) λ vs f.
      some (g.atom-comprehension i (subst (λ z. GensText m us q.0 z) f gs.0), node (depths.of_tree _ (tree.rolls-Comp listed q.0)) deep (both fit gs.1))

  filled : (m d e : ℕ) (ts : List Token) → d ≡ suc e → Holds (λ p. AtomText (suc m) (Symbol symbol.OpenBrace ∷ ts) p.0 p.1 × (tree_depth p.0 ≤ d)) (read_filled L (limits m e) ts)
  filled m d e ts deep =
      by_then _ (S.items m e ts) λ p i.
      by_case _ _ (look.skips symbol.DotDot p.2) (λ us f. range m d e ts p us deep i f)
      (by_case _ _ (look.skips symbol.Bar p.2) (λ us f. comprehension m d e ts p.1 us deep (subst (λ z. ItemsText m ts p.1 z) f i.items) i.fit)
      (by_then _ (look.skips symbol.CloseBrace p.2) λ us f. some (g.atom-display (subst (λ z. ItemsText m ts p.1 z) f i.items), node (depths.of_tree _ (tree.rolls-Display p.1)) deep i.fit)))

  set : (m d e : ℕ) (ts : List Token) → d ≡ suc e → Holds (λ p. AtomText (suc m) (Symbol symbol.OpenBrace ∷ ts) p.0 p.1 × (tree_depth p.0 ≤ d)) (read_set L (limits m e) ts)
  set m d e ts deep =
      by_case _ _ (look.skips symbol.CloseBrace ts)
      (λ us f. some (subst (λ z. AtomText (suc m) (Symbol symbol.OpenBrace ∷ z) (tree.Display []) us) (sym f) g.atom-empty, node (depths.of_tree _ (tree.rolls-Display [])) deep (nothing e)))
      (filled m d e ts deep)

  production : (m d e : ℕ) (ts : List Token) → d ≡ suc e → Holds (λ p. AtomText (suc m) (Symbol symbol.OpenProduct ∷ ts) p.0 p.1 × (tree_depth p.0 ≤ d)) (read_product L (limits m e) ts)
  production m d e ts deep =
      by_then _ (S.parts m e ts) λ p ps. by_then _ (conditions m e p.1) λ q cs. by_then _ (look.skips symbol.CloseProduct q.1) λ us f.
      some (g.atom-production ps.0 (subst (λ z. ConditionsText m p.1 q.0 z) f cs.0), node (depths.of_tree _ (tree.rolls-Product p.0 q.0)) deep (both ps.1 cs.1))

  parentheses : (m d : ℕ) (ts : List Token) → Holds (λ p. AtomText (suc m) (Symbol symbol.OpenParen ∷ ts) p.0 p.1 × (tree_depth p.0 ≤ d)) (read_parentheses L (limits m d) ts)
  parentheses m d ts = by_then _ (S.tree m d ts) λ p t. by_then _ (look.skips symbol.CloseParen p.1) λ us e. some (g.atom-parentheses (subst (λ z. TreeText m ts p.0 z) e t.0), t.1)

  -- what a start means, in front of the rest
  abbrev Begun : ℕ → ℕ → List Token → AtomStart × List Token → Type 0
  Begun n d ts s = Holds (λ p. AtomText n ts p.0 p.1 × (tree_depth p.0 ≤ d)) (read_atom_rest L (limits n d) s.0 s.1)

  begun_leaf : (n d : ℕ) (ts us : List Token) (t : Tree) → AtomText n ts t us → tree_depth t ≡ 1 → Begun n d ts (start.Leaf t, us)
  begun_leaf n d ts us t a is = by_inside n d _ λ e deep. some (a, leaf (tree_depth t) d e is deep)

  opened : (n d : ℕ) (ts : List Token) (K : (m e : ℕ) → Option (Tree × List Token)) → ((m e : ℕ) → d ≡ suc e → Holds (λ p. AtomText (suc m) ts p.0 p.1 × (tree_depth p.0 ≤ d)) (K m e)) →
      (m e : ℕ) → n ≡ suc m → d ≡ suc e → Holds (λ p. AtomText n ts p.0 p.1 × (tree_depth p.0 ≤ d)) (K m e)
  opened n d ts K f m e within deep = mapped (λ p a. (subst (λ z. AtomText z ts p.0 p.1) (sym within) a.0, a.1)) (f m e deep)

  begun_set_operator : (n d : ℕ) (op : SetOp) (us : List Token) → Begun n d (set_op_word op ∷ us) (start.SetOperator op, us)
  begun_set_operator n d op us = by_bracketed n d _ λ m within. by_inside m d _ λ e deep. opened n d (set_op_word op ∷ us) (λ m e. read_set_operator L (limits m e) op us) (λ m e. set_operator m d e op us) m e within deep

  begun_word : (n d : ℕ) (w : words.Word) (us : List Token) → Holds (λ s. Begun n d (Word w ∷ us) (s, us)) (word_start w)
  begun_word n d word.Diff us = some (begun_set_operator n d set_op.Diff us)
  begun_word n d word.False us = some (begun_leaf n d _ us tree.False g.atom-falsehood (depths.of_tree _ tree.rolls-False))
  begun_word n d word.Inter us = some (begun_set_operator n d set_op.Inter us)
  begun_word n d word.True us = some (begun_leaf n d _ us tree.True g.atom-truth (depths.of_tree _ tree.rolls-True))
  begun_word n d word.Union us = some (begun_set_operator n d set_op.Union us)
  begun_word n d word.Stop us = some (begun_leaf n d _ us tree.Stop g.atom-stop (depths.of_tree _ tree.rolls-Stop))
  begun_word n d word.Skip us = some (begun_leaf n d _ us tree.Skip g.atom-skip (depths.of_tree _ tree.rolls-Skip))
  begun_word n d _ us = none

  begun_symbol : (n d : ℕ) (s : symbols.Symbol) (us : List Token) → Holds (λ x. Begun n d (Symbol s ∷ us) (x, us)) (symbol_start s)
  begun_symbol n d symbol.OpenParen us = some (by_bracketed n d _ λ m within. mapped (λ p a. (subst (λ z. AtomText z (Symbol symbol.OpenParen ∷ us) p.0 p.1) (sym within) a.0, a.1)) (parentheses m d us))
  begun_symbol n d symbol.OpenBrace us = some (by_bracketed n d _ λ m within. by_inside m d _ λ e deep. opened n d (Symbol symbol.OpenBrace ∷ us) (λ m e. read_set L (limits m e) us) (λ m e. set m d e us) m e within deep)
  begun_symbol n d symbol.OpenProduct us = some (by_bracketed n d _ λ m within. by_inside m d _ λ e deep. opened n d (Symbol symbol.OpenProduct ∷ us) (λ m e. read_product L (limits m e) us) (λ m e. production m d e us) m e within deep)
  begun_symbol n d _ us = none

  begun_other : (n d : ℕ) (ts : List Token) → Holds (Begun n d ts) (other_start ts)
  begun_other n d (token.Word w ∷ us) = by_then _ (begun_word n d w us) λ s h. some h
  begun_other n d (token.Symbol s ∷ us) = by_then _ (begun_symbol n d s us) λ x h. some h
  begun_other n d (token.Num k ∷ us) = some (begun_leaf n d _ us (tree.Num k) g.atom-number (depths.of_tree _ (tree.rolls-Num k)))
  begun_other n d _ = none

  begun : (n d : ℕ) (ts : List Token) → Holds (Begun n d ts) (atom_start ts)
  begun n d ts =
      by_case _ _ (look.names ts)
      (λ x f. by_case _ _ (look.skips symbol.OpenParen x.1)
      (λ us e. some (subst (λ z. Begun n d z (start.Call x.0, us)) (sym (f ∙ ap (λ z. Name x.0 ∷ z) e))
      (by_bracketed n d _ λ m within. by_inside m d _ λ e deep. opened n d (Name x.0 ∷ Symbol symbol.OpenParen ∷ us) (λ m e. read_call L (limits m e) x.0 us) (λ m e. call m d e x.0 us) m e within deep)))
      (some (subst (λ z. Begun n d z (start.Leaf (tree.Name x.0), x.1)) (sym f) (begun_leaf n d (Name x.0 ∷ x.1) x.1 (tree.Name x.0) g.atom-name (depths.of_tree _ (tree.rolls-Name x.0))))))
      (begun_other n d ts)

  pub atom : (n d : ℕ) (ts : List Token) → Holds (λ p. AtomText n ts p.0 p.1 × (tree_depth p.0 ≤ d)) (read_atom L (limits n d) ts)
  atom n d ts = by_then _ (begun n d ts) λ s h. h

  -- EXPRESSIONS

  complement : (n d : ℕ) (m : Binding) (us : List Token) → Holds (ExpressionRead n d m (Word word.Not ∷ us)) (read_complement L (limits n d) m us)
  complement n d m us =
      by_sure (at_least m bound.Complement) _ λ h. by_inside n d _ λ e deep. by_then _ (S.expression n e bound.Complement us (omega arith)) λ p a.
      mapped (λ x f. f (Word word.Not ∷ us) (is_le (number m) 13 h) (loosen negation (g.expression-negated (a.is negation a.above))) (node (depths.of_tree _ (tree.rolls-Not p.1)) deep a.fits)) (S.operators n d m bound.Complement (tree.Not p.1) p.2)

  negative : (n d : ℕ) (m : Binding) (us : List Token) → Holds (ExpressionRead n d m (Symbol symbol.Minus ∷ us)) (read_negative L (limits n d) m us)
  negative n d m us =
      by_sure (at_least m bound.Negative) _ λ h. by_inside n d _ λ e deep. by_then _ (S.expression n e bound.Negative us (omega arith)) λ p a.
      mapped (λ x f. f (Symbol symbol.Minus ∷ us) (is_le (number m) 17 h) (loosen minus (g.expression-negative (a.is minus a.above))) (node (depths.of_tree _ (tree.rolls-Neg p.1)) deep a.fits)) (S.operators n d m bound.Negative (tree.Neg p.1) p.2)

  pub expression : (n d : ℕ) (m : Binding) (ts : List Token) → number m ≤ 18 → Holds (ExpressionRead n d m ts) (read_expression L (limits n d) m ts)
  expression n d m ts low =
      by_case _ _ (look.skips_word word.Not ts) (λ us e. subst (λ z. Holds (ExpressionRead n d m z) (read_complement L (limits n d) m us)) (sym e) (complement n d m us))
      (by_case _ _ (look.skips symbol.Minus ts) (λ us e. subst (λ z. Holds (ExpressionRead n d m z) (read_negative L (limits n d) m us)) (sym e) (negative n d m us))
      (by_then _ (S.atom n d ts) λ p a. mapped (λ x f. f ts (below_eighteen (number m) low) (of_atom a.0) a.1) (S.operators n d m bound.Atom p.0 p.1)))

  rename : (n d e : ℕ) (t : Tree) (ts : List Token) → d ≡ suc e → tree_depth t ≤ e →
      Holds (λ p. ((us : List Token) → ExpressionText n renaming us t (Symbol symbol.OpenRename ∷ ts) → ExpressionText n renaming us p.0 p.1) × (tree_depth p.0 ≤ d)) (read_renaming L (limits n e) t ts)
  rename n d e t ts deep fits =
      by_bracketed n e _ λ m within. by_then _ (S.pairs m e ts) λ p ps. by_then _ (conditions m e p.1) λ q cs. by_then _ (look.skips symbol.CloseRename q.1) λ vs f.
      some ((λ us front. renamed within front ps.0 (subst (λ z. ConditionsText m p.1 q.0 z) f cs.0)), node (depths.of_tree _ (tree.rolls-Rename t p.0 q.0)) deep (both fits (both ps.1 cs.1)))

  -- the sign with what it takes to its right
  joins : (n d : ℕ) (k : Binding) (t : Tree) (first : Token) (s : Sign) (ts : List Token) → IsSign first s → nat_le (number (left_operand (sign_binding s))) (number k) ≡ true →
      Holds (WithRead n d k t (first ∷ ts) s) (read_with L (limits n d) t s ts)
  joins n d k t first s ts (look.operator {op = op} {m = m} is) h =
      by_around n d t _ λ e deep fits. by_then _ (S.expression n e (tighter m) ts (low is)) λ p q.
      some (record { bound = refl; is = λ us ex. joined is h ex q; fits = node (depths.of_tree _ (tree.rolls-Binary op t p.1)) deep (both fits q.fits) })
  joins n d k t first s ts look.pairs h =
      by_around n d t _ λ e deep fits. by_then _ (rename n d e t ts deep fits) λ p a.
      some (record { bound = refl; is = λ us ex. loosen renaming (a.0 us (ex renaming (is_le 18 (number k) h))); fits = a.1 })

  pub operators : (n d : ℕ) (m k : Binding) (t : Tree) (ts : List Token) → Holds (OperatorsRead n d m k t ts) (read_operators L (limits n d) m k t ts)
  operators n d m k t ts =
      by_case _ _ (look.signs m k ts)
      (λ s on. by_then _ (joins n d k t on.first s.0 s.1 on.is (and_second (at_least m (sign_binding s.0)) (at_least (left_operand (sign_binding s.0)) k) on.may)) λ p w.
      mapped (λ x r us le ex fits. r us
      (subst (λ z. number m ≤ number z) (sym w.bound) (is_le (number m) (number (sign_binding s.0)) (and_first (at_least m (sign_binding s.0)) (at_least (left_operand (sign_binding s.0)) k) on.may)))
      (w.is us (subst (λ z. Expressions n (number k) us t z) on.split ex)) w.fits) (S.operators n d m p.0 p.1 p.2))
      (some (λ us le e fits. record { above = le; is = e; fits = fits }))

  -- FIELDS

  input : (n d : ℕ) (dot : Bool) (ts us : List Token) → ts ≡ Symbol symbol.Question ∷ us → Holds (λ p. FieldRead n d dot ts (Some p)) (read_input L (limits n d) us)
  input n d dot ts us is =
      by_then _ (look.names us) λ x ex. by_case _ _ (look.skips symbol.Colon x.1)
      (λ vs ev. by_then _ (S.atom n d vs) λ p a.
      some (
        (λ fs r rest. subst (λ z. FieldsText n dot z (field.Input x.0 (Some p.0) ∷ fs) r) (sym (is ∙ ap (λ z. Symbol symbol.Question ∷ z) (ex ∙ ap (λ z. Name x.0 ∷ z) ev))) (g.fields-input-from a.0 rest)),
        as_deep (depths.of_field _ (field.rolls-Input x.0 (Some p.0))) a.1,
      ))
      (some (
        (λ fs r rest. subst (λ z. FieldsText n dot z (field.Input x.0 None ∷ fs) r) (sym (is ∙ ap (λ z. Symbol symbol.Question ∷ z) ex)) (g.fields-input rest)),
        as_deep (depths.of_field _ (field.rolls-Input x.0 None)) (nothing d),
      ))

  a_field : (n d : ℕ) (dot : Bool) (ts : List Token) → Holds (FieldRead n d dot ts) (read_field L (limits n d) dot ts)
  a_field n d dot ts =
      by_case _ _ (look.skips symbol.Dot ts)
      (λ us e. by_sure dot _ λ may. by_then _ (S.expression n d bound.Sum us (omega arith)) λ p a.
      some (
        (λ fs r rest. subst (λ z. FieldsText n z ts (field.Dot p.1 ∷ fs) r) (sym may) (subst (λ z. FieldsText n true z (field.Dot p.1 ∷ fs) r) (sym e) (g.fields-dot (a.is sum a.above) rest))),
        as_deep (depths.of_field _ (field.rolls-Dot p.1)) a.fits,
      ))
      (by_case _ _ (look.skips symbol.Bang ts)
      (λ us e. by_then _ (S.expression n d bound.Sum us (omega arith)) λ p a.
      some ((λ fs r rest. subst (λ z. FieldsText n dot z (field.Output p.1 ∷ fs) r) (sym e) (g.fields-output (a.is sum a.above) rest)), as_deep (depths.of_field _ (field.rolls-Output p.1)) a.fits))
      (by_case _ _ (look.skips symbol.Question ts) (λ us e. by_then _ (input n d dot ts us e) λ p f. some f) (some tt)))

  with_field : (n d : ℕ) (dot : Bool) (ts : List Token) (o : Option (FieldTree × Bool × List Token)) → FieldRead n d dot ts o →
      Holds {A = List FieldTree × List Token} (λ p. FieldsText n dot ts p.0 p.1 × (greatest (map field_depth p.0) ≤ d)) (case o (λ p. and_then (L.fields (limits n d) p.1 p.2) λ q. Some (p.0 ∷ q.0, q.1)) (λ _. Some ([], ts)))
  with_field n d dot ts None f = some (g.fields-none, nothing d)
  with_field n d dot ts (Some p) f = by_then _ (S.fields n d p.1 p.2) λ q rest. some (f.0 q.0 q.1 rest.0, both f.1 rest.1)

  pub fields : (n d : ℕ) (dot : Bool) (ts : List Token) → Holds (λ p. FieldsText n dot ts p.0 p.1 × (greatest (map field_depth p.0) ≤ d)) (read_fields L (limits n d) dot ts)
  fields n d dot ts = by_then _ (a_field n d dot ts) λ o f. with_field n d dot ts o f
