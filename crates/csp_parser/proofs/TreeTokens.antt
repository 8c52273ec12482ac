-- A tree has fewer binding tokens than each of its texts has tokens: each of them is a token of the text, and there is one that is none of them, as the
-- arrow behind a `?x`. By induction over the grammar, of the tokens that a text takes from the list before it leaves the rest.
use Rattle.csp_parser.proofs.Prelude.{◌≡◌, ℕ, ◌+◌, ◌≤◌, Bool, Some, None, List, [], ◌∷◌, length, ap, ◌∙◌, arith, Token, Tree, all_tokens, fields_tokens, gen_tokens, gens_tokens, pairs_tokens, part_tokens, parts_tokens, tokens, field_tokens-Dot, field_tokens-Input, field_tokens-Output, gen_tokens-Cond, gen_tokens-From, part_tokens-is, tokens-Binary, tokens-Call, tokens-Comp, tokens-Display, tokens-Dot, tokens-EachExternal, tokens-EachInternal, tokens-EachParallel, tokens-External, tokens-False, tokens-Guard, tokens-Hide, tokens-If, tokens-Internal, tokens-Name, tokens-Neg, tokens-Not, tokens-Num, tokens-Parallel, tokens-Prefix, tokens-Product, tokens-Range, tokens-Rename, tokens-Seq, tokens-SetOp, tokens-Skip, tokens-Stop, tokens-True, FieldTree, out-EventTree, out-roll-EventTree, out-roll-PartTree, GenTree, PartTree, Choice, choice_of, event_tree, part_tree, TreeText, Reach, SideText, HidingText, ChoiceText, SequenceText, PrefixText, OpenText, EventText, FieldsText, DottedText, DotsText, ExpressionText, PairsText, PartText, PartsText, ConditionsText, GensText, GenText, ItemText, ItemsText, AtomText, external, internal, Level}
use Rattle.csp_text.specs.declared.tree.Tree.TheVariants as tree
use Rattle.csp_grammar.specs.Grammar as g

choice_tokens : (c : Choice) (ps : List Tree) → tokens (choice_of c ps) ≡ all_tokens ps
choice_tokens external ps = tokens-External ps
choice_tokens internal ps = tokens-Internal ps

event_fields : (c : List ℕ) (fs : List FieldTree) → fields_tokens (out-EventTree (event_tree c fs)).fields ≡ fields_tokens fs
event_fields c fs = ap (λ e. fields_tokens e.fields) (out-roll-EventTree (record { name = c; fields = fs }))

prefixed_tokens : (c : List ℕ) (fs : List FieldTree) (p : Tree) → tokens (tree.Prefix (event_tree c fs) p) ≡ fields_tokens fs + tokens p
prefixed_tokens c fs p = tokens-Prefix (event_tree c fs) p ∙ ap (λ n. n + tokens p) (event_fields c fs)

part_fields : (c : List ℕ) (fields : List Tree) → part_tokens (part_tree c fields) ≡ all_tokens fields
part_fields c fields = part_tokens-is (part_tree c fields) ∙ ap (λ p. all_tokens p.fields) (out-roll-PartTree (record { name = c; fields = fields }))

mutual
  pub tree_tokens : {n : ℕ} {ts : List Token} {t : Tree} {r : List Token} → TreeText n ts t r → 1 + tokens t + length r ≤ length ts
  tree_tokens (g.tree-dotted d) = dotted_tokens d
  tree_tokens (g.tree-side p) = side_tokens p
  tree_tokens (g.tree-parallel {p = p'} {a = a'} {b = b'} {q = q'} p a b q) =
      omega (arith, tokens-Parallel p' a' b' q', side_tokens p, atom_tokens a, atom_tokens b, side_tokens q)

  side_tokens : {n : ℕ} {e : Reach} {ts : List Token} {t : Tree} {r : List Token} → SideText n e ts t r → 1 + tokens t + length r ≤ length ts
  side_tokens (g.side-sequence p) = sequence_tokens p
  side_tokens (g.side-choice {ps = ps'} c ps) = omega (arith, choice_tokens c ps', choices_tokens ps)
  side_tokens (g.side-hiding p) = hiding_tokens p

  hiding_tokens : {n : ℕ} {ts : List Token} {t : Tree} {r : List Token} → HidingText n ts t r → 1 + tokens t + length r ≤ length ts
  hiding_tokens (g.hiding-one {p = p'} {a = a'} p a) = omega (arith, tokens-Hide p' a', expression_tokens p, atom_tokens a)
  hiding_tokens (g.hiding-more {p = p'} {a = a'} p a) = omega (arith, tokens-Hide p' a', hiding_tokens p, atom_tokens a)

  choices_tokens : {n : ℕ} {e : Reach} {c : Choice} {ts : List Token} {ps : List Tree} {r : List Token} → ChoiceText n e c ts ps r → 1 + all_tokens ps + length r ≤ length ts
  choices_tokens (g.choice-two p q) = omega (arith, sequence_tokens p, sequence_tokens q)
  choices_tokens (g.choice-more p ps) = omega (arith, sequence_tokens p, choices_tokens ps)

  sequence_tokens : {n : ℕ} {e : Reach} {ts : List Token} {t : Tree} {r : List Token} → SequenceText n e ts t r → 1 + tokens t + length r ≤ length ts
  sequence_tokens (g.sequence-one p) = prefix_tokens p
  sequence_tokens (g.sequence-more {p = p'} {q = q'} p q) = omega (arith, tokens-Seq p' q', prefix_tokens p, sequence_tokens q)

  prefix_tokens : {n : ℕ} {e : Reach} {ts : List Token} {t : Tree} {r : List Token} → PrefixText n e ts t r → 1 + tokens t + length r ≤ length ts
  prefix_tokens (g.prefix-event {p = p'} (g.event-fields {c = c'} {fs = fs'} fs) p) = omega (arith, prefixed_tokens c' fs' p', fields_are_tokens fs, prefix_tokens p)
  prefix_tokens (g.prefix-guard {c = c'} {p = p'} c p) = omega (arith, tokens-Guard c' p', expression_tokens c, prefix_tokens p)
  prefix_tokens (g.prefix-expression e) = expression_tokens e
  prefix_tokens (g.prefix-open-form p) = open_tokens p

  open_tokens : {n : ℕ} {ts : List Token} {t : Tree} {r : List Token} → OpenText n ts t r → 1 + tokens t + length r ≤ length ts
  open_tokens (g.open-if-then-else {c = c'} {p = p'} {q = q'} c p q) = omega (arith, tokens-If c' p' q', expression_tokens c, tree_tokens p, tree_tokens q)
  open_tokens (g.open-external {x = x} {s = s'} {p = p'} s p) = omega (arith, tokens-EachExternal x s' p', atom_tokens s, tree_tokens p)
  open_tokens (g.open-internal {x = x} {s = s'} {p = p'} s p) = omega (arith, tokens-EachInternal x s' p', atom_tokens s, tree_tokens p)
  open_tokens (g.open-parallel {x = x} {s = s'} {a = a'} {p = p'} s a p) = omega (arith, tokens-EachParallel x s' a' p', atom_tokens s, atom_tokens a, tree_tokens p)

  fields_are_tokens : {n : ℕ} {dot : Bool} {ts : List Token} {fs : List FieldTree} {r : List Token} → FieldsText n dot ts fs r → fields_tokens fs + length r ≤ length ts
  fields_are_tokens g.fields-none = omega arith
  fields_are_tokens (g.fields-dot {a = a'} a fs) = omega (arith, field_tokens-Dot a', expression_tokens a, fields_are_tokens fs)
  fields_are_tokens (g.fields-output {a = a'} a fs) = omega (arith, field_tokens-Output a', expression_tokens a, fields_are_tokens fs)
  fields_are_tokens (g.fields-input {x = x} fs) = omega (arith, field_tokens-Input x None, fields_are_tokens fs)
  fields_are_tokens (g.fields-input-from {x = x} {s = s'} s fs) = omega (arith, field_tokens-Input x (Some s'), atom_tokens s, fields_are_tokens fs)

  dotted_tokens : {n : ℕ} {ts : List Token} {t : Tree} {r : List Token} → DottedText n ts t r → 1 + tokens t + length r ≤ length ts
  dotted_tokens (g.dotted-fields {c = c'} {a = a'} {fields = fields'} a fields) = omega (arith, tokens-Dot c' (a' ∷ fields'), expression_tokens a, dots_tokens fields)

  dots_tokens : {n : ℕ} {ts : List Token} {fields : List Tree} {r : List Token} → DotsText n ts fields r → all_tokens fields + length r ≤ length ts
  dots_tokens g.dots-none = omega arith
  dots_tokens (g.dots-more a fields) = omega (arith, expression_tokens a, dots_tokens fields)

  expression_tokens : {n : ℕ} {l : Level} {ts : List Token} {t : Tree} {r : List Token} → ExpressionText n l ts t r → 1 + tokens t + length r ≤ length ts
  expression_tokens (g.expression-tighter next e) = expression_tokens e
  expression_tokens (g.expression-left-operator {op = op'} {a = a'} {b = b'} next op a b) = omega (arith, tokens-Binary op' a' b', expression_tokens a, expression_tokens b)
  expression_tokens (g.expression-negated {a = a'} a) = omega (arith, tokens-Not a', expression_tokens a)
  expression_tokens (g.expression-compare {op = op'} {a = a'} {b = b'} op a b) = omega (arith, tokens-Binary op' a' b', expression_tokens a, expression_tokens b)
  expression_tokens (g.expression-negative {a = a'} a) = omega (arith, tokens-Neg a', expression_tokens a)
  expression_tokens (g.expression-rename {p = p'} {pairs = pairs'} {gs = gs'} p pairs gs) =
      omega (arith, tokens-Rename p' pairs' gs', expression_tokens p, pairs_are_tokens pairs, conditions_tokens gs)
  expression_tokens (g.expression-atom a) = atom_tokens a

  pairs_are_tokens : {n : ℕ} {ts : List Token} {pairs : List (PartTree × PartTree)} {r : List Token} → PairsText n ts pairs r → 1 + pairs_tokens pairs + length r ≤ length ts
  pairs_are_tokens (g.pairs-one c d) = omega (arith, part_is_tokens c, part_is_tokens d)
  pairs_are_tokens (g.pairs-more c d pairs) = omega (arith, part_is_tokens c, part_is_tokens d, pairs_are_tokens pairs)

  part_is_tokens : {n : ℕ} {ts : List Token} {c : PartTree} {r : List Token} → PartText n ts c r → 1 + part_tokens c + length r ≤ length ts
  part_is_tokens (g.part-dots {c = c'} {fields = fields'} fields) = omega (arith, part_fields c' fields', dots_tokens fields)

  parts_are_tokens : {n : ℕ} {ts : List Token} {cs : List PartTree} {r : List Token} → PartsText n ts cs r → 1 + parts_tokens cs + length r ≤ length ts
  parts_are_tokens (g.parts-one c) = omega (arith, part_is_tokens c)
  parts_are_tokens (g.parts-more c cs) = omega (arith, part_is_tokens c, parts_are_tokens cs)

  conditions_tokens : {n : ℕ} {ts : List Token} {gs : List GenTree} {r : List Token} → ConditionsText n ts gs r → gens_tokens gs + length r ≤ length ts
  conditions_tokens g.conditions-none = omega arith
  conditions_tokens (g.conditions-some gs) = omega (arith, gens_are_tokens gs)

  gens_are_tokens : {n : ℕ} {ts : List Token} {gs : List GenTree} {r : List Token} → GensText n ts gs r → 1 + gens_tokens gs + length r ≤ length ts
  gens_are_tokens (g.gens-one c) = omega (arith, gen_is_tokens c)
  gens_are_tokens (g.gens-more c gs) = omega (arith, gen_is_tokens c, gens_are_tokens gs)

  gen_is_tokens : {n : ℕ} {ts : List Token} {c : GenTree} {r : List Token} → GenText n ts c r → 1 + gen_tokens c + length r ≤ length ts
  gen_is_tokens (g.gen-from {x = x} {s = s'} s) = omega (arith, gen_tokens-From x s', atom_tokens s)
  gen_is_tokens (g.gen-condition {c = c'} c) = omega (arith, gen_tokens-Cond c', expression_tokens c)

  item_tokens : {n : ℕ} {ts : List Token} {t : Tree} {r : List Token} → ItemText n ts t r → 1 + tokens t + length r ≤ length ts
  item_tokens (g.item-dotted d) = dotted_tokens d
  item_tokens (g.item-expression e) = expression_tokens e

  pub items_tokens : {n : ℕ} {ts : List Token} {items : List Tree} {r : List Token} → ItemsText n ts items r → 1 + all_tokens items + length r ≤ length ts
  items_tokens (g.items-one i) = omega (arith, item_tokens i)
  items_tokens (g.items-more i items) = omega (arith, item_tokens i, items_tokens items)

  pub atom_tokens : {n : ℕ} {ts : List Token} {t : Tree} {r : List Token} → AtomText n ts t r → 1 + tokens t + length r ≤ length ts
  atom_tokens g.atom-stop = omega (arith, tokens-Stop)
  atom_tokens g.atom-skip = omega (arith, tokens-Skip)
  atom_tokens g.atom-truth = omega (arith, tokens-True)
  atom_tokens g.atom-falsehood = omega (arith, tokens-False)
  atom_tokens (g.atom-number {x = x}) = omega (arith, tokens-Num x)
  atom_tokens (g.atom-name {x = x}) = omega (arith, tokens-Name x)
  atom_tokens (g.atom-call {x = x} {items = items'} items) = omega (arith, tokens-Call x items', items_tokens items)
  atom_tokens (g.atom-parentheses t) = omega (arith, tree_tokens t)
  atom_tokens g.atom-empty = omega (arith, tokens-Display [])
  atom_tokens (g.atom-display {items = items'} items) = omega (arith, tokens-Display items', items_tokens items)
  atom_tokens (g.atom-range {a = a'} {b = b'} a b) = omega (arith, tokens-Range a' b', expression_tokens a, expression_tokens b)
  atom_tokens (g.atom-comprehension {items = items'} {gs = gs'} items gs) = omega (arith, tokens-Comp items' gs', items_tokens items, gens_are_tokens gs)
  atom_tokens (g.atom-production {parts = parts'} {gs = gs'} parts gs) = omega (arith, tokens-Product parts' gs', parts_are_tokens parts, conditions_tokens gs)
  atom_tokens (g.atom-set-operator {op = op'} {a = a'} {b = b'} a b) = omega (arith, tokens-SetOp op' a' b', item_tokens a, item_tokens b)
