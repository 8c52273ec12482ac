-- What holds of a rest, where `k` parentheses are open, holds of the tokens of a printed tree in front of it too.
use Rattle.print_laws.proofs.Prelude.{◌≡◌, ℕ, suc, Bool, true, false, List, [], ◌∷◌, ◌++◌, ap, sym, refl, ◌∙◌, subst, append_assoc, flat_map, set_op_word, Arrow, ExternalChoice, InternalChoice, Parallel, OpenRename, CloseRename, OpenProduct, CloseProduct, DotDot, Dot, Colon, At, Minus, OpenParen, CloseParen, OpenBrace, CloseBrace, OpenBracket, CloseBracket, Comma, Ampersand, Bar, Backslash, Semicolon, Token, Name, Num, Symbol, EventTree, FieldTree, Tree-F, roll-Tree, GenTree, PartTree, Tree, BinOp, SetOp, Choice, choice_sign, choice_of, event_tree, Shape, Atom, Dotted, Compound, as_item, as_operand, conditions, dotted, field_tokens, gen_tokens, in_parentheses, item_tokens, operand_tokens, operator_token, part_tokens, printed_tokens, renamed_tokens, separated, shape_of, is_common, MadeTree, MadeTrees, MadeDots, MadeFields, MadePart, MadeParts, MadePairs, MadeGen, MadeGens, MadeConditions}
use Rattle.csp_text.specs.declared.token.Token.TheVariants.{Word}
use Rattle.csp_text.specs.declared.token.Token.TheVariants as token
use Rattle.csp_text.specs.declared.token.Word.TheVariants as word
use Rattle.csp_text.specs.declared.token.Symbol.TheVariants as symbol
use Rattle.csp_text.specs.declared.tree.Tree.TheVariants as tree
use Rattle.csp_base.specs.declared.operators.BinOp.TheVariants as op
use Rattle.csp_base.specs.declared.operators.SetOp.TheVariants as set_op
use Rattle.csp_grammar.specs.Grammar as grammar
use Rattle.print_laws.specs.Made as m
use Rattle.print_laws.proofs.Forms.{item_is, operand_is}
use Rattle.print_laws.proofs.Onto as onto

-- a token of which something is known in a tree
abbrev pub is_own : Token → Bool
is_own (token.Name _) = true
is_own (token.Num _) = true
is_own (token.Symbol ExternalChoice) = true
is_own (token.Symbol InternalChoice) = true
is_own (token.Symbol OpenRename) = true
is_own (token.Symbol CloseRename) = true
is_own _ = false

-- any other token of a tree, but for parentheses
abbrev pub is_other : Token → Bool
is_other (token.Symbol ExternalChoice) = false
is_other (token.Symbol InternalChoice) = false
is_other (token.Symbol OpenRename) = false
is_other (token.Symbol CloseRename) = false
is_other (token.Symbol OpenParen) = false
is_other (token.Symbol CloseParen) = false
is_other (token.Symbol _) = true
is_other (token.Word w) = is_common w
is_other _ = false

operator_other : (o : BinOp) → is_other (operator_token o) ≡ true
operator_other op.Or = refl
operator_other _ = refl

set_op_other : (o : SetOp) → is_other (set_op_word o) ≡ true
set_op_other set_op.Union = refl
set_op_other _ = refl

choice_own : (c : Choice) → is_own (choice_sign c) ≡ true
choice_own grammar.external = refl
choice_own grammar.internal = refl

choice_onto : (c : Choice) (ps : List Tree) (r : List Token) → printed_tokens (choice_of c ps) ++ r ≡ separated operand_tokens (choice_sign c) ps ++ r
choice_onto grammar.external ps r = onto.onto _ (tree.rolls-External ps) r
choice_onto grammar.internal ps r = onto.onto _ (tree.rolls-Internal ps) r

module _ (P : Token → Type 0) (G : ℕ → List Token → Type 0)
    (own : (k : ℕ) (t : Token) (ts : List Token) → is_own t ≡ true → P t → G k ts → G k (t ∷ ts))
    (other : (k : ℕ) (t : Token) (ts : List Token) → is_other t ≡ true → G k ts → G k (t ∷ ts))
    (opens : (k : ℕ) (ts : List Token) → G (suc k) ts → G k (token.Symbol symbol.OpenParen ∷ ts))
    (closes : (k : ℕ) (ts : List Token) → G k ts → G (suc k) (token.Symbol symbol.CloseParen ∷ ts)) where
  kept : {k : ℕ} {t : Token} {ts : List Token} → is_own t ≡ true → P t → G k ts → G k (t ∷ ts)
  kept {k} {t} {ts} e p g = own k t ts e p g

  goes : {k : ℕ} {t : Token} {ts : List Token} → is_other t ≡ true → G k ts → G k (t ∷ ts)
  goes {k} {t} {ts} e g = other k t ts e g

  opened : {k : ℕ} {ts : List Token} → G (suc k) ts → G k (token.Symbol symbol.OpenParen ∷ ts)
  opened {k} {ts} g = opens k ts g

  shut : {k : ℕ} {ts : List Token} → G k ts → G (suc k) (token.Symbol symbol.CloseParen ∷ ts)
  shut {k} {ts} g = closes k ts g

  -- it holds in front of every rest of which it holds
  pub record Held (t : Tree) : Type 0 where
    pub bare : (k : ℕ) (r : List Token) → G k r → G k (printed_tokens t ++ r)
    pub operand : (k : ℕ) (r : List Token) → G k r → G k (operand_tokens t ++ r)
    pub item : (k : ℕ) (r : List Token) → G k r → G k (item_tokens t ++ r)

  in_parens : (ts : List Token) → ((k : ℕ) (r : List Token) → G k r → G k (ts ++ r)) → (k : ℕ) (r : List Token) → G k r → G k (in_parentheses ts ++ r)
  in_parens ts b k r g =
      subst (λ l. G k (Symbol OpenParen ∷ l)) (sym (append_assoc ts (Symbol CloseParen ∷ []) r)) (opened (b (suc k) (Symbol CloseParen ∷ r) (shut g)))

  shaped_operand : (s : Shape) (ts : List Token) → ((k : ℕ) (r : List Token) → G k r → G k (ts ++ r)) → (k : ℕ) (r : List Token) → G k r → G k (as_operand s ts ++ r)
  shaped_operand Atom ts b k r g = b k r g
  shaped_operand Dotted ts b k r g = in_parens ts b k r g
  shaped_operand Compound ts b k r g = in_parens ts b k r g

  shaped_item : (s : Shape) (ts : List Token) → ((k : ℕ) (r : List Token) → G k r → G k (ts ++ r)) → (k : ℕ) (r : List Token) → G k r → G k (as_item s ts ++ r)
  shaped_item Atom ts b k r g = b k r g
  shaped_item Dotted ts b k r g = b k r g
  shaped_item Compound ts b k r g = in_parens ts b k r g

  held : (t : Tree) → ((k : ℕ) (r : List Token) → G k r → G k (printed_tokens t ++ r)) → Held t
  held t b = record {
    bare = b;
    operand = λ k r g. subst (λ l. G k (l ++ r)) (sym (operand_is t)) (shaped_operand (shape_of t) (printed_tokens t) b k r g);
    item = λ k r g. subst (λ l. G k (l ++ r)) (sym (item_is t)) (shaped_item (shape_of t) (printed_tokens t) b k r g);
  }

  held_form : (d : Tree-F FieldTree GenTree Tree EventTree PartTree) {t : Tree} → roll-Tree d ≡ t → ((k : ℕ) (r : List Token) → G k r → G k (onto.form_onto d r)) → Held t
  held_form d {t} is b = held t (λ k r g. subst (G k) (sym (onto.onto d is r)) (b k r g))

  -- a list with a sign between two
  listed : {X : Type 0} (shown : X → List Token) (sign : Token) (x : X) (xs : List X) → ((k : ℕ) (r : List Token) → G k r → G k (shown x ++ r)) →
      ((k : ℕ) (ts : List Token) → G k ts → G k (sign ∷ ts)) →
      ((k : ℕ) (r : List Token) → G k r → G k (separated shown sign xs ++ r)) → (k : ℕ) (r : List Token) → G k r → G k (separated shown sign (x ∷ xs) ++ r)
  listed shown sign x [] b c d k r g = subst (G k) (sym (onto.separated_one shown sign x r)) (b k r g)
  listed shown sign x (y ∷ ys) b c d k r g = subst (G k) (sym (onto.separated_more shown sign x y ys r)) (b k _ (c k _ (d k r g)))

  alone : {X : Type 0} (shown : X → List Token) (sign : Token) (x : X) → ((k : ℕ) (r : List Token) → G k r → G k (shown x ++ r)) → (k : ℕ) (r : List Token) → G k r →
      G k (separated shown sign (x ∷ []) ++ r)
  alone shown sign x b k r g = subst (G k) (sym (onto.separated_one shown sign x r)) (b k r g)

  comma : (k : ℕ) (ts : List Token) → G k ts → G k (Symbol Comma ∷ ts)
  comma k ts g = goes refl g

  barred : (gs : List GenTree) → ((k : ℕ) (r : List Token) → G k r → G k (separated gen_tokens (Symbol Comma) gs ++ r)) → (k : ℕ) (r : List Token) → G k r → G k (conditions gen_tokens gs ++ r)
  barred [] b k r g = g
  barred (x ∷ xs) b k r g = goes refl (b k r g)

  mutual
    pub held_tree : {t : Tree} → MadeTree P t → Held t
    held_tree m.made-stop = held_form _ tree.rolls-Stop (λ k r g. goes {t = Word word.Stop} refl g)
    held_tree m.made-skip = held_form _ tree.rolls-Skip (λ k r g. goes {t = Word word.Skip} refl g)
    held_tree m.made-truth = held_form _ tree.rolls-True (λ k r g. goes {t = Word word.True} refl g)
    held_tree m.made-falsehood = held_form _ tree.rolls-False (λ k r g. goes {t = Word word.False} refl g)
    held_tree (m.made-number {n = n} x) = held_form _ (tree.rolls-Num n) (λ k r g. kept {t = Num n} refl x g)
    held_tree (m.made-name {x = x} y) = held_form _ (tree.rolls-Name x) (λ k r g. kept {t = Name x} refl y g)
    held_tree (m.made-call {x = x} {items = items} y is) = held_form _ (tree.rolls-Call x items) (λ k r g. kept {t = Name x} refl y (opened (held_items is _ _ (shut g))))
    held_tree (m.made-dotted {c = c} {a = a} {fields = fields} y a' ds) = held (tree.Dot c (a ∷ fields)) (λ k r g. subst (G k) (sym (onto.onto _ (tree.rolls-Dot c (a ∷ fields)) r ∙ ap (λ l. Name c ∷ l) (onto.dotted_more a fields r))) (kept {t = Name c} refl y (goes {t = Symbol Dot} refl ((held_tree a').operand _ _ ((held_dots ds) _ _ g)))))
    held_tree (m.made-negative {a = a} a') = held_form _ (tree.rolls-Neg a) (λ k r g. goes {t = Symbol Minus} refl ((held_tree a').operand _ _ g))
    held_tree (m.made-negated {a = a} a') = held_form _ (tree.rolls-Not a) (λ k r g. goes {t = Word word.Not} refl ((held_tree a').operand _ _ g))
    held_tree (m.made-binary {op = o} {a = a} {b = b} a' b') = held_form _ (tree.rolls-Binary o a b) (λ k r g. (held_tree a').operand _ _ (goes {t = operator_token o} (operator_other o) ((held_tree b').operand _ _ g)))
    held_tree (m.made-if {c = c} {p = p} {q = q} c' p' q') = held_form _ (tree.rolls-If c p q) (λ k r g. goes {t = Word word.If} refl ((held_tree c').operand _ _ (goes {t = Word word.Then} refl ((held_tree p').bare _ _ (goes {t = Word word.Else} refl ((held_tree q').bare _ _ g))))))
    held_tree m.made-empty = held_form _ (tree.rolls-Display []) (λ k r g. goes {t = Symbol OpenBrace} refl (goes {t = Symbol CloseBrace} refl g))
    held_tree (m.made-display {items = items} is) = held_form _ (tree.rolls-Display items) (λ k r g. goes {t = Symbol OpenBrace} refl (held_items is _ _ (goes {t = Symbol CloseBrace} refl g)))
    held_tree (m.made-range {a = a} {b = b} a' b') = held_form _ (tree.rolls-Range a b) (λ k r g. goes {t = Symbol OpenBrace} refl ((held_tree a').operand _ _ (goes {t = Symbol DotDot} refl ((held_tree b').operand _ _ (goes {t = Symbol CloseBrace} refl g)))))
    held_tree (m.made-comprehension {items = items} {gs = gs} is gs') = held_form _ (tree.rolls-Comp items gs) (λ k r g. goes {t = Symbol OpenBrace} refl (held_items is _ _ (goes {t = Symbol Bar} refl (held_gens gs' _ _ (goes {t = Symbol CloseBrace} refl g)))))
    held_tree (m.made-production {parts = parts} {gs = gs} ps gs') = held_form _ (tree.rolls-Product parts gs) (λ k r g. goes {t = Symbol OpenProduct} refl (held_parts ps _ _ (held_conditions gs' _ _ (goes {t = Symbol CloseProduct} refl g))))
    held_tree (m.made-set-operator {op = o} {a = a} {b = b} a' b') = held_form _ (tree.rolls-SetOp o a b) (λ k r g. goes {t = set_op_word o} (set_op_other o) (opened ((held_tree a').item _ _ (goes {t = Symbol Comma} refl ((held_tree b').item _ _ (shut g))))))
    held_tree (m.made-prefix {c = c} {fs = fs} {p = p} y fs' p') = held (tree.Prefix (event_tree c fs) p) (λ k r g. subst (G k) (sym (onto.onto _ (tree.rolls-Prefix (event_tree c fs) p) r ∙ onto.onto-event c fs _)) (kept {t = Name c} refl y (held_fields fs' _ _ (goes {t = Symbol Arrow} refl ((held_tree p').operand _ _ g)))))
    held_tree (m.made-guard {c = c} {p = p} c' p') = held_form _ (tree.rolls-Guard c p) (λ k r g. (held_tree c').operand _ _ (goes {t = Symbol Ampersand} refl ((held_tree p').operand _ _ g)))
    held_tree (m.made-each-external {x = x} {s = s} {p = p} y z s' p') = held_form _ (tree.rolls-EachExternal x s p) (λ k r g. kept {t = Symbol ExternalChoice} refl y (kept {t = Name x} refl z (goes {t = Symbol Colon} refl ((held_tree s').operand _ _ (goes {t = Symbol At} refl ((held_tree p').bare _ _ g))))))
    held_tree (m.made-each-internal {x = x} {s = s} {p = p} y z s' p') = held_form _ (tree.rolls-EachInternal x s p) (λ k r g. kept {t = Symbol InternalChoice} refl y (kept {t = Name x} refl z (goes {t = Symbol Colon} refl ((held_tree s').operand _ _ (goes {t = Symbol At} refl ((held_tree p').bare _ _ g))))))
    held_tree (m.made-parallel {p = p} {a = a} {b = b} {q = q} p' a' b' q') = held_form _ (tree.rolls-Parallel p a b q) (λ k r g. (held_tree p').operand _ _ (goes {t = Symbol OpenBracket} refl ((held_tree a').operand _ _ (goes {t = Symbol Parallel} refl ((held_tree b').operand _ _ (goes {t = Symbol CloseBracket} refl ((held_tree q').operand _ _ g)))))))
    held_tree (m.made-each-parallel {x = x} {s = s} {a = a} {p = p} z s' a' p') = held_form _ (tree.rolls-EachParallel x s a p) (λ k r g. goes {t = Symbol Parallel} refl (kept {t = Name x} refl z (goes {t = Symbol Colon} refl ((held_tree s').operand _ _ (goes {t = Symbol At} refl (goes {t = Symbol OpenBracket} refl ((held_tree a').operand _ _ (goes {t = Symbol CloseBracket} refl ((held_tree p').bare _ _ g)))))))))
    held_tree (m.made-sequence {p = p} {q = q} p' q') = held_form _ (tree.rolls-Seq p q) (λ k r g. (held_tree p').operand _ _ (goes {t = Symbol Semicolon} refl ((held_tree q').operand _ _ g)))
    held_tree (m.made-hiding {p = p} {s = s} p' s') = held_form _ (tree.rolls-Hide p s) (λ k r g. (held_tree p').operand _ _ (goes {t = Symbol Backslash} refl ((held_tree s').operand _ _ g)))
    held_tree (m.made-renaming {p = p} {pairs = pairs} {gs = gs} y z p' pairs' gs') = held_form _ (tree.rolls-Rename p pairs gs) (λ k r g. (held_tree p').operand _ _ (kept {t = Symbol OpenRename} refl y (held_pairs pairs' _ _ (held_conditions gs' _ _ (kept {t = Symbol CloseRename} refl z g)))))
    held_tree (m.made-choice {p = p} {ps = ps} c x p' ps') = held (choice_of c (p ∷ ps)) (λ k r g. subst (G k) (sym (choice_onto c (p ∷ ps) r))
        (listed operand_tokens (choice_sign c) p ps (held_tree p').operand (λ k ts g. kept (choice_own c) x g) (held_operands (choice_sign c) (λ k ts g. kept (choice_own c) x g) ps') k r g))

    pub held_items : {ts : List Tree} → MadeTrees P ts → (k : ℕ) (r : List Token) → G k r → G k (separated item_tokens (Symbol Comma) ts ++ r)
    held_items (m.made-one {t = t} p) = alone item_tokens (Symbol Comma) t (held_tree p).item
    held_items (m.made-more {t = t} {ts = ts} p ps) = listed item_tokens (Symbol Comma) t ts (held_tree p).item comma (held_items ps)

    held_operands : {ts : List Tree} (sign : Token) → ((k : ℕ) (ts : List Token) → G k ts → G k (sign ∷ ts)) → MadeTrees P ts → (k : ℕ) (r : List Token) → G k r →
        G k (separated operand_tokens sign ts ++ r)
    held_operands sign c (m.made-one {t = t} p) = alone operand_tokens sign t (held_tree p).operand
    held_operands sign c (m.made-more {t = t} {ts = ts} p ps) = listed operand_tokens sign t ts (held_tree p).operand c (held_operands sign c ps)

    held_dots : {ts : List Tree} → MadeDots P ts → (k : ℕ) (r : List Token) → G k r → G k (dotted operand_tokens ts ++ r)
    held_dots m.made-no-dots k r g = g
    held_dots (m.made-dots {t = t} {ts = ts} p ps) k r g = subst (G k) (sym (onto.dotted_more t ts r)) (goes refl ((held_tree p).operand k _ (held_dots ps k r g)))

    held_fields : {dot : Bool} {fs : List FieldTree} → MadeFields P dot fs → (k : ℕ) (r : List Token) → G k r → G k (flat_map field_tokens fs ++ r)
    held_fields m.made-no-fields k r g = g
    held_fields (m.made-field-dot {a = a} {fs = fs} p ps) k r g = subst (G k) (sym (onto.fields-Dot a fs r)) (goes refl ((held_tree p).operand k _ (held_fields ps k r g)))
    held_fields (m.made-field-output {a = a} {fs = fs} p ps) k r g = subst (G k) (sym (onto.fields-Output a fs r)) (goes refl ((held_tree p).operand k _ (held_fields ps k r g)))
    held_fields (m.made-field-input {x = x} {fs = fs} y ps) k r g = subst (G k) (sym (onto.fields-Input x fs r)) (goes refl (kept refl y (held_fields ps k r g)))
    held_fields (m.made-field-input-from {x = x} {s = s} {fs = fs} y p ps) k r g =
        subst (G k) (sym (onto.fields-Input-from x s fs r)) (goes refl (kept refl y (goes refl ((held_tree p).operand k _ (held_fields ps k r g)))))

    held_part : {c : PartTree} → MadePart P c → (k : ℕ) (r : List Token) → G k r → G k (part_tokens c ++ r)
    held_part (m.made-part {c = c} {fields = fields} x ps) k r g = subst (G k) (sym (onto.onto-part c fields r)) (kept refl x (held_dots ps k r g))

    held_parts : {cs : List PartTree} → MadeParts P cs → (k : ℕ) (r : List Token) → G k r → G k (separated part_tokens (Symbol Comma) cs ++ r)
    held_parts (m.made-one-part {c = c} p) = alone part_tokens (Symbol Comma) c (held_part p)
    held_parts (m.made-more-parts {c = c} {cs = cs} p ps) = listed part_tokens (Symbol Comma) c cs (held_part p) comma (held_parts ps)

    held_pairs : {pairs : List (PartTree × PartTree)} → MadePairs P pairs → (k : ℕ) (r : List Token) → G k r → G k (separated renamed_tokens (Symbol Comma) pairs ++ r)
    held_pairs (m.made-one-pair {c = c} {d = d} p q) = alone renamed_tokens (Symbol Comma) (c, d) (λ k r g. subst (G k) (sym (onto.onto-pair c d r)) (held_part p k _ (goes refl (held_part q k r g))))
    held_pairs (m.made-more-pairs {c = c} {d = d} {pairs = pairs} p q ps) =
        listed renamed_tokens (Symbol Comma) (c, d) pairs (λ k r g. subst (G k) (sym (onto.onto-pair c d r)) (held_part p k _ (goes refl (held_part q k r g)))) comma (held_pairs ps)

    held_gen : {x : GenTree} → MadeGen P x → (k : ℕ) (r : List Token) → G k r → G k (gen_tokens x ++ r)
    held_gen (m.made-from {x = x} {s = s} y p) k r g = subst (G k) (sym (onto.onto-From x s r)) (kept refl y (goes refl ((held_tree p).operand k r g)))
    held_gen (m.made-condition {c = c} p) k r g = subst (G k) (sym (onto.onto-Cond c r)) ((held_tree p).operand k r g)

    held_gens : {gs : List GenTree} → MadeGens P gs → (k : ℕ) (r : List Token) → G k r → G k (separated gen_tokens (Symbol Comma) gs ++ r)
    held_gens (m.made-one-gen {g = x} p) = alone gen_tokens (Symbol Comma) x (held_gen p)
    held_gens (m.made-more-gens {g = x} {gs = gs} p ps) = listed gen_tokens (Symbol Comma) x gs (held_gen p) comma (held_gens ps)

    held_conditions : {gs : List GenTree} → MadeConditions P gs → (k : ℕ) (r : List Token) → G k r → G k (conditions gen_tokens gs ++ r)
    held_conditions m.made-no-gens k r g = g
    held_conditions (m.made-gens {gs = gs} p) k r g = barred gs (held_gens p) k r g
