-- Each tree that the grammar has is spelled by its printed tokens.
use Rattle.print_laws.proofs.Prelude.{ℕ, suc, ◌*◌, ◌≤◌, ◌<◌, Bool, true, Some, None, List, [], ◌∷◌, ◌++◌, length, map, refl, sym, ◌∙◌, subst, arith, flat_map, field_depth, gen_depth, part_depth, tree_depth, ExternalChoice, InternalChoice, Comma, Token, Name, Symbol, FieldTree, GenTree, PartTree, Tree, Choice, choice_sign, choice_of, event_tree, part_tree, TreeText, ChoiceText, DottedText, DotsText, FieldsText, PairsText, PartText, PartsText, ConditionsText, GensText, GenText, ItemsText, closed, disjunction, negation, sum, minus, renaming, conditions, dotted, field_tokens, gen_tokens, item_tokens, operand_tokens, part_tokens, renamed_tokens, separated, MadeTree, MadeTrees, MadeDots, MadeFields, MadePart, MadeParts, MadePairs, MadeGen, MadeGens, MadeConditions, at_level, from_level, greatest, pairs_depth}
use Rattle.csp_text.specs.declared.tree.Tree.TheVariants as tree
use Rattle.csp_text.specs.declared.tree.FieldTree.TheVariants as field
use Rattle.csp_text.specs.declared.tree.GenTree.TheVariants as generator
use Rattle.csp_grammar.specs.Grammar as g
use Rattle.print_laws.specs.Made as m
use Rattle.print_laws.proofs.Onto as onto
use Rattle.print_laws.proofs.Forms.{Texted, as_prefix, as_sequence, prefix_tree, expression_tree, open_tree, operator_text, set_operator_text, atom_form, dotted_form, compound_form, closed_form, bracket_form}
use Rattle.tree_reading.proofs.NodeDepths as depths

-- lists of trees and the like

pub record TextedTrees (ts : List Tree) : Type 0 where
  pub filled : 0 < length ts
  pub items : (n : ℕ) (r : List Token) → 2 * greatest (map tree_depth ts) ≤ n → ItemsText n (separated item_tokens (Symbol Comma) ts ++ r) ts r
  pub chain : (c : Choice) (n : ℕ) (p : Tree) (r : List Token) → Texted p → 2 * tree_depth p ≤ n → 2 * greatest (map tree_depth ts) ≤ n →
      ChoiceText n closed c (operand_tokens p ++ (choice_sign c ∷ (separated operand_tokens (choice_sign c) ts ++ r))) (p ∷ ts) r

pub record TextedDots (ts : List Tree) : Type 0 where
  pub dots : (n : ℕ) (r : List Token) → 2 * greatest (map tree_depth ts) ≤ n → DotsText n (dotted operand_tokens ts ++ r) ts r

pub record TextedFields (dot : Bool) (fs : List FieldTree) : Type 0 where
  pub fields : (n : ℕ) (r : List Token) → 2 * greatest (map field_depth fs) ≤ n → FieldsText n dot (flat_map field_tokens fs ++ r) fs r

pub record TextedPart (c : PartTree) : Type 0 where
  pub part : (n : ℕ) (r : List Token) → 2 * part_depth c ≤ n → PartText n (part_tokens c ++ r) c r

pub record TextedParts (cs : List PartTree) : Type 0 where
  pub parts : (n : ℕ) (r : List Token) → 2 * greatest (map part_depth cs) ≤ n → PartsText n (separated part_tokens (Symbol Comma) cs ++ r) cs r

pub record TextedPairs (ps : List (PartTree × PartTree)) : Type 0 where
  pub pairs : (n : ℕ) (r : List Token) → 2 * pairs_depth ps ≤ n → PairsText n (separated renamed_tokens (Symbol Comma) ps ++ r) ps r

pub record TextedGen (x : GenTree) : Type 0 where
  pub gen : (n : ℕ) (r : List Token) → 2 * gen_depth x ≤ n → GenText n (gen_tokens x ++ r) x r

pub record TextedGens (gs : List GenTree) : Type 0 where
  pub gens : (n : ℕ) (r : List Token) → 2 * greatest (map gen_depth gs) ≤ n → GensText n (separated gen_tokens (Symbol Comma) gs ++ r) gs r

pub record TextedConditions (gs : List GenTree) : Type 0 where
  pub conditions : (n : ℕ) (r : List Token) → 2 * greatest (map gen_depth gs) ≤ n → ConditionsText n (conditions gen_tokens gs ++ r) gs r

one_tree : (t : Tree) → Texted t → TextedTrees (t ∷ [])
one_tree t p = record {
  filled = omega arith;
  items = λ n r h. subst (λ l. ItemsText n l (t ∷ []) r) (sym (onto.separated_one item_tokens (Symbol Comma) t r)) (g.items-one (p.item n r (omega arith)));
  chain = λ c n q r q' hq h.
      subst (λ l. ChoiceText n closed c (operand_tokens q ++ (choice_sign c ∷ l)) (q ∷ t ∷ []) r) (sym (onto.separated_one operand_tokens (choice_sign c) t r))
      (g.choice-two (as_sequence (q'.operand n _ hq)) (as_sequence (p.operand n r (omega arith))));
}

more_trees : (t : Tree) (ts : List Tree) → Texted t → TextedTrees ts → TextedTrees (t ∷ ts)
more_trees t [] p ps = one_tree t p
more_trees t (u ∷ us) p ps = record {
  filled = omega arith;
  items = λ n r h.
      subst (λ l. ItemsText n l (t ∷ u ∷ us) r) (sym (onto.separated_more item_tokens (Symbol Comma) t u us r))
      (g.items-more (p.item n _ (omega arith)) (ps.items n r (omega arith)));
  chain = λ c n q r q' hq h.
      subst (λ l. ChoiceText n closed c (operand_tokens q ++ (choice_sign c ∷ l)) (q ∷ t ∷ u ∷ us) r) (sym (onto.separated_more operand_tokens (choice_sign c) t u us r))
      (g.choice-more (as_sequence (q'.operand n _ hq)) (ps.chain c n t r p (omega arith) (omega arith)));
}

one_part : (c : PartTree) → TextedPart c → TextedParts (c ∷ [])
one_part c p = record {
  parts = λ n r h. subst (λ l. PartsText n l (c ∷ []) r) (sym (onto.separated_one part_tokens (Symbol Comma) c r)) (g.parts-one (p.part n r (omega arith)));
}

more_parts : (c : PartTree) (cs : List PartTree) → TextedPart c → TextedParts cs → TextedParts (c ∷ cs)
more_parts c [] p ps = one_part c p
more_parts c (d ∷ ds) p ps = record {
  parts = λ n r h.
      subst (λ l. PartsText n l (c ∷ d ∷ ds) r) (sym (onto.separated_more part_tokens (Symbol Comma) c d ds r))
      (g.parts-more (p.part n _ (omega arith)) (ps.parts n r (omega arith)));
}

one_pair : (c d : PartTree) → TextedPart c → TextedPart d → TextedPairs ((c, d) ∷ [])
one_pair c d p q = record {
  pairs = λ n r h.
      subst (λ l. PairsText n l ((c, d) ∷ []) r) (sym (onto.separated_one renamed_tokens (Symbol Comma) (c, d) r ∙ onto.onto-pair c d r))
      (g.pairs-one (p.part n _ (omega arith)) (q.part n r (omega arith)));
}

more_pairs : (c d : PartTree) (pairs : List (PartTree × PartTree)) → TextedPart c → TextedPart d → TextedPairs pairs → TextedPairs ((c, d) ∷ pairs)
more_pairs c d [] p q ps = one_pair c d p q
more_pairs c d (e ∷ es) p q ps = record {
  pairs = λ n r h.
      subst (λ l. PairsText n l ((c, d) ∷ e ∷ es) r) (sym (onto.separated_more renamed_tokens (Symbol Comma) (c, d) e es r ∙ onto.onto-pair c d _))
      (g.pairs-more (p.part n _ (omega arith)) (q.part n _ (omega arith)) (ps.pairs n r (omega arith)));
}

one_gen : (x : GenTree) → TextedGen x → TextedGens (x ∷ [])
one_gen x p = record {
  gens = λ n r h. subst (λ l. GensText n l (x ∷ []) r) (sym (onto.separated_one gen_tokens (Symbol Comma) x r)) (g.gens-one (p.gen n r (omega arith)));
}

more_gens : (x : GenTree) (xs : List GenTree) → TextedGen x → TextedGens xs → TextedGens (x ∷ xs)
more_gens x [] p ps = one_gen x p
more_gens x (y ∷ ys) p ps = record {
  gens = λ n r h.
      subst (λ l. GensText n l (x ∷ y ∷ ys) r) (sym (onto.separated_more gen_tokens (Symbol Comma) x y ys r))
      (g.gens-more (p.gen n _ (omega arith)) (ps.gens n r (omega arith)));
}

some_gens : (gs : List GenTree) → TextedGens gs → TextedConditions gs
some_gens [] p = record { conditions = λ n r h. g.conditions-none }
some_gens (x ∷ xs) p = record { conditions = λ n r h. g.conditions-some (p.gens n r h) }

a_choice : (c : Choice) (p : Tree) (ps : List Tree) → Texted p → TextedTrees ps → Texted (choice_of c (p ∷ ps))
a_choice c p [] p' ps' = absurd (let h : 0 < 0 = ps'.filled in omega arith)
a_choice g.external p (q ∷ qs) p' ps' = compound_form _ (tree.rolls-External (p ∷ q ∷ qs)) refl (λ n r h.
    subst (λ l. TreeText n l (tree.External (p ∷ q ∷ qs)) r) (sym (onto.separated_more operand_tokens (Symbol ExternalChoice) p q qs r))
    (g.tree-side (g.side-choice g.external (ps'.chain g.external n p r p' (omega arith) (omega arith)))))
a_choice g.internal p (q ∷ qs) p' ps' = compound_form _ (tree.rolls-Internal (p ∷ q ∷ qs)) refl (λ n r h.
    subst (λ l. TreeText n l (tree.Internal (p ∷ q ∷ qs)) r) (sym (onto.separated_more operand_tokens (Symbol InternalChoice) p q qs r))
    (g.tree-side (g.side-choice g.internal (ps'.chain g.internal n p r p' (omega arith) (omega arith)))))

mutual
  pub texted : {P : Token → Type 0} {t : Tree} → MadeTree P t → Texted t
  texted m.made-stop = atom_form _ tree.rolls-Stop refl (λ n r h. g.atom-stop)
  texted m.made-skip = atom_form _ tree.rolls-Skip refl (λ n r h. g.atom-skip)
  texted m.made-truth = atom_form _ tree.rolls-True refl (λ n r h. g.atom-truth)
  texted m.made-falsehood = atom_form _ tree.rolls-False refl (λ n r h. g.atom-falsehood)
  texted (m.made-number {n = k} p) = atom_form _ (tree.rolls-Num k) refl (λ n r h. g.atom-number)
  texted (m.made-name {x = x} p) = atom_form _ (tree.rolls-Name x) refl (λ n r h. g.atom-name)
  texted (m.made-call {x = x} {items = items} p is) = closed_form _ (tree.rolls-Call x items) refl (λ n r h. g.atom-call ((texted_trees is).items n _ (omega arith)))
  texted (m.made-dotted {c = c} {a = a} {fields = fields} p a' ds) = dotted_form _ (tree.rolls-Dot c (a ∷ fields)) refl (λ n r h.
      subst (λ l. DottedText n (Name c ∷ l) (tree.Dot c (a ∷ fields)) r) (sym (onto.dotted_more a fields r))
      (g.dotted-fields (at_level sum ((texted a').operand n _ (omega arith))) ((texted_dots ds).dots n _ (omega arith))))
  texted (m.made-negative {a = a} a') = compound_form _ (tree.rolls-Neg a) refl (λ n r h.
      expression_tree (from_level minus (g.expression-negative (at_level minus ((texted a').operand n r (omega arith))))))
  texted (m.made-negated {a = a} a') = compound_form _ (tree.rolls-Not a) refl (λ n r h.
      expression_tree (from_level negation (g.expression-negated (at_level negation ((texted a').operand n r (omega arith))))))
  texted (m.made-binary {op = o} {a = a} {b = b} a' b') = compound_form _ (tree.rolls-Binary o a b) refl (λ n r h.
      expression_tree (operator_text o ((texted a').operand n _ (omega arith)) ((texted b').operand n r (omega arith))))
  texted (m.made-if {c = c} {p = p} {q = q} c' p' q') = compound_form _ (tree.rolls-If c p q) refl (λ n r h.
      open_tree (g.open-if-then-else (at_level disjunction ((texted c').operand n _ (omega arith))) ((texted p').bare n _ (omega arith)) ((texted q').bare n r (omega arith))))
  texted m.made-empty = closed_form _ (tree.rolls-Display []) refl (λ n r h. g.atom-empty)
  texted (m.made-display {items = items} is) = closed_form _ (tree.rolls-Display items) refl (λ n r h. g.atom-display ((texted_trees is).items n _ (omega arith)))
  texted (m.made-range {a = a} {b = b} a' b') = closed_form _ (tree.rolls-Range a b) refl (λ n r h.
      g.atom-range (at_level sum ((texted a').operand n _ (omega arith))) (at_level sum ((texted b').operand n _ (omega arith))))
  texted (m.made-comprehension {items = items} {gs = gs} is gs') = closed_form _ (tree.rolls-Comp items gs) refl (λ n r h.
      g.atom-comprehension ((texted_trees is).items n _ (omega arith)) ((texted_gens gs').gens n _ (omega arith)))
  texted (m.made-production {parts = parts} {gs = gs} ps gs') = closed_form _ (tree.rolls-Product parts gs) refl (λ n r h.
      g.atom-production ((texted_parts ps).parts n _ (omega arith)) ((texted_conditions gs').conditions n _ (omega arith)))
  texted (m.made-set-operator {op = o} {a = a} {b = b} a' b') = closed_form _ (tree.rolls-SetOp o a b) refl (λ n r h.
      set_operator_text o ((texted a').item n _ (omega arith)) ((texted b').item n _ (omega arith)))
  texted (m.made-prefix {c = c} {fs = fs} {p = p} x fs' p') = compound_form _ (tree.rolls-Prefix (event_tree c fs) p) refl (λ n r h.
      let d = depths.depth-event c fs in
      subst (λ l. TreeText n l (tree.Prefix (event_tree c fs) p) r) (sym (onto.onto-event c fs _))
      (prefix_tree (g.prefix-event (g.event-fields ((texted_fields fs').fields n _ (omega arith))) (as_prefix ((texted p').operand n r (omega arith))))))
  texted (m.made-guard {c = c} {p = p} c' p') = compound_form _ (tree.rolls-Guard c p) refl (λ n r h.
      prefix_tree (g.prefix-guard (at_level disjunction ((texted c').operand n _ (omega arith))) (as_prefix ((texted p').operand n r (omega arith)))))
  texted (m.made-choice {p = p} {ps = ps} c x p' ps') = a_choice c p ps (texted p') (texted_trees ps')
  texted (m.made-each-external {x = x} {s = s} {p = p} y z s' p') = compound_form _ (tree.rolls-EachExternal x s p) refl (λ n r h.
      open_tree (g.open-external ((texted s').operand n _ (omega arith)) ((texted p').bare n r (omega arith))))
  texted (m.made-each-internal {x = x} {s = s} {p = p} y z s' p') = compound_form _ (tree.rolls-EachInternal x s p) refl (λ n r h.
      open_tree (g.open-internal ((texted s').operand n _ (omega arith)) ((texted p').bare n r (omega arith))))
  texted (m.made-parallel {p = p} {a = a} {b = b} {q = q} p' a' b' q') = bracket_form _ (tree.rolls-Parallel p a b q) refl (λ n r h.
      g.tree-parallel (g.side-sequence (as_sequence ((texted p').operand (suc n) _ (omega arith)))) ((texted a').operand n _ (omega arith)) ((texted b').operand n _ (omega arith))
      (g.side-sequence (as_sequence ((texted q').operand (suc n) r (omega arith)))))
  texted (m.made-each-parallel {x = x} {s = s} {a = a} {p = p} z s' a' p') = bracket_form _ (tree.rolls-EachParallel x s a p) refl (λ n r h.
      open_tree (g.open-parallel ((texted s').operand (suc n) _ (omega arith)) ((texted a').operand n _ (omega arith)) ((texted p').bare (suc n) r (omega arith))))
  texted (m.made-sequence {p = p} {q = q} p' q') = compound_form _ (tree.rolls-Seq p q) refl (λ n r h.
      g.tree-side (g.side-sequence (g.sequence-more (as_prefix ((texted p').operand n _ (omega arith))) (as_sequence ((texted q').operand n r (omega arith))))))
  texted (m.made-hiding {p = p} {s = s} p' s') = compound_form _ (tree.rolls-Hide p s) refl (λ n r h.
      g.tree-side (g.side-hiding (g.hiding-one (at_level renaming ((texted p').operand n _ (omega arith))) ((texted s').operand n r (omega arith)))))
  texted (m.made-renaming {p = p} {pairs = pairs} {gs = gs} x y p' pairs' gs') = bracket_form _ (tree.rolls-Rename p pairs gs) refl (λ n r h.
      expression_tree (from_level renaming (g.expression-rename (at_level renaming ((texted p').operand (suc n) _ (omega arith))) ((texted_pairs pairs').pairs n _ (omega arith)) ((texted_conditions gs').conditions n _ (omega arith)))))

  pub texted_trees : {P : Token → Type 0} {ts : List Tree} → MadeTrees P ts → TextedTrees ts
  texted_trees (m.made-one {t = t} p) = one_tree t (texted p)
  texted_trees (m.made-more {t = t} {ts = ts} p ps) = more_trees t ts (texted p) (texted_trees ps)

  texted_dots : {P : Token → Type 0} {ts : List Tree} → MadeDots P ts → TextedDots ts
  texted_dots m.made-no-dots = record { dots = λ n r h. g.dots-none }
  texted_dots (m.made-dots {t = t} {ts = ts} p ps) = record {
    dots = λ n r h.
        subst (λ l. DotsText n l (t ∷ ts) r) (sym (onto.dotted_more t ts r))
        (g.dots-more (at_level sum ((texted p).operand n _ (omega arith))) ((texted_dots ps).dots n r (omega arith)));
  }

  texted_fields : {P : Token → Type 0} {dot : Bool} {fs : List FieldTree} → MadeFields P dot fs → TextedFields dot fs
  texted_fields {dot = dot} m.made-no-fields = record { fields = λ n r h. g.fields-none }
  texted_fields (m.made-field-dot {a = a} {fs = fs} p ps) = record {
    fields = λ n r h.
        let d = depths.of_field _ (field.rolls-Dot a) in
        subst (λ l. FieldsText n true l (field.Dot a ∷ fs) r) (sym (onto.fields-Dot a fs r))
        (g.fields-dot (at_level sum ((texted p).operand n _ (omega arith))) ((texted_fields ps).fields n r (omega arith)));
  }
  texted_fields {dot = dot} (m.made-field-output {a = a} {fs = fs} p ps) = record {
    fields = λ n r h.
        let d = depths.of_field _ (field.rolls-Output a) in
        subst (λ l. FieldsText n dot l (field.Output a ∷ fs) r) (sym (onto.fields-Output a fs r))
        (g.fields-output (at_level sum ((texted p).operand n _ (omega arith))) ((texted_fields ps).fields n r (omega arith)));
  }
  texted_fields {dot = dot} (m.made-field-input {x = x} {fs = fs} p ps) = record {
    fields = λ n r h.
        subst (λ l. FieldsText n dot l (field.Input x None ∷ fs) r) (sym (onto.fields-Input x fs r)) (g.fields-input ((texted_fields ps).fields n r (omega arith)));
  }
  texted_fields {dot = dot} (m.made-field-input-from {x = x} {s = s} {fs = fs} y p ps) = record {
    fields = λ n r h.
        let d = depths.of_field _ (field.rolls-Input x (Some s)) in
        subst (λ l. FieldsText n dot l (field.Input x (Some s) ∷ fs) r) (sym (onto.fields-Input-from x s fs r))
        (g.fields-input-from ((texted p).operand n _ (omega arith)) ((texted_fields ps).fields n r (omega arith)));
  }

  texted_part : {P : Token → Type 0} {c : PartTree} → MadePart P c → TextedPart c
  texted_part (m.made-part {c = c} {fields = fields} x ps) = record {
    part = λ n r h.
        let d = depths.depth-part c fields in
        subst (λ l. PartText n l (part_tree c fields) r) (sym (onto.onto-part c fields r)) (g.part-dots ((texted_dots ps).dots n r (omega arith)));
  }

  texted_parts : {P : Token → Type 0} {cs : List PartTree} → MadeParts P cs → TextedParts cs
  texted_parts (m.made-one-part {c = c} p) = one_part c (texted_part p)
  texted_parts (m.made-more-parts {c = c} {cs = cs} p ps) = more_parts c cs (texted_part p) (texted_parts ps)

  texted_pairs : {P : Token → Type 0} {pairs : List (PartTree × PartTree)} → MadePairs P pairs → TextedPairs pairs
  texted_pairs (m.made-one-pair {c = c} {d = d} p q) = one_pair c d (texted_part p) (texted_part q)
  texted_pairs (m.made-more-pairs {c = c} {d = d} {pairs = pairs} p q ps) = more_pairs c d pairs (texted_part p) (texted_part q) (texted_pairs ps)

  texted_gen : {P : Token → Type 0} {x : GenTree} → MadeGen P x → TextedGen x
  texted_gen (m.made-from {x = x} {s = s} y p) = record {
    gen = λ n r h.
        let d = depths.of_generator _ (generator.rolls-From x s) in
        subst (λ l. GenText n l (generator.From x s) r) (sym (onto.onto-From x s r)) (g.gen-from ((texted p).operand n r (omega arith)));
  }
  texted_gen (m.made-condition {c = c} p) = record {
    gen = λ n r h.
        let d = depths.of_generator _ (generator.rolls-Cond c) in
        subst (λ l. GenText n l (generator.Cond c) r) (sym (onto.onto-Cond c r)) (g.gen-condition (at_level disjunction ((texted p).operand n r (omega arith))));
  }

  texted_gens : {P : Token → Type 0} {gs : List GenTree} → MadeGens P gs → TextedGens gs
  texted_gens (m.made-one-gen {g = x} p) = one_gen x (texted_gen p)
  texted_gens (m.made-more-gens {g = x} {gs = gs} p ps) = more_gens x gs (texted_gen p) (texted_gens ps)

  texted_conditions : {P : Token → Type 0} {gs : List GenTree} → MadeConditions P gs → TextedConditions gs
  texted_conditions m.made-no-gens = record { conditions = λ n r h. g.conditions-none }
  texted_conditions (m.made-gens {gs = gs} p) = some_gens gs (texted_gens p)
