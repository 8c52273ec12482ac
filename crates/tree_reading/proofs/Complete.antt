-- What the grammar has within the limits, the readers give, in front of every rest that does not go on with the tree.
use Rattle.tree_reading.proofs.Prelude.{◌≡◌, ℕ, suc, ◌+◌, ◌≤◌, max, Bool, true, nat_le, Some, None, List, [], ◌∷◌, map, refl, ap, ◌∙◌, arith, field_depth, gen_depth, part_depth, tree_depth, set_op_word, Token, FieldTree, GenTree, PartTree, Tree, greatest, BinOp, SetOp, Choice, choice_of, event_tree, TreeText, Reach, SideText, HidingText, ChoiceText, SequenceText, PrefixText, OpenText, FieldsText, DotsText, ExpressionText, PairsText, PartText, PartsText, ConditionsText, GensText, GenText, ItemText, ItemsText, AtomText, closed, opened, Level, IsLeftOperator, IsComparison, and_then, dotted_tree, behind_name, skip, number, of_process, read_side, read_item, read_part, read_condition, read_gen, read_conditions, read_set_operator, inside, limits, Binding}
use Rattle.csp_text.specs.declared.token.Token.TheVariants as token
use Rattle.csp_text.specs.declared.token.Symbol.TheVariants as symbol
use Rattle.csp_text.specs.declared.tree.Tree.TheVariants as tree
use Rattle.csp_text.specs.declared.tree.FieldTree.TheVariants as field
use Rattle.csp_text.specs.declared.tree.GenTree.TheVariants as generator
use Rattle.csp_base.specs.declared.operators.SetOp.TheVariants as set_op
use Rattle.csp_grammar.specs.Grammar as g
use Rattle.csp_grammar.specs.Precedence as table
use Rattle.tree_reading.specs.declared.read.Binding.TheVariants as bound
use Rattle.tree_reading.proofs.Settling.{later, now, bind, not_there, granted, look, first, second}
use Rattle.tree_reading.proofs.Fitting.{about, first_part, inner, left, less, parts, right, up}
use Rattle.tree_reading.proofs.Gives.{Gives}
use Rattle.tree_reading.proofs.Follow.{Stops, more, not_symbol, EndsFields, stops_no_event, stops_ten}
use Rattle.tree_reading.proofs.Levels.{Reads, follow, next_follow, pairs_depth, read_at, read_tighter, read_left, read_compare, read_negated, read_negative, read_rename, read_operand}
use Rattle.tree_reading.proofs.NodeDepths as depths
use Rattle.tree_reading.proofs.Parts.{Bounded, chain_of, chosen_depth, one_of_two, still_closed, dots_begin, fields_begin, fields_no_colon, dots_more, AreDots, no_dots, more_dots, conditions_begin, into_guard, prefix_alone, sequence_alone, side_alone, tree_alone, choice_stops, last_choice, more_choices, side_of_choices, bound_alone}
use Rattle.tree_reading.proofs.Tests.{at_least_open}
use Rattle.tree_reading.proofs.Starts.{no_event, no_arrow, plain, atom_operand, items_no_brace}

-- how tightly a form is bound at least, and how tightly what follows it may bind at most: an open form ends only where nothing goes on with it
abbrev least : Reach → Binding
least closed = bound.Closed
least opened = bound.Open

abbrev stop : Reach → ℕ → ℕ
stop closed k = k
stop opened k = 6

until : (e : Reach) (k : ℕ) (r : List Token) → nat_le 6 k ≡ true → Stops (stop e k) r → Stops k r
until closed k r h s = s
until opened k r h s = more 6 k r h s

next_stop : (e : Reach) (j k : ℕ) (r : List Token) → nat_le j k ≡ true → Stops (stop e j) r → Stops (stop e k) r
next_stop closed j k r h s = more j k r h s
next_stop opened j k r h s = s

from_six : (e : Reach) (k : ℕ) (r : List Token) → nat_le 6 k ≡ true → Stops 6 r → Stops (stop e k) r
from_six closed k r h s = more 6 k r h s
from_six opened k r h s = s

tight_one : (e : Reach) (k : Binding) → nat_le (number (least e)) (number k) ≡ true → nat_le 1 (number k) ≡ true
tight_one closed k h = one_of_two k h
tight_one opened k h = h

still : (e : Reach) (k : Binding) → nat_le (number (least e)) (number k) ≡ true → nat_le (number (least e)) (number (of_process k)) ≡ true
still closed k h = still_closed k h
still opened k h = at_least_open k

arrow_ends : (us : List Token) → EndsFields (token.Symbol symbol.Arrow ∷ us)
arrow_ends us = record { no_dot = refl; no_bang = refl; no_question = refl; no_colon = refl; event = refl }

from_eleven_on : (k : ℕ) → nat_le 11 k ≡ true → nat_le 2 k ≡ true
from_eleven_on k h = grind (arith)

from_eleven : (k : Binding) → nat_le 11 (number k) ≡ true → nat_le 2 (number k) ≡ true
from_eleven k h = from_eleven_on (number k) h

from_none_on : (k : ℕ) → nat_le 0 k ≡ true
from_none_on k = grind (arith)

no_bound : (k : Binding) → nat_le 0 (number k) ≡ true
no_bound k = from_none_on (number k)

pub first_of_four : (p a b q : ℕ) → p ≤ max (max p a) (max b q)
first_of_four p a b q = grind (arith)

pub prefix_depth : (c : List ℕ) (fs : List FieldTree) (p : Tree) → tree_depth (tree.Prefix (event_tree c fs) p) ≡ 1 + max (greatest (map field_depth fs)) (tree_depth p)
prefix_depth c fs p = depths.of_tree _ (tree.rolls-Prefix (event_tree c fs) p) ∙ ap (λ x. 1 + max x (tree_depth p)) (depths.depth-event c fs)

alike : {a b d : ℕ} → a ≡ b → a ≤ d → b ≤ d
alike {a} {b} {d} e h = omega arith

pub first_fits : (c : Choice) (p : Tree) (ps : List Tree) (d : ℕ) → tree_depth (choice_of c (p ∷ ps)) ≤ d → tree_depth p ≤ d
first_fits c p ps d h = up d (left (tree_depth p) (greatest (map tree_depth ps)) (parts d (chosen_depth c p ps) h))

pub rest_fit : (c : Choice) (p : Tree) (ps : List Tree) (d : ℕ) → tree_depth (choice_of c (p ∷ ps)) ≤ d → greatest (map tree_depth ps) ≤ less d
rest_fit c p ps d h = right (tree_depth p) (greatest (map tree_depth ps)) (parts d (chosen_depth c p ps) h)

before_left : {l : Level} {t : Token} {op : BinOp} (us : List Token) → IsLeftOperator l t op → Stops (follow l) (t ∷ us)
before_left us table.or = refl
before_left us _ = refl

before_comparison : {t : Token} {op : BinOp} (us : List Token) → IsComparison t op → Stops 16 (t ∷ us)
before_comparison us table.equal = refl
before_comparison us _ = refl

-- a condition is no generator
condition_first : {n d : ℕ} {x : GenTree × List Token} (ts : List Token) → skip symbol.LeftArrow (behind_name ts) ≡ None →
    Gives (λ L. read_condition L (limits n d) ts) x → Gives (λ L. read_gen L (limits n d) ts) x
condition_first (token.Name y ∷ ts) e h = not_there _ _ e h
condition_first _ e h = h

set_operator_starts : {n d : ℕ} {x : Tree × List Token} (op : SetOp) {ts : List Token} →
    Gives (λ L. and_then (inside (limits n d)) λ e. read_set_operator L e op (token.Symbol symbol.OpenParen ∷ ts)) x →
    Gives (λ L. L.atom (limits (suc n) d) (set_op_word op ∷ token.Symbol symbol.OpenParen ∷ ts)) x
set_operator_starts set_op.Union h = later h
set_operator_starts _ h = later h

mutual
  pub tree_read : {n : ℕ} {ts : List Token} {t : Tree} {r : List Token} → TreeText n ts t r → (d : ℕ) → tree_depth t ≤ d → Stops 6 r → Gives (λ L. L.tree (limits n d) ts) (t, r)
  tree_read {r = r} (g.tree-dotted (g.dotted-fields {c = c} {a = a'} {us = us} {fields = others} a ds)) d fits s =
      let within : greatest (map tree_depth (a' ∷ others)) ≤ less d = parts d (depths.of_tree _ (tree.rolls-Dot c (a' ∷ others))) fits in
      let rest : Stops 11 us = dots_begin ds (more 6 10 r refl s) in
      let front = read_at (expression_read a (less d) (left _ _ within) (more 11 16 us refl rest)) bound.Sum refl (more 11 15 us refl rest) in
      let fields = more_dots front (dots_before ds (less d) (right _ _ within) (more 6 10 r refl s)) in
      tree_alone s (side_alone (more 6 7 r refl s) (sequence_alone (more 6 8 r refl s)
      (later (inner _ d _ (depths.of_tree _ (tree.rolls-Dot c (a' ∷ others))) fits (bind _ fields.gives (not_there _ _ (not_symbol symbol.Arrow 6 r refl s)
      (look _ (ap (λ o. and_then o λ fs. dotted_tree c fs) fields.dots) now)))))))
  tree_read {r = r} (g.tree-side {e = e} p) d fits s = tree_alone s (side_read p d fits (from_six e 7 r refl s)).gives
  tree_read {r = r} (g.tree-parallel {e = e} {p = p'} {a = a'} {b = b'} {q = q'} p a b q) d fits s =
      let is = depths.of_tree _ (tree.rolls-Parallel p' a' b' q') in
      let within : max (max (tree_depth p') (tree_depth a')) (max (tree_depth b') (tree_depth q')) ≤ less d = parts d is fits in
      let before : max (tree_depth p') (tree_depth a') ≤ less d = left _ _ within in
      let after : max (tree_depth b') (tree_depth q') ≤ less d = right _ _ within in
      let front = side_read p d (up d (left _ _ before)) refl in
      let back = side_read q (less d) (right _ _ after) (from_six e 7 r refl s) in
      later (bind _ front.gives (granted _ front.tight (about d p' _ is (first_of_four (tree_depth p') (tree_depth a') (tree_depth b') (tree_depth q')) fits
      (bind _ (atom_read a (less d) (right _ _ before) refl) (bind _ (atom_read b (less d) (left _ _ after) refl) (bind _ back.gives (granted _ (tight_one e back.k back.tight) now)))))))

  pub side_read : {n : ℕ} {e : Reach} {ts : List Token} {t : Tree} {r : List Token} → SideText n e ts t r → (d : ℕ) → tree_depth t ≤ d → Stops (stop e 7) r → Bounded (least e) (λ L. read_side L (limits n d) ts) t r
  side_read {e = e} {r = r} (g.side-sequence p) d fits s =
      let p' = sequence_read p d fits (next_stop e 7 8 r refl s) in
      record { k = p'.k; tight = p'.tight; gives = side_alone (until e 7 r refl s) p'.gives }
  side_read {e = e} {r = r} (g.side-choice c (g.choice-two {p = p'} {us = us} {q = q'} p q)) d fits s =
      let back = sequence_read q (less d) (left _ 0 (rest_fit c p' (q' ∷ []) d fits)) (next_stop e 7 8 r refl s) in
      record {
        k = of_process back.k;
        tight = still e back.k back.tight;
        gives = side_of_choices c fits (sequence_read p d (first_fits c p' (q' ∷ []) d fits) (choice_stops c us)) (last_choice c (tight_one e back.k back.tight) (until e 7 r refl s) back.gives);
      }
  side_read (g.side-choice c (g.choice-more {p = p'} {us = us} {ps = ps'} p ps)) d fits s =
      let back = choices_read ps (less d) (rest_fit c p' ps' d fits) s in
      record { k = back.k; tight = back.tight; gives = side_of_choices c fits (sequence_read p d (first_fits c p' ps' d fits) (choice_stops c us)) back.gives }
  side_read {r = r} (g.side-hiding p) d fits s =
      record { k = bound.Closed; tight = refl; gives = hiding_read p d fits (more 7 20 r refl s) _ (later (not_there _ _ (not_symbol symbol.Backslash 7 r refl s) now)) }

  hiding_read : {n : ℕ} {ts : List Token} {t : Tree} {r : List Token} → HidingText n ts t r → (d : ℕ) → tree_depth t ≤ d → Stops 20 r →
      (x : Binding × Tree × List Token) → Gives (λ L. L.hidings (limits n d) t r) x → Gives (λ L. read_side L (limits n d) ts) x
  hiding_read (g.hiding-one {p = p'} {a = a'} p a) d fits s x h =
      let within : max (tree_depth p') (tree_depth a') ≤ less d = parts d (depths.of_tree _ (tree.rolls-Hide p' a')) fits in
      let front = prefix_alone refl (no_event p refl) (plain p) (expression_read p d (up d (left _ _ within)) refl) refl in
      bind _ (sequence_alone refl front.gives) (granted _ front.tight (later (bind _ (about d p' _ (depths.of_tree _ (tree.rolls-Hide p' a')) (first_part (tree_depth p') (tree_depth a')) fits
      (bind _ (atom_read a (less d) (right _ _ within) s) now)) h)))
  hiding_read (g.hiding-more {p = p'} {a = a'} p a) d fits s x h =
      let within : max (tree_depth p') (tree_depth a') ≤ less d = parts d (depths.of_tree _ (tree.rolls-Hide p' a')) fits in
      hiding_read p d (up d (left _ _ within)) refl x (later (bind _ (about d p' _ (depths.of_tree _ (tree.rolls-Hide p' a')) (first_part (tree_depth p') (tree_depth a')) fits
      (bind _ (atom_read a (less d) (right _ _ within) s) now)) h))

  choices_read : {n : ℕ} {e : Reach} {c : Choice} {ts : List Token} {ps : List Tree} {r : List Token} → ChoiceText n e c ts ps r → (d : ℕ) → greatest (map tree_depth ps) ≤ d → Stops (stop e 7) r →
      Bounded (least e) (λ L. L.choices (limits n d) (chain_of c) ts) ps r
  choices_read {e = e} {c = c} {r = r} (g.choice-two {us = us} p q) d fits s =
      let back = sequence_read q d (left _ 0 (right _ _ fits)) (next_stop e 7 8 r refl s) in
      record {
        k = of_process back.k;
        tight = still e back.k back.tight;
        gives = more_choices c (sequence_read p d (left _ _ fits) (choice_stops c us)) (last_choice c (tight_one e back.k back.tight) (until e 7 r refl s) back.gives);
      }
  choices_read {c = c} (g.choice-more {us = us} p ps) d fits s =
      let back = choices_read ps d (right _ _ fits) s in
      record { k = back.k; tight = back.tight; gives = more_choices c (sequence_read p d (left _ _ fits) (choice_stops c us)) back.gives }

  pub sequence_read : {n : ℕ} {e : Reach} {ts : List Token} {t : Tree} {r : List Token} → SequenceText n e ts t r → (d : ℕ) → tree_depth t ≤ d → Stops (stop e 8) r → Bounded (least e) (λ L. L.sequence (limits n d) ts) t r
  sequence_read {e = e} {r = r} (g.sequence-one p) d fits s =
      let p' = prefix_read p d fits (next_stop e 8 9 r refl s) in
      record { k = p'.k; tight = p'.tight; gives = sequence_alone (until e 8 r refl s) p'.gives }
  sequence_read {e = e} (g.sequence-more {p = p'} {q = q'} p q) d fits s =
      let within : max (tree_depth p') (tree_depth q') ≤ less d = parts d (depths.of_tree _ (tree.rolls-Seq p' q')) fits in
      let front = prefix_read p d (up d (left _ _ within)) refl in
      let back = sequence_read q (less d) (right _ _ within) s in
      record {
        k = of_process back.k;
        tight = still e back.k back.tight;
        gives = later (bind _ front.gives (granted _ front.tight (about d p' _ (depths.of_tree _ (tree.rolls-Seq p' q')) (first_part (tree_depth p') (tree_depth q')) fits
            (bind _ back.gives (granted _ (tight_one e back.k back.tight) now)))));
      }

  prefix_read : {n : ℕ} {e : Reach} {ts : List Token} {t : Tree} {r : List Token} → PrefixText n e ts t r → (d : ℕ) → tree_depth t ≤ d → Stops (stop e 9) r → Bounded (least e) (λ L. L.prefix (limits n d) ts) t r
  prefix_read {e = e} (g.prefix-event {us = us} {p = p'} (g.event-fields {c = c} {fs = fs'} fs) p) d fits s =
      let within : max (greatest (map field_depth fs')) (tree_depth p') ≤ less d = parts d (prefix_depth c fs' p') fits in
      let back = prefix_read p (less d) (right _ _ within) s in
      record {
        k = of_process back.k;
        tight = still e back.k back.tight;
        gives = later (bind _ (first _ _ (fields_begin fs refl) now) (inner _ d _ (prefix_depth c fs' p') fits
            (bind _ (fields_read fs (less d) (left _ _ within) (arrow_ends us)) (bind _ back.gives (granted _ (tight_one e back.k back.tight) now)))));
      }
  prefix_read {e = e} (g.prefix-guard {c = c'} {p = p'} c p) d fits s =
      let within : max (tree_depth c') (tree_depth p') ≤ less d = parts d (depths.of_tree _ (tree.rolls-Guard c' p')) fits in
      let back = prefix_read p (less d) (right _ _ within) s in
      record {
        k = of_process back.k;
        tight = still e back.k back.tight;
        gives = into_guard (no_event c refl) (plain c) (bind _ (read_at (expression_read c d (up d (left _ _ within)) refl) bound.Disjunction refl refl)
            (about d c' _ (depths.of_tree _ (tree.rolls-Guard c' p')) (first_part (tree_depth c') (tree_depth p')) fits (bind _ back.gives (granted _ (tight_one e back.k back.tight) now))));
      }
  prefix_read {r = r} (g.prefix-expression e) d fits s =
      let p' = prefix_alone refl (no_event e (stops_no_event r s)) (plain e) (expression_read e d fits (more 9 12 r refl s)) s in
      record { k = p'.k; tight = from_eleven p'.k p'.tight; gives = p'.gives }
  prefix_read (g.prefix-open-form p) d fits s = record { k = bound.Open; tight = refl; gives = open_read p d fits s }

  open_read : {n : ℕ} {ts : List Token} {t : Tree} {r : List Token} → OpenText n ts t r → (d : ℕ) → tree_depth t ≤ d → Stops 6 r → Gives (λ L. L.prefix (limits n d) ts) (bound.Open, t, r)
  open_read (g.open-if-then-else {c = c'} {p = p'} {q = q'} c p q) d fits s =
      let within : max (tree_depth c') (max (tree_depth p') (tree_depth q')) ≤ less d = parts d (depths.of_tree _ (tree.rolls-If c' p' q')) fits in
      let branches : max (tree_depth p') (tree_depth q') ≤ less d = right _ _ within in
      later (inner _ d _ (depths.of_tree _ (tree.rolls-If c' p' q')) fits (bind _ (read_at (expression_read c (less d) (left _ _ within) refl) bound.Disjunction refl refl)
      (bind _ (tree_read p (less d) (left _ _ branches) refl) (bind _ (tree_read q (less d) (right _ _ branches) s) now))))
  open_read (g.open-external {x = x} {s = s'} {p = p'} a p) d fits s =
      let within : max (tree_depth s') (tree_depth p') ≤ less d = parts d (depths.of_tree _ (tree.rolls-EachExternal x s' p')) fits in
      later (inner _ d _ (depths.of_tree _ (tree.rolls-EachExternal x s' p')) fits (bind _ (bind _ (atom_read a (less d) (left _ _ within) refl) now) (bind _ (tree_read p (less d) (right _ _ within) s) now)))
  open_read (g.open-internal {x = x} {s = s'} {p = p'} a p) d fits s =
      let within : max (tree_depth s') (tree_depth p') ≤ less d = parts d (depths.of_tree _ (tree.rolls-EachInternal x s' p')) fits in
      later (inner _ d _ (depths.of_tree _ (tree.rolls-EachInternal x s' p')) fits (bind _ (bind _ (atom_read a (less d) (left _ _ within) refl) now) (bind _ (tree_read p (less d) (right _ _ within) s) now)))
  open_read (g.open-parallel {x = x} {s = s'} {a = a'} {p = p'} a b p) d fits s =
      let within : max (tree_depth s') (max (tree_depth a') (tree_depth p')) ≤ less d = parts d (depths.of_tree _ (tree.rolls-EachParallel x s' a' p')) fits in
      let behind : max (tree_depth a') (tree_depth p') ≤ less d = right _ _ within in
      later (inner _ d _ (depths.of_tree _ (tree.rolls-EachParallel x s' a' p')) fits (bind _ (bind _ (atom_read a (less d) (left _ _ within) refl) now)
      (bind _ (atom_read b (less d) (left _ _ behind) refl) (bind _ (tree_read p (less d) (right _ _ behind) s) now))))

  fields_read : {n : ℕ} {dot : Bool} {ts : List Token} {fs : List FieldTree} {r : List Token} → FieldsText n dot ts fs r → (d : ℕ) → greatest (map field_depth fs) ≤ d → EndsFields r →
      Gives (λ L. L.fields (limits n d) dot ts) (fs, r)
  fields_read g.fields-none d fits e = later (bind _ (not_there _ _ e.no_dot (not_there _ _ e.no_bang (not_there _ _ e.no_question now))) now)
  fields_read (g.fields-dot {a = a'} {us = us} a fs) d fits e =
      let b = fields_begin fs e.event in
      later (bind _ (bind _ (read_at (expression_read a d (alike (depths.of_field _ (field.rolls-Dot a')) (left _ _ fits)) (stops_ten 16 us refl b)) bound.Sum refl (stops_ten 15 us refl b)) now)
      (bind _ (fields_read fs d (right _ _ fits) e) now))
  fields_read (g.fields-output {a = a'} {us = us} a fs) d fits e =
      let b = fields_begin fs e.event in
      later (bind _ (bind _ (read_at (expression_read a d (alike (depths.of_field _ (field.rolls-Output a')) (left _ _ fits)) (stops_ten 16 us refl b)) bound.Sum refl (stops_ten 15 us refl b)) now)
      (bind _ (fields_read fs d (right _ _ fits) e) now))
  fields_read (g.fields-input fs) d fits e =
      later (bind _ (bind _ (not_there _ _ (fields_no_colon fs e.no_colon) now) now) (bind _ (fields_read fs d (right _ _ fits) e) now))
  fields_read (g.fields-input-from {x = x} {s = s'} {us = us} a fs) d fits e =
      later (bind _ (bind _ (bind _ (atom_read a d (alike (depths.of_field _ (field.rolls-Input x (Some s'))) (left _ _ fits)) (stops_ten 20 us refl (fields_begin fs e.event))) now) now)
      (bind _ (fields_read fs d (right _ _ fits) e) now))

  dots_before : {n : ℕ} {ts : List Token} {fields : List Tree} {r : List Token} → DotsText n ts fields r → (d : ℕ) → greatest (map tree_depth fields) ≤ d → Stops 10 r → AreDots n d ts fields r
  dots_before {n} {r = r} g.dots-none d fits s = no_dots n d r s
  dots_before (g.dots-more {us = us} a ds) d fits s =
      let rest : Stops 11 us = dots_begin ds s in
      more_dots (read_at (expression_read a d (left _ _ fits) (more 11 16 us refl rest)) bound.Sum refl (more 11 15 us refl rest)) (dots_before ds d (right _ _ fits) s)

  pub dots_read : {n : ℕ} {ts : List Token} {fields : List Tree} {r : List Token} → DotsText n ts fields r → (d : ℕ) → greatest (map tree_depth fields) ≤ d → Stops 10 r → Gives (λ L. L.dots (limits n d) ts) (fields, r)
  dots_read {r = r} g.dots-none d fits s = later (not_there _ _ (not_symbol symbol.Dot 10 r refl s) now)
  dots_read (g.dots-more {us = us} a ds) d fits s =
      let rest : Stops 11 us = dots_begin ds s in
      dots_more (read_at (expression_read a d (left _ _ fits) (more 11 16 us refl rest)) bound.Sum refl (more 11 15 us refl rest)) (dots_read ds d (right _ _ fits) s)

  pub expression_read : {n : ℕ} {l : Level} {ts : List Token} {t : Tree} {r : List Token} → ExpressionText n l ts t r → (d : ℕ) → tree_depth t ≤ d → Stops (follow l) r → Reads n d l ts t r
  expression_read {r = r} (g.expression-tighter {l = l} {m = m} next e) d fits s = read_tighter next (expression_read e d fits (more (follow l) (follow m) r (next_follow next) s))
  expression_read {r = r} (g.expression-left-operator {l = l} {m = m} {op = op'} {a = a'} {us = us} {b = b'} next op a b) d fits s =
      let within : max (tree_depth a') (tree_depth b') ≤ less d = parts d (depths.of_tree _ (tree.rolls-Binary op' a' b')) fits in
      read_left next op fits (expression_read a d (up d (left _ _ within)) (before_left us op)) (expression_read b (less d) (right _ _ within) (more (follow l) (follow m) r (next_follow next) s)) s
  expression_read (g.expression-negated {a = a'} a) d fits s = read_negated fits (expression_read a (less d) (parts d (depths.of_tree _ (tree.rolls-Not a')) fits) s) s
  expression_read {r = r} (g.expression-compare {op = op'} {a = a'} {us = us} {b = b'} c a b) d fits s =
      let within : max (tree_depth a') (tree_depth b') ≤ less d = parts d (depths.of_tree _ (tree.rolls-Binary op' a' b')) fits in
      read_compare c fits (expression_read a d (up d (left _ _ within)) (before_comparison us c)) (expression_read b (less d) (right _ _ within) (more 14 16 r refl s)) s
  expression_read (g.expression-negative {a = a'} a) d fits s = read_negative fits (expression_read a (less d) (parts d (depths.of_tree _ (tree.rolls-Neg a')) fits) s) s
  expression_read (g.expression-rename {p = p'} {pairs = pairs'} {vs = vs} {gs = gs'} p pairs conditions) d fits s =
      let begin = conditions_begin conditions refl refl in
      let within : max (tree_depth p') (max (pairs_depth pairs') (greatest (map gen_depth gs'))) ≤ less d = parts d (depths.of_tree _ (tree.rolls-Rename p' pairs' gs')) fits in
      let behind : max (pairs_depth pairs') (greatest (map gen_depth gs')) ≤ less d = right _ _ within in
      read_rename fits (expression_read p d (up d (left _ _ within)) refl) (pairs_read pairs (less d) (left _ _ behind) (more 1 10 vs refl begin.0) begin.1)
      (conditions_read conditions (less d) (right _ _ behind) refl refl refl)
  expression_read {r = r} (g.expression-atom a) d fits s = read_operand (atom_operand a) (atom_read a d fits (more 19 20 r refl s))

  pairs_read : {n : ℕ} {ts : List Token} {pairs : List (PartTree × PartTree)} {r : List Token} → PairsText n ts pairs r → (d : ℕ) → pairs_depth pairs ≤ d → Stops 10 r → skip symbol.Comma r ≡ None →
      Gives (λ L. L.pairs (limits n d) ts) (pairs, r)
  pairs_read (g.pairs-one {c = c'} {d = e'} c e) d fits s h =
      let pair : max (part_depth c') (part_depth e') ≤ d = left _ 0 fits in
      later (bind _ (bind _ (part_read c d (left _ _ pair) refl) (bind _ (part_read e d (right _ _ pair) s) now)) (not_there _ _ h now))
  pairs_read (g.pairs-more {c = c'} {d = e'} c e pairs) d fits s h =
      let pair : max (part_depth c') (part_depth e') ≤ d = left _ _ fits in
      later (bind _ (bind _ (part_read c d (left _ _ pair) refl) (bind _ (part_read e d (right _ _ pair) refl) now)) (bind _ (pairs_read pairs d (right _ _ fits) s h) now))

  part_read : {n : ℕ} {ts : List Token} {c : PartTree} {r : List Token} → PartText n ts c r → (d : ℕ) → part_depth c ≤ d → Stops 10 r → Gives (λ L. read_part L (limits n d) ts) (c, r)
  part_read (g.part-dots {c = c'} {fields = fields} ds) d fits s = bind _ (dots_read ds d (alike (depths.depth-part c' fields) fits) s) now

  parts_read : {n : ℕ} {ts : List Token} {cs : List PartTree} {r : List Token} → PartsText n ts cs r → (d : ℕ) → greatest (map part_depth cs) ≤ d → Stops 10 r → skip symbol.Comma r ≡ None →
      Gives (λ L. L.parts (limits n d) ts) (cs, r)
  parts_read (g.parts-one c) d fits s h = later (bind _ (part_read c d (left _ 0 fits) s) (not_there _ _ h now))
  parts_read (g.parts-more c cs) d fits s h = later (bind _ (part_read c d (left _ _ fits) refl) (bind _ (parts_read cs d (right _ _ fits) s h) now))

  conditions_read : {n : ℕ} {ts : List Token} {gs : List GenTree} {r : List Token} → ConditionsText n ts gs r → (d : ℕ) → greatest (map gen_depth gs) ≤ d →
      Stops 9 r → skip symbol.Comma r ≡ None → skip symbol.Bar r ≡ None → Gives (λ L. read_conditions L (limits n d) ts) (gs, r)
  conditions_read g.conditions-none d fits s h b = not_there _ _ b now
  conditions_read (g.conditions-some gs) d fits s h b = gens_read gs d fits s h

  gens_read : {n : ℕ} {ts : List Token} {gs : List GenTree} {r : List Token} → GensText n ts gs r → (d : ℕ) → greatest (map gen_depth gs) ≤ d → Stops 9 r → skip symbol.Comma r ≡ None →
      Gives (λ L. L.gens (limits n d) ts) (gs, r)
  gens_read (g.gens-one c) d fits s h = later (bind _ (gen_read c d (left _ 0 fits) s) (not_there _ _ h now))
  gens_read (g.gens-more c gs) d fits s h = later (bind _ (gen_read c d (left _ _ fits) refl) (bind _ (gens_read gs d (right _ _ fits) s h) now))

  gen_read : {n : ℕ} {ts : List Token} {c : GenTree} {r : List Token} → GenText n ts c r → (d : ℕ) → gen_depth c ≤ d → Stops 9 r → Gives (λ L. read_gen L (limits n d) ts) (c, r)
  gen_read {r = r} (g.gen-from {x = x} {s = s'} a) d fits s = bind _ (atom_read a d (alike (depths.of_generator _ (generator.rolls-From x s')) fits) (more 9 20 r refl s)) now
  gen_read {r = r} (g.gen-condition {ts = ts} {c = c'} e) d fits s =
      condition_first ts (no_arrow e (not_symbol symbol.LeftArrow 9 r refl s))
      (bind _ (read_at (expression_read e d (alike (depths.of_generator _ (generator.rolls-Cond c')) fits) (more 9 12 r refl s)) bound.Disjunction refl (more 9 11 r refl s)) now)

  item_read : {n : ℕ} {ts : List Token} {t : Tree} {r : List Token} → ItemText n ts t r → (d : ℕ) → tree_depth t ≤ d → Stops 9 r → Bounded bound.Dotted (λ L. read_item L (limits n d) ts) t r
  item_read {r = r} (g.item-dotted (g.dotted-fields {c = c} {a = a'} {us = us} {fields = others} a ds)) d fits s =
      let within : greatest (map tree_depth (a' ∷ others)) ≤ less d = parts d (depths.of_tree _ (tree.rolls-Dot c (a' ∷ others))) fits in
      let rest : Stops 11 us = dots_begin ds (more 9 10 r refl s) in
      let front = read_at (expression_read a (less d) (left _ _ within) (more 11 16 us refl rest)) bound.Sum refl (more 11 15 us refl rest) in
      record { k = bound.Dotted; tight = refl; gives = inner _ d _ (depths.of_tree _ (tree.rolls-Dot c (a' ∷ others))) fits (bind _ (dots_more front (dots_read ds (less d) (right _ _ within) (more 9 10 r refl s))) now) }
  item_read {r = r} (g.item-expression e) d fits s =
      let e' = expression_read e d fits (more 9 12 r refl s) in
      record { k = e'.k; tight = no_bound e'.k; gives = second _ _ (no_event e (stops_no_event r s)) (read_at e' bound.Disjunction refl (more 9 11 r refl s)) }

  pub items_read : {n : ℕ} {ts : List Token} {items : List Tree} {r : List Token} → ItemsText n ts items r → (d : ℕ) → greatest (map tree_depth items) ≤ d → Stops 9 r → skip symbol.Comma r ≡ None →
      Bounded bound.Dotted (λ L. L.items (limits n d) ts) items r
  items_read (g.items-one i) d fits s h =
      let i' = item_read i d (left _ 0 fits) s in
      record { k = i'.k; tight = i'.tight; gives = later (bind _ i'.gives (not_there _ _ h now)) }
  items_read (g.items-more i items) d fits s h =
      record { k = bound.Dotted; tight = refl; gives = later (bind _ (item_read i d (left _ _ fits) refl).gives (bind _ (items_read items d (right _ _ fits) s h).gives now)) }

  pub atom_read : {n : ℕ} {ts : List Token} {t : Tree} {r : List Token} → AtomText n ts t r → (d : ℕ) → tree_depth t ≤ d → Stops 20 r → Gives (λ L. L.atom (limits n d) ts) (t, r)
  atom_read g.atom-stop d fits s = later (inner 0 d _ (depths.of_tree _ tree.rolls-Stop) fits now)
  atom_read g.atom-skip d fits s = later (inner 0 d _ (depths.of_tree _ tree.rolls-Skip) fits now)
  atom_read g.atom-truth d fits s = later (inner 0 d _ (depths.of_tree _ tree.rolls-True) fits now)
  atom_read g.atom-falsehood d fits s = later (inner 0 d _ (depths.of_tree _ tree.rolls-False) fits now)
  atom_read (g.atom-number {x = k}) d fits s = later (inner 0 d _ (depths.of_tree _ (tree.rolls-Num k)) fits now)
  atom_read {r = r} (g.atom-name {x = x}) d fits s =
      later (bind _ (not_there _ _ (not_symbol symbol.OpenParen 20 r refl s) now) (inner 0 d _ (depths.of_tree _ (tree.rolls-Name x)) fits now))
  atom_read (g.atom-call {x = x} {items = items'} items) d fits s =
      let is = depths.of_tree _ (tree.rolls-Call x items') in
      later (inner _ d _ is fits (bind _ (items_read items (less d) (parts d is fits) refl refl).gives now))
  atom_read (g.atom-parentheses t) d fits s = later (bind _ (tree_read t d fits refl) now)
  atom_read g.atom-empty d fits s = later (inner 0 d _ (depths.of_tree _ (tree.rolls-Display [])) fits now)
  atom_read (g.atom-display {items = items'} items) d fits s =
      let is = depths.of_tree _ (tree.rolls-Display items') in
      later (inner _ d _ is fits (not_there _ _ (items_no_brace items) (bind _ (items_read items (less d) (parts d is fits) refl refl).gives now)))
  atom_read (g.atom-range {a = a'} {b = b'} a b) d fits s =
      let is = depths.of_tree _ (tree.rolls-Range a' b') in
      let within : max (tree_depth a') (tree_depth b') ≤ less d = parts d is fits in
      let front = expression_read a (less d) (left _ _ within) refl in
      later (inner _ d _ is fits (not_there _ _ (plain a).no_brace (bind _ (bound_alone (no_event a refl) (read_at front bound.Disjunction refl refl))
      (granted _ front.tight (bind _ (read_at (expression_read b (less d) (right _ _ within) refl) bound.Sum refl refl) now)))))
  atom_read (g.atom-comprehension {items = items'} {gs = gs'} items gs) d fits s =
      let is = depths.of_tree _ (tree.rolls-Comp items' gs') in
      let within : max (greatest (map tree_depth items')) (greatest (map gen_depth gs')) ≤ less d = parts d is fits in
      later (inner _ d _ is fits (not_there _ _ (items_no_brace items) (bind _ (items_read items (less d) (left _ _ within) refl refl).gives (bind _ (gens_read gs (less d) (right _ _ within) refl refl) now))))
  atom_read (g.atom-production {parts = parts'} {us = us} {gs = gs'} cs conditions) d fits s =
      let is = depths.of_tree _ (tree.rolls-Product parts' gs') in
      let within : max (greatest (map part_depth parts')) (greatest (map gen_depth gs')) ≤ less d = parts d is fits in
      let begin = conditions_begin conditions refl refl in
      later (inner _ d _ is fits (bind _ (parts_read cs (less d) (left _ _ within) (more 1 10 us refl begin.0) begin.1) (bind _ (conditions_read conditions (less d) (right _ _ within) refl refl refl) now)))
  atom_read (g.atom-set-operator {op = op} {a = a'} {b = b'} a b) d fits s =
      let is = depths.of_tree _ (tree.rolls-SetOp op a' b') in
      let within : max (tree_depth a') (tree_depth b') ≤ less d = parts d is fits in
      set_operator_starts op (inner _ d _ is fits (bind _ (item_read a (less d) (left _ _ within) refl).gives (bind _ (item_read b (less d) (right _ _ within) refl).gives now)))
