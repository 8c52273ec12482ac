-- What is read of processes, the grammar has.
use Rattle.tree_reading.proofs.Prelude.{◌≡◌, inl, inr, ℕ, suc, ◌+◌, ◌≤◌, max, Bool, true, nat_le, Option, Some, None, List, [], ◌∷◌, map, refl, sym, ap, subst, ◌∙◌, arith, field_depth, tree_depth, Token, Name, Word, FieldTree, Tree, choice_sign, event_tree, TreeText, Reach, SideText, HidingText, ChoiceText, SequenceText, PrefixText, OpenText, EventText, FieldsText, DottedText, DotsText, ExpressionText, AtomText, closed, disjunction, renaming, sum, begins_event, with_first, at_least, number, of_process, Limited, read_prefixed, read_event, read_branches, read_if, read_binder, read_each, read_each_parallel, read_guarded, read_guard, read_opened, read_prefix, read_followed, read_sequence, read_choices, read_hiding, read_hidings, read_chain, read_side, read_parallel, read_tree, limits, choice, dot_fields, each_tree, form_start, Chain, Binding, none-some, same_Some, nat_tests, greatest}
use Rattle.csp_text.specs.declared.token.Token.TheVariants.{Symbol}
use Rattle.csp_text.specs.declared.token.Word.TheVariants as word
use Rattle.csp_text.specs.declared.token.Symbol.TheVariants as symbol
use Rattle.csp_text.specs.declared.tree.Tree.TheVariants as tree
use Rattle.csp_text.specs.declared.tree.FieldTree.TheVariants as field
use Rattle.csp_grammar.specs.Grammar as g
use Rattle.tree_reading.specs.declared.look.Chain.TheVariants as chain
use Rattle.tree_reading.specs.declared.read.Binding.TheVariants as bound
use Rattle.tree_reading.proofs.Complete.{prefix_depth}
use Rattle.tree_reading.proofs.DotFields as fields
use Rattle.tree_reading.proofs.Fitting.{both, node, through}
use Rattle.tree_reading.proofs.Holds.{Holds, by_then, by_case, by_sure, by_if, by_bracketed, by_inside, by_around, is_le, itself, mapped}
use Rattle.tree_reading.proofs.Holds.Holds.{some}
use Rattle.tree_reading.proofs.Looks as look
use Rattle.tree_reading.proofs.Meaning.{Sound, Expressions, reach, ProcessRead, SideRead, ChoicesRead, Hideable, HiddenRead, HidingsRead, not_so_tight, loosen}
use Rattle.tree_reading.proofs.Meaning.Hideable.{bare, hidden}
use Rattle.tree_reading.proofs.NodeDepths as depths
use Rattle.tree_reading.proofs.Parts.{chosen_depth}
use Rattle.tree_reading.proofs.SoundExpressions.{alone, dotted_read}
use Rattle.tree_reading.proofs.Tests.{at_least_one, closed_reach, one_or_two, none_or_more, not_zero, same_reach}

wide : (k : ℕ) → 11 ≤ k → 2 ≤ k
wide k h = omega arith

positive : (k : ℕ) → 2 ≤ k → 1 ≤ k
positive k h = omega arith

two : (k : ℕ) → k ≡ 2 → 2 ≤ k
two k e = omega arith

is_test : (k : ℕ) → 2 ≤ k → nat_le 2 k ≡ true
is_test k h = grind (arith, nat_tests)

-- what nothing may be missing behind
closed_of : (P : Reach → Type 0) (k : Binding) → nat_le 2 (number k) ≡ true → (1 ≤ number k → P (reach k)) → P closed
closed_of P k h process = subst P (closed_reach k h) (process (at_least_one (number k) h))

reached : (P : Reach → Type 0) (k : Binding) → 2 ≤ number k → P closed → P (reach k)
reached P k h process = subst P (sym (closed_reach k (is_test (number k) h))) process

-- a process that ends with one bound like this
ending : {n d : ℕ} {ts : List Token} {t : Tree} {r : List Token} (Text : ℕ → Reach → List Token → Tree → List Token → Type 0) (k : Binding) → nat_le 1 (number k) ≡ true → Text n (reach k) ts t r →
    tree_depth t ≤ d → ProcessRead Text n d ts (of_process k, t, r)
ending {n} {d} {ts} {t} {r} Text k h process fits = record {
  dotted = λ z. not_zero (number (of_process k)) (one_or_two k).0 z;
  process = λ z. subst (λ e. Text n e ts t r) (same_reach k h) process;
  is = λ l le. not_so_tight l (number (of_process k)) (one_or_two k).1 le;
  fits = fits;
}

is_open : {n d : ℕ} {ts : List Token} {t : Tree} {r : List Token} → OpenText n ts t r → tree_depth t ≤ d → ProcessRead PrefixText n d ts (bound.Open, t, r)
is_open o fits = record {
  dotted = λ z. not_zero 1 (omega arith) z;
  process = λ z. g.prefix-open-form o;
  is = λ l le. not_so_tight l 1 (omega arith) le;
  fits = fits;
}

is_dotted : {n d : ℕ} {ts : List Token} {t : Tree} {r : List Token} → DottedText n ts t r → tree_depth t ≤ d → ProcessRead PrefixText n d ts (bound.Dotted, t, r)
is_dotted x fits = record {
  dotted = λ z. x;
  process = λ z. absurd (omega arith);
  is = λ l le. not_so_tight l 0 (omega arith) le;
  fits = fits;
}

is_expression : {n d : ℕ} {ts : List Token} (p : Binding × Tree × List Token) → 11 ≤ number p.0 → Expressions n (number p.0) ts p.1 p.2 → tree_depth p.1 ≤ d → ProcessRead PrefixText n d ts p
is_expression {n} {d} {ts} p h e fits = record {
  dotted = λ z. not_zero (number p.0) (positive (number p.0) (wide (number p.0) h)) z;
  process = λ z. reached (λ x. PrefixText n x ts p.1 p.2) p.0 (wide (number p.0) h) (g.prefix-expression (e disjunction h));
  is = e;
  fits = fits;
}

hide : {n : ℕ} {ts : List Token} {t : Tree} {us : List Token} {a : Tree} {r : List Token} → Hideable n ts t (Symbol symbol.Backslash ∷ us) → AtomText n us a r → HidingText n ts (tree.Hide t a) r
hide (bare e) a = g.hiding-one e a
hide (hidden h) a = g.hiding-more h a

hidden_side : {n : ℕ} {ts : List Token} {t : Tree} {r : List Token} → Hideable n ts t r → SideText n closed ts t r
hidden_side (bare e) = g.side-sequence (g.sequence-one (g.prefix-expression (loosen renaming e disjunction (omega arith))))
hidden_side (hidden h) = g.side-hiding h

is_hidden : {n d : ℕ} {ts : List Token} (p : Binding × Tree × List Token) → HiddenRead n d ts p → SideRead n d ts p
is_hidden {n} {d} {ts} p h = record {
  dotted = λ z. not_zero (number p.0) (positive (number p.0) (two (number p.0) h.bound)) z;
  process = λ z. reached (λ e. SideText n e ts p.1 p.2) p.0 (two (number p.0) h.bound) (hidden_side h.is);
  fits = h.fits;
}

tree_of : {n d : ℕ} {ts : List Token} (p : Binding × Tree × List Token) → SideRead n d ts p → TreeText n ts p.1 p.2
tree_of p s = elim (none_or_more (number p.0)) [ inl e ↦ g.tree-dotted (s.dotted e) | inr le ↦ g.tree-side (s.process le) ]

paralleled : {n m : ℕ} {e : Reach} {ts : List Token} {p : Tree} {us : List Token} {a : Tree} {vs : List Token} {b : Tree} {ws : List Token} {q : Tree} {r : List Token} → n ≡ suc m →
    SideText n closed ts p (Symbol symbol.OpenBracket ∷ us) → AtomText m us a (Symbol symbol.Parallel ∷ vs) → AtomText m vs b (Symbol symbol.CloseBracket ∷ ws) →
    SideText n e ws q r → TreeText n ts (tree.Parallel p a b q) r
paralleled {n} {m} {e} {ts} {p} {us} {a} {vs} {b} {ws} {q} {r} is front x y back =
    subst (λ z. TreeText z ts (tree.Parallel p a b q) r) (sym is)
    (g.tree-parallel (subst (λ z. SideText z closed ts p (Symbol symbol.OpenBracket ∷ us)) is front) x y (subst (λ z. SideText z e ws q r) is back))

each_parallel_of : {n m : ℕ} {x : List ℕ} {ts : List Token} {s : Tree} {us : List Token} {a : Tree} {vs : List Token} {p : Tree} {r : List Token} → n ≡ suc m →
    AtomText n ts s (Symbol symbol.At ∷ Symbol symbol.OpenBracket ∷ us) → AtomText m us a (Symbol symbol.CloseBracket ∷ vs) → TreeText n vs p r →
    OpenText n (Symbol symbol.Parallel ∷ Name x ∷ Symbol symbol.Colon ∷ ts) (tree.EachParallel x s a p) r
each_parallel_of {n} {m} {x} {ts} {s} {us} {a} {vs} {p} {r} e front y back =
    subst (λ z. OpenText z (Symbol symbol.Parallel ∷ Name x ∷ Symbol symbol.Colon ∷ ts) (tree.EachParallel x s a p) r) (sym e)
    (g.open-parallel (subst (λ z. AtomText z ts s (Symbol symbol.At ∷ Symbol symbol.OpenBracket ∷ us)) e front) y (subst (λ z. TreeText z vs p r) e back))

-- the name, the set and `@` of a replicated form
record BinderRead (n e : ℕ) (ts : List Token) (b : List ℕ × Tree × List Token) : Type 0 where
  behind : List Token
  split : ts ≡ Name b.0 ∷ Symbol symbol.Colon ∷ behind
  is : AtomText n behind b.1 (Symbol symbol.At ∷ b.2)
  fits : tree_depth b.1 ≤ e

each_of : {n : ℕ} {x : List ℕ} {us : List Token} {s : Tree} {vs : List Token} {p : Tree} {r : List Token} (c : Chain) → AtomText n us s (Symbol symbol.At ∷ vs) → TreeText n vs p r →
    OpenText n (choice_sign (choice c) ∷ Name x ∷ Symbol symbol.Colon ∷ us) (each_tree c x s p) r
each_of chain.External a t = g.open-external a t
each_of chain.Internal a t = g.open-internal a t

each_depth : (c : Chain) (x : List ℕ) (s p : Tree) → tree_depth (each_tree c x s p) ≡ 1 + max (tree_depth s) (tree_depth p)
each_depth chain.External x s p = depths.of_tree _ (tree.rolls-EachExternal x s p)
each_depth chain.Internal x s p = depths.of_tree _ (tree.rolls-EachInternal x s p)

both_deep : (x a b c : ℕ) → x ≡ a → b ≤ c → max a b ≤ max x c
both_deep x a b c e h = grind (arith)

of_first : {n : ℕ} {ts us : List Token} {r : List Token} {x deep : ℕ} (a : Tree) (o : Option (List Tree)) (ds : List Tree) → with_first a o ≡ Some ds →
    ((es : List Tree) → o ≡ Some es → DotsText n us es r × (greatest (map tree_depth es) ≤ deep)) → ExpressionText n sum ts a us → x ≡ tree_depth a →
    DotsText n (Symbol symbol.Dot ∷ ts) ds r × (greatest (map tree_depth ds) ≤ max x deep)
of_first a None ds e f t is = absurd (none-some ds e)
of_first {n} {ts} {us} {r} {x} {deep} a (Some es) ds e f t is =
    let rest = f es refl in
    subst (λ z. DotsText n (Symbol symbol.Dot ∷ ts) z r × (greatest (map tree_depth z) ≤ max x deep)) (same_Some _ _ e)
    (g.dots-more t rest.0, both_deep x (tree_depth a) (greatest (map tree_depth es)) deep is rest.1)

-- THE FIELDS OF A DOTTED EVENT

-- fields that all have a dot are the fields of a dotted event, as deep as they are
dots_of : {n : ℕ} {dot : Bool} {ts : List Token} {fs : List FieldTree} {r : List Token} (ds : List Tree) → FieldsText n dot ts fs r → dot_fields fs ≡ Some ds →
    DotsText n ts ds r × (greatest (map tree_depth ds) ≤ greatest (map field_depth fs))
dots_of {n = n} {ts = ts} ds g.fields-none e = subst (λ z. DotsText n ts z ts × (greatest (map tree_depth z) ≤ 0)) (same_Some _ _ e) (g.dots-none, omega arith)
dots_of ds (g.fields-dot {a = a'} {fs = fs'} a fs) e =
    of_first a' (dot_fields fs') ds (sym (fields.dots_more a' fs') ∙ e) (λ es f. dots_of es fs f) a (depths.of_field _ (field.rolls-Dot a'))
dots_of ds (g.fields-output {a = a'} {fs = fs'} a fs) e = absurd (none-some ds (sym (fields.no_dots (field.Output a') fs' (fields.output_is a')) ∙ e))
dots_of ds (g.fields-input {x = x} {fs = fs'} fs) e = absurd (none-some ds (sym (fields.no_dots (field.Input x None) fs' (fields.input_is x None)) ∙ e))
dots_of ds (g.fields-input-from {x = x} {s = s'} {fs = fs'} a fs) e = absurd (none-some ds (sym (fields.no_dots (field.Input x (Some s')) fs' (fields.input_is x (Some s'))) ∙ e))

module _ (L : Limited) (S : Sound L) where
  prefixed_event : (n d e : ℕ) (ts : List Token) (c : List ℕ) (fs : List FieldTree) (us : List Token) → d ≡ suc e → EventText n ts (event_tree c fs) (Symbol symbol.Arrow ∷ us) →
      greatest (map field_depth fs) ≤ e → Holds (ProcessRead PrefixText n d ts) (read_prefixed L (limits n e) c fs us)
  prefixed_event n d e ts c fs us deep front fits =
      by_then _ (S.prefix n e us) λ p pr. by_sure (at_least bound.Open p.0) _ λ h.
      some (ending PrefixText p.0 h (g.prefix-event front (pr.process (is_le 1 (number p.0) h))) (node (prefix_depth c fs p.1) deep (both fits pr.fits)))

  event : (n d : ℕ) (ts : List Token) → Holds (ProcessRead PrefixText n d ts) (read_event L (limits n d) ts)
  event n d ts =
      by_inside n d _ λ e deep. by_then _ (look.names ts) λ c is. by_then _ (S.fields n e true c.1) λ q f.
      by_case _ _ (look.skips symbol.Arrow q.1)
      (λ us ea. prefixed_event n d e ts c.0 q.0 us deep
      (subst (λ z. EventText n z (event_tree c.0 q.0) (Symbol symbol.Arrow ∷ us)) (sym is) (subst (λ z. EventText n (Name c.0 ∷ c.1) (event_tree c.0 q.0) z) ea (g.event-fields f.0))) f.1)
      (by_then _ (by_then _ (itself (dot_fields q.0)) λ ds eq.
      let found = dots_of ds f.0 eq in dotted_read n d e c.0 c.1 ds q.1 deep found.0 (through (greatest (map tree_depth ds)) (greatest (map field_depth q.0)) e found.1 f.1)) λ t x.
      some (is_dotted (subst (λ z. DottedText n z t q.1) (sym is) x.0) x.1))

  branches : (n d e : ℕ) (ts : List Token) (c : Tree) (us : List Token) → d ≡ suc e → ExpressionText n disjunction ts c (Word word.Then ∷ us) → tree_depth c ≤ e →
      Holds (ProcessRead PrefixText n d (Word word.If ∷ ts)) (read_branches L (limits n e) c us)
  branches n d e ts c us deep front fits =
      by_then _ (S.tree n e us) λ p pt. by_then _ (look.skips_word word.Else p.1) λ vs f. by_then _ (S.tree n e vs) λ q qt.
      some (is_open (g.open-if-then-else front (subst (λ z. TreeText n us p.0 z) f pt.0) qt.0) (node (depths.of_tree _ (tree.rolls-If c p.0 q.0)) deep (both fits (both pt.1 qt.1))))

  conditional : (n d : ℕ) (ts : List Token) → Holds (ProcessRead PrefixText n d (Word word.If ∷ ts)) (read_if L (limits n d) ts)
  conditional n d ts =
      by_inside n d _ λ e deep. by_then _ (S.expression n e bound.Disjunction ts (omega arith)) λ c a. by_then _ (look.skips_word word.Then c.2) λ us f.
      branches n d e ts c.1 us deep (subst (λ z. ExpressionText n disjunction ts c.1 z) f (a.is disjunction a.above)) a.fits

  binder : (n e : ℕ) (ts : List Token) → Holds (BinderRead n e ts) (read_binder L (limits n e) ts)
  binder n e ts =
      by_then _ (look.names ts) λ x ex. by_then _ (look.skips symbol.Colon x.1) λ us eu. by_then _ (S.atom n e us) λ s st. by_then _ (look.skips symbol.At s.1) λ vs ev.
      some (record { behind = us; split = ex ∙ ap (λ z. Name x.0 ∷ z) eu; is = subst (λ z. AtomText n us s.0 z) ev st.0; fits = st.1 })

  each : (n d : ℕ) (c : Chain) (ts : List Token) → Holds (ProcessRead PrefixText n d (choice_sign (choice c) ∷ ts)) (read_each L (limits n d) c ts)
  each n d c ts =
      by_inside n d _ λ e deep. by_then _ (binder n e ts) λ b bt. by_then _ (S.tree n e b.2) λ p pt.
      some (subst (λ z. ProcessRead PrefixText n d (choice_sign (choice c) ∷ z) (bound.Open, each_tree c b.0 b.1 p.0, p.1)) (sym bt.split)
      (is_open (each_of c bt.is pt.0) (node (each_depth c b.0 b.1 p.0) deep (both bt.fits pt.1))))

  each_parallel : (n d : ℕ) (ts : List Token) → Holds (ProcessRead PrefixText n d (Symbol symbol.Parallel ∷ ts)) (read_each_parallel L (limits n d) ts)
  each_parallel n d ts =
      by_inside n d _ λ e deep. by_then _ (binder n e ts) λ b bt. by_then _ (look.skips symbol.OpenBracket b.2) λ ws ew.
      by_bracketed n e _ λ m en. by_then _ (S.atom m e ws) λ a at. by_then _ (look.skips symbol.CloseBracket a.1) λ zs ez. by_then _ (S.tree n e zs) λ p pt.
      some (subst (λ z. ProcessRead PrefixText n d (Symbol symbol.Parallel ∷ z) (bound.Open, tree.EachParallel b.0 b.1 a.0 p.0, p.1)) (sym bt.split)
      (is_open (each_parallel_of en (subst (λ z. AtomText n bt.behind b.1 (Symbol symbol.At ∷ z)) ew bt.is) (subst (λ z. AtomText m ws a.0 z) ez at.0) pt.0)
      (node (depths.of_tree _ (tree.rolls-EachParallel b.0 b.1 a.0 p.0)) deep (both bt.fits (both at.1 pt.1)))))

  guarded : (n d e : ℕ) (ts : List Token) (c : Tree) (us : List Token) → d ≡ suc e → ExpressionText n disjunction ts c (Symbol symbol.Ampersand ∷ us) → tree_depth c ≤ e →
      Holds (ProcessRead PrefixText n d ts) (read_guarded L (limits n e) c us)
  guarded n d e ts c us deep front fits =
      by_then _ (S.prefix n e us) λ q pr. by_sure (at_least bound.Open q.0) _ λ h.
      some (ending PrefixText q.0 h (g.prefix-guard front (pr.process (is_le 1 (number q.0) h))) (node (depths.of_tree _ (tree.rolls-Guard c q.1)) deep (both fits pr.fits)))

  guard : (n d : ℕ) (ts : List Token) → Holds (ProcessRead PrefixText n d ts) (read_guard L (limits n d) ts)
  guard n d ts =
      by_then _ (S.expression n d bound.Disjunction ts (omega arith)) λ p a.
      by_case _ _ (look.skips symbol.Ampersand p.2)
      (λ us f. by_around n d p.1 _ λ e deep fits. guarded n d e ts p.1 us deep (subst (λ z. ExpressionText n disjunction ts p.1 z) f (a.is disjunction a.above)) fits)
      (some (is_expression (p.0, p.1, p.2) a.above a.is a.fits))

  form : (n d : ℕ) (ts : List Token) → Holds (λ s. Holds (ProcessRead PrefixText n d ts) (read_opened L (limits n d) s.0 s.1)) (form_start ts)
  form n d ts =
      by_case _ _ (look.skips_word word.If ts) (λ us e. some (subst (λ z. Holds (ProcessRead PrefixText n d z) (read_if L (limits n d) us)) (sym e) (conditional n d us)))
      (by_case _ _ (look.chains ts) (λ c e. some (subst (λ z. Holds (ProcessRead PrefixText n d z) (read_each L (limits n d) c.0 c.1)) (sym e) (each n d c.0 c.1)))
      (by_case _ _ (look.skips symbol.Parallel ts) (λ us e. some (subst (λ z. Holds (ProcessRead PrefixText n d z) (read_each_parallel L (limits n d) us)) (sym e) (each_parallel n d us)))
      (some (guard n d ts))))

  pub prefix : (n d : ℕ) (ts : List Token) → Holds (ProcessRead PrefixText n d ts) (read_prefix L (limits n d) ts)
  prefix n d ts = by_then {Q = λ s. Holds (ProcessRead PrefixText n d ts) (read_opened L (limits n d) s.0 s.1)} _ (by_if (begins_event ts) _ _ (some (event n d ts)) (form n d ts)) λ s h. h

  followed : (n d e : ℕ) (ts : List Token) (t : Tree) (us : List Token) → d ≡ suc e → PrefixText n closed ts t (Symbol symbol.Semicolon ∷ us) → tree_depth t ≤ e →
      Holds (ProcessRead SequenceText n d ts) (read_followed L (limits n e) t us)
  followed n d e ts t us deep front fits =
      by_then _ (S.sequence n e us) λ q sq. by_sure (at_least bound.Open q.0) _ λ h.
      some (ending SequenceText q.0 h (g.sequence-more front (sq.process (is_le 1 (number q.0) h))) (node (depths.of_tree _ (tree.rolls-Seq t q.1)) deep (both fits sq.fits)))

  pub sequence : (n d : ℕ) (ts : List Token) → Holds (ProcessRead SequenceText n d ts) (read_sequence L (limits n d) ts)
  sequence n d ts =
      by_then _ (S.prefix n d ts) λ p pr.
      by_case _ _ (look.skips symbol.Semicolon p.2)
      (λ us f. by_sure (at_least bound.Closed p.0) _ λ h. by_around n d p.1 _ λ e deep fits. followed n d e ts p.1 us deep (subst (λ z. PrefixText n closed ts p.1 z) f (closed_of (λ e. PrefixText n e ts p.1 p.2) p.0 h pr.process)) fits)
      (some (record {
        dotted = pr.dotted;
        process = λ z. g.sequence-one (pr.process z);
        is = pr.is;
        fits = pr.fits;
      }))

  pub choices : (n d : ℕ) (c : Chain) (ts : List Token) → Holds (ChoicesRead n d (choice c) ts) (read_choices L (limits n d) c ts)
  choices n d c ts =
      by_then _ (S.sequence n d ts) λ p sq. by_sure (at_least bound.Open p.0) _ λ h.
      by_case _ _ (look.skips_chain c p.2)
      (λ us e. by_sure (at_least bound.Closed p.0) _ λ h'. by_then _ (S.choices n d c us) λ q ch.
      let front : SequenceText n closed ts p.1 (choice_sign (choice c) ∷ us) = subst (λ z. SequenceText n closed ts p.1 z) e (closed_of (λ e. SequenceText n e ts p.1 p.2) p.0 h' sq.process) in
      some (record {
        bound = ch.bound;
        process = λ vs a before. g.choice-more before (ch.process ts p.1 front);
        fit = both sq.fits ch.fit;
      }))
      (some (record {
        bound = (one_or_two p.0).0;
        process = λ vs a before. subst (λ e. ChoiceText n e (choice c) vs (a ∷ p.1 ∷ []) p.2) (same_reach p.0 h) (g.choice-two before (sq.process (is_le 1 (number p.0) h)));
        fit = alone (tree_depth p.1) sq.fits;
      }))

  hiding : (n d : ℕ) (t : Tree) (us : List Token) →
      Holds (λ p. ((vs : List Token) → Hideable n vs t (Symbol symbol.Backslash ∷ us) → HidingText n vs p.0 p.1) × (tree_depth p.0 ≤ d)) (read_hiding L (limits n d) t us)
  hiding n d t us =
      by_around n d t _ λ e deep fits. by_then _ (S.atom n e us) λ a at. some ((λ vs h. hide h at.0), node (depths.of_tree _ (tree.rolls-Hide t a.0)) deep (both fits at.1))

  pub hidings : (n d : ℕ) (t : Tree) (ts : List Token) → Holds (HidingsRead n d t ts) (read_hidings L (limits n d) t ts)
  hidings n d t ts =
      by_case _ _ (look.skips symbol.Backslash ts)
      (λ us e. by_then _ (hiding n d t us) λ p h.
      mapped (λ x f vs before fits. f vs (hidden (h.0 vs (subst (λ z. Hideable n vs t z) e before))) h.1) (S.hidings n d p.0 p.1))
      (some (λ vs h fits. record { bound = refl; is = h; fits = fits }))

  chained : (n d : ℕ) (ts : List Token) (k : Binding) (t : Tree) (c : Chain) (us : List Token) →
      (nat_le 2 (number k) ≡ true → SequenceText n closed ts t (choice_sign (choice c) ∷ us)) → Holds (SideRead n d ts) (read_chain L (limits n d) k t c us)
  chained n d ts k t c us front =
      by_sure (at_least bound.Closed k) _ λ h. by_around n d t _ λ e deep fits. by_then _ (S.choices n e c us) λ q ch.
      some (record {
        dotted = λ z. not_zero (number q.0) ch.bound z;
        process = λ z. g.side-choice (choice c) (ch.process ts t (front h));
        fits = node (chosen_depth (choice c) t q.1) deep (both fits ch.fit);
      })

  side : (n d : ℕ) (ts : List Token) → Holds (SideRead n d ts) (read_side L (limits n d) ts)
  side n d ts =
      by_then _ (S.sequence n d ts) λ p sq.
      by_case _ _ (look.chains p.2) (λ c e. chained n d ts p.0 p.1 c.0 c.1 (λ h. subst (λ z. SequenceText n closed ts p.1 z) e (closed_of (λ x. SequenceText n x ts p.1 p.2) p.0 h sq.process)))
      (by_case _ _ (look.skips symbol.Backslash p.2)
      (λ us e. by_sure (at_least bound.Renaming p.0) _ λ h. mapped (λ x f. is_hidden x (f ts (bare (sq.is renaming (is_le 18 (number p.0) h))) sq.fits)) (S.hidings n d p.1 p.2))
      (some (record {
        dotted = sq.dotted;
        process = λ z. g.side-sequence (sq.process z);
        fits = sq.fits;
      })))

  parallel : (n d e : ℕ) (us : List Token) (t : Tree) (ts : List Token) → d ≡ suc e → SideText n closed us t (Symbol symbol.OpenBracket ∷ ts) → tree_depth t ≤ e →
      Holds (λ p. TreeText n us p.0 p.1 × (tree_depth p.0 ≤ d)) (read_parallel L (limits n e) t ts)
  parallel n d e us t ts deep front fits =
      by_bracketed n e _ λ m en. by_then _ (S.atom m e ts) λ a at. by_then _ (look.skips symbol.Parallel a.1) λ vs ev. by_then _ (S.atom m e vs) λ b bt. by_then _ (look.skips symbol.CloseBracket b.1) λ ws f.
      by_then _ (side n e ws) λ q sr. by_sure (at_least bound.Open q.0) _ λ h.
      some (
        paralleled en front (subst (λ z. AtomText m ts a.0 z) ev at.0) (subst (λ z. AtomText m vs b.0 z) f bt.0) (sr.process (is_le 1 (number q.0) h)),
        node (depths.of_tree _ (tree.rolls-Parallel t a.0 b.0 q.1)) deep (both (both fits at.1) (both bt.1 sr.fits)),
      )

  pub a_tree : (n d : ℕ) (ts : List Token) → Holds (λ p. TreeText n ts p.0 p.1 × (tree_depth p.0 ≤ d)) (read_tree L (limits n d) ts)
  a_tree n d ts =
      by_then _ (side n d ts) λ p sr.
      by_case _ _ (look.skips symbol.OpenBracket p.2)
      (λ us e. by_sure (at_least bound.Closed p.0) _ λ h. by_around n d p.1 _ λ e' deep fits.
      parallel n d e' ts p.1 us deep (subst (λ z. SideText n closed ts p.1 z) e (closed_of (λ x. SideText n x ts p.1 p.2) p.0 h sr.process)) fits)
      (some (tree_of p sr, sr.fits))
