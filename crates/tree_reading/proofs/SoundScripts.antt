-- What is read of declarations, the grammar has; and so of all that the readers read.
use Rattle.tree_reading.proofs.Prelude.{◌≡◌, ◌⊎◌, inl, inr, ℕ, zero, suc, ◌-◌, ◌≤◌, Bool, true, false, ◌||◌, Some, List, [], ◌∷◌, codes, refl, sym, ap, subst, ◌∙◌, arith, tree_depth, Decl, Symbol, Token, Name, Word, Tree, NamesText, TypesText, ParametersText, AssertedText, ModelText, DeclarationText, DeclarationsText, TreeText, ItemsText, AtomText, MOST_BRACKETS, MOST_TREE_DEPTH, bytes_eq, deadlock_free, ending, is_model, model, name_that, Limited, limited, next_limited, nothing_limited, read_names, read_types, read_channel, read_datatype, read_nametype, read_parameters, read_definition, read_asserted, read_assertion, read_word_declaration, read_declaration, read_declarations, limits, named, none-some}
use Rattle.csp_base.specs.declared.operators.SetOp.TheVariants as set_op
use Rattle.csp_text.specs.declared.token.Token.TheVariants as token
use Rattle.csp_text.specs.declared.token.Word as words
use Rattle.csp_text.specs.declared.token.Word.TheVariants as word
use Rattle.csp_text.specs.declared.token.Symbol.TheVariants as symbol
use Rattle.csp_text.specs.declared.script.Decl.TheVariants as decl
use Rattle.csp_grammar.specs.Declarations as d
use Rattle.csp_grammar.specs.Grammar as g
use Rattle.tree_reading.proofs.Holds.{Holds, by_then, by_case, by_sure, itself, mapped, of_read}
use Rattle.tree_reading.proofs.Holds.Holds.{none, some}
use Rattle.tree_reading.proofs.Looks as look
use Rattle.tree_reading.proofs.Meaning.{Sound}
use Rattle.tree_reading.proofs.SoundExpressions as expressions
use Rattle.tree_reading.proofs.SoundProcesses as processes

either : (b c : Bool) → (b || c) ≡ true → (b ≡ true) ⊎ (c ≡ true)
either true c h = inl refl
either false c h = inr h

-- AN ASSERTION

one_less : (n : ℕ) → suc n ≡ MOST_BRACKETS → n ≡ MOST_BRACKETS - 1
one_less n e = omega arith

-- an atom that begins with a name is what may be asserted
asserted_of : {n : ℕ} {us : List Token} {t : Tree} {r : List Token} {y : List ℕ × List Token} → n ≡ MOST_BRACKETS → AtomText n us t r → named us ≡ Some y → AssertedText us t r
asserted_of e g.atom-name f = d.name
asserted_of {r = r} e (g.atom-call {n = n} {ts = ts} {items = items'} items) f = d.call (subst (λ z. ItemsText z ts items' (token.Symbol symbol.CloseParen ∷ r)) (one_less n e) items)
asserted_of {y = y} e (g.atom-set-operator {op = set_op.Union} a b) f = absurd (none-some y f)
asserted_of {y = y} e (g.atom-set-operator {op = set_op.Inter} a b) f = absurd (none-some y f)
asserted_of {y = y} e (g.atom-set-operator {op = set_op.Diff} a b) f = absurd (none-some y f)
asserted_of {y = y} e _ f = absurd (none-some y f)

bracketed : (m : List ℕ) (r : List Token) → (m ≡ codes "F") ⊎ (m ≡ codes "FD") → ModelText (token.Symbol symbol.OpenBracket ∷ Name m ∷ token.Symbol symbol.CloseBracket ∷ r) r
bracketed m r h = elim h [
  | inl e ↦ subst (λ z. ModelText (token.Symbol symbol.OpenBracket ∷ Name z ∷ token.Symbol symbol.CloseBracket ∷ r) r) (sym e) d.failures
  | inr e ↦ subst (λ z. ModelText (token.Symbol symbol.OpenBracket ∷ Name z ∷ token.Symbol symbol.CloseBracket ∷ r) r) (sym e) d.failures-divergences
]

named_model : (m : List ℕ) → is_model m ≡ true → (m ≡ codes "F") ⊎ (m ≡ codes "FD")
named_model m h = elim (either (bytes_eq m (codes "F")) (bytes_eq m (codes "FD")) h) [ inl e ↦ inl (look.texts m (codes "F") e) | inr e ↦ inr (look.texts m (codes "FD") e) ]

-- the name that passes the test
a_name : (P : List ℕ → Bool) (ts : List Token) → Holds (λ us. (x : List ℕ) × (ts ≡ Name x ∷ us) × (P x ≡ true)) (name_that P ts)
a_name P ts = by_then _ (look.names ts) λ x e. by_sure (P x.0) _ λ h. some (x.0, e, h)

a_model : (ts : List Token) → Holds (λ r. ModelText ts r) (model ts)
a_model ts =
    by_case _ _ (look.skips symbol.OpenBracket ts)
    (λ us e. by_then _ (a_name is_model us) λ vs m.
    mapped (λ r f. subst (λ z. ModelText z r) (sym (e ∙ ap (λ z. token.Symbol symbol.OpenBracket ∷ z) (m.1 ∙ ap (λ z. Name m.0 ∷ z) f))) (bracketed m.0 r (named_model m.0 m.2)))
    (look.skips symbol.CloseBracket vs))
    (some d.none)

-- what stands between the process of an assertion and its model
middle : (ts us vs ws xs : List Token) (x y : List ℕ) → ts ≡ token.Symbol symbol.Colon ∷ us → us ≡ token.Symbol symbol.OpenBracket ∷ vs → vs ≡ Name x ∷ ws →
    x ≡ codes "deadlock" → ws ≡ Name y ∷ xs → y ≡ codes "free" → ts ≡ token.Symbol symbol.Colon ∷ token.Symbol symbol.OpenBracket ∷ Name (codes "deadlock") ∷ Name (codes "free") ∷ xs
middle ts us vs ws xs x y a b c e f h =
    a ∙ ap (λ z. token.Symbol symbol.Colon ∷ z) (b ∙ ap (λ z. token.Symbol symbol.OpenBracket ∷ z)
    (c ∙ ap (λ z. Name z ∷ ws) e ∙ ap (λ z. Name (codes "deadlock") ∷ z) (f ∙ ap (λ z. Name z ∷ xs) h)))

freedom : (ts : List Token) → Holds (λ us. ts ≡ token.Symbol symbol.Colon ∷ token.Symbol symbol.OpenBracket ∷ Name (codes "deadlock") ∷ Name (codes "free") ∷ us) (deadlock_free ts)
freedom ts =
    by_then _ (look.skips symbol.Colon ts) λ us e. by_then _ (look.skips symbol.OpenBracket us) λ vs f.
    by_then _ (a_name (λ x. bytes_eq x (codes "deadlock")) vs) λ ws x.
    mapped (λ xs y. middle ts us vs ws xs x.0 y.0 e f x.1 (look.texts x.0 (codes "deadlock") x.2) y.1 (look.texts y.0 (codes "free") y.2)) (a_name (λ x. bytes_eq x (codes "free")) ws)

-- the rest of an assertion
record Ends (ts zs : List Token) : Type 0 where
  between : List Token
  split : ts ≡ token.Symbol symbol.Colon ∷ token.Symbol symbol.OpenBracket ∷ Name (codes "deadlock") ∷ Name (codes "free") ∷ between
  is : ModelText between (token.Symbol symbol.CloseBracket ∷ zs)

ends : (ts : List Token) → Holds (Ends ts) (ending ts)
unfolding ending
ends ts =
    by_then _ (freedom ts) λ us e. by_then _ (a_model us) λ vs m.
    mapped (λ zs f. record { between = us; split = e; is = subst (λ z. ModelText us z) f m }) (look.skips symbol.CloseBracket vs)

module _ (L : Limited) (S : Sound L) where
  names : (s : Symbol) (ts : List Token) → Holds (λ p. NamesText s ts p.0 p.1) (read_names L s ts)
  names s ts =
      by_then _ (look.names ts) λ x e.
      by_case _ _ (look.skips s x.1)
      (λ us f. by_then _ (S.names s us) λ p xs. some (subst (λ z. NamesText s z (x.0 ∷ p.0) p.1) (sym (e ∙ ap (λ z. Name x.0 ∷ z) f)) (d.more xs)))
      (some (subst (λ z. NamesText s z (x.0 ∷ []) x.1) (sym e) d.one))

  types : (ts : List Token) → Holds (λ p. TypesText ts p.0 p.1) (read_types L ts)
  types ts =
      by_then _ (S.atom MOST_BRACKETS MOST_TREE_DEPTH ts) λ p a.
      by_case _ _ (look.skips symbol.Dot p.1)
      (λ us e. by_then _ (S.types us) λ q more. some (d.more (subst (λ z. AtomText MOST_BRACKETS ts p.0 z) e a.0) a.1 more))
      (some (d.one a.0 a.1))

  channel : (ts : List Token) → Holds (λ p. DeclarationText (Word word.Channel ∷ ts) p.0 p.1) (read_channel L ts)
  channel ts =
      by_then _ (S.names symbol.Comma ts) λ p xs.
      by_case _ _ (look.skips symbol.Colon p.1)
      (λ us e. by_then _ (S.types us) λ q more. some (d.channel-of (subst (λ z. NamesText symbol.Comma ts p.0 z) e xs) more))
      (some (d.channel xs))

  datatype : (ts : List Token) → Holds (λ p. DeclarationText (Word word.Datatype ∷ ts) p.0 p.1) (read_datatype L ts)
  datatype ts =
      by_then _ (look.names ts) λ x e. by_then _ (look.skips symbol.Defines x.1) λ us f. by_then _ (S.names symbol.Bar us) λ p xs.
      some (subst (λ z. DeclarationText (Word word.Datatype ∷ z) (decl.Datatype x.0 p.0) p.1) (sym (e ∙ ap (λ z. Name x.0 ∷ z) f)) (d.datatype xs))

  nametype : (ts : List Token) → Holds (λ p. DeclarationText (Word word.Nametype ∷ ts) p.0 p.1) (read_nametype L ts)
  nametype ts =
      by_then _ (look.names ts) λ x e. by_then _ (look.skips symbol.Defines x.1) λ us f. by_then _ (S.atom MOST_BRACKETS MOST_TREE_DEPTH us) λ p a.
      some (subst (λ z. DeclarationText (Word word.Nametype ∷ z) (decl.Nametype x.0 p.0) p.1) (sym (e ∙ ap (λ z. Name x.0 ∷ z) f)) (d.nametype a.0 a.1))

  parameters : (ts : List Token) → Holds (λ p. ParametersText ts p.0 p.1) (read_parameters L ts)
  parameters ts =
      by_case _ _ (look.skips symbol.OpenParen ts)
      (λ us e. by_then _ (S.names symbol.Comma us) λ p xs. by_then _ (look.skips symbol.CloseParen p.1) λ vs f.
      some (subst (λ z. ParametersText z p.0 vs) (sym e) (d.some (subst (λ z. NamesText symbol.Comma us p.0 z) f xs))))
      (some d.none)

  definition : (f : List ℕ) (ts : List Token) → Holds (λ p. DeclarationText (Name f ∷ ts) p.0 p.1) (read_definition L f ts)
  definition f ts =
      by_then _ (parameters ts) λ p xs. by_then _ (look.skips symbol.Defines p.1) λ us e. by_then _ (S.tree MOST_BRACKETS MOST_TREE_DEPTH us) λ q t.
      some (d.define (subst (λ z. ParametersText ts p.0 z) e xs) t.0 t.1)

  asserted : (ts : List Token) → Holds (λ p. AssertedText ts p.0 p.1 × (tree_depth p.0 ≤ MOST_TREE_DEPTH)) (read_asserted L ts)
  asserted ts =
      by_then _ (itself (named ts)) λ x e. mapped (λ p a. (asserted_of refl a.0 e, a.1)) (S.atom MOST_BRACKETS MOST_TREE_DEPTH ts)

  assertion : (ts : List Token) → Holds (λ p. DeclarationText (Word word.Assert ∷ ts) p.0 p.1) (read_assertion L ts)
  assertion ts =
      by_then _ (asserted ts) λ p a. by_then _ (ends p.1) λ zs e.
      some (d.assertion (subst (λ z. AssertedText ts p.0 z) e.split a.0) a.1 e.is)

  word_declaration : (w : words.Word) (ts : List Token) → Holds (λ p. DeclarationText (Word w ∷ ts) p.0 p.1) (read_word_declaration L w ts)
  word_declaration word.Channel ts = channel ts
  word_declaration word.Datatype ts = datatype ts
  word_declaration word.Nametype ts = nametype ts
  word_declaration word.Assert ts = assertion ts
  word_declaration _ ts = none

  declaration : (ts : List Token) → Holds (λ p. DeclarationText ts p.0 p.1) (read_declaration L ts)
  declaration (token.Name f ∷ ts) = definition f ts
  declaration (token.Word w ∷ ts) = word_declaration w ts
  declaration (token.Roles names' ∷ ts) = some d.roles
  declaration (token.Resource names' ∷ ts) = some d.resource
  declaration _ = none

  declarations : (ts : List Token) → Holds (λ ds. DeclarationsText ts ds) (read_declarations L ts)
  declarations [] = some d.none
  declarations (t ∷ ts) = by_then _ (declaration (t ∷ ts)) λ p x. by_then _ (S.declarations p.1) λ ds xs. some (d.more x xs)

  next_sound : Sound (next_limited L)
  next_sound = record {
    tree = processes.a_tree L S;
    choices = processes.choices L S;
    hidings = processes.hidings L S;
    sequence = processes.sequence L S;
    prefix = processes.prefix L S;
    fields = expressions.fields L S;
    dots = expressions.dots L S;
    expression = expressions.expression L S;
    operators = expressions.operators L S;
    pairs = expressions.pairs L S;
    parts = expressions.parts L S;
    gens = expressions.gens L S;
    items = expressions.items L S;
    atom = expressions.atom L S;
    names = names;
    types = types;
    declarations = declarations;
  }

nothing_sound : Sound nothing_limited
nothing_sound = record {
  tree = λ n d ts. none;
  choices = λ n d c ts. none;
  hidings = λ n d t ts. none;
  sequence = λ n d ts. none;
  prefix = λ n d ts. none;
  fields = λ n d dot ts. none;
  dots = λ n d ts. none;
  expression = λ n d m ts h. none;
  operators = λ n d m k t ts. none;
  pairs = λ n d ts. none;
  parts = λ n d ts. none;
  gens = λ n d ts. none;
  items = λ n d ts. none;
  atom = λ n d ts. none;
  names = λ s ts. none;
  types = λ ts. none;
  declarations = λ ts. none;
}

pub sound : (f : ℕ) → Sound (limited f)
unfolding limited
sound zero = nothing_sound
sound (suc f) = next_sound (limited f) (sound f)

pub script_sound : (f : ℕ) (ts : List Token) (ds : List Decl) → (limited f).declarations ts ≡ Some ds → DeclarationsText ts ds
script_sound f ts ds e = of_read ds ((sound f).declarations ts) e

pub tree_sound : (n d : ℕ) (ts : List Token) (t : Tree) (r : List Token) (f : ℕ) → (limited f).tree (limits n d) ts ≡ Some (t, r) → TreeText n ts t r × (tree_depth t ≤ d)
tree_sound n d ts t r f e = of_read (t, r) ((sound f).tree n d ts) e
