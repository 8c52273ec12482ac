-- A walk through the text of a script.
use Rattle.print_laws.proofs.Prelude.{◌≡◌, ℕ, zero, suc, false, List, ◌∷◌, refl, Decl, Token, Tree, NamesText, TypesText, ParametersText, ModelText, DeclarationText, DeclarationsText, MadeNames, MadeTypes, MadeParameters, MadeDecl, MadeDecls}
use Rattle.csp_text.specs.declared.token.Symbol.{Symbol}
use Rattle.csp_text.specs.declared.token.Token.TheVariants as token
use Rattle.csp_text.specs.declared.token.Word.TheVariants as word
use Rattle.csp_text.specs.declared.token.Symbol.TheVariants as symbol
use Rattle.csp_grammar.specs.Declarations as g
use Rattle.print_laws.specs.Made as m
use Rattle.print_laws.proofs.Walk.{two, is_special, walk_tree, walk_items, walk_atom}

module _ (P : Token → Type 0) (S : ℕ → List Token → Type 0)
    (step : (k : ℕ) (t : Token) (ts : List Token) → is_special t ≡ false → S k (t ∷ ts) → P t × S k ts)
    (opens : (k : ℕ) (ts : List Token) → S k (token.Symbol symbol.OpenParen ∷ ts) → S (suc k) ts)
    (closes : (k : ℕ) (ts : List Token) → S (suc k) (token.Symbol symbol.CloseParen ∷ ts) → S k ts)
    -- the same of the arguments of an assertion, whose parenthesis is open
    (Q : Token → Type 0) (L : ℕ → List Token → Type 0)
    (line_step : (k : ℕ) (t : Token) (ts : List Token) → is_special t ≡ false → L k (t ∷ ts) → Q t × L k ts)
    (line_opens : (k : ℕ) (ts : List Token) → L k (token.Symbol symbol.OpenParen ∷ ts) → L (suc k) ts)
    (line_closes : (k : ℕ) (ts : List Token) → L (suc k) (token.Symbol symbol.CloseParen ∷ ts) → L k ts)
    (named : (x : List ℕ) (ts : List Token) → S zero (token.Word word.Assert ∷ token.Name x ∷ token.Symbol symbol.Colon ∷ ts) → P (token.Name x) × S zero ts)
    (enters : (x : List ℕ) (ts : List Token) → S zero (token.Word word.Assert ∷ token.Name x ∷ token.Symbol symbol.OpenParen ∷ ts) → P (token.Name x) × L zero ts)
    (leaves : (ts : List Token) → L zero (token.Symbol symbol.CloseParen ∷ ts) → S zero ts) where
  past : {k : ℕ} {t : Token} {ts : List Token} → is_special t ≡ false → S k (t ∷ ts) → S k ts
  past {k} {t} {ts} e s = (step k t ts e s).1

  has : {k : ℕ} {t : Token} {ts : List Token} → is_special t ≡ false → S k (t ∷ ts) → P t
  has {k} {t} {ts} e s = (step k t ts e s).0

  walk_names : {sign : Symbol} {ts : List Token} {xs : List (List ℕ)} {r : List Token} {k : ℕ} → is_special (token.Symbol sign) ≡ false →
      NamesText sign ts xs r → S k ts → MadeNames P xs × S k r
  walk_names e g.one s = (m.made-one-name (has refl s), past refl s)
  walk_names e (g.more xs) s = let xs' = walk_names e xs (past e (past refl s)) in (m.made-more-names (has refl s) xs'.0, xs'.1)

  walk_types : {ts : List Token} {types : List Tree} {r : List Token} → TypesText ts types r → S zero ts → MadeTypes P types × S zero r
  walk_types (g.one a d) s = let a' = walk_atom P S step opens closes a s in (m.made-one-type a'.0 d, a'.1)
  walk_types (g.more a d types) s = two (walk_atom P S step opens closes a s) (λ s. walk_types types (past refl s)) (λ a' types'. m.made-more-types a' d types')

  walk_parameters : {ts : List Token} {xs : List (List ℕ)} {r : List Token} → ParametersText ts xs r → S zero ts → MadeParameters P xs × S zero r
  walk_parameters g.none s = (m.made-no-parameters, s)
  walk_parameters {r = r} (g.some {ts = ts} xs) s = let xs' = walk_names refl xs (opens zero ts s) in (m.made-parameters xs'.0, closes zero r xs'.1)

  walk_model : {ts : List Token} {r : List Token} → ModelText ts r → S zero ts → S zero r
  walk_model g.none s = s
  walk_model g.failures s = past refl (past refl (past refl s))
  walk_model g.failures-divergences s = past refl (past refl (past refl s))

  walk_declaration : {ts : List Token} {d : Decl} {r : List Token} → DeclarationText ts d r → S zero ts → MadeDecl P Q d × S zero r
  walk_declaration (g.channel cs) s = let cs' = walk_names refl cs (past refl s) in (m.made-channel cs'.0, cs'.1)
  walk_declaration (g.channel-of cs types) s = two (walk_names refl cs (past refl s)) (λ s. walk_types types (past refl s)) m.made-channel-of
  walk_declaration (g.datatype xs) s =
      let d = past refl s in
      let xs' = walk_names refl xs (past refl (past refl d)) in
      (m.made-datatype (has refl d) xs'.0, xs'.1)
  walk_declaration (g.nametype a d) s =
      let x = past refl s in
      let a' = walk_atom P S step opens closes a (past refl (past refl x)) in
      (m.made-nametype (has refl x) a'.0 d, a'.1)
  walk_declaration (g.define xs t d) s =
      two (walk_parameters xs (past refl s)) (λ s. walk_tree P S step opens closes t (past refl s)) (λ xs' t'. m.made-define (has refl s) xs' t' d)
  walk_declaration (g.assertion g.name d model) s =
      let x' = named _ _ s in
      (m.made-assert-name x'.0, past refl (walk_model model (past refl (past refl (past refl x'.1)))))
  walk_declaration (g.assertion (g.call {x = x} {ts = ts} items) d model) s =
      let x' = enters x ts s in
      let items' = walk_items Q L line_step line_opens line_closes items x'.1 in (
        m.made-assert-call x'.0 items'.0 d,
        past refl (walk_model model (past refl (past refl (past refl (past refl (leaves _ items'.1)))))),
      )
  walk_declaration g.roles s = (m.made-roles (has refl s), past refl s)
  walk_declaration g.resource s = (m.made-resource (has refl s), past refl s)

  pub walk_declarations : {ts : List Token} {ds : List Decl} → DeclarationsText ts ds → S zero ts → MadeDecls P Q ds
  walk_declarations g.none s = m.made-no-decls
  walk_declarations (g.more d ds) s = let d' = walk_declaration d s in m.made-decls d'.0 (walk_declarations ds d'.1)
