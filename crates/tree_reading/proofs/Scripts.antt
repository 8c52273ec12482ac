-- The declarations of a script, as they are read.
use Rattle.tree_reading.proofs.Prelude.{◌≡◌, ℕ, ◌≤◌, if◌then◌else◌, Some, None, List, ◌∷◌, codes, refl, ap, tree_depth, symbol_text, Decl, Symbol, Token, Tree, NamesText, TypesText, ParametersText, AssertedText, ModelText, DeclarationText, DeclarationsText, and_then, case, skip, first_token, MOST_TREE_DEPTH, bytes_eq-Decides, ending, is_model, model, name_that, read_parameters, read_asserted, read_declaration}
use Rattle.csp_text.specs.declared.token.Token.TheVariants as token
use Rattle.csp_text.specs.declared.token.Symbol.TheVariants as symbol
use Rattle.csp_grammar.specs.Declarations as d
use Rattle.csp_grammar.specs.Grammar as g
use Rattle.tree_reading.proofs.Complete.{tree_read, atom_read}
use Rattle.tree_reading.proofs.Follow.{Stops, more}
use Rattle.tree_reading.proofs.Gives.{Gives}
use Rattle.tree_reading.proofs.Settling.{later, now, bind, look, there, not_there}

-- the rest begins no symbol, and nothing that goes on with a tree
pub record IsApart (r : List Token) : Type 0 where
  pub stops : Stops 1 r
  pub no_symbol : (s : Symbol) → skip s r ≡ None

skipped : (s : Symbol) (ts : List Token) → skip s (token.Symbol s ∷ ts) ≡ Some ts
skipped s ts = ap (λ b. if b then Some ts else None) ((bytes_eq-Decides (symbol_text s) (symbol_text s)).1 refl)

names_read : {s : Symbol} {ts : List Token} {xs : List (List ℕ)} {r : List Token} → NamesText s ts xs r → skip s r ≡ None → Gives (λ L. L.names s ts) (xs, r)
names_read d.one e = later (not_there _ _ e now)
names_read {s = s} (d.more {ts = ts} names) e = later (there _ _ (skipped s ts) (bind _ (names_read names e) now))

types_read : {ts : List Token} {types : List Tree} {r : List Token} → TypesText ts types r → IsApart r → Gives (λ L. L.types ts) (types, r)
types_read {r = r} (d.one a h) e = later (bind _ (atom_read a MOST_TREE_DEPTH h (more 1 20 r refl e.stops)) (not_there _ _ (e.no_symbol symbol.Dot) now))
types_read (d.more a h types) e = later (bind _ (atom_read a MOST_TREE_DEPTH h refl) (bind _ (types_read types e) now))

parameters_read : {ts : List Token} {xs : List (List ℕ)} {r : List Token} → ParametersText ts xs r → skip symbol.OpenParen r ≡ None → Gives (λ L. read_parameters L ts) (xs, r)
parameters_read d.none e = not_there _ _ e now
parameters_read (d.some names) e = bind _ (names_read names refl) now

asserted_read : {ts : List Token} {t : Tree} {r : List Token} → AssertedText ts t r → tree_depth t ≤ MOST_TREE_DEPTH → Stops 20 r → Gives (λ L. read_asserted L ts) (t, r)
asserted_read d.name h s = atom_read g.atom-name MOST_TREE_DEPTH h s
asserted_read (d.call items) h s = atom_read (g.atom-call items) MOST_TREE_DEPTH h s

model_read : {ts r : List Token} → ModelText ts r → skip symbol.OpenBracket r ≡ None → model ts ≡ Some r
model_read {ts = ts} d.none e = ap (λ o. case o (λ us. and_then (name_that is_model us) λ vs. skip symbol.CloseBracket vs) (λ _. Some ts)) e
model_read d.failures e = refl
model_read d.failures-divergences e = refl

ending_read : {us : List Token} {r : List Token} → ModelText us (token.Symbol symbol.CloseBracket ∷ r) →
    ending (token.Symbol symbol.Colon ∷ token.Symbol symbol.OpenBracket ∷ token.Name (codes "deadlock") ∷ token.Name (codes "free") ∷ us) ≡ Some r
unfolding ending
ending_read m = ap (λ o. and_then o λ vs. skip symbol.CloseBracket vs) (model_read m refl)

declaration_read : {ts : List Token} {x : Decl} {r : List Token} → DeclarationText ts x r → IsApart r → Gives (λ L. read_declaration L ts) (x, r)
declaration_read (d.channel names) e = bind _ (names_read names (e.no_symbol symbol.Comma)) (not_there _ _ (e.no_symbol symbol.Colon) now)
declaration_read (d.channel-of names types) e = bind _ (names_read names refl) (bind _ (types_read types e) now)
declaration_read (d.datatype names) e = bind _ (names_read names (e.no_symbol symbol.Bar)) now
declaration_read {r = r} (d.nametype a h) e = bind _ (atom_read a MOST_TREE_DEPTH h (more 1 20 r refl e.stops)) now
declaration_read {r = r} (d.define parameters p h) e = bind _ (parameters_read parameters refl) (bind _ (tree_read p MOST_TREE_DEPTH h (more 1 6 r refl e.stops)) now)
declaration_read (d.assertion asserted h m) e = bind _ (asserted_read asserted h refl) (look _ (ending_read m) now)
declaration_read d.roles e = now
declaration_read d.resource e = now

declaration_begins : {ts : List Token} {x : Decl} {r : List Token} → DeclarationText ts x r → IsApart ts × ((t : Token) × (first_token ts ≡ Some t))
declaration_begins (d.channel names) = (record { stops = refl; no_symbol = λ s. refl }, (_, refl))
declaration_begins _ = (record { stops = refl; no_symbol = λ s. refl }, (_, refl))

declarations_begin : {ts : List Token} {ds : List Decl} → DeclarationsText ts ds → IsApart ts
declarations_begin d.none = record { stops = refl; no_symbol = λ s. refl }
declarations_begin (d.more x xs) = (declaration_begins x).0

pub declarations_read : {ts : List Token} {ds : List Decl} → DeclarationsText ts ds → Gives (λ L. L.declarations ts) ds
declarations_read d.none = later now
declarations_read (d.more x xs) = later (there _ _ (declaration_begins x).1.1 (bind _ (declaration_read x (declarations_begin xs)) (bind _ (declarations_read xs) now)))
