-- What the reading of the declarations says of the script.
use Rattle.csp_parser.proofs.Prelude.{◌≡◌, ℕ, refl, IfErr, IfOk, IfOk-weaker, NoScript, Tells, lexed, Spells, Option, Some, None, List, Err, sym, subst, ◌∙◌, Result, Ok, Place, Decl, Script, Token, DeclarationsText, ScriptText, PlacedTokens, tokens_of, Comes, Reads, Limited, Settles, NoText, Stop, EachTextSpellsOneScript, one_script, settled_nothing, settled_script}
use Rattle.csp_base.specs.declared.stop.Stop.TheVariants as stop
use Rattle.csp_lexer.proofs.CutLemmas.{cut_tokens_are_found, one_cut}

-- what is read of the tokens, is spelled
pub is_spelled : (tokens : List Token) {ts : List Token} {ds : List Decl} → ts ≡ tokens → Settles (λ L. L.declarations ts) (Some ds) → DeclarationsText tokens ds
is_spelled tokens {ts} {ds} e r = subst (λ us. DeclarationsText us ds) e (settled_script ts (record { decls = ds }) r)

-- and nothing else is
pub is_only : (tokens : List Token) {ts : List Token} {ds : List Decl} → ts ≡ tokens → Settles (λ L. L.declarations ts) (Some ds) →
    (other : Script) → ScriptText tokens other → ◌≡◌ {A = Script} (record { decls = ds }) other
is_only tokens {ts} {ds} e r other p = one_script tokens (record { decls = ds }) other (is_spelled tokens e r) p

-- where the reading comes to nothing, nothing is spelled
pub is_none : (tokens : List Token) {ts : List Token} → ts ≡ tokens → Settles (λ L. L.declarations ts) None → (s : Script) → ScriptText tokens s → ⊥
is_none tokens {ts} e r s p = settled_nothing ts s r (subst (λ us. ScriptText us s) (sym e) p)

-- what is read from so many calls on, the reading settles on
pub settled : {A : Type 0} {n : ℕ} {F : Limited → Option A} {o : Option A} → Comes n F o → Settles F o
settled {n = n} c = record { enough = n; settles = c }

-- where a fault says that no text is in front, the reading comes to nothing
pub nothing_read : {A : Type 0} {n : ℕ} {F : Limited → Option A} (f : Stop NoText) (none : NoText) → f ≡ stop.Told none → Reads {A = A} {B = A} (Err f) (λ a. a) n F → Settles F None
nothing_read {A} {n} {F} f none e c = record { enough = n; settles = subst (λ g. Reads {A = A} {B = A} (Err g) (λ a. a) n F) e c }

pub one_spelled : EachTextSpellsOneScript
one_spelled text s t p q = one_script q.tokens s t (subst (λ ts. ScriptText ts s) (one_cut text p.tokens q.tokens p.cut q.cut) p.spelled) q.spelled

-- TEXTS

-- what the tokens that are found spell, the text spells
pub text_spells : {E : Type 0} (text : List ℕ) (found : PlacedTokens) (r : Result Script E) → lexed text ≡ Ok found → IfOk r (λ script. ScriptText (tokens_of found.placed) script) → IfOk r (Spells text)
text_spells text found r is spelled =
    IfOk-weaker r _ _ (λ script s. record { tokens = tokens_of found.placed; cut = (cut_tokens_are_found text (tokens_of found.placed)).1 (found, is, refl); spelled = s }) spelled

-- where the tokens that are found spell no script, the text spells none
spells_none : (text : List ℕ) (found : PlacedTokens) → lexed text ≡ Ok found → ((script : Script) → ScriptText (tokens_of found.placed) script → ⊥) → (script : Script) → Spells text script → ⊥
spells_none text found is none script s =
    let cut = (cut_tokens_are_found text (tokens_of found.placed)).1 (found, is, refl) in
    none script (subst (λ ts. ScriptText ts script) (one_cut text s.tokens (tokens_of found.placed) s.cut cut) s.spelled)

pub text_spells_none : {A : Type 0} {F : Type 0} (text : List ℕ) (found : PlacedTokens) (r : Result A (Stop F)) → lexed text ≡ Ok found
    → IfErr r (Tells (λ _. (script : Script) → ScriptText (tokens_of found.placed) script → ⊥)) → IfErr r (Tells (λ _. (script : Script) → Spells text script → ⊥))
text_spells_none text found (Ok a) is none = tt
text_spells_none text found (Err stop.NoMemory) is none = tt
text_spells_none text found (Err (stop.Told fault)) is none = spells_none text found is none

-- a text without tokens spells no script
uncut : (text : List ℕ) (at : Place) → lexed text ≡ Err at → (script : Script) → Spells text script → ⊥
uncut text at is script s = let found = (cut_tokens_are_found text s.tokens).0 s.cut in apart at found.0 (sym is ∙ found.1)
  where
    apart : (at : Place) (found : PlacedTokens) → ◌≡◌ {A = Result PlacedTokens Place} (Err at) (Ok found) → ⊥
    apart at found e = cc

pub uncut_spells_none : (text : List ℕ) (why : Stop NoScript) → Tells (λ fault. lexed text ≡ Err fault.at) why → Tells (λ _. (script : Script) → Spells text script → ⊥) why
uncut_spells_none text stop.NoMemory is = tt
uncut_spells_none text (stop.Told fault) is = uncut text fault.at is
