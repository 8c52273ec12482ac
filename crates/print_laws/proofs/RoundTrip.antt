-- The printed text of a script that a text spells spells it too.
use Rattle.print_laws.proofs.Prelude.{◌≡◌, ℕ, zero, suc, false, List, ◌∷◌, length, refl, subst, arith, if◌then◌else◌, Decl, Token, front, beginning, DeclarationsText, ScriptText, script_text, Every, Fits, FitsLine, IsName, FoundTokensAreWellFormed, PrintedTextSpellsNoOther, PrintedTextSpellsTheScript, script_tokens, Lines, is_assert, MadeDecls, Script, one_script}
use Rattle.csp_text.specs.declared.token.Token.TheVariants as token
use Rattle.csp_text.specs.declared.token.Word.TheVariants as word
use Rattle.csp_text.specs.declared.token.Symbol.TheVariants as symbol
use Rattle.print_laws.specs.Lines as position
use Rattle.print_laws.proofs.CutScripts.{cuts_decls}
use Rattle.csp_lexer.proofs.CutLemmas.{cut_tokens_are_found, one_cut}
use Rattle.csp_lexer.proofs.Cuts.{Cuts}
use Rattle.print_laws.proofs.FoundLines.{WellFormed, found_fits}
use Rattle.print_laws.proofs.Parentheses.{behind_other}
use Rattle.print_laws.proofs.ScriptTexts.{declarations_text}
use Rattle.print_laws.proofs.Walk.{is_special}
use Rattle.print_laws.proofs.WalkScripts.{walk_declarations}

pub well_formed : FoundTokensAreWellFormed
well_formed text tokens c = let found = (cut_tokens_are_found text tokens).0 c in subst WellFormed found.2 (found_fits text found.0 found.1)

-- what is known along the text of a script

abbrev Outside : ℕ → List Token → Type 0
Outside k ts = Every Fits ts × Lines position.outside ts

abbrev Within : ℕ → List Token → Type 0
Within k ts = Every Fits ts × Lines (position.within k) ts

no_assertion : (t : Token) → is_special t ≡ false → is_assert t ≡ false
no_assertion (token.Word w) e = e
no_assertion _ e = refl

step : (k : ℕ) (t : Token) (ts : List Token) → is_special t ≡ false → Outside k (t ∷ ts) → Fits t × Outside k ts
unfolding Lines
step k t ts e s = (s.0.0, (s.0.1, subst (λ b. Lines (if b then position.behind-word else position.outside) ts) (no_assertion t e) s.1))

opens : (k : ℕ) (ts : List Token) → Outside k (token.Symbol symbol.OpenParen ∷ ts) → Outside (suc k) ts
unfolding Lines
opens k ts s = (s.0.1, s.1)

closes : (k : ℕ) (ts : List Token) → Outside (suc k) (token.Symbol symbol.CloseParen ∷ ts) → Outside k ts
unfolding Lines
closes k ts s = (s.0.1, s.1)

line_step : (k : ℕ) (t : Token) (ts : List Token) → is_special t ≡ false → Within k (t ∷ ts) → FitsLine t × Within k ts
unfolding Lines
line_step k t ts e s = (s.1.0, (s.0.1, subst (λ p. Lines p ts) (behind_other k t e) s.1.1))

line_opens : (k : ℕ) (ts : List Token) → Within k (token.Symbol symbol.OpenParen ∷ ts) → Within (suc k) ts
unfolding Lines
line_opens k ts s = (s.0.1, s.1.1)

line_closes : (k : ℕ) (ts : List Token) → Within (suc k) (token.Symbol symbol.CloseParen ∷ ts) → Within k ts
unfolding Lines
line_closes k ts s = (s.0.1, s.1.1)

named : (x : List ℕ) (ts : List Token) → Outside zero (token.Word word.Assert ∷ token.Name x ∷ token.Symbol symbol.Colon ∷ ts) → IsName x × Outside zero ts
unfolding Lines
named x ts s = (s.0.1.0, (s.0.1.1.1, s.1))

enters : (x : List ℕ) (ts : List Token) → Outside zero (token.Word word.Assert ∷ token.Name x ∷ token.Symbol symbol.OpenParen ∷ ts) → IsName x × Within zero ts
unfolding Lines
enters x ts s = (s.0.1.0, (s.0.1.1.1, s.1))

leaves : (ts : List Token) → Within zero (token.Symbol symbol.CloseParen ∷ ts) → Outside zero ts
unfolding Lines
leaves ts s = (s.0.1, s.1.1)

made : {ts : List Token} {ds : List Decl} → DeclarationsText ts ds → WellFormed ts → MadeDecls Fits FitsLine ds
made p s = walk_declarations Fits Outside step opens closes FitsLine Within line_step line_opens line_closes named enters leaves p s

printed_cuts : (script : Script) → MadeDecls Fits FitsLine script.decls → Cuts front (script_text script) (script_tokens script)
unfolding script_text
printed_cuts script m = cuts_decls m

pub printed_spells : PrintedTextSpellsTheScript
printed_spells text tokens script e p =
    let m = made p (well_formed text tokens e) in
    let c = (printed_cuts script m).cuts (length (script_text script)) beginning (omega arith) in
    (script_tokens script, (cut_tokens_are_found (script_text script) (script_tokens script)).1 (c.found, c.is, c.same), declarations_text m)

pub no_other : PrintedTextSpellsNoOther
no_other text tokens script e p again other f q =
    let printed = printed_spells text tokens script e p in
    one_script again other script q (subst (λ ts. ScriptText ts script) (one_cut (script_text script) printed.0 again printed.1 f) printed.2)
