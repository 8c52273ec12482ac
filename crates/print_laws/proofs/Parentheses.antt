-- Tokens that are no parentheses leave open what is open.
use Rattle.print_laws.proofs.Prelude.{◌≡◌, ℕ, suc, true, false, List, ◌∷◌, refl, sym, ap, false≢true, not, Token, Fits, FitsLine, behind, after_closing}
use Rattle.csp_text.specs.declared.token.Token.TheVariants as token
use Rattle.csp_text.specs.declared.token.Symbol.TheVariants as symbol
use Rattle.print_laws.specs.Lines as position
use Rattle.print_laws.proofs.Plain.{Plain}
use Rattle.print_laws.proofs.Held.{is_other, is_own}
use Rattle.print_laws.proofs.Walk.{is_special}

true≢false : true ≡ false → ⊥
true≢false e = false≢true (sym e)

pub behind_other : (k : ℕ) (t : Token) → is_special t ≡ false → behind k t ≡ position.within k
behind_other k (token.Symbol symbol.OpenParen) e = absurd (true≢false e)
behind_other k (token.Symbol symbol.CloseParen) e = absurd (true≢false e)
behind_other k _ e = refl

pub own_none : (t : Token) → is_own t ≡ true → is_special t ≡ false
own_none (token.Word w) e = absurd (false≢true e)
own_none (token.Symbol symbol.OpenParen) e = absurd (false≢true e)
own_none (token.Symbol symbol.CloseParen) e = absurd (false≢true e)
own_none _ e = refl

pub other_none : (t : Token) → is_other t ≡ true → is_special t ≡ false
other_none (token.Word w) e = ap not e
other_none (token.Symbol symbol.OpenParen) e = absurd (false≢true e)
other_none (token.Symbol symbol.CloseParen) e = absurd (false≢true e)
other_none _ e = refl

pub other_on_line : (t : Token) → is_other t ≡ true → FitsLine t
other_on_line (token.Name x) e = absurd (false≢true e)
other_on_line (token.Num n) e = absurd (false≢true e)
other_on_line (token.Word w) e = tt
other_on_line (token.Roles names) e = absurd (false≢true e)
other_on_line (token.Resource names) e = absurd (false≢true e)
other_on_line (token.Symbol symbol.ExternalChoice) e = absurd (false≢true e)
other_on_line (token.Symbol symbol.OpenRename) e = absurd (false≢true e)
other_on_line (token.Symbol symbol.CloseRename) e = absurd (false≢true e)
other_on_line (token.Symbol _) e = refl

pub own_plain : (t : Token) → is_own t ≡ true → Fits t → Plain t
own_plain (token.Name x) e f = f
own_plain (token.Num n) e f = f
own_plain (token.Symbol s) e f = tt
own_plain _ e f = absurd (false≢true e)

pub other_plain : (t : Token) → is_other t ≡ true → Plain t
other_plain (token.Word w) e = e
other_plain (token.Symbol s) e = tt
other_plain _ e = absurd (false≢true e)

pub passed_over : (k : ℕ) (t : Token) (ts : List Token) → is_special t ≡ false → after_closing (suc k) (t ∷ ts) ≡ after_closing (suc k) ts
unfolding after_closing
passed_over k (token.Symbol symbol.OpenParen) ts e = absurd (true≢false e)
passed_over k (token.Symbol symbol.CloseParen) ts e = absurd (true≢false e)
passed_over k _ ts e = refl

pub open_passed : (k : ℕ) (ts : List Token) → after_closing (suc k) (token.Symbol symbol.OpenParen ∷ ts) ≡ after_closing (suc (suc k)) ts
unfolding after_closing
open_passed k ts = refl

pub close_passed : (k : ℕ) (ts : List Token) → after_closing (suc (suc k)) (token.Symbol symbol.CloseParen ∷ ts) ≡ after_closing (suc k) ts
unfolding after_closing
close_passed k ts = refl

pub last_close_passed : (ts : List Token) → after_closing 1 (token.Symbol symbol.CloseParen ∷ ts) ≡ after_closing 0 ts
unfolding after_closing
last_close_passed ts = refl
