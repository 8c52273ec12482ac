-- The tokens that the lexer finds are well formed, and stand in lines.
use Rattle.print_laws.proofs.Prelude.{◌≡◌, ℕ, zero, suc, Bool, true, false, List, [], ◌∷◌, ◌++◌, length, take, drop, codes, refl, sym, ◌∙◌, subst, and_parts, false≢true, map-append, Option, Some, None, Result, Ok, Err, nat_eq, if◌then◌else◌, slice_index, starts_with, option_map_or, bytes_eq, Place, Token, is_space, line_comment, line_piece, marked_piece, resource, roles, words_of, after_arguments, after_call, after_closing, asserted, assertion, cut_line, is_closed, is_deadlock_assertion, is_deadlock_free, line_front, rest_len, after_comments, line_len, added, before, cut, then_cut, begins_assertion, front, is_blank, assertion_or_token, lexed, Piece, nothing, nothing_before, one_at, one_before, PlacedTokens, tokens_of, beginning, behind_all, token_at, Every, Fits, FitsLine, Lines, is_assert}
use Rattle.csp_text.specs.declared.token.Token.TheVariants as token
use Rattle.csp_text.specs.declared.token.Word.TheVariants as word
use Rattle.csp_text.specs.declared.token.Symbol.TheVariants as symbol
use Rattle.print_laws.specs.Lines as position
use Rattle.print_laws.proofs.FoundTokens.{IsQuietToken, IsToken, Of, line_token_fits, of_if, resource_fits, roles_fit, token_fits}

-- what holds of a cut, where there is one
abbrev pub OfOk : (List Token → Type 0) → Result PlacedTokens Place → Type 0
OfOk P (Ok found) = P (tokens_of found.placed)
OfOk P (Err at) = Unit {0}

-- what holds of the tokens of each piece holds of those of a text
module _ (cutter : Place → List ℕ → Option Piece) (P R : List Token → Type 0) (none : P []) (more : (ts us : List Token) → R ts → P us → P (ts ++ us))
    (pieces : (at : Place) (text : List ℕ) → Of (λ piece. R (tokens_of piece.placed)) (cutter at text)) where
  added_holds : (placed : List (Token × Place)) (result : Result PlacedTokens Place) → R (tokens_of placed) → OfOk P result → OfOk P (added placed result)
  added_holds placed (Ok found) r p = subst P (sym (map-append (λ p. p.0) placed found.placed)) (more (tokens_of placed) (tokens_of found.placed) r p)
  added_holds placed (Err at) r p = tt

  then_holds : (o : Option Piece) (at : Place) (go : Piece → Result PlacedTokens Place) → Of (λ piece. R (tokens_of piece.placed)) o → ((piece : Piece) → OfOk P (go piece)) → OfOk P (then_cut o at go)
  then_holds None at go r p = tt
  then_holds (Some piece) at go r p = added_holds piece.placed (go piece) r (p piece)

  pub cut_holds : (n : ℕ) (at : Place) (text : List ℕ) → OfOk P (cut cutter n at text)
  unfolding cut
  cut_holds zero at [] = none
  cut_holds (suc n) at [] = none
  cut_holds zero at (b ∷ text) = tt
  cut_holds (suc n) at (b ∷ text) =
      then_holds (cutter at (b ∷ text)) at (λ piece. cut cutter n (behind_all at (before (b ∷ text) piece.rest)) piece.rest) (pieces at (b ∷ text))
      (λ piece. cut_holds n (behind_all at (before (b ∷ text) piece.rest)) piece.rest)

every_more : (P : Token → Type 0) (ts us : List Token) → Every P ts → Every P us → Every P (ts ++ us)
every_more P [] us p q = q
every_more P (t ∷ ts) us p q = (p.0, every_more P ts us p.1 q)

-- the line of an assertion

line_one_fits : (at : Place) (text : List ℕ) (o : Option (Token × ℕ)) → Of (λ found. FitsLine found.0) o → Of (λ piece. Every FitsLine (tokens_of piece.placed)) (one_at at text o)
line_one_fits at text None p = tt
line_one_fits at text (Some found) p = (p, tt)

line_piece_fits : (at : Place) (text : List ℕ) → Of (λ piece. Every FitsLine (tokens_of piece.placed)) (line_front at text)
unfolding line_front
line_piece_fits at [] = tt
line_piece_fits at (b ∷ text) =
    of_if (λ piece. Every FitsLine (tokens_of piece.placed)) (is_space b) (Some (nothing text)) (one_at at (b ∷ text) (token_at true (b ∷ text)))
    (λ h. tt) (λ h. line_one_fits at (b ∷ text) (token_at true (b ∷ text)) (line_token_fits (b ∷ text)))

line_fits : (at : Place) (text : List ℕ) → OfOk (Every FitsLine) (cut_line at text)
line_fits at text = cut_holds line_front (Every FitsLine) (Every FitsLine) tt (every_more FitsLine) line_piece_fits (length text) at text

-- lines

quiet_step : (t : Token) (ts : List Token) → is_assert t ≡ false → Lines position.outside ts → Lines position.outside (t ∷ ts)
unfolding Lines
quiet_step t ts e l = subst (λ b. Lines (if b then position.behind-word else position.outside) ts) (sym e) l

quiet_lines : (ts later : List Token) → Every (λ t. is_assert t ≡ false) ts → Lines position.outside later → Lines position.outside (ts ++ later)
quiet_lines [] later e l = l
quiet_lines (t ∷ ts) later e l = quiet_step t (ts ++ later) e.0 (quiet_lines ts later e.1 l)

nothing_left : {X : Type 0} (x : X) → ◌≡◌ {A = Option X} None (Some x) → ⊥
nothing_left x e = cc

same_left : {X : Type 0} (x y : X) → ◌≡◌ {A = Option X} (Some x) (Some y) → x ≡ y
same_left x y e = cc

nothing_closes : (l tail : List Token) → after_closing 0 l ≡ Some tail → l ≡ tail
unfolding after_closing
nothing_closes l tail h = same_left l tail h

-- up to the parenthesis that closes the arguments
arguments_lines : (k : ℕ) (l tail later : List Token) → Every FitsLine l → after_closing (suc k) l ≡ Some tail → Lines position.outside (tail ++ later) → Lines (position.within k) (l ++ later)
unfolding after_closing Lines
arguments_lines k [] tail later f h out = absurd (nothing_left tail h)
arguments_lines k (token.Symbol symbol.OpenParen ∷ l) tail later f h out = (f.0, arguments_lines (suc k) l tail later f.1 h out)
arguments_lines zero (token.Symbol symbol.CloseParen ∷ l) tail later f h out = (f.0, subst (λ x. Lines position.outside (x ++ later)) (sym (nothing_closes l tail h)) out)
arguments_lines (suc k) (token.Symbol symbol.CloseParen ∷ l) tail later f h out = (f.0, arguments_lines k l tail later f.1 h out)
arguments_lines k (t ∷ l) tail later f h out = (f.0, arguments_lines k l tail later f.1 h out)

-- the tokens behind the arguments

closed_no_assert : (ts : List Token) → is_closed ts ≡ true → Every (λ t. is_assert t ≡ false) ts
unfolding is_closed
closed_no_assert (token.Symbol symbol.CloseBracket ∷ []) h = (refl, tt)
closed_no_assert (token.Symbol symbol.OpenBracket ∷ token.Name model ∷ token.Symbol symbol.CloseBracket ∷ token.Symbol symbol.CloseBracket ∷ []) h = (refl, (refl, (refl, (refl, tt))))
closed_no_assert _ h = absurd (false≢true h)

deadlock_no_assert : (ts : List Token) → is_deadlock_free ts ≡ true → Every (λ t. is_assert t ≡ false) ts
unfolding is_deadlock_free
deadlock_no_assert (token.Symbol symbol.Colon ∷ token.Symbol symbol.OpenBracket ∷ token.Name deadlock ∷ token.Name free ∷ ts) h =
    (refl, (refl, (refl, (refl, closed_no_assert ts (and_parts _ _ h).1))))
deadlock_no_assert _ h = absurd (false≢true h)

nothing_is_free : is_deadlock_free [] ≡ true → ⊥
unfolding is_deadlock_free
nothing_is_free h = false≢true h

closed_lines : (o : Option (List Token)) (us later : List Token) → Every FitsLine us → after_closing 1 us ≡ o → option_map_or is_deadlock_free o false ≡ true → Lines position.outside later →
    Lines (position.within 0) (us ++ later)
closed_lines None us later f e h l = absurd (false≢true h)
closed_lines (Some tail) us later f e h l = arguments_lines 0 us tail later f e (quiet_lines tail later (deadlock_no_assert tail h) l)

name_lines : (ts later : List Token) → Every FitsLine ts → option_map_or is_deadlock_free (after_arguments ts) false ≡ true → Lines position.outside later → Lines position.behind-name (ts ++ later)
unfolding after_arguments Lines
name_lines [] later f h l = absurd (nothing_is_free h)
name_lines (token.Symbol symbol.OpenParen ∷ us) later f h l = closed_lines (after_closing 1 us) us later f.1 refl h l
name_lines (u ∷ us) later f h l = quiet_lines us later (deadlock_no_assert (u ∷ us) h).1 l

word_lines : (ts later : List Token) → Every FitsLine ts → is_deadlock_assertion ts ≡ true → Lines position.outside later → Lines position.behind-word (ts ++ later)
unfolding is_deadlock_assertion after_call Lines
word_lines (token.Name x ∷ ts) later f h l = name_lines ts later f.1 h l
word_lines _ later f h l = absurd (false≢true h)

-- pieces

record PieceFits (ts : List Token) : Type 0 where
  fits : Every Fits ts
  lines : (later : List Token) → Lines position.outside later → Lines position.outside (ts ++ later)

nothing_fits : PieceFits []
nothing_fits = record { fits = tt; lines = λ later l. l }

one_fits : (t : Token) → Fits t → is_assert t ≡ false → PieceFits (t ∷ [])
one_fits t f e = record { fits = (f, tt); lines = λ later l. quiet_step t later e l }

off_line : (t : Token) → FitsLine t → Fits t
off_line (token.Name x) f = f
off_line (token.Num n) f = f
off_line (token.Word w) f = tt
off_line (token.Symbol s) f = tt
off_line (token.Roles names) f = absurd f
off_line (token.Resource names) f = absurd f

all_off_line : (ts : List Token) → Every FitsLine ts → Every Fits ts
all_off_line [] f = tt
all_off_line (t ∷ ts) f = (off_line t f.0, all_off_line ts f.1)

assertion_lines : (ts later : List Token) → Every FitsLine ts → is_deadlock_assertion ts ≡ true → Lines position.outside later → Lines position.outside (token.Word word.Assert ∷ ts ++ later)
unfolding Lines
assertion_lines ts later f h l = word_lines ts later f h l

taken_fits : (at : Place) (rest : List ℕ) (line : PlacedTokens) → Every FitsLine (tokens_of line.placed) → (b : Bool) → is_deadlock_assertion (tokens_of line.placed) ≡ b →
    PieceFits (let p : Piece = if b then (record { placed = (token.Word word.Assert, at) ∷ line.placed; rest = rest }) else nothing rest in tokens_of p.placed)
taken_fits at rest line f true h = record { fits = (tt, all_off_line (tokens_of line.placed) f); lines = λ later l. assertion_lines (tokens_of line.placed) later f h l }
taken_fits at rest line f false h = nothing_fits

asserted_fits : (at : Place) (rest : List ℕ) (result : Result PlacedTokens Place) → OfOk (Every FitsLine) result → PieceFits (let p : Piece = asserted at rest result in tokens_of p.placed)
asserted_fits at rest (Ok line) f = taken_fits at rest line f (is_deadlock_assertion (tokens_of line.placed)) refl
asserted_fits at rest (Err fault) f = nothing_fits

assertion_fits : (at : Place) (text : List ℕ) → PieceFits (let p : Piece = assertion at text in tokens_of p.placed)
unfolding assertion
assertion_fits at text =
    asserted_fits at (drop (rest_len text) text) (cut_line (behind_all at (codes "assert")) (take (rest_len text) text)) (line_fits (behind_all at (codes "assert")) (take (rest_len text) text))

abbrev Fitting : Piece → Type 0
Fitting piece = PieceFits (tokens_of piece.placed)

one_before_fits : (at : Place) (rest : List ℕ) (o : Option Token) → Of IsQuietToken o → Of Fitting (one_before at rest o)
one_before_fits at rest None p = tt
one_before_fits at rest (Some t) p = one_fits t p.0 p.1

nothing_before_fits : (o : Option (List ℕ)) → Of Fitting (nothing_before o)
nothing_before_fits None = tt
nothing_before_fits (Some rest) = nothing_fits

not_asserted : (b c : Bool) → (b ≡ true → c ≡ true) → c ≡ false → b ≡ false
not_asserted true c f h = absurd (false≢true (sym h ∙ f refl))
not_asserted false c f h = refl

one_at_fits : (at : Place) (text : List ℕ) (o : Option (Token × ℕ)) → begins_assertion text ≡ false → Of (λ found. IsToken text found.0) o → Of Fitting (one_at at text o)
one_at_fits at text None h p = tt
one_at_fits at text (Some found) h p = one_fits found.0 p.fits (not_asserted (is_assert found.0) (begins_assertion text) p.asserts h)

marked_fits : (at : Place) (words : List (List ℕ)) (rest : List ℕ) → Of Fitting (marked_piece at words rest)
unfolding marked_piece
marked_fits at [] rest = nothing_fits
marked_fits at (word ∷ names) rest =
    of_if Fitting (bytes_eq word (codes "roles")) (one_before at rest (roles names))
    (if bytes_eq word (codes "resource") then one_before at rest (resource names) else Some (nothing rest))
    (λ h. one_before_fits at rest (roles names) (roles_fit names))
    (λ h. of_if Fitting (bytes_eq word (codes "resource")) (one_before at rest (resource names)) (Some (nothing rest))
    (λ k. one_before_fits at rest (resource names) (resource_fits names)) (λ k. nothing_fits))

comment_fits : (at : Place) (line rest : List ℕ) → Of Fitting (line_piece at line rest)
unfolding line_piece
comment_fits at line rest =
    of_if Fitting (starts_with nat_eq line (codes "--@")) (marked_piece at (words_of (drop 3 line)) rest) (Some (nothing rest)) (λ h. marked_fits at (words_of (drop 3 line)) rest) (λ h. nothing_fits)

abbrev third : Place → List ℕ → Option Piece
third at text = if starts_with nat_eq text (codes "{-") then nothing_before (after_comments 1 (drop 2 text)) else assertion_or_token at text

abbrev second : Place → List ℕ → Option Piece
second at text = if starts_with nat_eq text (codes "--") then line_comment at text else third at text

front_fits : (at : Place) (text : List ℕ) → Of Fitting (front at text)
unfolding front
front_fits at text =
    of_if Fitting (is_blank (slice_index text 0)) (Some (nothing (drop 1 text))) (second at text) (λ h. nothing_fits)
    (λ h. of_if Fitting (starts_with nat_eq text (codes "--")) (line_comment at text) (third at text) (λ k. comment_fits at (take (line_len text) text) (drop (line_len text) text))
    (λ k. of_if Fitting (starts_with nat_eq text (codes "{-")) (nothing_before (after_comments 1 (drop 2 text))) (assertion_or_token at text) (λ l. nothing_before_fits (after_comments 1 (drop 2 text)))
    (λ l. of_if Fitting (begins_assertion text) (Some (assertion at (drop 6 text))) (one_at at text (token_at false text)) (λ e. assertion_fits at (drop 6 text))
    (λ e. one_at_fits at text (token_at false text) e (token_fits text)))))

abbrev pub WellFormed : List Token → Type 0
WellFormed ts = Every Fits ts × Lines position.outside ts

no_lines : Lines position.outside []
unfolding Lines
no_lines = tt

more_fits : (ts us : List Token) → PieceFits ts → WellFormed us → WellFormed (ts ++ us)
more_fits ts us p q = (every_more Fits ts us p.fits q.0, p.lines us q.1)

lexed_fits : (text : List ℕ) → OfOk WellFormed (lexed text)
lexed_fits text = cut_holds front WellFormed PieceFits (tt, no_lines) more_fits front_fits (length text) beginning text

pub found_fits : (text : List ℕ) (found : PlacedTokens) → lexed text ≡ Ok found → WellFormed (tokens_of found.placed)
found_fits text found e = subst (OfOk WellFormed) e (lexed_fits text)
