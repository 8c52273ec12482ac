-- A text is cut into exactly the tokens that are found.
use Rattle.csp_lexer.proofs.Prelude.{◌≡◌, ℕ, zero, suc, ◌+◌, ◌-◌, ◌<◌, ◌≤◌, Bool, true, false, List, [], ◌∷◌, ◌++◌, length, take, drop, codes, refl, sym, ap, ◌∙◌, subst, map-append, length-append, length-drop, length-take-le, take-append-drop, drop-append_seam, and_parts, list_all, reserved_word, nat_lt, ◌&&◌, bytes_eq-Decides, same_Some, none-some, arith, cond-true, cond-false, false≢true, both_ways, or_parts, Option, Some, None, Result, Ok, Err, nat_eq, slice_index, starts_with, bytes_eq, Place, Token, Word, Symbol, symbol_text, word_text, Asserts, AnnotationText, Begins, Cut, CutTokensAreFound, IsWord, Lexeme, LineCut, Piece, PlacedTokens, added, after_comments, annotation_words, asserted, assertion, before, begins_assertion, beginning, behind_all, cut, cut_line, front, is_blank, is_digit, is_deadlock_assertion, is_letter, is_plain, is_space, lexed, line_comment, line_front, line_len, nothing, nothing_before, one, one_at, rest_len, then_cut, token_at, tokens_of, with_len, word_len, word_token}
use Rattle.csp_text.specs.declared.token.Token.TheVariants as token
use Rattle.csp_text.specs.declared.token.Word.TheVariants as word
use Rattle.csp_text.specs.declared.token.Symbol.TheVariants as symbol
use Rattle.csp_lexer.specs.Cut as cuts
use Rattle.csp_lexer.specs.Lexemes as lexeme
use Rattle.csp_lexer.specs.Words as form
use Rattle.csp_lexer.proofs.Cuts.{Cuts, IsCut, IsPiece, Stands, cuts_more, cuts_nothing}
use Rattle.csp_lexer.proofs.SymbolsLemmas.{passed_front}
use Rattle.csp_lexer.proofs.LexemeLemmas.{Found, NoComment, OfToken, begins_found, either, reserved_word_is, token_found, word_len_at}
use Rattle.csp_lexer.proofs.FrontsLemmas.{word_len_within}
use Rattle.csp_lexer.proofs.NoteLemmas.{Of, annotation_marked, asserts_found, comment_marked, found_to_assert, marked_is, plain_marked}

-- WHAT IS FOUND IS A CUT

-- what holds of a cut, where there is one
abbrev pub OfOk : (List Token → Type 0) → Result PlacedTokens Place → Type 0
OfOk P (Ok found) = P (tokens_of found.placed)
OfOk P (Err at) = Unit {0}

-- the piece goes before what follows it
abbrev GoesBefore : (List ℕ → List Token → Type 0) → List ℕ → Piece → Type 0
GoesBefore C text piece = (ts : List Token) → C piece.rest ts → C text (tokens_of piece.placed ++ ts)

module _ (cutter : Place → List ℕ → Option Piece) (C : List ℕ → List Token → Type 0) (none : C [] []) (pieces : (at : Place) (b : ℕ) (text : List ℕ) → Of (GoesBefore C (b ∷ text)) (cutter at (b ∷ text))) where
  added_is : (text : List ℕ) (piece : Piece) (r : Result PlacedTokens Place) → GoesBefore C text piece → OfOk (C piece.rest) r → OfOk (C text) (added piece.placed r)
  added_is text piece (Ok found) goes c = subst (C text) (sym (map-append (λ p. p.0) piece.placed found.placed)) (goes (tokens_of found.placed) c)
  added_is text piece (Err at) goes c = tt

  then_is : (text : List ℕ) (o : Option Piece) (at : Place) (go : Piece → Result PlacedTokens Place) → Of (GoesBefore C text) o → ((piece : Piece) → OfOk (C piece.rest) (go piece)) → OfOk (C text) (then_cut o at go)
  then_is text None at go goes c = tt
  then_is text (Some piece) at go goes c = added_is text piece (go piece) goes (c piece)

  cut_is : (n : ℕ) (at : Place) (text : List ℕ) → OfOk (C text) (cut cutter n at text)
  unfolding cut
  cut_is zero at [] = none
  cut_is (suc n) at [] = none
  cut_is zero at (b ∷ text) = tt
  cut_is (suc n) at (b ∷ text) =
      then_is (b ∷ text) (cutter at (b ∷ text)) at (λ piece. cut cutter n (behind_all at (before (b ∷ text) piece.rest)) piece.rest) (pieces at b text)
      (λ piece. cut_is n (behind_all at (before (b ∷ text) piece.rest)) piece.rest)

of_ok : (P : List Token → Type 0) (r : Result PlacedTokens Place) (found : PlacedTokens) → r ≡ Ok found → OfOk P r → P (tokens_of found.placed)
of_ok P r found e p = subst (OfOk P) e p

same_ok : (x y : PlacedTokens) → ◌≡◌ {A = Result PlacedTokens Place} (Ok x) (Ok y) → x ≡ y
same_ok x y h = cc

-- FIRST BYTES

letter_first : (b : ℕ) → is_letter b ≡ true → (is_blank b ≡ false) × (nat_eq 45 b ≡ false) × (nat_eq 123 b ≡ false)
letter_first b h = (grind arith, grind arith, grind arith)

digit_first : (b : ℕ) → is_digit b ≡ true → (is_blank b ≡ false) × (nat_eq 45 b ≡ false) × (nat_eq 123 b ≡ false)
digit_first b h = (grind arith, grind arith, grind arith)

-- the token begins with no blank and, where it is long, with no opening of a comment
record IsOpen (part rest : List ℕ) : Type 0 where
  blank : is_blank (slice_index (part ++ rest) 0) ≡ false
  dashes : 2 ≤ length part → starts_with nat_eq (part ++ rest) (codes "--") ≡ false
  braces : 2 ≤ length part → starts_with nat_eq (part ++ rest) (codes "{-") ≡ false
  has_byte : 0 < length part

fails_first : (a b : Bool) → a ≡ false → (a && b) ≡ false
fails_first true b h = absurd (false≢true (sym h))
fails_first false b h = refl

word_open : (part rest : List ℕ) → IsWord part → IsOpen part rest
word_open part rest (form.word {b = b} name primes letter names ends) =
    let first = letter_first b letter in
    record { blank = first.0; dashes = λ long. fails_first _ _ first.1; braces = λ long. fails_first _ _ first.2; has_byte = omega arith }

number_open : (d : ℕ) (ds rest : List ℕ) → is_digit d ≡ true → IsOpen (d ∷ ds) rest
number_open d ds rest h =
    let first = digit_first d h in
    record { blank = first.0; dashes = λ long. fails_first _ _ first.1; braces = λ long. fails_first _ _ first.2; has_byte = omega arith }

symbol_open : (s : Symbol) (rest : List ℕ) → IsOpen (symbol_text s) rest
symbol_open symbol.Minus rest = record { blank = refl; dashes = λ long. absurd (omega arith); braces = λ long. refl; has_byte = omega arith }
symbol_open symbol.OpenBrace rest = record { blank = refl; dashes = λ long. refl; braces = λ long. absurd (omega arith); has_byte = omega arith }
symbol_open _ rest = record { blank = refl; dashes = λ long. refl; braces = λ long. refl; has_byte = omega arith }

open_at : (on_line : Bool) (part rest : List ℕ) (t : Token) (found : Option Token) → Lexeme on_line part found → found ≡ Some t → IsOpen part rest
open_at on_line part rest t found (lexeme.word w) e = word_open (word_text w) rest (reserved_word_is w)
open_at on_line part rest t found (lexeme.name n) e = word_open part rest n.0
open_at on_line part rest t found (lexeme.foreign w f) e = word_open part rest w
open_at on_line part rest t found (lexeme.number {d = d} {ds = ds} all fits) e = number_open d ds rest (and_parts (is_digit d) (list_all is_digit ds) all).0
open_at on_line part rest t found (lexeme.great {d = d} {ds = ds} all large) e = number_open d ds rest (and_parts (is_digit d) (list_all is_digit ds) all).0
open_at on_line part rest t found (lexeme.symbol s counts) e = symbol_open s rest
open_at on_line part rest t found (lexeme.line-comment l) e = absurd (none-some t e)
open_at on_line part rest t found (lexeme.comment l) e = absurd (none-some t e)

opens : (on_line : Bool) (part rest : List ℕ) (t : Token) → Begins on_line part rest t → IsOpen part rest
opens on_line part rest t b = open_at on_line part rest t (Some t) b.lexeme refl

-- THE REST OF AN ASSERTION'S LINE

on_line_plain : (text : List ℕ) → NoComment true text
on_line_plain text e = absurd (false≢true (sym e))

one_goes : (on_line : Bool) (C : List ℕ → List Token → Type 0) (at : Place) (text : List ℕ) (o : Option (Token × ℕ))
    → ((part rest : List ℕ) (t : Token) → text ≡ part ++ rest → Begins on_line part rest t → GoesBefore C (part ++ rest) (one t at rest)) → OfToken (Found on_line text) o → Of (GoesBefore C text) (one_at at text o)
one_goes on_line C at text None goes f = tt
one_goes on_line C at text (Some found) goes f =
    let whole : take found.1 text ++ drop found.1 text ≡ text = take-append-drop found.1 text in
    subst (λ l. GoesBefore C l (one found.0 at (drop found.1 text))) whole (goes (take found.1 text) (drop found.1 text) found.0 (sym whole) f.begins)

line_goes : (at : Place) (b : ℕ) (text : List ℕ) → Of (GoesBefore LineCut (b ∷ text)) (line_front at (b ∷ text))
unfolding line_front
line_goes at b text =
    either (Of (GoesBefore LineCut (b ∷ text))) (is_space b) _ _ (λ h ts c. cuts.space h c)
    (λ h. one_goes true LineCut at (b ∷ text) (token_at true (b ∷ text)) (λ part rest t is begun ts c. cuts.token begun c) (token_found true (b ∷ text) (on_line_plain (b ∷ text))))

line_cut_is : (n : ℕ) (at : Place) (text : List ℕ) → OfOk (LineCut text) (cut line_front n at text)
line_cut_is n at text = cut_is line_front LineCut cuts.end line_goes n at text

not_space : (b : ℕ) → is_blank b ≡ false → is_space b ≡ false
not_space b h = (or_parts (is_space b) (nat_eq b 10) h).0

token_piece : (at : Place) (text : List ℕ) (t : Token) (n : ℕ) → 0 < length text → is_blank (slice_index text 0) ≡ false → token_at true text ≡ Some (t, n) → line_front at text ≡ Some (one t at (drop n text))
unfolding line_front
token_piece at [] t n has other found = absurd (omega arith)
token_piece at (b ∷ text) t n has other found = cond-false _ _ _ (not_space b other) ∙ ap (one_at at (b ∷ text)) found

left_shorter : (part rest : List ℕ) → 0 < length part → length rest < length (part ++ rest)
left_shorter part rest has = omega (arith, length-append part rest)

line_token_stands : (part rest : List ℕ) (t : Token) → Begins true part rest t → Stands line_front (part ++ rest) (t ∷ []) rest
line_token_stands part rest t b =
    let first = opens true part rest t b in
    record {
      stands = λ at. record {
        piece = one t at (drop (length part) (part ++ rest));
        is = token_piece at (part ++ rest) t (length part) (omega (arith, left_shorter part rest first.has_byte)) first.blank (begins_found true part rest t b);
        tokens_are = refl;
        rest_is = drop-append_seam part rest;
      };
      shorter = left_shorter part rest first.has_byte;
    }

space_stands : (b : ℕ) (text : List ℕ) → is_space b ≡ true → Stands line_front (b ∷ text) [] text
unfolding line_front
space_stands b text h = record { stands = λ at. record { piece = nothing text; is = cond-true _ _ _ h; tokens_are = refl; rest_is = refl }; shorter = omega arith }

line_cuts : {text : List ℕ} {ts : List Token} → LineCut text ts → Cuts line_front text ts
line_cuts cuts.end = cuts_nothing line_front
line_cuts (cuts.space {b = b} {text = text} h c) = cuts_more (space_stands b text h) (line_cuts c)
line_cuts (cuts.token {part = part} {rest = rest} {t = t} b c) = cuts_more (line_token_stands part rest t b) (line_cuts c)

line_found : (at : Place) (line : List ℕ) (ts : List Token) → LineCut line ts → IsCut (cut_line at line) ts
line_found at line ts c = (line_cuts c).cuts (length line) at (omega arith)

-- WHERE A TEXT BEGINS WITH AN ASSERTION

record IsAsserted (text : List ℕ) : Type 0 where
  len : word_len text ≡ 6
  written : take 6 text ≡ codes "assert"
  whole : text ≡ codes "assert" ++ drop 6 text

six : (n : ℕ) (text : List ℕ) → n ≤ length text → take n text ≡ codes "assert" → n ≡ 6
six n text within is = let long : length (take n text) ≡ 6 = ap length is in omega (arith, length-take-le n text within)

assert_written : (text : List ℕ) → begins_assertion text ≡ true → take (word_len text) text ≡ codes "assert"
unfolding begins_assertion
assert_written text h = (bytes_eq-Decides (take (word_len text) text) (codes "assert")).0 h

is_asserted : (text : List ℕ) → begins_assertion text ≡ true → IsAsserted text
is_asserted text h =
    let is = assert_written text h in
    let n = six (word_len text) text (word_len_within text) is in
    let first : take 6 text ≡ codes "assert" = ap (λ k. take k text) (sym n) ∙ is in
    record { len = n; written = first; whole = sym (take-append-drop 6 text) ∙ ap (λ l. l ++ drop 6 text) first }

assert_token : word_token (codes "assert") ≡ Some (token.Word word.Assert)
unfolding reserved_word
assert_token = refl

assert_at : (text : List ℕ) → IsAsserted text → token_at false text ≡ Some (token.Word word.Assert, 6)
unfolding token_at
assert_at text is =
    cond-true _ _ _ (ap (nat_lt 0) is.len) ∙ ap (λ n. with_len n (word_token (take n text))) is.len ∙ ap (λ l. with_len 6 (word_token l)) is.written ∙ ap (with_len 6) assert_token

assert_begins : (text : List ℕ) → IsAsserted text → OfToken (Found false text) (token_at false text) → Begins false (codes "assert") (drop 6 text) (token.Word word.Assert)
assert_begins text is found =
    let here : Found false text (token.Word word.Assert) 6 = subst (OfToken (Found false text)) (assert_at text is) found in
    subst (λ l. Begins false l (drop 6 text) (token.Word word.Assert)) is.written here.begins

-- the word `assert` is written so
assert_part : (part : List ℕ) (found : Option Token) → Lexeme false part found → found ≡ Some (token.Word word.Assert) → part ≡ codes "assert"
assert_part part found (lexeme.word w) e = let is : w ≡ word.Assert = cc in ap word_text is
assert_part part found (lexeme.name n) e = absurd cc
assert_part part found (lexeme.foreign w f) e = absurd cc
assert_part part found (lexeme.number all fits) e = absurd cc
assert_part part found (lexeme.great all large) e = absurd cc
assert_part part found (lexeme.symbol s counts) e = absurd cc
assert_part part found (lexeme.line-comment l) e = absurd cc
assert_part part found (lexeme.comment l) e = absurd cc

assert_front : (rest : List ℕ) → Begins false (codes "assert") rest (token.Word word.Assert) → begins_assertion (codes "assert" ++ rest) ≡ true
unfolding begins_assertion
assert_front rest b = ap (λ n. bytes_eq (take n (codes "assert" ++ rest)) (codes "assert")) (word_len_at false (codes "assert") rest b.longest (reserved_word_is word.Assert))

asserted_front : (part rest : List ℕ) (t : Token) → t ≡ token.Word word.Assert → Begins false part rest t → begins_assertion (part ++ rest) ≡ true
asserted_front part rest t is b =
    let written : part ≡ codes "assert" = assert_part part (Some t) b.lexeme (ap Some is) in
    subst (λ l. begins_assertion (l ++ rest) ≡ true) (sym written) (assert_front rest (subst (λ l. Begins false l rest (token.Word word.Assert)) written (subst (Begins false part rest) is b)))

-- a token that is not the word `assert` begins no assertion
no_assertion : (part rest : List ℕ) (t : Token) → Begins false part rest t → (t ≡ token.Word word.Assert → ⊥) → (a : Bool) → begins_assertion (part ++ rest) ≡ a → a ≡ false
no_assertion part rest t b other false e = refl
no_assertion part rest t b other true e =
    let is : Some (t, length part) ≡ Some (token.Word word.Assert, 6) = sym (begins_found false part rest t b) ∙ assert_at (part ++ rest) (is_asserted (part ++ rest) e) in
    absurd (other (ap (λ p. p.0) (same_Some (t, length part) (token.Word word.Assert, 6) is)))

-- PIECES

-- the rest of the line is not tokens that assert
line_none : (at : Place) (line : List ℕ) (r : Result PlacedTokens Place) (fault : Place) → cut_line at line ≡ r → r ≡ Err fault → (ts : List Token) → LineCut line ts → Asserts ts → ⊥
line_none at line r fault e f ts c a = let found = line_found at line ts c in absurd (err_ok fault found.found (sym (e ∙ f) ∙ found.is))
  where
    err_ok : (fault : Place) (found : PlacedTokens) → ◌≡◌ {A = Result PlacedTokens Place} (Err fault) (Ok found) → ⊥
    err_ok fault found h = cc

line_other : (at : Place) (line : List ℕ) (made : PlacedTokens) → cut_line at line ≡ Ok made → is_deadlock_assertion (tokens_of made.placed) ≡ false → (ts : List Token) → LineCut line ts → Asserts ts → ⊥
line_other at line made e fails ts c a =
    let found = line_found at line ts c in
    let same : made ≡ found.found = same_ok made found.found (sym e ∙ found.is) in
    let tokens : tokens_of made.placed ≡ ts = ap (λ x. tokens_of x.placed) same ∙ found.same in
    both_ways (is_deadlock_assertion ts) (ap is_deadlock_assertion (sym tokens) ∙ fails) (found_to_assert ts a)

abbrev Asserting : List ℕ → Type 0
Asserting text = Begins false (codes "assert") text (token.Word word.Assert)

asserted_goes : (at from : Place) (text : List ℕ) (begun : Asserting text) (r : Result PlacedTokens Place) → cut_line from (take (rest_len text) text) ≡ r → OfOk (LineCut (take (rest_len text) text)) r
    → GoesBefore Cut (codes "assert" ++ text) (asserted at (drop (rest_len text) text) r)
asserted_goes at from text begun (Ok line) e c =
    either (GoesBefore Cut (codes "assert" ++ text)) (is_deadlock_assertion (tokens_of line.placed)) _ _ (λ h ts d. cuts.assertion begun c (asserts_found (tokens_of line.placed) h) d)
    (λ h ts d. cuts.skipped begun (line_other from (take (rest_len text) text) line e h) d)
asserted_goes at from text begun (Err fault) e c = λ ts d. cuts.skipped begun (line_none from (take (rest_len text) text) (Err fault) fault e refl) d

assertion_goes : (at : Place) (text : List ℕ) → Asserting text → GoesBefore Cut (codes "assert" ++ text) (assertion at text)
unfolding assertion
assertion_goes at text begun =
    let from : Place = behind_all at (codes "assert") in
    asserted_goes at from text begun (cut_line from (take (rest_len text) text)) refl (line_cut_is (length (take (rest_len text) text)) from (take (rest_len text) text))

nothing_goes : (text : List ℕ) (o : Option (List ℕ)) → after_comments 1 text ≡ o → Of (GoesBefore Cut (123 ∷ 45 ∷ text)) (nothing_before o)
nothing_goes text None e = tt
nothing_goes text (Some rest) e = λ ts c. cuts.comment e c

comment_goes : (at : Place) (text : List ℕ) → Of (GoesBefore Cut (45 ∷ 45 ∷ text)) (line_comment at (45 ∷ 45 ∷ text))
comment_goes at text =
    subst (Of (GoesBefore Cut (45 ∷ 45 ∷ text))) (sym (comment_marked at text))
    (marked_is (GoesBefore Cut (45 ∷ 45 ∷ text)) at (annotation_words (take (line_len text) text)) (drop (line_len text) text) (λ h ts c. cuts.line-comment h c) (λ t n ts c. cuts.annotation n c))

front_goes : (at : Place) (b : ℕ) (text : List ℕ) → Of (GoesBefore Cut (b ∷ text)) (front at (b ∷ text))
unfolding front
front_goes at b text =
    let all : List ℕ = b ∷ text in
    either (Of (GoesBefore Cut all)) (is_blank b) _ _ (λ h ts c. cuts.blank h c)
    (λ h. either (Of (GoesBefore Cut all)) (starts_with nat_eq all (codes "--")) _ _
    (λ k. let begun = passed_front all (codes "--") k in subst (λ l. Of (GoesBefore Cut l) (line_comment at l)) (sym begun.1) (comment_goes at begun.0))
    (λ k. either (Of (GoesBefore Cut all)) (starts_with nat_eq all (codes "{-")) _ _
    (λ l. let begun = passed_front all (codes "{-") l in subst (λ y. Of (GoesBefore Cut y) (nothing_before (after_comments 1 (drop 2 y)))) (sym begun.1) (nothing_goes begun.0 (after_comments 1 begun.0) refl))
    (λ l. let found = token_found false all (λ e. (k, l)) in
    either (Of (GoesBefore Cut all)) (begins_assertion all) _ _
    (λ a. let is = is_asserted all a in subst (λ y. GoesBefore Cut y (assertion at (drop 6 all))) (sym is.whole) (assertion_goes at (drop 6 all) (assert_begins all is found)))
    (λ a. one_goes false Cut at all (token_at false all)
    (λ part rest t whole begun ts c. cuts.token begun (λ is. both_ways (begins_assertion all) a (ap begins_assertion whole ∙ asserted_front part rest t is begun)) c) found))))

lexed_is : (text : List ℕ) (found : PlacedTokens) → lexed text ≡ Ok found → Cut text (tokens_of found.placed)
lexed_is text found e = of_ok (Cut text) (lexed text) found e (cut_is front Cut cuts.end front_goes (length text) beginning text)

-- A CUT IS FOUND

blank_stands : (b : ℕ) (text : List ℕ) → is_blank b ≡ true → Stands front (b ∷ text) [] text
unfolding front
blank_stands b text h = record { stands = λ at. record { piece = nothing text; is = cond-true _ _ _ h; tokens_are = refl; rest_is = refl }; shorter = omega arith }

-- what is left of a comment is no longer
leaves : (n : ℕ) (text : List ℕ) (m : ℕ) → length text ≤ m → Of (λ rest. length rest ≤ m) (after_comments n text)
unfolding after_comments
leaves zero text m small = small
leaves (suc n) [] m small = tt
leaves (suc n) (b ∷ []) m small = tt
leaves (suc n) (b ∷ c ∷ text) m small =
    either (Of (λ rest. length rest ≤ m)) (starts_with nat_eq (b ∷ c ∷ text) (codes "{-")) _ _ (λ h. leaves (suc (suc n)) text m (omega arith))
    (λ h. either (Of (λ rest. length rest ≤ m)) (starts_with nat_eq (b ∷ c ∷ text) (codes "-}")) _ _ (λ k. leaves n text m (omega arith)) (λ k. leaves (suc n) (c ∷ text) m (omega arith)))

pub comment_leaves : (text rest : List ℕ) → after_comments 1 text ≡ Some rest → length rest ≤ length text
comment_leaves text rest e = subst (Of (λ l. length l ≤ length text)) e (leaves 1 text (length text) (omega arith))

comment_stands : (text rest : List ℕ) → after_comments 1 text ≡ Some rest → Stands front (123 ∷ 45 ∷ text) [] rest
unfolding front
comment_stands text rest e =
    let fewer = comment_leaves text rest e in
    record { stands = λ at. record { piece = nothing rest; is = ap nothing_before e; tokens_are = refl; rest_is = refl }; shorter = omega arith }

dashes_front : (at : Place) (text : List ℕ) → front at (45 ∷ 45 ∷ text) ≡ line_comment at (45 ∷ 45 ∷ text)
unfolding front
dashes_front at text = refl

line_shorter : (text : List ℕ) → length (drop (line_len text) text) < length (45 ∷ 45 ∷ text)
line_shorter text = omega (arith, length-drop (line_len text) text)

plain_stands : (text : List ℕ) → is_plain (annotation_words (take (line_len text) text)) ≡ true → Stands front (45 ∷ 45 ∷ text) [] (drop (line_len text) text)
plain_stands text h = record {
  stands = λ at. record {
    piece = nothing (drop (line_len text) text);
    is = dashes_front at text ∙ comment_marked at text ∙ plain_marked at (annotation_words (take (line_len text) text)) (drop (line_len text) text) h;
    tokens_are = refl;
    rest_is = refl;
  };
  shorter = line_shorter text;
}

annotation_stands : (text : List ℕ) (t : Token) → AnnotationText (annotation_words (take (line_len text) text)) t → Stands front (45 ∷ 45 ∷ text) (t ∷ []) (drop (line_len text) text)
annotation_stands text t n = record {
  stands = λ at. record {
    piece = one t at (drop (line_len text) text);
    is = dashes_front at text ∙ comment_marked at text ∙ annotation_marked at (annotation_words (take (line_len text) text)) t (drop (line_len text) text) n;
    tokens_are = refl;
    rest_is = refl;
  };
  shorter = line_shorter text;
}

assert_piece : (at : Place) (text : List ℕ) → Asserting text → front at (codes "assert" ++ text) ≡ Some (assertion at text)
unfolding front
assert_piece at text begun = cond-true _ _ _ (assert_front text begun)

assert_shorter : (text : List ℕ) → length (drop (rest_len text) text) < length (codes "assert" ++ text)
assert_shorter text = omega (arith, length-drop (rest_len text) text)

kept : (at : Place) (rest : List ℕ) (r : Result PlacedTokens Place) (line : List Token) → IsCut r line → Asserts line → IsPiece (Some (asserted at rest r)) (token.Word word.Assert ∷ line) rest
kept at rest r line c a =
    let found = c.found in
    let taken : is_deadlock_assertion (tokens_of found.placed) ≡ true = ap is_deadlock_assertion c.same ∙ found_to_assert line a in
    record {
      piece = record { placed = (token.Word word.Assert, at) ∷ found.placed; rest = rest };
      is = ap (λ x. Some (asserted at rest x)) c.is ∙ ap Some (cond-true (is_deadlock_assertion (tokens_of found.placed)) _ _ taken);
      tokens_are = ap (λ l. token.Word word.Assert ∷ l) c.same;
      rest_is = refl;
    }

piece_of : (o : Option Piece) (p : Option Piece) (ts : List Token) (rest : List ℕ) → o ≡ p → IsPiece p ts rest → IsPiece o ts rest
piece_of o p ts rest e is = record { piece = is.piece; is = e ∙ is.is; tokens_are = is.tokens_are; rest_is = is.rest_is }

assertion_kept : (at : Place) (text : List ℕ) (line : List Token) → LineCut (take (rest_len text) text) line → Asserts line → IsPiece (Some (assertion at text)) (token.Word word.Assert ∷ line) (drop (rest_len text) text)
unfolding assertion
assertion_kept at text line c a =
    let from : Place = behind_all at (codes "assert") in
    kept at (drop (rest_len text) text) (cut_line from (take (rest_len text) text)) line (line_found from (take (rest_len text) text) line c) a

assertion_stands : (text : List ℕ) (line : List Token) → Asserting text → LineCut (take (rest_len text) text) line → Asserts line
    → Stands front (codes "assert" ++ text) (token.Word word.Assert ∷ line) (drop (rest_len text) text)
assertion_stands text line begun c a = record {
  stands = λ at. piece_of (front at (codes "assert" ++ text)) (Some (assertion at text)) (token.Word word.Assert ∷ line) (drop (rest_len text) text) (assert_piece at text begun) (assertion_kept at text line c a);
  shorter = assert_shorter text;
}

dropped : (at : Place) (line rest : List ℕ) (r : Result PlacedTokens Place) → OfOk (LineCut line) r → ((ts : List Token) → LineCut line ts → Asserts ts → ⊥) → asserted at rest r ≡ nothing rest
dropped at line rest (Err fault) c none = refl
dropped at line rest (Ok found) c none = by (is_deadlock_assertion (tokens_of found.placed)) refl
  where
    by : (t : Bool) → is_deadlock_assertion (tokens_of found.placed) ≡ t → asserted at rest (Ok found) ≡ nothing rest
    by true e = absurd (none (tokens_of found.placed) c (asserts_found (tokens_of found.placed) e))
    by false e = cond-false (is_deadlock_assertion (tokens_of found.placed)) _ _ e

assertion_dropped : (at : Place) (text : List ℕ) → ((ts : List Token) → LineCut (take (rest_len text) text) ts → Asserts ts → ⊥) → assertion at text ≡ nothing (drop (rest_len text) text)
unfolding assertion
assertion_dropped at text none =
    let from : Place = behind_all at (codes "assert") in
    let line : List ℕ = take (rest_len text) text in
    dropped at line (drop (rest_len text) text) (cut_line from line) (line_cut_is (length line) from line) none

skipped_stands : (text : List ℕ) → Asserting text → ((ts : List Token) → LineCut (take (rest_len text) text) ts → Asserts ts → ⊥) → Stands front (codes "assert" ++ text) [] (drop (rest_len text) text)
skipped_stands text begun none = record {
  stands = λ at. record { piece = nothing (drop (rest_len text) text); is = assert_piece at text begun ∙ ap Some (assertion_dropped at text none); tokens_are = refl; rest_is = refl };
  shorter = assert_shorter text;
}

-- a token's text is that of no comment
no_comment : (mark part rest : List ℕ) → (2 ≤ length part → starts_with nat_eq (part ++ rest) mark ≡ false)
    → ((after : List ℕ) → part ++ rest ≡ mark ++ after → 2 ≤ length part) → (t : Bool) → starts_with nat_eq (part ++ rest) mark ≡ t → t ≡ false
no_comment mark part rest apart long false e = refl
no_comment mark part rest apart long true e = let begun = passed_front (part ++ rest) mark e in absurd (both_ways _ (apart (long begun.0 begun.1)) e)

token_front : (at : Place) (text : List ℕ) (t : Token) (n : ℕ) → is_blank (slice_index text 0) ≡ false → starts_with nat_eq text (codes "--") ≡ false → starts_with nat_eq text (codes "{-") ≡ false
    → begins_assertion text ≡ false → token_at false text ≡ Some (t, n) → front at text ≡ Some (one t at (drop n text))
unfolding front
token_front at text t n blank dashes braces other found =
    cond-false _ _ _ blank ∙ cond-false _ _ _ dashes ∙ cond-false _ _ _ braces ∙ cond-false _ _ _ other ∙ ap (one_at at text) found

token_stands : (part rest : List ℕ) (t : Token) → Begins false part rest t → (t ≡ token.Word word.Assert → ⊥) → Stands front (part ++ rest) (t ∷ []) rest
token_stands part rest t b other =
    let first = opens false part rest t b in
    let dashes = no_comment (codes "--") part rest first.dashes (λ after e. b.longest (codes "--") after None e (lexeme.line-comment refl)) _ refl in
    let braces = no_comment (codes "{-") part rest first.braces (λ after e. b.longest (codes "{-") after None e (lexeme.comment refl)) _ refl in
    let common = no_assertion part rest t b other _ refl in
    record {
      stands = λ at. record {
        piece = one t at (drop (length part) (part ++ rest));
        is = token_front at (part ++ rest) t (length part) first.blank dashes braces common (begins_found false part rest t b);
        tokens_are = refl;
        rest_is = drop-append_seam part rest;
      };
      shorter = left_shorter part rest first.has_byte;
    }

text_cuts : {text : List ℕ} {ts : List Token} → Cut text ts → Cuts front text ts
text_cuts cuts.end = cuts_nothing front
text_cuts (cuts.blank {b = b} {text = text} h c) = cuts_more (blank_stands b text h) (text_cuts c)
text_cuts (cuts.comment {text = text} {rest = rest} e c) = cuts_more (comment_stands text rest e) (text_cuts c)
text_cuts (cuts.line-comment {text = text} h c) = cuts_more (plain_stands text h) (text_cuts c)
text_cuts (cuts.annotation {text = text} {t = t} n c) = cuts_more (annotation_stands text t n) (text_cuts c)
text_cuts (cuts.assertion {text = text} {line = line} begun l a c) = cuts_more (assertion_stands text line begun l a) (text_cuts c)
text_cuts (cuts.skipped {text = text} begun none c) = cuts_more (skipped_stands text begun none) (text_cuts c)
text_cuts (cuts.token {part = part} {rest = rest} {t = t} b other c) = cuts_more (token_stands part rest t b other) (text_cuts c)

cut_found : (text : List ℕ) (ts : List Token) → Cut text ts → (found : PlacedTokens) × (lexed text ≡ Ok found) × (tokens_of found.placed ≡ ts)
cut_found text ts c = let is = (text_cuts c).cuts (length text) beginning (omega arith) in (is.found, is.is, is.same)

pub cut_tokens_are_found : CutTokensAreFound
cut_tokens_are_found text ts = (cut_found text ts, λ found. subst (Cut text) found.2 (lexed_is text found.0 found.1))

-- a text is cut in one way at most
pub one_cut : (text : List ℕ) (ts us : List Token) → Cut text ts → Cut text us → ts ≡ us
one_cut text ts us c d =
    let a = cut_found text ts c in
    let b = cut_found text us d in
    sym a.2 ∙ ap (λ x. tokens_of x.placed) (same_ok a.0 b.0 (sym a.1 ∙ b.1)) ∙ b.2
