-- Names before a byte that is none of a name's.
use Rattle.print_laws.proofs.Prelude.{◌≡◌, ℕ, ◌+◌, ◌<◌, Bool, true, false, List, [], ◌∷◌, ◌++◌, length, take, drop, codes, refl, sym, ap, ◌∙◌, arith, and_parts, cond-true, cond-false, eqb-true, false≢true, not-true, and_left, drop-append-le, prefix_len-le-length, bytes_eq-Decides, take-append_seam, drop-append_seam, Option, Some, None, cond, nat_eq, nat_lt, is_none, if◌then◌else◌, prefix_len, starts_with, bytes_eq, Place, Word, is_space, line_front, front, begins_assertion, is_blank, one, one_at, token_at, with_len, is_foreign, is_letter, is_name, is_name_byte, is_prime, reserved_word, word_len, word_or_name, word_rest_len, word_token}
use Rattle.csp_text.specs.declared.token.Token.TheVariants as token
use Rattle.csp_text.specs.declared.token.Word.TheVariants as word

-- a byte that fails the test ends the front that passes it
pub prefix_stops : (p : ℕ → Bool) (y r : List ℕ) (b : ℕ) → p b ≡ false → prefix_len p (y ++ b ∷ r) ≡ prefix_len p y
prefix_stops p [] r b h = cond-false _ _ _ h
prefix_stops p (c ∷ y) r b h = ap (λ n. cond (p c) (1 + n) 0) (prefix_stops p y r b h)

pub word_rest_stops : (y r : List ℕ) (b : ℕ) → is_name_byte b ≡ false → is_prime b ≡ false → word_rest_len (y ++ b ∷ r) ≡ word_rest_len y
unfolding word_rest_len
word_rest_stops y r b h k =
    let n : ℕ = prefix_len is_name_byte y in
    let same : prefix_len is_name_byte (y ++ b ∷ r) ≡ n = prefix_stops is_name_byte y r b h in
    let rest : drop n (y ++ b ∷ r) ≡ drop n y ++ b ∷ r = drop-append-le n y (b ∷ r) (prefix_len-le-length is_name_byte y) in
    ap (λ m. m + prefix_len is_prime (drop m (y ++ b ∷ r))) same
    ∙ ap (λ l. n + prefix_len is_prime l) rest
    ∙ ap (λ m. n + m) (prefix_stops is_prime (drop n y) r b k)

pub word_stops : (x r : List ℕ) (b : ℕ) → is_letter b ≡ false → is_name_byte b ≡ false → is_prime b ≡ false → word_len (x ++ b ∷ r) ≡ word_len x
unfolding word_len
word_stops [] r b l h k = cond-false _ _ _ l
word_stops (c ∷ y) r b l h k = ap (λ n. if is_letter c then 1 + n else 0) (word_rest_stops y r b h k)

no_letter : (b : ℕ) → is_name_byte b ≡ false → is_letter b ≡ false
no_letter b h = grind (arith)

-- what is known of a name
pub record KnownName (x : List ℕ) : Type 0 where
  pub long : nat_lt 0 (length x) ≡ true
  pub whole : word_len x ≡ length x
  pub unreserved : reserved_word x ≡ None
  pub known : is_foreign x ≡ false

none_is : (o : Option Word) → is_none o ≡ true → o ≡ None
none_is None h = refl
none_is (Some w) h = absurd (false≢true h)

pub name_parts : (x : List ℕ) → is_name x ≡ true → KnownName x
unfolding is_name
name_parts x h =
    let p = and_parts _ _ h in
    let q = and_parts _ _ p.0 in
    let s = and_parts _ _ q.0 in
    record { long = s.0; whole = eqb-true _ _ s.1; unreserved = none_is _ q.1; known = not-true _ p.1 }

assert_reserved : reserved_word (codes "assert") ≡ Some word.Assert
unfolding reserved_word
assert_reserved = refl

not_none : (w : Word) → ◌≡◌ {A = Option Word} (Some w) None → ⊥
not_none w e = cc

no_assert_at : (x : List ℕ) (t : Bool) → bytes_eq x (codes "assert") ≡ t → reserved_word x ≡ None → t ≡ false
no_assert_at x false e h = refl
no_assert_at x true e h =
    let x_is : x ≡ codes "assert" = (bytes_eq-Decides x (codes "assert")).0 e in
    absurd (not_none word.Assert (sym assert_reserved ∙ ap reserved_word (sym x_is) ∙ h))

pub no_assert : (x : List ℕ) → reserved_word x ≡ None → bytes_eq x (codes "assert") ≡ false
no_assert x h = no_assert_at x _ refl h

pub name_token : (x : List ℕ) → KnownName x → word_token x ≡ Some (token.Name x)
name_token x is = ap (λ o. word_or_name o x) is.unreserved ∙ cond-false _ _ _ is.known

pub name_at : (l : Bool) (x r : List ℕ) (b : ℕ) → KnownName x → is_name_byte b ≡ false → is_prime b ≡ false → token_at l (x ++ b ∷ r) ≡ Some (token.Name x, length x)
unfolding token_at
name_at l x r b is h k =
    let len : word_len (x ++ b ∷ r) ≡ length x = word_stops x r b (no_letter b h) h k ∙ is.whole in
    rw len (cond-true _ _ _ is.long ∙ ap (λ y. with_len (length x) (word_token y)) (take-append_seam x (b ∷ r)) ∙ ap (with_len (length x)) (name_token x is))

letter_of : (t : Bool) (n m : ℕ) → (if t then 1 + n else 0) ≡ m → 0 < m → t ≡ true
letter_of true n m e h = refl
letter_of false n m e h = absurd (omega arith)

pub begins_with_letter : (c : ℕ) (y : List ℕ) → word_len (c ∷ y) ≡ length (c ∷ y) → is_letter c ≡ true
unfolding word_len
begins_with_letter c y e = letter_of (is_letter c) (word_rest_len y) (length (c ∷ y)) e (omega arith)

pub no_empty_name : is_name [] ≡ true → ⊥
unfolding is_name
no_empty_name h = false≢true h

letter_no_blank : (c : ℕ) → is_letter c ≡ true → is_blank c ≡ false
letter_no_blank c h = grind (arith)

pub letter_no_space : (c : ℕ) → is_letter c ≡ true → is_space c ≡ false
letter_no_space c h = grind (arith)

letter_no_dash : (c : ℕ) → is_letter c ≡ true → nat_eq 45 c ≡ false
letter_no_dash c h = grind (arith)

letter_no_brace : (c : ℕ) → is_letter c ≡ true → nat_eq 123 c ≡ false
letter_no_brace c h = grind (arith)

no_dashes : (c : ℕ) (l : List ℕ) → is_letter c ≡ true → starts_with nat_eq (c ∷ l) (codes "--") ≡ false
no_dashes c l h = and_left _ _ (letter_no_dash c h)

no_comment : (c : ℕ) (l : List ℕ) → is_letter c ≡ true → starts_with nat_eq (c ∷ l) (codes "{-") ≡ false
no_comment c l h = and_left _ _ (letter_no_brace c h)

pub name_front : (x : List ℕ) (at : Place) (b : ℕ) (r : List ℕ) → is_name x ≡ true → is_name_byte b ≡ false → is_prime b ≡ false → front at (x ++ b ∷ r) ≡ Some (one (token.Name x) at (b ∷ r))
unfolding front begins_assertion
name_front [] at b r is h k = absurd (no_empty_name is)
name_front (c ∷ y) at b r is h k =
    let known = name_parts (c ∷ y) is in
    let letter : is_letter c ≡ true = begins_with_letter c y known.whole in
    let len : word_len (c ∷ y ++ b ∷ r) ≡ length (c ∷ y) = word_stops (c ∷ y) r b (no_letter b h) h k ∙ known.whole in
    let other : bytes_eq (take (word_len (c ∷ y ++ b ∷ r)) (c ∷ y ++ b ∷ r)) (codes "assert") ≡ false =
    ap (λ n. bytes_eq (take n (c ∷ y ++ b ∷ r)) (codes "assert")) len ∙ ap (λ z. bytes_eq z (codes "assert")) (take-append_seam (c ∷ y) (b ∷ r)) ∙ no_assert (c ∷ y) known.unreserved in
    cond-false _ _ _ (letter_no_blank c letter)
    ∙ cond-false _ _ _ (no_dashes c (y ++ b ∷ r) letter)
    ∙ cond-false _ _ _ (no_comment c (y ++ b ∷ r) letter)
    ∙ cond-false _ _ _ other
    ∙ ap (one_at at (c ∷ y ++ b ∷ r)) (name_at false (c ∷ y) r b known h k)
    ∙ ap (λ l. Some (one (token.Name (c ∷ y)) at l)) (drop-append_seam (c ∷ y) (b ∷ r))

-- on the line of an assertion
pub name_line_front : (x : List ℕ) (at : Place) (b : ℕ) (r : List ℕ) → is_name x ≡ true → is_name_byte b ≡ false → is_prime b ≡ false → line_front at (x ++ b ∷ r) ≡ Some (one (token.Name x) at (b ∷ r))
unfolding line_front
name_line_front [] at b r is h k = absurd (no_empty_name is)
name_line_front (c ∷ y) at b r is h k =
    let known = name_parts (c ∷ y) is in
    cond-false _ _ _ (letter_no_space c (begins_with_letter c y known.whole))
    ∙ ap (one_at at (c ∷ y ++ b ∷ r)) (name_at true (c ∷ y) r b known h k)
    ∙ ap (λ l. Some (one (token.Name (c ∷ y)) at l)) (drop-append_seam (c ∷ y) (b ∷ r))
