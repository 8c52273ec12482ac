-- Steps through a comment and through the rest of an assertion's line.
use Rattle.csp_lexer.proofs.Prelude.{◌≡◌, ℕ, zero, suc, ◌+◌, ◌-◌, ◌<◌, ◌≤◌, add-one, sub-one, true, false, List, [], ◌∷◌, length, drop, codes, Bor, refl, sym, ap, subst, ◌∙◌, arith, and_parts, cond-true, cond-false, eqb-true, false≢true, length-drop, drop-drop, drop_of_length-le, Option, Some, None, IfSome, nat_eq, not, prefix_len, starts_with, after_comments, line_len, ends_line, rest_len}

pub comment_opens : (n : ℕ) (text : List ℕ) → 2 ≤ length text → 0 < n → starts_with nat_eq text (codes "{-") ≡ true → after_comments (n + 1) (drop 2 text) ≡ after_comments n text
unfolding after_comments
comment_opens n [] long has opens = absurd (omega arith)
comment_opens n (b ∷ []) long has opens = absurd (omega arith)
comment_opens zero (b ∷ c ∷ text) long has opens = absurd (omega arith)
comment_opens (suc n) (b ∷ c ∷ text) long has opens = rw add-one (sym (cond-true _ _ _ opens))

pub comment_closes : (n : ℕ) (text : List ℕ) → 2 ≤ length text → 0 < n → starts_with nat_eq text (codes "{-") ≡ false → starts_with nat_eq text (codes "-}") ≡ true
    → after_comments (n - 1) (drop 2 text) ≡ after_comments n text
unfolding after_comments
comment_closes n [] long has apart closes = absurd (omega arith)
comment_closes n (b ∷ []) long has apart closes = absurd (omega arith)
comment_closes zero (b ∷ c ∷ text) long has apart closes = absurd (omega arith)
comment_closes (suc n) (b ∷ c ∷ text) long has apart closes = rw sub-one (sym (cond-false _ _ _ apart ∙ cond-true _ _ _ closes))

pub comment_goes_on : (n : ℕ) (text : List ℕ) → 2 ≤ length text → 0 < n → starts_with nat_eq text (codes "{-") ≡ false → starts_with nat_eq text (codes "-}") ≡ false
    → after_comments n (drop 1 text) ≡ after_comments n text
unfolding after_comments
comment_goes_on n [] long has apart none = absurd (omega arith)
comment_goes_on n (b ∷ []) long has apart none = absurd (omega arith)
comment_goes_on zero (b ∷ c ∷ text) long has apart none = absurd (omega arith)
comment_goes_on (suc n) (b ∷ c ∷ text) long has apart none = sym (cond-false _ _ _ apart ∙ cond-false _ _ _ none)

pub comment_is_open : (n : ℕ) (text : List ℕ) → length text < 2 → 0 < n → after_comments n text ≡ None
unfolding after_comments
comment_is_open zero text short has = absurd (omega arith)
comment_is_open (suc n) [] short has = refl
comment_is_open (suc n) (b ∷ []) short has = refl
comment_is_open (suc n) (b ∷ c ∷ text) short has = absurd (omega arith)

pub line_ends : (text : List ℕ) → ends_line text ≡ true → rest_len text ≡ 0
unfolding rest_len
line_ends [] ends = refl
line_ends (b ∷ text) ends = cond-true _ _ _ ends

pub line_goes_on : (text : List ℕ) → 0 < length text → ends_line text ≡ false → rest_len text ≡ 1 + rest_len (drop 1 text)
unfolding rest_len
line_goes_on [] has goes_on = absurd (omega arith)
line_goes_on (b ∷ text) has goes_on = cond-false _ _ _ goes_on

pub no_line : rest_len [] ≡ 0
unfolding rest_len
no_line = refl

pub comments_closed : (n : ℕ) (rest : List ℕ) (x : Option (List ℕ)) → n ≤ 0 → after_comments n rest ≡ x → Some rest ≡ x
unfolding after_comments
comments_closed zero rest x none is = is
comments_closed (suc n) rest x none is = absurd (omega arith)

-- the rest of an assertion's line, from its first len bytes on
pub rest_ends : (text part : List ℕ) (len : ℕ) → part ≡ drop len text → ends_line part ≡ true → rest_len text ≡ len + rest_len (drop len text) → len ≡ rest_len text
rest_ends text part len part_is ends is =
    let at_end : rest_len (drop len text) ≡ 0 = line_ends (drop len text) (subst (λ p. ends_line p ≡ true) part_is ends) in
    omega arith

pub rest_goes_on : (text part : List ℕ) (len : ℕ) → part ≡ drop len text → len < length text → ends_line part ≡ false → rest_len text ≡ len + rest_len (drop len text)
    → (rest_len text ≡ len + 1 + rest_len (drop (len + 1) text)) × (len + 1 ≤ length text)
rest_goes_on text part len part_is within goes_on is =
    let has_byte : 0 < length (drop len text) = omega (arith, length-drop len text) in
    let more : rest_len (drop len text) ≡ 1 + rest_len (drop 1 (drop len text)) = line_goes_on (drop len text) has_byte (subst (λ p. ends_line p ≡ false) part_is goes_on) in
    let same : rest_len (drop 1 (drop len text)) ≡ rest_len (drop (len + 1) text) = ap rest_len (drop-drop 1 len text) in
    (omega arith, omega arith)

pub rest_is_all : (text : List ℕ) (len : ℕ) → length text ≤ len → rest_len text ≡ len + rest_len (drop len text) → len ≡ rest_len text
rest_is_all text len at_end is =
    let nothing : rest_len (drop len text) ≡ 0 = ap rest_len (drop_of_length-le text at_end) ∙ no_line in
    omega arith

-- a line that begins with two hyphens has a byte
pub line_has_byte : (text : List ℕ) → starts_with nat_eq text (codes "--") ≡ true → 0 < line_len text
unfolding line_len
line_has_byte [] dashes = absurd (false≢true dashes)
line_has_byte (b ∷ text) dashes =
    let b_is : 45 ≡ b = eqb-true 45 b (and_parts _ _ dashes).0 in
    subst (λ x. 0 < prefix_len (λ y. not (nat_eq y 10)) (x ∷ text)) b_is (omega arith)

pub left_is_shorter : (left : Option (Bor (List ℕ))) (rest : List ℕ) (n : ℕ) → IfSome left (λ l. l.now ≡ rest) → length rest < n → IfSome left (λ l. length l.now < n)
left_is_shorter None rest n is shorter = tt
left_is_shorter (Some l) rest n is shorter = subst (λ r. length r < n) (sym is) shorter
