-- How tokens are written one after another.
use Rattle.script_printer.proofs.Prelude.{◌≡◌, ℕ, zero, suc, ◌+◌, ◌<◌, ◌≤◌, true, false, Result, Ok, Err, OnOk, List, [], ◌∷◌, ◌++◌, length, drop, get_or, add-one, eqb-true, sym, ap, refl, ◌∙◌, subst, append_assoc, flat_map, ◌==◌, drop_of_length-le, drop-cons, false≢true, append-nil, nil_from_length, Bar, Comma, Token, Symbol, before_place, row, spaced, token_text, conditions, separated, flat_map-append}

pub spaced_append : (a b : List Token) → spaced (a ++ b) ≡ spaced a ++ spaced b
unfolding spaced
spaced_append a b = flat_map-append (λ t. 32 ∷ token_text t) a b

-- for tokens of which each is written out
pub texts_append : (a b : List Token) → flat_map (λ t. 32 ∷ token_text t) (a ++ b) ≡ flat_map (λ t. 32 ∷ token_text t) a ++ flat_map (λ t. 32 ∷ token_text t) b
texts_append a b = flat_map-append (λ t. 32 ∷ token_text t) a b

pub spaced_none : spaced [] ≡ []
unfolding spaced
spaced_none = refl

-- nothing more is written
pub no_more : (start : List ℕ) → start ++ spaced [] ≡ start
no_more start = ap (λ l. start ++ l) spaced_none ∙ append-nil start

-- tokens behind other bytes
pub behind : {A E : Type 0} (start middle whole bytes : List ℕ) (tokens : List Token) (r : Result A E)
    → middle ≡ start ++ bytes → OnOk r (whole ≡ middle ++ spaced tokens) → OnOk r (whole ≡ start ++ (bytes ++ spaced tokens))
behind start middle whole bytes tokens (Ok x) first second = second ∙ ap (λ l. l ++ spaced tokens) first ∙ append_assoc start bytes (spaced tokens)
behind start middle whole bytes tokens (Err e) first second = second

-- rows of the same tokens
pub row_as : {A E : Type 0} (start whole : List ℕ) (tokens others : List Token) (r : Result A E)
    → tokens ≡ others → OnOk r (whole ≡ start ++ row others) → OnOk r (whole ≡ start ++ row tokens)
row_as start whole tokens others r is h = subst (λ l. OnOk r (whole ≡ start ++ row l)) (sym is) h

-- a row of one token
pub row_of_one : {A E : Type 0} (start whole : List ℕ) (t : Token) (r : Result A E) → OnOk r (whole ≡ start ++ token_text t) → OnOk r (whole ≡ start ++ row (t ∷ []))
unfolding row
row_of_one start whole t (Ok x) h = h ∙ ap (λ l. start ++ l) (sym (append-nil (token_text t)) ∙ ap (λ l. token_text t ++ l) (sym spaced_none))
row_of_one start whole t (Err e) h = h

-- a list of no length
pub empty_list : {X : Type 0} (xs : List X) → (length xs == 0) ≡ true → xs ≡ []
empty_list xs test = nil_from_length xs (eqb-true (length xs) 0 test)

-- nothing stands before the first of several
pub none_before : (start : List ℕ) (place : ℕ) (sign : Token) → place ≡ 0 → start ≡ start ++ spaced (before_place place sign)
none_before start place sign is = sym (no_more start) ∙ ap (λ n. start ++ spaced (before_place n sign)) (sym is)

-- what is left of several with a sign between two
pub left_separated : {X : Type 0} → (X → List Token) → Token → ℕ → List X → List Token
left_separated shown sign zero xs = separated shown sign xs
left_separated shown sign (suc i) xs = flat_map (λ x. sign ∷ shown x) (drop (suc i) xs)

pub split_at : {X : Type 0} (xs : List X) (i : ℕ) (x : X) → i < length xs → x ≡ get_or xs i x → drop i xs ≡ x ∷ drop (suc i) xs
split_at xs i x within is = drop-cons xs i x within ∙ ap (λ y. y ∷ drop (suc i) xs) (sym is)

next_separated : {X : Type 0} (shown : X → List Token) (sign : Token) (xs : List X) (i : ℕ) (x : X) → i < length xs → x ≡ get_or xs i x
    → left_separated shown sign i xs ≡ before_place i sign ++ (shown x ++ left_separated shown sign (suc i) xs)
unfolding left_separated
next_separated shown sign xs zero x within is = ap (separated shown sign) (split_at xs zero x within is)
next_separated shown sign xs (suc i) x within is = ap (flat_map (λ y. sign ∷ shown y)) (split_at xs (suc i) x within is)

three : (start : List ℕ) (a b c : List Token) → start ++ spaced (a ++ (b ++ c)) ≡ start ++ spaced a ++ spaced b ++ spaced c
three start a b c =
    ap (λ l. start ++ l) (spaced_append a (b ++ c) ∙ ap (λ l. spaced a ++ l) (spaced_append b c))
    ∙ sym (append_assoc start (spaced a) (spaced b ++ spaced c))
    ∙ sym (append_assoc (start ++ spaced a) (spaced b) (spaced c))

-- one more of several is written
pub separated_step : {X : Type 0} (shown : X → List Token) (sign : Token) (xs : List X) (i : ℕ) (x : X) (start middle end whole : List ℕ)
    → i < length xs → x ≡ get_or xs i x
    → middle ≡ start ++ spaced (before_place i sign) → end ≡ middle ++ spaced (shown x)
    → start ++ spaced (left_separated shown sign i xs) ≡ whole
    → end ++ spaced (left_separated shown sign (i + 1) xs) ≡ whole
separated_step shown sign xs i x start middle end whole within is first second so_far =
    rw add-one
    (ap (λ l. l ++ spaced (left_separated shown sign (suc i) xs)) (second ∙ ap (λ l. l ++ spaced (shown x)) first)
    ∙ sym (three start (before_place i sign) (shown x) (left_separated shown sign (suc i) xs))
    ∙ ap (λ l. start ++ spaced l) (sym (next_separated shown sign xs i x within is))
    ∙ so_far)

none_left : {X : Type 0} (shown : X → List Token) (sign : Token) (xs : List X) (i : ℕ) → length xs ≤ i → left_separated shown sign i xs ≡ []
unfolding left_separated
none_left shown sign xs zero at_end = ap (separated shown sign) (drop_of_length-le xs at_end)
none_left shown sign xs (suc i) at_end = ap (flat_map (λ x. sign ∷ shown x)) (drop_of_length-le xs at_end)

-- all of them are left at first, and none in the end
pub separated_begin : {X : Type 0} (shown : X → List Token) (sign : Token) (xs : List X) → left_separated shown sign 0 xs ≡ separated shown sign xs
unfolding left_separated
separated_begin shown sign xs = refl

-- what groups of tokens and loops are written by
pub ruleset written_laws = (texts_append, append_assoc, separated_begin)

pub separated_end : {X : Type 0} (shown : X → List Token) (sign : Token) (xs : List X) (i : ℕ) (end whole : List ℕ) → length xs ≤ i
    → end ++ spaced (left_separated shown sign i xs) ≡ whole → end ≡ whole
separated_end shown sign xs i end whole at_end so_far =
    sym (no_more end) ∙ ap (λ l. end ++ spaced l) (sym (none_left shown sign xs i at_end)) ∙ so_far

-- the same of several that stand one behind the other
pub each_step : {X : Type 0} (shown : X → List Token) (xs : List X) (i : ℕ) (x : X) (start end whole : List ℕ)
    → i < length xs → x ≡ get_or xs i x → end ≡ start ++ spaced (shown x)
    → start ++ spaced (flat_map shown (drop i xs)) ≡ whole → end ++ spaced (flat_map shown (drop (i + 1) xs)) ≡ whole
each_step shown xs i x start end whole within is more_is so_far =
    rw add-one
    (ap (λ l. l ++ spaced (flat_map shown (drop (suc i) xs))) more_is
    ∙ append_assoc start (spaced (shown x)) (spaced (flat_map shown (drop (suc i) xs)))
    ∙ ap (λ l. start ++ l) (sym (spaced_append (shown x) (flat_map shown (drop (suc i) xs))))
    ∙ ap (λ l. start ++ spaced (flat_map shown l)) (sym (split_at xs i x within is))
    ∙ so_far)

pub each_end : {X : Type 0} (shown : X → List Token) (xs : List X) (i : ℕ) (end whole : List ℕ) → length xs ≤ i
    → end ++ spaced (flat_map shown (drop i xs)) ≡ whole → end ≡ whole
each_end shown xs i end whole at_end so_far =
    sym (no_more end) ∙ ap (λ l. end ++ spaced (flat_map shown l)) (sym (drop_of_length-le xs at_end)) ∙ so_far

-- generators behind a bar: nothing where there are none
pub none_shown : {X : Type 0} (shown : X → List Token) (xs : List X) → (length xs == 0) ≡ true → conditions shown xs ≡ []
none_shown shown xs test = ap (conditions shown) (empty_list xs test)

pub some_shown : {X : Type 0} (shown : X → List Token) (xs : List X) → (length xs == 0) ≡ false → conditions shown xs ≡ Symbol Bar ∷ separated shown (Symbol Comma) xs
some_shown shown [] test = absurd (false≢true (sym test))
some_shown shown (x ∷ xs) test = refl
