-- Annotations and the tokens of assertions: what is found is what the cut of a text says.
use Rattle.csp_lexer.proofs.Prelude.{◌≡◌, ◌⊎◌, inl, inr, ℕ, suc, Bool, true, false, ◌&&◌, List, [], ◌∷◌, take, drop, codes, refl, sym, ap, ◌∙◌, subst, arith, and_parts, cond-true, cond-false, if◌then◌else◌, false≢true, not-true, or_cases, or_parts, bytes_eq-Decides, list_all, Option, Some, None, nat_eq, starts_with, option_map_or, bytes_eq, Place, Token, ResourceNames, RolesNames, ModelText, AnnotationText, Asserts, FreeText, IsName, Piece, nothing, one, one_before, after_arguments, after_call, after_closing, annotation_words, is_closed, is_deadlock_assertion, is_deadlock_free, is_name, is_plain, line_comment, line_len, line_piece, marked_piece, resource, roles, words_of}
use Rattle.csp_text.specs.declared.token.Token.TheVariants as token
use Rattle.csp_text.specs.declared.token.Symbol.TheVariants as symbol
use Rattle.csp_grammar.specs.Declarations as grammar
use Rattle.csp_lexer.specs.Annotations as note
use Rattle.csp_lexer.specs.Assertions as claim
use Rattle.csp_lexer.proofs.LexemeLemmas.{either, is_name_of, name_is}

-- what holds of a value, where there is one
abbrev pub Of : {A : Type 0} → (A → Type 0) → Option A → Type 0
Of P None = Unit {0}
Of P (Some x) = P x

is_written : (x y : List ℕ) → bytes_eq x y ≡ true → x ≡ y
is_written x y h = (bytes_eq-Decides x y).0 h

-- ANNOTATIONS

first_name : (x : List ℕ) (xs : List (List ℕ)) → list_all is_name (x ∷ xs) ≡ true → IsName x × (list_all is_name xs ≡ true)
first_name x xs h = let both = and_parts (is_name x) (list_all is_name xs) h in (name_is x both.0, both.1)

pub roles_text : (names : List (List ℕ)) → Of (AnnotationText (codes "roles" ∷ names)) (roles names)
unfolding roles
roles_text (process ∷ creq ∷ cack ∷ sreq ∷ sack ∷ []) =
    either (Of (AnnotationText (codes "roles" ∷ process ∷ creq ∷ cack ∷ sreq ∷ sack ∷ []))) (list_all is_name (process ∷ creq ∷ cack ∷ sreq ∷ sack ∷ [])) _ _
    (λ h.
    let a = first_name process (creq ∷ cack ∷ sreq ∷ sack ∷ []) h in
    let b = first_name creq (cack ∷ sreq ∷ sack ∷ []) a.1 in
    let c = first_name cack (sreq ∷ sack ∷ []) b.1 in
    let d = first_name sreq (sack ∷ []) c.1 in
    let e = first_name sack [] d.1 in
    note.roles (record { process = process; creq = creq; cack = cack; sreq = sreq; sack = sack }) a.0 b.0 c.0 d.0 e.0)
    (λ h. tt)
roles_text _ = tt

pub resource_text : (names : List (List ℕ)) → Of (AnnotationText (codes "resource" ∷ names)) (resource names)
unfolding resource
resource_text (process ∷ acquire ∷ release ∷ []) =
    either (Of (AnnotationText (codes "resource" ∷ process ∷ acquire ∷ release ∷ []))) (list_all is_name (process ∷ acquire ∷ release ∷ [])) _ _
    (λ h.
    let a = first_name process (acquire ∷ release ∷ []) h in
    let b = first_name acquire (release ∷ []) a.1 in
    let c = first_name release [] b.1 in
    note.resource (record { process = process; acquire = acquire; release = release }) a.0 b.0 c.0)
    (λ h. tt)
resource_text _ = tt

one_more : (x : List ℕ) (xs : List (List ℕ)) → IsName x → list_all is_name xs ≡ true → list_all is_name (x ∷ xs) ≡ true
one_more x xs is all = rw (is_name_of x is) all

roles_are : (n : RolesNames) → IsName n.process → IsName n.creq → IsName n.cack → IsName n.sreq → IsName n.sack
    → roles (n.process ∷ n.creq ∷ n.cack ∷ n.sreq ∷ n.sack ∷ []) ≡ Some (token.Roles n)
unfolding roles
roles_are n a b c d e =
    cond-true _ _ _
    (one_more n.process (n.creq ∷ n.cack ∷ n.sreq ∷ n.sack ∷ []) a
    (one_more n.creq (n.cack ∷ n.sreq ∷ n.sack ∷ []) b (one_more n.cack (n.sreq ∷ n.sack ∷ []) c (one_more n.sreq (n.sack ∷ []) d (one_more n.sack [] e refl)))))

resource_is : (n : ResourceNames) → IsName n.process → IsName n.acquire → IsName n.release → resource (n.process ∷ n.acquire ∷ n.release ∷ []) ≡ Some (token.Resource n)
unfolding resource
resource_is n a b c = cond-true _ _ _ (one_more n.process (n.acquire ∷ n.release ∷ []) a (one_more n.acquire (n.release ∷ []) b (one_more n.release [] c refl)))

-- an annotation is the piece of its token
pub annotation_marked : (at : Place) (words : List (List ℕ)) (t : Token) (rest : List ℕ) → AnnotationText words t → marked_piece at words rest ≡ Some (one t at rest)
unfolding marked_piece
annotation_marked at words t rest (note.roles n a b c d e) = ap (one_before at rest) (roles_are n a b c d e)
annotation_marked at words t rest (note.resource n a b c) = ap (one_before at rest) (resource_is n a b c)

-- any other line comment is a piece without tokens
pub plain_marked : (at : Place) (words : List (List ℕ)) (rest : List ℕ) → is_plain words ≡ true → marked_piece at words rest ≡ Some (nothing rest)
unfolding marked_piece
plain_marked at [] rest h = refl
plain_marked at (word ∷ names) rest h =
    let both = or_parts (bytes_eq word (codes "roles")) (bytes_eq word (codes "resource")) (not-true _ h) in
    cond-false _ _ _ both.0 ∙ cond-false _ _ _ both.1

before_is : (P : Piece → Type 0) (at : Place) (rest : List ℕ) (o : Option Token) → Of (λ t. P (one t at rest)) o → Of P (one_before at rest o)
before_is P at rest None h = tt
before_is P at rest (Some t) h = h

map_of : {A : Type 0} (P Q : A → Type 0) (o : Option A) → ((x : A) → P x → Q x) → Of P o → Of Q o
map_of P Q None f h = tt
map_of P Q (Some x) f h = f x h

-- what holds of a comment and of each annotation holds of the piece that is found
pub marked_is : (P : Piece → Type 0) (at : Place) (words : List (List ℕ)) (rest : List ℕ) → (is_plain words ≡ true → P (nothing rest)) → ((t : Token) → AnnotationText words t → P (one t at rest))
    → Of P (marked_piece at words rest)
unfolding marked_piece
marked_is P at [] rest plain noted = plain refl
marked_is P at (word ∷ names) rest plain noted =
    either (Of P) (bytes_eq word (codes "roles")) _ _
    (λ h. before_is P at rest (roles names)
    (map_of (AnnotationText (codes "roles" ∷ names)) (λ t. P (one t at rest)) (roles names)
    (λ t is. noted t (subst (λ w. AnnotationText (w ∷ names) t) (sym (is_written word (codes "roles") h)) is)) (roles_text names)))
    (λ h. either (Of P) (bytes_eq word (codes "resource")) _ _
    (λ k. before_is P at rest (resource names)
    (map_of (AnnotationText (codes "resource" ∷ names)) (λ t. P (one t at rest)) (resource names)
    (λ t is. noted t (subst (λ w. AnnotationText (w ∷ names) t) (sym (is_written word (codes "resource") k)) is)) (resource_text names)))
    (λ k. plain (rw (h, k) refl)))

marked_else : (at : Place) (words : List (List ℕ)) (rest : List ℕ) (t : Bool) → (if t then marked_piece at words rest else Some (nothing rest)) ≡ marked_piece at (if t then words else []) rest
unfolding marked_piece
marked_else at words rest true = refl
marked_else at words rest false = refl

line_marked : (at : Place) (line rest : List ℕ) → line_piece at (45 ∷ 45 ∷ line) rest ≡ marked_piece at (annotation_words line) rest
unfolding line_piece words_of
line_marked at line rest = marked_else at (words_of (drop 1 line)) rest (starts_with nat_eq line (codes "@"))

dashes_len : (text : List ℕ) → line_len (45 ∷ 45 ∷ text) ≡ suc (suc (line_len text))
unfolding line_len
dashes_len text = omega arith

-- the piece of a line comment
pub comment_marked : (at : Place) (text : List ℕ) → line_comment at (45 ∷ 45 ∷ text) ≡ marked_piece at (annotation_words (take (line_len text) text)) (drop (line_len text) text)
comment_marked at text =
    ap (λ n. line_piece at (take n (45 ∷ 45 ∷ text)) (drop n (45 ∷ 45 ∷ text))) (dashes_len text) ∙ line_marked at (take (line_len text) text) (drop (line_len text) text)

-- ASSERTIONS

-- the tokens that close with a model
abbrev with_model : List ℕ → List Token
with_model x = token.Symbol symbol.OpenBracket ∷ token.Name x ∷ token.Symbol symbol.CloseBracket ∷ token.Symbol symbol.CloseBracket ∷ []

model_text : (x : List ℕ) → (bytes_eq x (codes "F") ≡ true) ⊎ (bytes_eq x (codes "FD") ≡ true) → ModelText (with_model x) (token.Symbol symbol.CloseBracket ∷ [])
model_text x (inl f) = subst (λ y. ModelText (with_model y) (token.Symbol symbol.CloseBracket ∷ [])) (sym (is_written x (codes "F") f)) grammar.failures
model_text x (inr f) = subst (λ y. ModelText (with_model y) (token.Symbol symbol.CloseBracket ∷ [])) (sym (is_written x (codes "FD") f)) grammar.failures-divergences

closed_text : (ts : List Token) → is_closed ts ≡ true → ModelText ts (token.Symbol symbol.CloseBracket ∷ [])
unfolding is_closed
closed_text (token.Symbol symbol.CloseBracket ∷ []) h = grammar.none
closed_text (token.Symbol symbol.OpenBracket ∷ token.Name model ∷ token.Symbol symbol.CloseBracket ∷ token.Symbol symbol.CloseBracket ∷ []) h =
    model_text model (or_cases (bytes_eq model (codes "F")) (bytes_eq model (codes "FD")) h)
closed_text _ h = absurd (false≢true h)

free_text : (ts : List Token) → is_deadlock_free ts ≡ true → FreeText ts
unfolding is_deadlock_free
free_text (token.Symbol symbol.Colon ∷ token.Symbol symbol.OpenBracket ∷ token.Name deadlock ∷ token.Name free ∷ ts) h =
    let both = and_parts (bytes_eq deadlock (codes "deadlock") && bytes_eq free (codes "free")) (is_closed ts) h in
    let words = and_parts (bytes_eq deadlock (codes "deadlock")) (bytes_eq free (codes "free")) both.0 in
    subst (λ x. FreeText (token.Symbol symbol.Colon ∷ token.Symbol symbol.OpenBracket ∷ token.Name x ∷ token.Name free ∷ ts)) (sym (is_written deadlock (codes "deadlock") words.0))
    (subst (λ x. FreeText (token.Symbol symbol.Colon ∷ token.Symbol symbol.OpenBracket ∷ token.Name (codes "deadlock") ∷ token.Name x ∷ ts)) (sym (is_written free (codes "free") words.1))
    (claim.free (closed_text ts both.1)))
free_text _ h = absurd (false≢true h)

call_text : (x : List ℕ) (us : List Token) (o : Option (List Token)) → after_closing 1 us ≡ o → option_map_or is_deadlock_free o false ≡ true → Asserts (token.Name x ∷ token.Symbol symbol.OpenParen ∷ us)
call_text x us None e h = absurd (false≢true h)
call_text x us (Some tail) e h = claim.call e (free_text tail h)

name_text : (x : List ℕ) (ts : List Token) → option_map_or is_deadlock_free (after_arguments ts) false ≡ true → Asserts (token.Name x ∷ ts)
unfolding after_arguments
name_text x [] h = claim.name (free_text [] h)
name_text x (token.Symbol symbol.OpenParen ∷ us) h = call_text x us (after_closing 1 us) refl h
name_text x (u ∷ us) h = claim.name (free_text (u ∷ us) h)

-- tokens that are found to assert do
pub asserts_found : (ts : List Token) → is_deadlock_assertion ts ≡ true → Asserts ts
unfolding is_deadlock_assertion after_call
asserts_found (token.Name x ∷ ts) h = name_text x ts h
asserts_found _ h = absurd (false≢true h)

model_closed : (ts r : List Token) → ModelText ts r → r ≡ (token.Symbol symbol.CloseBracket ∷ []) → is_closed ts ≡ true
unfolding is_closed
model_closed ts r grammar.none e = ap is_closed e
model_closed ts r grammar.failures e = ap (λ l. is_closed (token.Symbol symbol.OpenBracket ∷ token.Name (codes "F") ∷ token.Symbol symbol.CloseBracket ∷ l)) e
model_closed ts r grammar.failures-divergences e = ap (λ l. is_closed (token.Symbol symbol.OpenBracket ∷ token.Name (codes "FD") ∷ token.Symbol symbol.CloseBracket ∷ l)) e

is_free : (ts : List Token) → FreeText ts → is_deadlock_free ts ≡ true
unfolding is_deadlock_free
is_free ts (claim.free {ts = us} m) = model_closed us (token.Symbol symbol.CloseBracket ∷ []) m refl

plain_name : (ts : List Token) → FreeText ts → after_arguments ts ≡ Some ts
unfolding after_arguments
plain_name ts (claim.free m) = refl

-- tokens that assert are found to
pub found_to_assert : (ts : List Token) → Asserts ts → is_deadlock_assertion ts ≡ true
unfolding is_deadlock_assertion after_call after_arguments
found_to_assert ts (claim.name {ts = us} f) = ap (λ o. option_map_or is_deadlock_free o false) (plain_name us f) ∙ is_free us f
found_to_assert ts (claim.call {us = us} e f) = ap (λ o. option_map_or is_deadlock_free o false) e ∙ is_free us f
