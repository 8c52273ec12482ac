-- The line of an annotation is found as its token.
use Rattle.print_laws.proofs.Prelude.{◌≡◌, ℕ, suc, ◌+◌, ◌<◌, Bool, true, false, List, [], ◌∷◌, ◌++◌, length, take, drop, codes, refl, ap, ◌∙◌, length-append, arith, cond-true, cond-false, false≢true, not-true, and_from, list_all-append, take-append_seam, drop-append_seam, Some, None, cond, nat_eq, nat_lt, not, filter, list_all, onto_first, prefix_len, slice_split, Place, is_space, line_comment, line_piece, marked_piece, resource, roles, words_of, line_len, front, one, one_before, is_foreign, is_name, reserved_word, word_len, word_rest_len, spaced_names, token_text, AreResource, AreRoles, IsName, and_first, and_second, ResourceNames, RolesNames}
use Rattle.csp_text.specs.declared.token.Token.TheVariants as token
use Rattle.csp_lexer.proofs.Cuts.{Stands}
use Rattle.print_laws.proofs.FoundTokens.{AreNames}
use Rattle.print_laws.proofs.Names.{name_parts}
use Rattle.print_laws.proofs.Quiet.{is_word_byte, name_bytes, weaker}
use Rattle.print_laws.proofs.Tokens.{piece_is}

abbrev not_space : ℕ → Bool
not_space b = not (is_space b)

abbrev not_feed : ℕ → Bool
not_feed b = not (nat_eq b 10)

pass_step : (t : Bool) (n m k : ℕ) → t ≡ true → n ≡ m + k → cond t (1 + n) 0 ≡ suc m + k
pass_step true n m k h e = omega arith
pass_step false n m k h e = absurd (false≢true h)

-- the front of a text that passes a test, and what follows it
pub prefix_passes : (p : ℕ → Bool) (x z : List ℕ) → list_all p x ≡ true → prefix_len p (x ++ z) ≡ length x + prefix_len p z
prefix_passes p [] z h = omega arith
prefix_passes p (c ∷ x) z h =
    pass_step (p c) (prefix_len p (x ++ z)) (length x) (prefix_len p z) (and_first (p c) (list_all p x) h) (prefix_passes p x z (and_second (p c) (list_all p x) h))

word_byte_no_space : (b : ℕ) → is_word_byte b ≡ true → not_space b ≡ true
word_byte_no_space b h = grind (arith)

word_byte_no_feed : (b : ℕ) → is_word_byte b ≡ true → not_feed b ≡ true
word_byte_no_feed b h = grind (arith)

-- names behind spaces

no_space : (x : List ℕ) → IsName x → list_all not_space x ≡ true
no_space x h = weaker is_word_byte not_space word_byte_no_space x (name_bytes x h)

first_part : (x z : List ℕ) → list_all not_space x ≡ true → slice_split is_space (x ++ 32 ∷ z) ≡ x ∷ slice_split is_space z
first_part [] z h = refl
first_part (c ∷ x) z h =
    cond-false _ _ _ (not-true (is_space c) (and_first (not_space c) (list_all not_space x) h))
    ∙ ap (onto_first c) (first_part x z (and_second (not_space c) (list_all not_space x) h))

last_part : (x : List ℕ) → list_all not_space x ≡ true → slice_split is_space (x ++ []) ≡ x ∷ []
last_part [] h = refl
last_part (c ∷ x) h =
    cond-false _ _ _ (not-true (is_space c) (and_first (not_space c) (list_all not_space x) h))
    ∙ ap (onto_first c) (last_part x (and_second (not_space c) (list_all not_space x) h))

abbrev has_byte : List ℕ → Bool
has_byte word = nat_lt 0 (length word)

words_are : (names : List (List ℕ)) → AreNames names → words_of (spaced_names names) ≡ names
unfolding words_of
words_are [] h = refl
words_are (x ∷ []) h = ap (filter has_byte) (last_part x (no_space x h.0)) ∙ cond-true _ _ _ (name_parts x h.0).long
words_are (x ∷ y ∷ names) h =
    ap (filter has_byte) (first_part x (y ++ spaced_names names) (no_space x h.0))
    ∙ cond-true _ _ _ (name_parts x h.0).long
    ∙ ap (λ l. x ∷ l) (words_are (y ∷ names) h.1)

all_names : (names : List (List ℕ)) → AreNames names → list_all is_name names ≡ true
all_names [] h = refl
all_names (x ∷ names) h = and_from _ _ h.0 (all_names names h.1)

roles_names : (names : RolesNames) → AreRoles names → AreNames (names.process ∷ names.creq ∷ names.cack ∷ names.sreq ∷ names.sack ∷ [])
roles_names names h = (h.process, (h.creq, (h.cack, (h.sreq, (h.sack, tt)))))

resource_names : (names : ResourceNames) → AreResource names → AreNames (names.process ∷ names.acquire ∷ names.release ∷ [])
resource_names names h = (h.process, (h.acquire, (h.release, tt)))

roles_are : (names : RolesNames) → AreRoles names → roles (names.process ∷ names.creq ∷ names.cack ∷ names.sreq ∷ names.sack ∷ []) ≡ Some (token.Roles names)
unfolding roles
roles_are names h =
    cond-true _ _ None (all_names (names.process ∷ names.creq ∷ names.cack ∷ names.sreq ∷ names.sack ∷ []) (roles_names names h))

resource_are : (names : ResourceNames) → AreResource names → resource (names.process ∷ names.acquire ∷ names.release ∷ []) ≡ Some (token.Resource names)
unfolding resource
resource_are names h = cond-true _ _ None (all_names (names.process ∷ names.acquire ∷ names.release ∷ []) (resource_names names h))

marks_are_names : IsName (codes "roles") × IsName (codes "resource")
unfolding is_name word_len word_rest_len reserved_word is_foreign
marks_are_names = (refl, refl)

-- the line of it

no_feed_in_name : (x : List ℕ) → IsName x → list_all not_feed x ≡ true
no_feed_in_name x h = weaker is_word_byte not_feed word_byte_no_feed x (name_bytes x h)

no_feed_more : (x z : List ℕ) → IsName x → list_all not_feed z ≡ true → list_all not_feed (32 ∷ x ++ z) ≡ true
no_feed_more x z h e = list_all-append not_feed x z ∙ and_from _ _ (no_feed_in_name x h) e

roles_no_feed : (names : RolesNames) → AreRoles names → list_all not_feed (token_text (token.Roles names)) ≡ true
roles_no_feed names h =
    no_feed_more names.process _ h.process (no_feed_more names.creq _ h.creq (no_feed_more names.cack _ h.cack
    (no_feed_more names.sreq _ h.sreq (no_feed_more names.sack [] h.sack refl))))

resource_no_feed : (names : ResourceNames) → AreResource names → list_all not_feed (token_text (token.Resource names)) ≡ true
resource_no_feed names h = no_feed_more names.process _ h.process (no_feed_more names.acquire _ h.acquire (no_feed_more names.release [] h.release refl))

line_ends : (x rest : List ℕ) → list_all not_feed x ≡ true → line_len (x ++ 10 ∷ rest) ≡ length x
unfolding line_len
line_ends x rest h = prefix_passes not_feed x (10 ∷ rest) h ∙ omega arith

comment_is : (x rest : List ℕ) (at : Place) → list_all not_feed x ≡ true → line_comment at (x ++ 10 ∷ rest) ≡ line_piece at x (10 ∷ rest)
comment_is x rest at h =
    ap (λ n. line_piece at (take n (x ++ 10 ∷ rest)) (drop n (x ++ 10 ∷ rest))) (line_ends x rest h)
    ∙ (λ i. line_piece at (take-append_seam x (10 ∷ rest) i) (drop-append_seam x (10 ∷ rest) i))

roles_piece : (names : RolesNames) (at : Place) (rest : List ℕ) → AreRoles names → line_piece at (token_text (token.Roles names)) rest ≡ Some (one (token.Roles names) at rest)
unfolding line_piece marked_piece
roles_piece names at rest h =
    ap (λ words. marked_piece at words rest)
    (words_are (codes "roles" ∷ names.process ∷ names.creq ∷ names.cack ∷ names.sreq ∷ names.sack ∷ []) (marks_are_names.0, roles_names names h))
    ∙ ap (one_before at rest) (roles_are names h)

resource_piece : (names : ResourceNames) (at : Place) (rest : List ℕ) → AreResource names → line_piece at (token_text (token.Resource names)) rest ≡ Some (one (token.Resource names) at rest)
unfolding line_piece marked_piece
resource_piece names at rest h =
    ap (λ words. marked_piece at words rest)
    (words_are (codes "resource" ∷ names.process ∷ names.acquire ∷ names.release ∷ []) (marks_are_names.1, resource_names names h))
    ∙ ap (one_before at rest) (resource_are names h)

roles_front : (names : RolesNames) (at : Place) (rest : List ℕ) → front at (token_text (token.Roles names) ++ rest) ≡ line_comment at (token_text (token.Roles names) ++ rest)
unfolding front
roles_front names at rest = refl

resource_front : (names : ResourceNames) (at : Place) (rest : List ℕ) → front at (token_text (token.Resource names) ++ rest) ≡ line_comment at (token_text (token.Resource names) ++ rest)
unfolding front
resource_front names at rest = refl

behind_text : (c : ℕ) (x rest : List ℕ) → length rest < length (c ∷ x ++ rest)
behind_text c x rest = omega (arith, length-append x rest)

pub roles_stands : (names : RolesNames) (rest : List ℕ) → AreRoles names → Stands front (token_text (token.Roles names) ++ 10 ∷ rest) (token.Roles names ∷ []) (10 ∷ rest)
roles_stands names rest h = record {
  stands = λ at. piece_is (roles_front names at (10 ∷ rest) ∙ comment_is (token_text (token.Roles names)) rest at (roles_no_feed names h) ∙ roles_piece names at (10 ∷ rest) h);
  shorter = behind_text 45 (codes "-@ roles" ++ spaced_names (names.process ∷ names.creq ∷ names.cack ∷ names.sreq ∷ names.sack ∷ [])) (10 ∷ rest);
}

pub resource_stands : (names : ResourceNames) (rest : List ℕ) → AreResource names → Stands front (token_text (token.Resource names) ++ 10 ∷ rest) (token.Resource names ∷ []) (10 ∷ rest)
resource_stands names rest h = record {
  stands = λ at. piece_is (resource_front names at (10 ∷ rest) ∙ comment_is (token_text (token.Resource names)) rest at (resource_no_feed names h) ∙ resource_piece names at (10 ∷ rest) h);
  shorter = behind_text 45 (codes "-@ resource" ++ spaced_names (names.process ∷ names.acquire ∷ names.release ∷ [])) (10 ∷ rest);
}
