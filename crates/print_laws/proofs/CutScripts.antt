-- The printed text of a script is cut into its printed tokens.
use Rattle.print_laws.proofs.Prelude.{◌≡◌, ℕ, suc, ◌+◌, ◌<◌, true, List, [], ◌∷◌, ◌++◌, length, take, drop, codes, refl, sym, ap, ◌∙◌, subst, append_assoc, append-nil, length-append, arith, cond-true, take-append_seam, drop-append_seam, Option, Some, Result, flat_map, Place, Decl, Colon, Dot, Defines, Comma, Bar, OpenParen, CloseParen, OpenBracket, CloseBracket, Token, Name, Symbol, Tree, after_arguments, after_call, after_closing, asserted, assertion, cut_line, is_closed, is_deadlock_assertion, is_deadlock_free, line_front, rest_len, begins_assertion, front, Piece, PlacedTokens, behind_all, is_foreign, is_name, reserved_word, word_len, word_rest_len, item_tokens, operand_tokens, printed_tokens, separated, deadlock_free_tokens, decl_tokens, names_tokens, parameters_tokens, types_tokens, line, spaced, token_text, Every, Fits, FitsLine, IsName, MadeTree, MadeTrees, MadeNames, MadeTypes, MadeParameters, MadeDecl, MadeDecls}
use Rattle.csp_text.specs.declared.token.Token.TheVariants.{Word}
use Rattle.csp_text.specs.declared.token.Token.TheVariants as token
use Rattle.csp_text.specs.declared.token.Word.TheVariants as word
use Rattle.csp_text.specs.declared.tree.Tree.TheVariants as tree
use Rattle.csp_text.specs.declared.script.Decl.TheVariants as decl
use Rattle.print_laws.specs.Made as m
use Rattle.print_laws.proofs.Plain.{Plain}
use Rattle.print_laws.proofs.AnnotationLines.{resource_stands, roles_stands}
use Rattle.csp_lexer.proofs.Cuts.{Cuts, IsCut, IsPiece, Stands, cuts_more, cuts_nothing}
use Rattle.print_laws.proofs.Held.{Held, held_items, held_tree, is_other, is_own}
use Rattle.print_laws.proofs.Onto as onto
use Rattle.print_laws.proofs.Parentheses.{close_passed, last_close_passed, open_passed, other_none, other_on_line, other_plain, own_none, own_plain, passed_over}
use Rattle.print_laws.proofs.Quiet.{rest_ends, rest_step, token_rest}
use Rattle.print_laws.proofs.Tokens.{cuts_line, cuts_on_line, feed_stands, gap_behind, line_is, no_spaced, spaced_more}
use Rattle.print_laws.proofs.ScriptTexts.{name_alone}

-- tokens of trees outside assertions

abbrev all_plain : ℕ → List Token → Type 0
all_plain k ts = Every Plain ts

plain_own : (k : ℕ) (t : Token) (ts : List Token) → is_own t ≡ true → Fits t → all_plain k ts → all_plain k (t ∷ ts)
plain_own k t ts e f g = (own_plain t e f, g)

plain_other : (k : ℕ) (t : Token) (ts : List Token) → is_other t ≡ true → all_plain k ts → all_plain k (t ∷ ts)
plain_other k t ts e g = (other_plain t e, g)

plain_opens : (k : ℕ) (ts : List Token) → all_plain (suc k) ts → all_plain k (Symbol OpenParen ∷ ts)
plain_opens k ts g = (tt, g)

plain_closes : (k : ℕ) (ts : List Token) → all_plain k ts → all_plain (suc k) (Symbol CloseParen ∷ ts)
plain_closes k ts g = (tt, g)

plain_tree : {t : Tree} → MadeTree Fits t → Held Fits all_plain plain_own plain_other plain_opens plain_closes t
plain_tree p = held_tree Fits all_plain plain_own plain_other plain_opens plain_closes p

pub plain_bare : {t : Tree} (r : List Token) → MadeTree Fits t → Every Plain r → Every Plain (printed_tokens t ++ r)
plain_bare r p g = (plain_tree p).bare 0 r g

pub plain_operand : {t : Tree} (r : List Token) → MadeTree Fits t → Every Plain r → Every Plain (operand_tokens t ++ r)
plain_operand r p g = (plain_tree p).operand 0 r g

without_rest : (ts : List Token) → Every Plain (ts ++ []) → Every Plain ts
without_rest ts h = subst (Every Plain) (append-nil ts) h

-- declarations

plain_names : (sign : Token) {xs : List (List ℕ)} (r : List Token) → Plain sign → MadeNames Fits xs → Every Plain r → Every Plain (separated name_alone sign xs ++ r)
plain_names sign r s (m.made-one-name {x = x} p) g = subst (Every Plain) (sym (onto.separated_one name_alone sign x r)) (p, g)
plain_names sign r s (m.made-more-names {x = x} {xs = xs} p ps) g = plain_more_names sign x xs r s p g (plain_names sign r s ps g)
  where
    plain_more_names : (sign : Token) (x : List ℕ) (xs : List (List ℕ)) (r : List Token) → Plain sign → IsName x → Every Plain r → Every Plain (separated name_alone sign xs ++ r) →
        Every Plain (separated name_alone sign (x ∷ xs) ++ r)
    plain_more_names sign x [] r s p g h = subst (Every Plain) (sym (onto.separated_one name_alone sign x r)) (p, g)
    plain_more_names sign x (y ∷ ys) r s p g h = subst (Every Plain) (sym (onto.separated_more name_alone sign x y ys r)) (p, (s, h))

plain_names_tokens : (sign : Token) {xs : List (List ℕ)} (r : List Token) → Plain sign → MadeNames Fits xs → Every Plain r → Every Plain (names_tokens sign xs ++ r)
unfolding names_tokens
plain_names_tokens sign r s p g = plain_names sign r s p g

plain_types : {types : List Tree} → MadeTypes Fits types → Every Plain (separated operand_tokens (Symbol Dot) types ++ [])
plain_types (m.made-one-type {a = a} p d) = subst (Every Plain) (sym (onto.separated_one operand_tokens (Symbol Dot) a [])) (plain_operand [] p tt)
plain_types (m.made-more-types {a = a} {types = types} p d ps) = more a types p (plain_types ps)
  where
    more : (a : Tree) (types : List Tree) → MadeTree Fits a → Every Plain (separated operand_tokens (Symbol Dot) types ++ []) → Every Plain (separated operand_tokens (Symbol Dot) (a ∷ types) ++ [])
    more a [] p h = subst (Every Plain) (sym (onto.separated_one operand_tokens (Symbol Dot) a [])) (plain_operand [] p tt)
    more a (b ∷ bs) p h = subst (Every Plain) (sym (onto.separated_more operand_tokens (Symbol Dot) a b bs [])) (plain_operand _ p (tt, h))

plain_types_tokens : (types : List Tree) → MadeTypes Fits types → Every Plain (types_tokens types)
unfolding types_tokens
plain_types_tokens [] p = tt
plain_types_tokens (a ∷ types) p = (tt, without_rest _ (plain_types p))

no_types : Every Plain (types_tokens [])
unfolding types_tokens
no_types = tt

plain_some_parameters : (xs : List (List ℕ)) (r : List Token) → MadeNames Fits xs → Every Plain r → Every Plain (parameters_tokens xs ++ r)
unfolding parameters_tokens
plain_some_parameters [] r p g = g
plain_some_parameters (x ∷ xs) r p g =
    (tt, subst (Every Plain) (sym (append_assoc (names_tokens (Symbol Comma) (x ∷ xs)) (Symbol CloseParen ∷ []) r)) (plain_names_tokens (Symbol Comma) (Symbol CloseParen ∷ r) tt p (tt, g)))

plain_no_parameters : (r : List Token) → Every Plain r → Every Plain (parameters_tokens [] ++ r)
unfolding parameters_tokens
plain_no_parameters r g = g

plain_parameters : {xs : List (List ℕ)} (r : List Token) → MadeParameters Fits xs → Every Plain r → Every Plain (parameters_tokens xs ++ r)
plain_parameters r m.made-no-parameters g = plain_no_parameters r g
plain_parameters r (m.made-parameters {xs = xs} p) g = plain_some_parameters xs r p g

-- the line of an assertion

spaced_rest : (ts : List Token) (rest : List ℕ) → Every FitsLine ts → rest_len (spaced ts ++ 10 ∷ rest) ≡ length (spaced ts)
unfolding spaced
spaced_rest [] rest f = rest_ends rest
spaced_rest (t ∷ ts) rest f =
    let z : List ℕ = spaced ts ++ 10 ∷ rest in
    let here : rest_len (32 ∷ (token_text t ++ z)) ≡ 1 + rest_len (token_text t ++ z) = rest_step 32 (token_text t ++ z) refl in
    let word : rest_len (token_text t ++ z) ≡ length (token_text t) + rest_len z = token_rest t f.0 (gap_behind ts rest) in
    let more : rest_len z ≡ length (spaced ts) = spaced_rest ts rest f.1 in
    let len : length (32 ∷ token_text t ++ spaced ts) ≡ length (32 ∷ token_text t) + length (spaced ts) = length-append (32 ∷ token_text t) (spaced ts) in
    let total : rest_len (32 ∷ (token_text t ++ z)) ≡ length (32 ∷ token_text t ++ spaced ts) = omega (arith, here, word, more, len) in
    ap rest_len (spaced_more t ts (10 ∷ rest)) ∙ total

front_assert : (at : Place) (r : List ℕ) → front at (codes "assert" ++ 32 ∷ r) ≡ Some (assertion at (32 ∷ r))
unfolding front begins_assertion word_len word_rest_len
front_assert at r = refl

on_line_is : (at : Place) (x w rest : List ℕ) → w ≡ x ++ 10 ∷ rest → rest_len w ≡ length x →
    assertion at w ≡ asserted at (10 ∷ rest) (cut_line (behind_all at (codes "assert")) x)
unfolding assertion
on_line_is at x w rest e h =
    ap (λ n. asserted at (drop n w) (cut_line (behind_all at (codes "assert")) (take n w))) h
    ∙ ap (λ l. asserted at (drop (length x) l) (cut_line (behind_all at (codes "assert")) (take (length x) l))) e
    ∙ (λ i. asserted at (drop-append_seam x (10 ∷ rest) i) (cut_line (behind_all at (codes "assert")) (take-append_seam x (10 ∷ rest) i)))

taken : (at : Place) (rest : List ℕ) (result : Result PlacedTokens Place) (ts : List Token) → is_deadlock_assertion ts ≡ true → (c : IsCut result ts) →
    asserted at rest result ≡ record { placed = (Word word.Assert, at) ∷ c.found.placed; rest = rest }
taken at rest result ts h c = ap (asserted at rest) c.is ∙ cond-true _ _ _ (ap is_deadlock_assertion c.same ∙ h)

piece_of : (at : Place) (w rest : List ℕ) (ts : List Token) (result : Result PlacedTokens Place) → is_deadlock_assertion ts ≡ true → IsCut result ts → assertion at w ≡ asserted at rest result →
    {found : Option Piece} → found ≡ Some (assertion at w) → IsPiece found (Word word.Assert ∷ ts) rest
piece_of at w rest ts result h c e f = record {
  piece = record { placed = (Word word.Assert, at) ∷ c.found.placed; rest = rest };
  is = f ∙ ap Some (e ∙ taken at rest result ts h c);
  tokens_are = ap (λ l. Word word.Assert ∷ l) c.same;
  rest_is = refl;
}

starts_with_space : (t : Token) (ts : List Token) (rest : List ℕ) → (r : List ℕ) × (spaced (t ∷ ts) ++ 10 ∷ rest ≡ 32 ∷ r)
starts_with_space t ts rest = (_, spaced_more t ts (10 ∷ rest))

spaced_bracket : (ts : List Token) → spaced (ts ++ Symbol CloseBracket ∷ []) ≡ spaced ts ++ 32 ∷ 93 ∷ []
unfolding spaced
spaced_bracket [] = refl
spaced_bracket (t ∷ ts) = ap (λ l. 32 ∷ token_text t ++ l) (spaced_bracket ts) ∙ sym (append_assoc (32 ∷ token_text t) (spaced ts) (32 ∷ 93 ∷ []))

longer : (w rest : List ℕ) (x : List ℕ) → w ≡ x ++ 10 ∷ rest → length (10 ∷ rest) < length (codes "assert" ++ w)
longer w rest x e = omega (arith, length-append (codes "assert") w, ap length e, length-append x (10 ∷ rest))

-- the whole line of tokens that end with a bracket
assertion_stands : (t : Token) (ts all : List Token) (rest : List ℕ) → all ≡ t ∷ ts ++ Symbol CloseBracket ∷ [] → Every FitsLine all → Every FitsLine (t ∷ ts) → is_deadlock_assertion all ≡ true →
    Stands front (codes "assert" ++ (spaced all ++ 10 ∷ rest)) (Word word.Assert ∷ all) (10 ∷ rest)
assertion_stands t ts all rest e f f' h =
    let space : (r : List ℕ) × (spaced all ++ 10 ∷ rest ≡ 32 ∷ r) =
    subst (λ l. (r : List ℕ) × (spaced l ++ 10 ∷ rest ≡ 32 ∷ r)) (sym e) (starts_with_space t (ts ++ Symbol CloseBracket ∷ []) rest) in
    let cuts : Cuts line_front (spaced all) all =
    subst (λ l. Cuts line_front (spaced l) l) (sym e)
    (subst (λ x. Cuts line_front x (t ∷ ts ++ Symbol CloseBracket ∷ [])) (sym (spaced_bracket (t ∷ ts))) (cuts_on_line (t ∷ ts) f')) in
    record {
      stands = λ at.
          piece_of at (spaced all ++ 10 ∷ rest) (10 ∷ rest) all (cut_line (behind_all at (codes "assert")) (spaced all)) h
          (cuts.cuts (length (spaced all)) (behind_all at (codes "assert")) (omega arith))
          (on_line_is at (spaced all) (spaced all ++ 10 ∷ rest) rest refl (spaced_rest all rest f))
          (ap (λ l. front at (codes "assert" ++ l)) space.1 ∙ front_assert at space.0 ∙ ap (λ l. Some (assertion at l)) (sym space.1));
      shorter = longer (spaced all ++ 10 ∷ rest) rest (spaced all) refl;
    }

assert_line : (ts : List Token) (rest : List ℕ) → line (Word word.Assert ∷ ts) ++ rest ≡ codes "assert" ++ (spaced ts ++ 10 ∷ rest)
assert_line ts rest = line_is (Word word.Assert) ts rest

-- the tokens before the last bracket
abbrev claim : List Token
claim = Symbol Colon ∷ Symbol OpenBracket ∷ Name (codes "deadlock") ∷ Name (codes "free") ∷ []

claim_names : IsName (codes "deadlock") × IsName (codes "free")
unfolding is_name word_len word_rest_len reserved_word is_foreign
claim_names = (refl, refl)

claim_on_line : Every FitsLine claim
claim_on_line = (refl, (refl, (claim_names.0, (claim_names.1, tt))))

deadlock_free_on_line : Every FitsLine deadlock_free_tokens
deadlock_free_on_line = (refl, (refl, (claim_names.0, (claim_names.1, (refl, tt)))))

cuts_assertion : (t : Token) (ts : List Token) (rest : List ℕ) (us : List Token) → Every FitsLine (t ∷ ts ++ claim) → Every FitsLine (t ∷ ts ++ deadlock_free_tokens) →
    is_deadlock_assertion (t ∷ ts ++ deadlock_free_tokens) ≡ true → Cuts front rest us →
    Cuts front (line (Word word.Assert ∷ t ∷ ts ++ deadlock_free_tokens) ++ rest) (Word word.Assert ∷ (t ∷ ts ++ deadlock_free_tokens) ++ us)
cuts_assertion t ts rest us f' f h c =
    subst (λ l. Cuts front l (Word word.Assert ∷ (t ∷ ts ++ deadlock_free_tokens) ++ us)) (sym (assert_line (t ∷ ts ++ deadlock_free_tokens) rest))
    (cuts_more (assertion_stands t (ts ++ claim) (t ∷ ts ++ deadlock_free_tokens) rest (ap (λ l. t ∷ l) (sym (append_assoc ts claim (Symbol CloseBracket ∷ [])))) f f' h)
    (cuts_more (feed_stands rest) c))

-- an asserted name

name_is_assertion : (x : List ℕ) → is_deadlock_assertion (Name x ∷ deadlock_free_tokens) ≡ true
unfolding is_deadlock_assertion after_call after_arguments is_deadlock_free is_closed
name_is_assertion x = refl

cuts_asserted_name : (x : List ℕ) (rest : List ℕ) (us : List Token) → IsName x → Cuts front rest us →
    Cuts front (line (decl_tokens (decl.Assert (tree.Name x))) ++ rest) (decl_tokens (decl.Assert (tree.Name x)) ++ us)
cuts_asserted_name x rest us f c =
    subst (λ l. Cuts front (line (Word word.Assert ∷ l) ++ rest) (Word word.Assert ∷ l ++ us)) (sym (onto.onto _ (tree.rolls-Name x) deadlock_free_tokens))
    (cuts_assertion (Name x) [] rest us (f, claim_on_line) (f, deadlock_free_on_line) (name_is_assertion x) c)

-- an asserted call

record OnLine (after : Option (List Token)) (k : ℕ) (ts : List Token) : Type 0 where
  fits : Every FitsLine ts
  closes : after_closing (suc k) ts ≡ after

line_own : (after : Option (List Token)) (k : ℕ) (t : Token) (ts : List Token) → is_own t ≡ true → FitsLine t → OnLine after k ts → OnLine after k (t ∷ ts)
line_own after k t ts e f g = record { fits = (f, g.fits); closes = passed_over k t ts (own_none t e) ∙ g.closes }

line_other : (after : Option (List Token)) (k : ℕ) (t : Token) (ts : List Token) → is_other t ≡ true → OnLine after k ts → OnLine after k (t ∷ ts)
line_other after k t ts e g = record { fits = (other_on_line t e, g.fits); closes = passed_over k t ts (other_none t e) ∙ g.closes }

line_opens : (after : Option (List Token)) (k : ℕ) (ts : List Token) → OnLine after (suc k) ts → OnLine after k (Symbol OpenParen ∷ ts)
line_opens after k ts g = record { fits = (refl, g.fits); closes = open_passed k ts ∙ g.closes }

line_closes : (after : Option (List Token)) (k : ℕ) (ts : List Token) → OnLine after k ts → OnLine after (suc k) (Symbol CloseParen ∷ ts)
line_closes after k ts g = record { fits = (refl, g.fits); closes = close_passed k ts ∙ g.closes }

items_on_line : (after : Option (List Token)) {items : List Tree} (r : List Token) → MadeTrees FitsLine items → OnLine after 0 r → OnLine after 0 (separated item_tokens (Symbol Comma) items ++ r)
items_on_line after r p g = held_items FitsLine (OnLine after) (line_own after) (line_other after) (line_opens after) (line_closes after) p 0 r g

nothing_open : (ts : List Token) → after_closing 0 ts ≡ Some ts
unfolding after_closing
nothing_open ts = refl

behind_items : (rest : List Token) → Every FitsLine rest → OnLine (Some rest) 0 (Symbol CloseParen ∷ rest)
behind_items rest f = record { fits = (refl, f); closes = last_close_passed rest ∙ nothing_open rest }

call_is_assertion : (x : List ℕ) (ts : List Token) → after_closing 1 ts ≡ Some deadlock_free_tokens → is_deadlock_assertion (Name x ∷ Symbol OpenParen ∷ ts) ≡ true
unfolding is_deadlock_assertion after_call after_arguments is_deadlock_free is_closed
call_is_assertion x ts h = rw h refl

cuts_asserted_call : (x : List ℕ) (items : List Tree) (rest : List ℕ) (us : List Token) → IsName x → MadeTrees FitsLine items → Cuts front rest us →
    Cuts front (line (decl_tokens (decl.Assert (tree.Call x items))) ++ rest) (decl_tokens (decl.Assert (tree.Call x items)) ++ us)
cuts_asserted_call x items rest us f p c =
    let ts : List Token = separated item_tokens (Symbol Comma) items ++ Symbol CloseParen ∷ [] in
    let whole = items_on_line (Some deadlock_free_tokens) (Symbol CloseParen ∷ deadlock_free_tokens) p (behind_items deadlock_free_tokens deadlock_free_on_line) in
    let front_part = items_on_line (Some claim) (Symbol CloseParen ∷ claim) p (behind_items claim claim_on_line) in
    let same : separated item_tokens (Symbol Comma) items ++ Symbol CloseParen ∷ [] ++ deadlock_free_tokens ≡ separated item_tokens (Symbol Comma) items ++ (Symbol CloseParen ∷ deadlock_free_tokens) =
    append_assoc (separated item_tokens (Symbol Comma) items) (Symbol CloseParen ∷ []) deadlock_free_tokens in
    let same_front : separated item_tokens (Symbol Comma) items ++ Symbol CloseParen ∷ [] ++ claim ≡ separated item_tokens (Symbol Comma) items ++ (Symbol CloseParen ∷ claim) =
    append_assoc (separated item_tokens (Symbol Comma) items) (Symbol CloseParen ∷ []) claim in
    subst (λ l. Cuts front (line (Word word.Assert ∷ l) ++ rest) (Word word.Assert ∷ l ++ us))
    (ap (λ l. Name x ∷ Symbol OpenParen ∷ l) same ∙ sym (onto.onto _ (tree.rolls-Call x items) deadlock_free_tokens))
    (cuts_assertion (Name x) (Symbol OpenParen ∷ ts) rest us
    (f, (refl, subst (Every FitsLine) (sym same_front) front_part.fits))
    (f, (refl, subst (Every FitsLine) (sym same) whole.fits))
    (call_is_assertion x _ (ap (after_closing 1) same ∙ whole.closes)) c)

-- each declaration

cuts_annotation : (t : Token) (rest : List ℕ) (us : List Token) → ((rest : List ℕ) → Stands front (token_text t ++ 10 ∷ rest) (t ∷ []) (10 ∷ rest)) → Cuts front rest us →
    Cuts front (line (t ∷ []) ++ rest) (t ∷ us)
cuts_annotation t rest us s c =
    subst (λ l. Cuts front l (t ∷ us)) (sym (line_is t [] rest ∙ ap (λ l. token_text t ++ l) (no_spaced (10 ∷ rest))))
    (cuts_more (s rest) (cuts_more (feed_stands rest) c))

cuts_decl : {d : Decl} → MadeDecl Fits FitsLine d → (rest : List ℕ) (us : List Token) → Cuts front rest us → Cuts front (line (decl_tokens d) ++ rest) (decl_tokens d ++ us)
cuts_decl (m.made-channel {cs = cs} p) rest us c = cuts_line (Word word.Channel) _ rest us (refl, plain_names_tokens (Symbol Comma) (types_tokens []) tt p no_types) c
cuts_decl (m.made-channel-of {cs = cs} {types = types} p ps) rest us c =
    cuts_line (Word word.Channel) _ rest us (refl, plain_names_tokens (Symbol Comma) (types_tokens types) tt p (plain_types_tokens types ps)) c
cuts_decl (m.made-datatype {d = d} {xs = xs} p ps) rest us c =
    cuts_line (Word word.Datatype) _ rest us (refl, (p, (tt, without_rest (names_tokens (Symbol Bar) xs) (plain_names_tokens (Symbol Bar) [] tt ps tt)))) c
cuts_decl (m.made-nametype {x = x} {s = s} y p d) rest us c =
    cuts_line (Word word.Nametype) _ rest us (refl, (y, (tt, without_rest (operand_tokens s) (plain_operand [] p tt)))) c
cuts_decl (m.made-define {f = f} {xs = xs} {t = t} y ps p d) rest us c =
    cuts_line (Name f) _ rest us (y, plain_parameters (Symbol Defines ∷ printed_tokens t) ps (tt, without_rest (printed_tokens t) (plain_bare [] p tt))) c
cuts_decl (m.made-assert-name {x = x} p) rest us c = cuts_asserted_name x rest us p c
cuts_decl (m.made-assert-call {x = x} {items = items} p ps d) rest us c = cuts_asserted_call x items rest us p ps c
cuts_decl (m.made-roles {names = names} p) rest us c = cuts_annotation (token.Roles names) rest us (λ rest. roles_stands names rest p) c
cuts_decl (m.made-resource {names = names} p) rest us c = cuts_annotation (token.Resource names) rest us (λ rest. resource_stands names rest p) c

pub cuts_decls : {ds : List Decl} → MadeDecls Fits FitsLine ds → Cuts front (flat_map (λ d. line (decl_tokens d)) ds) (flat_map decl_tokens ds)
cuts_decls m.made-no-decls = cuts_nothing front
cuts_decls (m.made-decls p ps) = cuts_decl p _ _ (cuts_decls ps)
