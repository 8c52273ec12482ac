-- Tokens and their places side by side.
use Rattle.csp_lexer.proofs.Prelude.{◌≡◌, ℕ, List, [], ◌∷◌, ◌++◌, length, refl, sym, ap, ◌∙◌, arith, unwrap_or-slice_get, firsts-zip, seconds-zip, slice_get, zip, unwrap_or, Option, get_or, Place, Token, PlacedTokens, place_at, tokens_of}

zip-append : {A B : Type 0} (xs ys : List A) (us vs : List B) → length us ≡ length xs → zip (xs ++ ys) (us ++ vs) ≡ zip xs us ++ zip ys vs
zip-append [] ys [] vs is = refl
zip-append [] ys (u ∷ us) vs is = absurd (omega arith)
zip-append (x ∷ xs) ys [] vs is = absurd (omega arith)
zip-append (x ∷ xs) ys (u ∷ us) vs is = ap (λ l. (x, u) ∷ l) (zip-append xs ys us vs (omega arith))

pub tokens_there : (tokens : List Token) (places : List Place) (text : PlacedTokens) → length places ≡ length tokens → zip tokens places ≡ text.placed → tokens ≡ tokens_of text.placed
tokens_there tokens places text long is = sym (firsts-zip tokens places long) ∙ ap tokens_of is

pub place_there : (tokens : List Token) (places : List Place) (end : Place) (text : PlacedTokens) (i : ℕ) (found : Option Place) → length places ≡ length tokens
    → ◌≡◌ {A = PlacedTokens} (record { placed = zip tokens places; end = end }) text → found ≡ slice_get places i → unwrap_or found end ≡ place_at text i
place_there tokens places end text i found long is found_is =
    ap (λ o. unwrap_or o end) found_is ∙ unwrap_or-slice_get places i end ∙ ap (λ l. get_or l i end) (sym (seconds-zip tokens places long)) ∙ ap (λ t. place_at t i) is

pub all_joined : (ts us : List Token) (ps qs : List Place) (here behind : List (Token × Place)) {tokens : List Token} {places : List Place} → length ps ≡ length ts → zip ts ps ≡ here
    → zip us qs ≡ behind → tokens ≡ ts ++ us → places ≡ ps ++ qs → zip tokens places ≡ here ++ behind
all_joined ts us ps qs here behind long here_is behind_is tokens_are places_are =
    (λ i. zip (tokens_are i) (places_are i)) ∙ zip-append ts us ps qs long ∙ (λ i. here_is i ++ behind_is i)
