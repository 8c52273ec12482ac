-- Lines: groups of tokens that may be missing, and one line behind another.
use Rattle.script_printer.proofs.Prelude.{◌≡◌, ℕ, suc, ◌+◌, ◌<◌, ◌≤◌, true, false, List, [], ◌∷◌, ◌++◌, length, drop, get_or, add-one, ap, sym, refl, ◌∙◌, append_assoc, flat_map, ◌==◌, drop_of_length-le, false≢true, append-nil, Colon, Comma, Dot, OpenParen, CloseParen, Tree, Symbol, operand_tokens, separated, names_tokens, parameters_tokens, types_tokens}
use Rattle.script_printer.proofs.Written.{empty_list, split_at}

pub no_types : (types : List Tree) → (length types == 0) ≡ true → types_tokens types ≡ []
unfolding types_tokens
no_types types test = ap types_tokens (empty_list types test)

pub some_types : (types : List Tree) → (length types == 0) ≡ false → types_tokens types ≡ Symbol Colon ∷ separated operand_tokens (Symbol Dot) types
unfolding types_tokens
some_types [] test = absurd (false≢true (sym test))
some_types (a ∷ types) test = refl

pub no_parameters : (names : List (List ℕ)) → (length names == 0) ≡ true → parameters_tokens names ≡ []
unfolding parameters_tokens
no_parameters names test = ap parameters_tokens (empty_list names test)

pub some_parameters : (names : List (List ℕ)) → (length names == 0) ≡ false
    → parameters_tokens names ≡ Symbol OpenParen ∷ names_tokens (Symbol Comma) names ++ Symbol CloseParen ∷ []
unfolding parameters_tokens
some_parameters [] test = absurd (false≢true (sym test))
some_parameters (x ∷ names) test = refl

pub ruleset groups = (no_types, some_types, no_parameters, some_parameters, append-nil)

-- one more is written
pub bytes_step : {X : Type 0} (shown : X → List ℕ) (xs : List X) (i : ℕ) (x : X) (start end whole : List ℕ)
    → i < length xs → x ≡ get_or xs i x → end ≡ start ++ shown x
    → start ++ flat_map shown (drop i xs) ≡ whole → end ++ flat_map shown (drop (i + 1) xs) ≡ whole
bytes_step shown xs i x start end whole within is more_is so_far =
    rw add-one
    (ap (λ l. l ++ flat_map shown (drop (suc i) xs)) more_is
    ∙ append_assoc start (shown x) (flat_map shown (drop (suc i) xs))
    ∙ ap (λ l. start ++ flat_map shown l) (sym (split_at xs i x within is))
    ∙ so_far)

pub bytes_end : {X : Type 0} (shown : X → List ℕ) (xs : List X) (i : ℕ) (end whole : List ℕ) → length xs ≤ i
    → end ++ flat_map shown (drop i xs) ≡ whole → end ≡ whole
bytes_end shown xs i end whole at_end so_far =
    sym (append-nil end) ∙ ap (λ l. end ++ flat_map shown l) (sym (drop_of_length-le xs at_end)) ∙ so_far
