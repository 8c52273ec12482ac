-- Words of a text: names and reserved words.
use Rattle.std.specs.Prelude.{◌≡◌, ℕ, Bool, true, false, ◌&&◌, ◌||◌, nat_le, nat_eq, List, [], ◌∷◌, ◌++◌, codes}
use Rattle.csp_base.specs.Standard.{list_all, list_any, bytes_eq}
use Rattle.csp_text.specs.Prelude.{word_text}
use Rattle.csp_text.specs.declared.token.Word.{Word}

-- a letter, A to Z or a to z
abbrev pub is_letter : ℕ → Bool
is_letter b = (nat_le 65 b && nat_le b 90) || (nat_le 97 b && nat_le b 122)

-- a digit, 0 to 9
abbrev pub is_digit : ℕ → Bool
is_digit b = nat_le 48 b && nat_le b 57

-- a letter, a digit or an underscore
abbrev pub is_name_byte : ℕ → Bool
is_name_byte b = is_letter b || is_digit b || nat_eq b 95

-- a word: a letter, then letters, digits and underscores, and then primes
pub data IsWord : List ℕ → Type 0 where
  word : {b : ℕ} (name primes : List ℕ) → is_letter b ≡ true → list_all is_name_byte name ≡ true → list_all (λ c. nat_eq c 39) primes ≡ true → IsWord (b ∷ name ++ primes)

-- words that only a larger language reserves; none of them is a token
abbrev pub foreign_words : List (List ℕ)
foreign_words =
    codes "external" ∷ codes "include" ∷ codes "lambda" ∷ codes "let" ∷ codes "module" ∷ codes "print"
    ∷ codes "subtype" ∷ codes "timed" ∷ codes "transparent" ∷ codes "within" ∷ []

unfoldable pub is_foreign : List ℕ → Bool
is_foreign bytes = list_any (λ word. bytes_eq bytes word) foreign_words

-- a name is a word that is reserved neither here nor in a larger language
abbrev pub IsName : List ℕ → Type 0
IsName x = IsWord x × ((w : Word) → x ≡ word_text w → ⊥) × (is_foreign x ≡ false)
