-- The word at the front of a text, and the token that it is.
use Rattle.std.specs.Prelude.{ℕ, ◌+◌, Bool, not, ◌&&◌, nat_lt, nat_eq, if◌then◌else◌, List, [], ◌∷◌, length, drop, find, Option, Some, None, is_none}
use Rattle.csp_base.specs.Standard.{prefix_len, bytes_eq}
use Rattle.csp_text.specs.Prelude.{word_text, words}
use Rattle.csp_text.specs.declared.token.Token.{Token}
use Rattle.csp_text.specs.declared.token.Word.{Word}
use Rattle.csp_text.specs.declared.token.Token.TheVariants as token
use Rattle.csp_lexer.specs.Words.{is_foreign, is_letter, is_name_byte}

-- the prime '
abbrev pub is_prime : ℕ → Bool
is_prime b = nat_eq b 39

-- How many bytes may follow the first letter of a word: all letters, digits and underscores, and then all primes.
unfoldable pub word_rest_len : List ℕ → ℕ
word_rest_len text = prefix_len is_name_byte text + prefix_len is_prime (drop (prefix_len is_name_byte text) text)

-- the length of the longest word that a text begins with, 0 where it begins with none. A word begins with a letter.
unfoldable pub word_len : List ℕ → ℕ
word_len [] = 0
word_len (b ∷ text) = if is_letter b then 1 + word_rest_len text else 0

-- the reserved word that is written so
unfoldable pub reserved_word : List ℕ → Option Word
reserved_word bytes = find (λ word. bytes_eq bytes (word_text word)) words

-- the bytes are one word, and it is not reserved
unfoldable pub is_name : List ℕ → Bool
is_name bytes =
    nat_lt 0 (length bytes) && nat_eq (word_len bytes) (length bytes) && is_none (reserved_word bytes) && not (is_foreign bytes)

-- the token that a word is: the reserved word that was found, or a name
abbrev pub word_or_name : Option Word → List ℕ → Option Token
word_or_name (Some word) bytes = Some (token.Word word)
word_or_name None bytes = if is_foreign bytes then None else Some (token.Name bytes)

abbrev pub word_token : List ℕ → Option Token
word_token bytes = word_or_name (reserved_word bytes) bytes
