-- Comments. A line comment begins with `--` and takes the rest of its line. A comment that begins with `{-` goes on to its `-}`,
-- and such comments nest.
use Rattle.std.specs.Prelude.{ℕ, zero, suc, not, nat_eq, if◌then◌else◌, List, [], ◌∷◌, codes, Option, Some, None}
use Rattle.std.specs.List.{prefix_len, starts_with}

-- what is left of a text once so many open comments are closed
unfoldable pub after_comments : ℕ → List ℕ → Option (List ℕ)
after_comments zero text = Some text
after_comments (suc n) [] = None
after_comments (suc n) (b ∷ []) = None
after_comments (suc n) (b ∷ c ∷ text) =
    if starts_with nat_eq (b ∷ c ∷ text) (codes "{-") then after_comments (suc (suc n)) text
    else if starts_with nat_eq (b ∷ c ∷ text) (codes "-}") then after_comments n text
    else after_comments (suc n) (c ∷ text)

-- how many bytes the text has up to its first line feed
unfoldable pub line_len : List ℕ → ℕ
line_len text = prefix_len (λ b. not (nat_eq b 10)) text
