-- When a normal table conforms to another one, its specification: what it does, the specification does, and wherever it comes to rest it offers
-- enough. And where it does not.
use Rattle.std.specs.Prelude.{◌≡◌, ◌<◌, ℕ, List, [], ◌∷◌, ◌++◌, length, get_or}
use Rattle.csp_tables.specs.Prelude.{HasForm, Part, Node, IsRun, acceptances_after, IsWithin}

-- both have the form of tables over one alphabet
pub record AreMatched (part specified : Part) : Type 0 where
  pub form : HasForm part
  pub specified_form : HasForm specified
  pub alphabet : part.alphabet ≡ specified.alphabet

-- one of the sets lies within M
pub record HasWithin (sets : List (List ℕ)) (M : List ℕ) : Type 0 where
  pub place : ℕ
  pub within : place < length sets
  pub lies : IsWithin (get_or sets place []) M

-- Every run of the table is one of its specification, and after it every acceptance contains one of the specification.
pub record TableConforms (table specified : List Node) : Type 0 where
  pub runs : (s : List ℕ) → IsRun table s → IsRun specified s
  pub acceptances : (s : List ℕ) (k : ℕ) → IsRun table s → k < length (acceptances_after table s) → HasWithin (acceptances_after specified s) (get_or (acceptances_after table s) k [])

-- The list runs in the table and not in its specification. Without its last event it runs in both.
pub record RunsOutside (table specified : List Node) (s : List ℕ) : Type 0 where
  pub front : List ℕ
  pub last : ℕ
  pub is : s ≡ front ++ last ∷ []
  pub inside : IsRun specified front
  pub runs : IsRun table s
  pub outside : IsRun specified s → ⊥

-- Every run of the table is one of its specification, and after this one an acceptance contains none of the specification.
pub record RefusesAfter (table specified : List Node) (s : List ℕ) : Type 0 where
  pub inside : (t : List ℕ) → IsRun table t → IsRun specified t
  pub runs : IsRun table s
  pub place : ℕ
  pub within : place < length (acceptances_after table s)
  pub refuses : HasWithin (acceptances_after specified s) (get_or (acceptances_after table s) place []) → ⊥
