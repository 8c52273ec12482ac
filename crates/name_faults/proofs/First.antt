-- The first name that a test finds in a row, from what it finds in those that are left.
use Rattle.name_faults.proofs.Prelude.{◌≡◌, ℕ, ◌+◌, ◌<◌, Bool, true, false, Option, Some, None, List, [], ◌∷◌, length, map, drop, get_or, ap, sym, ◌∙◌, Bor, drop_read, Name, first_name, Occurrence, seen, list_any}

module _ (test : Occurrence Name → Option Name) (os : List (Occurrence (Bor Name))) (i : ℕ) (o : Occurrence (Bor Name)) (whole : Option Name) where
  pub found_later : i < length os → o ≡ get_or os i o → test (seen o) ≡ None → first_name test (map seen (drop i os)) ≡ whole → first_name test (map seen (drop (i + 1) os)) ≡ whole
  found_later within is none so_far =
      let e : first_name test (seen o ∷ map seen (drop (i + 1) os)) ≡ whole = ap (λ ps. first_name test (map seen ps)) (sym (drop_read os i o within is)) ∙ so_far in
      rw none at e

  pub found_now : (x : Name) → i < length os → o ≡ get_or os i o → test (seen o) ≡ Some x → first_name test (map seen (drop i os)) ≡ whole → Some x ≡ whole
  found_now x within is some so_far =
      let e : first_name test (seen o ∷ map seen (drop (i + 1) os)) ≡ whole = ap (λ ps. first_name test (map seen ps)) (sym (drop_read os i o within is)) ∙ so_far in
      rw some at e

module _ (test : Occurrence Name → Bool) (os : List (Occurrence (Bor Name))) (i : ℕ) (o : Occurrence (Bor Name)) (whole : Bool) where
  pub any_later : i < length os → o ≡ get_or os i o → test (seen o) ≡ false → list_any test (map seen (drop i os)) ≡ whole → list_any test (map seen (drop (i + 1) os)) ≡ whole
  any_later within is none so_far =
      let e : list_any test (seen o ∷ map seen (drop (i + 1) os)) ≡ whole = ap (λ ps. list_any test (map seen ps)) (sym (drop_read os i o within is)) ∙ so_far in
      rw none at e

  pub any_now : i < length os → o ≡ get_or os i o → test (seen o) ≡ true → list_any test (map seen (drop i os)) ≡ whole → true ≡ whole
  any_now within is some so_far =
      let e : list_any test (seen o ∷ map seen (drop (i + 1) os)) ≡ whole = ap (λ ps. list_any test (map seen ps)) (sym (drop_read os i o within is)) ∙ so_far in
      rw some at e

pub ruleset found = (found_later, found_now)

pub ruleset found_any = (any_later, any_now)
