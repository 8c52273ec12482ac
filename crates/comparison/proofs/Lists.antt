-- Lists that agree or differ at some place.
use Rattle.comparison.proofs.Prelude.{◌≡◌, ℕ, suc, ◌<◌, ◌≤◌, inl, inr, List, [], ◌∷◌, length, Bool, true, false, MatchBool, nat_eq, Option, Some, None, refl, sym, ap, ap₂, ◌∙◌, arith, slice_get, option_map, bytes_decides, cases_lt, false≢true, length-map, same_Some, slice_get-map, slice_get_past, Proc, Content, Component, alphabets, printed_events, pointwise}

-- lists that agree at each place are the same
pub same_everywhere : {X : Type 0} (xs ys : List X) → ((k : ℕ) → slice_get xs k ≡ slice_get ys k) → xs ≡ ys
same_everywhere [] [] same = refl
same_everywhere [] (y ∷ ys) same = absurd (let no : ◌≡◌ {A = Option _} None (Some y) = same 0 in cc)
same_everywhere (x ∷ xs) [] same = absurd (let no : ◌≡◌ {A = Option _} (Some x) None = same 0 in cc)
same_everywhere (x ∷ xs) (y ∷ ys) same = ap₂ (λ z zs. z ∷ zs) (same_Some x y (same 0)) (same_everywhere xs ys (λ k. same (suc k)))

-- the same, where both end before the place n
pub same_before : {X : Type 0} (xs ys : List X) (n : ℕ) → length xs ≤ n → length ys ≤ n → ((k : ℕ) → k < n → slice_get xs k ≡ slice_get ys k) → xs ≡ ys
same_before xs ys n few others same = same_everywhere xs ys (λ k. elim (cases_lt k n) [
  | inl before ↦ same k before
  | inr after ↦ slice_get_past xs k (omega arith) ∙ sym (slice_get_past ys k (omega arith))
])

-- ---- events

pub as_many_events : (p : Content) → length (printed_events p) ≡ length p.events
as_many_events p = length-map p.events _

-- ---- alphabets

pub as_many_alphabets : (cs : List (Component Proc)) → length (alphabets cs) ≡ length cs
as_many_alphabets cs = length-map cs _

pub alphabet_there : (cs : List (Component Proc)) (k : ℕ) (c : Component Proc) → slice_get cs k ≡ Some c → slice_get (alphabets cs) k ≡ Some c.alphabet
alphabet_there cs k c at = slice_get-map (λ (x : Component Proc). x.alphabet) cs k ∙ ap (option_map (λ (x : Component Proc). x.alphabet)) at

-- whether two components that are there have the same alphabet
pub alphabets_match : (cs ds : List (Component Proc)) (k : ℕ) (c d : Component Proc) (same : Bool) → slice_get cs k ≡ Some c → slice_get ds k ≡ Some d → same ≡ pointwise nat_eq c.alphabet d.alphabet
    → MatchBool same (slice_get (alphabets cs) k ≡ slice_get (alphabets ds) k) (slice_get (alphabets cs) k ≡ slice_get (alphabets ds) k → ⊥)
alphabets_match cs ds k c d true here there is =
    alphabet_there cs k c here ∙ ap (λ (a : List ℕ). Some a) ((bytes_decides c.alphabet d.alphabet).0 (sym is)) ∙ sym (alphabet_there ds k d there)
alphabets_match cs ds k c d false here there is = λ same.
    false≢true (is ∙ (bytes_decides c.alphabet d.alphabet).1 (same_Some c.alphabet d.alphabet (sym (alphabet_there cs k c here) ∙ same ∙ alphabet_there ds k d there)))
