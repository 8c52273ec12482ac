-- The heights of a table are below the number of its terms: below each height stand all lower ones, each at a term of its own.
use Rattle.network_stages.proofs.Prelude.{◌≡◌, ℕ, zero, suc, ◌+◌, ◌-◌, ◌*◌, ◌<◌, ◌≤◌, List, [], ◌∷◌, Some, slice_get, get_or, length, min, take, refl, ap, subst, ◌∙◌, inl, inr, arith, cases_lt, none-some, same_Some, slice_get-get_or, slice_get_within, Proc, Content, silent, Component, SilentStep, RawStep, Walk, Room, sum_of_greatest, AreTablesOf, AreTablesWithin, IsTableWithin, room_after, whole_room, ComponentTable, greatest, AreHeights, MOST_COMPONENTS, MOST_TERMS}
use Rattle.network_stages.proofs.HeightSums.{all_heights, one_sum}

-- how many of the numbers are below m
abbrev below : ℕ → List ℕ → ℕ
below m [] = 0
below m (x ∷ xs) = min 1 (m - x) + below m xs

no_more : (m : ℕ) (xs : List ℕ) → below m xs ≤ length xs
no_more m [] = omega arith
no_more m (x ∷ xs) = let rest = no_more m xs in omega (arith, rest)

grows : (m : ℕ) (xs : List ℕ) → below m xs ≤ below (suc m) xs
grows m [] = omega arith
grows m (x ∷ xs) = let rest = grows m xs in omega (arith, rest)

one_new : (m : ℕ) (xs : List ℕ) (i : ℕ) → slice_get xs i ≡ Some m → below m xs + 1 ≤ below (suc m) xs
one_new m [] i at = absurd (none-some m at)
one_new m (x ∷ xs) zero at =
    let here : x ≡ m = same_Some x m at in
    let rest = grows m xs in
    omega (arith, here, rest)
one_new m (x ∷ xs) (suc i) at = let rest = one_new m xs i at in omega (arith, rest)

-- numbers of which all below m are listed
all_below : (m : ℕ) (xs : List ℕ) → ((k : ℕ) → k < m → (i : ℕ) × (slice_get xs i ≡ Some k)) → m ≤ below m xs
all_below zero xs listed = omega arith
all_below (suc m) xs listed =
    let rest = all_below m xs (λ k less. listed k (omega (arith, less))) in
    let last = listed m (omega arith) in
    let new = one_new m xs last.0 last.1 in
    omega (arith, rest, new)

module _ (Arc : ℕ → ℕ → Type 0) (count : ℕ) (heights : List ℕ) (are : AreHeights Arc count heights) (inside : (v w : ℕ) → Arc v w → w < count) where
  -- from a term of this height, a term of each lower one
  lower : (h v : ℕ) → v < count → get_or heights v 0 ≡ h → (k : ℕ) → k ≤ h → (w : ℕ) × (w < count) × (get_or heights w 0 ≡ k)
  lower zero v within is k less = (v, within, omega (arith, is, less))
  lower (suc h) v within is k less =
      elim (cases_lt h k) as (λ _. (w : ℕ) × (w < count) × (get_or heights w 0 ≡ k)) [
        | inl top ↦ (v, within, omega (arith, is, less, top))
        | inr under ↦
            let longest = are.each v within in
            let walk : Walk Arc (suc h) v longest.end = subst (λ n. Walk Arc n v longest.end) is longest.attained in
            let w : ℕ = walk.0 in
            let there : w < count = inside v w walk.1 in
            let least : h ≤ get_or heights w 0 = (are.each w there).most h longest.end walk.2 in
            let further : suc (get_or heights w 0) ≤ get_or heights v 0 = longest.most (suc (get_or heights w 0)) (are.each w there).end (w, walk.1, (are.each w there).attained) in
            lower h w there (omega (arith, is, least, further)) k under
      ]

  low : (v : ℕ) → v < count → get_or heights v 0 < count
  low v within =
      let many : length heights ≡ count = are.one_each in
      let all = all_below (suc (get_or heights v 0)) heights (λ k less.
      let w = lower (get_or heights v 0) v within refl k (omega (arith, less)) in
      (w.0, slice_get-get_or heights w.0 0 (let there : w.0 < count = w.1 in omega (arith, many, there)) ∙ ap Some w.2)) in
      let few = no_more (suc (get_or heights v 0)) heights in
      omega (arith, many, all, few)

at_most : (xs : List ℕ) (n : ℕ) → ((i : ℕ) → i < length xs → get_or xs i 0 ≤ n) → greatest xs ≤ n
at_most [] n each = omega arith
at_most (x ∷ xs) n each =
    let first : x ≤ n = each 0 (omega arith) in
    let rest = at_most xs n (λ i within. each (suc i) (omega (arith, within))) in
    omega (arith, first, rest)

-- the heights of a component's table
low_heights : (p : Content) (room : Room) (c : Component Proc) (t : ComponentTable) → IsTableWithin p room c t → greatest t.heights ≤ MOST_TERMS
low_heights p room c t is =
    let terms = is.table.terms in
    let few : length terms ≤ MOST_TERMS = is.table.few in
    let count : length terms ≡ t.local.table.count = is.table.table.count in
    let many : length t.heights ≡ t.local.table.count = is.heights.one_each in
    let inside : (v w : ℕ) → SilentStep (RawStep t.local.table) v w → w < t.local.table.count = λ v w arc.
    let s = is.table.table.sound v w silent arc in
    let there = slice_get_within terms w s.goal s.to in
    omega (arith, count, there) in
    at_most t.heights MOST_TERMS (λ i within.
    let less = low (SilentStep (RawStep t.local.table)) t.local.table.count t.heights is.heights inside i (omega (arith, within, many)) in
    omega (arith, less, few, count))

low_sum : (p : Content) (room : Room) (cs : List (Component Proc)) (ts : List ComponentTable) → AreTablesWithin p room cs ts → sum_of_greatest (all_heights ts) ≤ length ts * MOST_TERMS
low_sum p room [] [] are = omega arith
low_sum p room [] (t ∷ ts) are = absurd are
low_sum p room (c ∷ cs) [] are = absurd are
low_sum p room (c ∷ cs) (t ∷ ts) are =
    let first = low_heights p room c t are.0 in
    let rest = low_sum p (room_after room t.local.used) cs ts are.1 in
    omega (arith, first, rest)

-- the silent bound of at most 512 components is a number of 32 bits
pub few_silent : (ts : List ComponentTable) → length ts ≤ MOST_COMPONENTS → (p : Content) × (cs : List (Component Proc)) × AreTablesOf p cs ts → sum_of_greatest (all_heights ts) < 4294967296
few_silent ts few (p, cs, are) = let sum = low_sum p whole_room cs ts are in omega (arith, few, sum)

-- a sum of the first few heights is no larger
front_sum : (ts : List ComponentTable) (n : ℕ) → sum_of_greatest (all_heights (take n ts)) ≤ sum_of_greatest (all_heights ts)
front_sum [] zero = omega arith
front_sum [] (suc n) = omega arith
front_sum (t ∷ ts) zero = omega arith
front_sum (t ∷ ts) (suc n) = let rest = front_sum ts n in omega (arith, rest)

pub still_fits : (ts : List ComponentTable) (i : ℕ) (t : ComponentTable) (bound : ℕ) → i < length ts → t ≡ get_or ts i t → bound ≡ sum_of_greatest (all_heights (take i ts))
    → sum_of_greatest (all_heights ts) < 4294967296 → bound + greatest t.heights < 4294967296
still_fits ts i t bound within is so_far fits =
    let grown = one_sum ts i t bound (bound + greatest t.heights) within is so_far refl in
    let front = front_sum ts (i + 1) in
    omega (arith, grown, front, fits)
