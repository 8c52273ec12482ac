-- The marked numbers: how many there are, that they rise, and that they are exactly those that are marked.
use Rattle.numbered_walks.proofs.Prelude.{◌≡◌, ℕ, zero, suc, ◌+◌, ◌<◌, ◌≤◌, Bool, true, false, List, [], ◌∷◌, Some, length, take, get_or, slice_get, refl, ap, subst, ◌∙◌, arith, none-some, same_Some, false≢true, mark_count, marked, places_from}
use Rattle.numbered_walks.proofs.Counting.{nth_place}

pub as_many : (k : ℕ) (ms : List Bool) → length (places_from k ms) ≡ mark_count ms
as_many k [] = refl
as_many k (true ∷ ms) = let rest = as_many (k + 1) ms in omega (arith, rest)
as_many k (false ∷ ms) = as_many (k + 1) ms

-- none is below the place of the first mark
pub from_first : (k : ℕ) (ms : List Bool) (j n : ℕ) → slice_get (places_from k ms) j ≡ Some n → k ≤ n
from_first k [] j n at = absurd (none-some n at)
from_first k (true ∷ ms) zero n at = let same = same_Some k n at in omega (arith, same)
from_first k (true ∷ ms) (suc j) n at = let rest = from_first (k + 1) ms j n at in omega (arith, rest)
from_first k (false ∷ ms) j n at = let rest = from_first (k + 1) ms j n at in omega (arith, rest)

pub places_rise : (k : ℕ) (ms : List Bool) (i j m n : ℕ) → i < j → slice_get (places_from k ms) i ≡ Some m → slice_get (places_from k ms) j ≡ Some n → m < n
places_rise k [] i j m n less at there = absurd (none-some m at)
places_rise k (true ∷ ms) i zero m n less at there = absurd (omega (arith, less))
places_rise k (true ∷ ms) zero (suc j) m n less at there =
    let first = same_Some k m at in
    let later = from_first (k + 1) ms j n there in
    omega (arith, first, later)
places_rise k (true ∷ ms) (suc i) (suc j) m n less at there = places_rise (k + 1) ms i j m n (omega (arith, less)) at there
places_rise k (false ∷ ms) i j m n less at there = places_rise (k + 1) ms i j m n less at there

-- a place is that of a mark
pub record IsMarkedAt (k : ℕ) (ms : List Bool) (n : ℕ) : Type 0 where
  pub number : ℕ
  pub place : n ≡ k + number
  pub mark : get_or ms number false ≡ true

pub is_marked : (k : ℕ) (ms : List Bool) (j n : ℕ) → slice_get (places_from k ms) j ≡ Some n → IsMarkedAt k ms n
is_marked k [] j n at = absurd (none-some n at)
is_marked k (true ∷ ms) zero n at = let same = same_Some k n at in record { number = 0; place = omega (arith, same); mark = refl }
is_marked k (true ∷ ms) (suc j) n at = let rest = is_marked (k + 1) ms j n at in record { number = suc rest.number; place = (let place = rest.place in omega (arith, place)); mark = rest.mark }
is_marked k (false ∷ ms) j n at = let rest = is_marked (k + 1) ms j n at in record { number = suc rest.number; place = (let place = rest.place in omega (arith, place)); mark = rest.mark }

pub marked_is : (ms : List Bool) (j n : ℕ) → slice_get (marked ms) j ≡ Some n → get_or ms n false ≡ true
marked_is ms j n at =
    let here = is_marked 0 ms j n at in
    let same : here.number ≡ n = (let place = here.place in omega (arith, place)) in
    subst (λ i. get_or ms i false ≡ true) same here.mark

-- a marked number is within
pub mark_within : (ms : List Bool) (n : ℕ) → get_or ms n false ≡ true → n < length ms
mark_within [] n is = absurd (false≢true is)
mark_within (m ∷ ms) zero is = omega arith
mark_within (m ∷ ms) (suc n) is = let rest = mark_within ms n is in omega (arith, rest)

-- the place of a marked number
pub place_of_mark : (ms : List Bool) (n : ℕ) → get_or ms n false ≡ true → slice_get (marked ms) (mark_count (take n ms)) ≡ Some n
place_of_mark ms n is = nth_place 0 n ms (mark_within ms n is) is ∙ ap Some (omega arith)
