-- Counting over lists of parts and of ranks, from the front.
use Rattle.judgement.proofs.Prelude.{◌≡◌, ℕ, zero, suc, ◌+◌, ◌*◌, ◌^◌, ◌<◌, ◌≤◌, ℤ, max, List, [], ◌∷◌, ◌++◌, Vec, length, map, take, get_or, refl, sym, ap, ◌∙◌, add-one, arith, flat_map, Part, part_at, PartRanks, greatest_from, node_count, Global, take-suc, natural, MOST_COMPONENTS, MOST_SETS, flat_map_push}

one_more_part : (parts : List Part) (part : Part) → node_count (parts ++ part ∷ []) ≡ node_count parts + length part.table
one_more_part [] part = omega arith
one_more_part (p ∷ parts) part = let rest = one_more_part parts part in omega (arith, rest)

greatest_append : (m : ℕ) (xs ys : List ℤ) → greatest_from m (xs ++ ys) ≡ greatest_from (greatest_from m xs) ys
greatest_append m [] ys = refl
greatest_append m (x ∷ xs) ys = greatest_append (max m (natural x)) xs ys

grown : {A : Type 0} (xs : List A) (i : ℕ) (d : A) → i < length xs → take i xs ++ get_or xs i d ∷ [] ≡ take (i + 1) xs
grown xs i d within = rw (add-one) (sym (take-suc xs i d within))

-- one more part
pub one_count : (parts : List Part) (i : ℕ) (part : Part) (count next : ℕ) → i < length parts → part ≡ get_or parts i part → count ≡ node_count (take i parts)
    → next ≡ count + length part.table → next ≡ node_count (take (i + 1) parts)
one_count parts i part count next within is so_far now =
    now ∙ ap (λ n. n + length part.table) so_far ∙ sym (one_more_part (take i parts) part)
    ∙ ap node_count (ap (λ x. take i parts ++ x ∷ []) is ∙ grown parts i part within)

-- ---- the nodes are counted in 32 bits

front_count : (parts : List Part) (n : ℕ) → node_count (take n parts) ≤ node_count parts
front_count [] zero = omega arith
front_count [] (suc n) = omega arith
front_count (p ∷ parts) zero = omega arith
front_count (p ∷ parts) (suc n) = let rest = front_count parts n in omega (arith, rest)

pub still_fits : (parts : List Part) (i : ℕ) (part : Part) (count : ℕ) → i < length parts → part ≡ get_or parts i part → count ≡ node_count (take i parts)
    → node_count parts < 2 ^ 32 → count + length part.table < 2 ^ 32
still_fits parts i part count within is so_far fits =
    let grown = one_count parts i part count (count + length part.table) within is so_far refl in
    let front = front_count parts (i + 1) in
    omega (arith, grown, front, fits)

low_count : (parts : List Part) → ((i : ℕ) → i < length parts → length (part_at parts i).table ≤ MOST_SETS) → node_count parts ≤ length parts * MOST_SETS
low_count [] nodes = omega arith
low_count (p ∷ parts) nodes =
    let first : length p.table ≤ MOST_SETS = nodes 0 (omega arith) in
    let rest = low_count parts (λ i below. nodes (suc i) (omega (arith, below))) in
    omega (arith, first, rest)

pub few_nodes : (parts : List Part) → length parts ≤ MOST_COMPONENTS → ((i : ℕ) → i < length parts → length (part_at parts i).table ≤ MOST_SETS)
    → node_count parts < 2 ^ 32
few_nodes parts few nodes = let low = low_count parts nodes in omega (arith, few, low)

-- ---- ranks

-- one more rank
pub one_rank : (m : ℕ) (xs : List ℤ) (i : ℕ) (d : ℤ) (most next : ℕ) → i < length xs → most ≡ greatest_from m (take i xs) → next ≡ max most (natural (get_or xs i d))
    → next ≡ greatest_from m (take (i + 1) xs)
one_rank m xs i d most next within so_far now =
    now ∙ ap (λ n. max n (natural (get_or xs i d))) so_far ∙ sym (greatest_append m (take i xs) (get_or xs i d ∷ [])) ∙ ap (greatest_from m) (grown xs i d within)

-- the ranks of one more member of a list
one_more : {A : Type 0} (f : A → List ℤ) (m : ℕ) (xs : List A) (i : ℕ) (x : A) (most next : ℕ) → i < length xs → x ≡ get_or xs i x
    → most ≡ greatest_from m (flat_map f (take i xs)) → next ≡ greatest_from most (f x) → next ≡ greatest_from m (flat_map f (take (i + 1) xs))
one_more f m xs i x most next within is so_far now =
    now ∙ ap (λ n. greatest_from n (f x)) so_far ∙ sym (greatest_append m (flat_map f (take i xs)) (f x)) ∙ ap (greatest_from m) (sym (flat_map_push f (take i xs) x))
    ∙ ap (λ ys. greatest_from m (flat_map f ys)) (ap (λ z. take i xs ++ z ∷ []) is ∙ grown xs i x within)

flat_rows : (rows : List (Vec ℤ Global)) → flat_map (λ row. row) (map (λ (row : Vec ℤ Global). row.items) rows) ≡ flat_map (λ (row : Vec ℤ Global). row.items) rows
flat_rows [] = refl
flat_rows (row ∷ rows) = ap (λ z. row.items ++ z) (flat_rows rows)

pub one_row : (m : ℕ) (rows : List (Vec ℤ Global)) (i : ℕ) (row : Vec ℤ Global) (most next : ℕ) → i < length rows → row ≡ get_or rows i row
    → most ≡ greatest_from m (flat_map (λ row. row) (map (λ (row : Vec ℤ Global). row.items) (take i rows))) → next ≡ greatest_from most row.items
    → next ≡ greatest_from m (flat_map (λ row. row) (map (λ (row : Vec ℤ Global). row.items) (take (i + 1) rows)))
one_row m rows i row most next within is so_far now =
    one_more (λ (row : Vec ℤ Global). row.items) m rows i row most next within is (so_far ∙ ap (greatest_from m) (flat_rows (take i rows))) now
    ∙ ap (greatest_from m) (sym (flat_rows (take (i + 1) rows)))

pub one_part : (m : ℕ) (parts : List PartRanks) (i : ℕ) (part : PartRanks) (most next : ℕ) → i < length parts → part ≡ get_or parts i part
    → most ≡ greatest_from m (flat_map (λ (part : PartRanks). flat_map (λ row. row) part.ranks) (take i parts)) → next ≡ greatest_from most (flat_map (λ row. row) part.ranks)
    → next ≡ greatest_from m (flat_map (λ (part : PartRanks). flat_map (λ row. row) part.ranks) (take (i + 1) parts))
one_part m parts i part most next within is so_far now =
    one_more (λ (part : PartRanks). flat_map (λ row. row) part.ranks) m parts i part most next within is so_far now
