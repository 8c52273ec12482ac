-- The silent bound from the heights of tables.
use Rattle.network_stages.proofs.Prelude.{◌≡◌, ℕ, ◌+◌, ◌<◌, length, take, get_or, add-one, List, [], ◌∷◌, ◌++◌, map, max, sym, ap, subst, ◌∙◌, arith, Proc, Content, Component, IsSilentBound, Room, HaveHeights, sum_of_greatest, heights_add_up, ProcessStep, AreTablesOf, AreTablesWithin, room_after, whole_room, ComponentTable, greatest, take-suc}

abbrev pub all_heights : List ComponentTable → List (List ℕ)
all_heights ts = map (λ (t : ComponentTable). t.heights) ts

have_heights : (p : Content) (room : Room) (cs : List (Component Proc)) (ts : List ComponentTable) → AreTablesWithin p room cs ts → HaveHeights (ProcessStep p) cs (all_heights ts)
have_heights p room [] [] are = tt
have_heights p room [] (t ∷ ts) are = absurd are
have_heights p room (c ∷ cs) [] are = absurd are
have_heights p room (c ∷ cs) (t ∷ ts) are = (
  record { terms = are.0.table.terms; raw = t.local.table; table = are.0.table.table; are_heights = are.0.heights },
  have_heights p (room_after room t.local.used) cs ts are.1,
)

pub bound_is : (ts : List ComponentTable) (n : ℕ) → n ≡ sum_of_greatest (all_heights ts) → (p : Content) (cs : List (Component Proc)) → AreTablesOf p cs ts
    → IsSilentBound (ProcessStep p) cs n
bound_is ts n sum p cs are = subst (IsSilentBound (ProcessStep p) cs) (sym sum) (heights_add_up (ProcessStep p) cs (all_heights ts) (have_heights p whole_room cs ts are))

three_max : (a b c : ℕ) → max a (max b c) ≡ max (max a b) c
three_max a b c = omega arith

two_max : (a : ℕ) → max a 0 ≡ max 0 a
two_max a = omega arith

pub one_more_height : (xs : List ℕ) (x : ℕ) → greatest (xs ++ x ∷ []) ≡ max (greatest xs) x
one_more_height [] x = two_max x
one_more_height (y ∷ xs) x = ap (max y) (one_more_height xs x) ∙ three_max y (greatest xs) x

pub one_more_bound : (ts : List ComponentTable) (t : ComponentTable) → sum_of_greatest (all_heights (ts ++ t ∷ [])) ≡ sum_of_greatest (all_heights ts) + greatest t.heights
one_more_bound [] t = omega arith
one_more_bound (u ∷ ts) t = let rest = one_more_bound ts t in omega (arith, rest)

-- one more number
pub one_greatest : (xs : List ℕ) (i d most next : ℕ) → i < length xs → most ≡ greatest (take i xs) → next ≡ max most (get_or xs i d) → next ≡ greatest (take (i + 1) xs)
one_greatest xs i d most next within so_far now =
    let grown : take i xs ++ get_or xs i d ∷ [] ≡ take (i + 1) xs = rw (add-one) (sym (take-suc xs i d within)) in
    now ∙ ap (λ m. max m (get_or xs i d)) so_far ∙ sym (one_more_height (take i xs) (get_or xs i d)) ∙ ap greatest grown

-- one more table
pub one_sum : (ts : List ComponentTable) (i : ℕ) (t : ComponentTable) (bound next : ℕ) → i < length ts → t ≡ get_or ts i t → bound ≡ sum_of_greatest (all_heights (take i ts))
    → next ≡ bound + greatest t.heights → next ≡ sum_of_greatest (all_heights (take (i + 1) ts))
one_sum ts i t bound next within is so_far now =
    let grown : take i ts ++ t ∷ [] ≡ take (i + 1) ts = rw (add-one) (ap (λ y. take i ts ++ y ∷ []) is ∙ sym (take-suc ts i t within)) in
    now ∙ ap (λ b. b + greatest t.heights) so_far ∙ sym (one_more_bound (take i ts) t) ∙ ap (λ us. sum_of_greatest (all_heights us)) grown
