-- The sizes of the blocks: they stay the same in all when a block is divided, and no block is empty.
use Rattle.partitions.proofs.Prelude.{◌≡◌, ℕ, zero, suc, ◌+◌, ◌-◌, ◌<◌, ◌≤◌, List, [], ◌∷◌, ◌++◌, length, set, get_or, arith, State, HasBlocks, sizes}

pub sizes_push : (firsts ends : List ℕ) (f e : ℕ) → length firsts ≡ length ends → sizes (firsts ++ f ∷ []) (ends ++ e ∷ []) ≡ sizes firsts ends + (e - f)
sizes_push [] [] f e h = omega arith
sizes_push (x ∷ firsts) (y ∷ ends) f e h = omega (arith, sizes_push firsts ends f e (omega arith))
sizes_push _ _ f e h = absurd (omega arith)

pub sizes_set : (firsts ends : List ℕ) (b m : ℕ) → b < length firsts → length firsts ≡ length ends → get_or firsts b 0 ≤ m → m ≤ get_or ends b 0 → sizes (set firsts b m) ends + (m - get_or firsts b 0) ≡ sizes firsts ends
sizes_set (x ∷ firsts) (y ∷ ends) zero m h same low high = omega arith
sizes_set (x ∷ firsts) (y ∷ ends) (suc b) m h same low high = omega (arith, sizes_set firsts ends b m (omega arith) (omega arith) low high)
sizes_set _ _ b m h same low high = absurd (omega arith)

few : (firsts ends : List ℕ) → length firsts ≡ length ends → ((b : ℕ) → b < length firsts → get_or firsts b 0 < get_or ends b 0) → length firsts ≤ sizes firsts ends
few [] ends same each = omega arith
few (x ∷ firsts) [] same each = absurd (omega arith)
few (x ∷ firsts) (y ∷ ends) same each = let here : x < y = each 0 (omega arith) in let rest = few firsts ends (omega arith) (λ b h. each (suc b) (omega arith)) in omega arith

-- there are no more blocks than nodes
pub few_blocks : (n : ℕ) (s : State) → HasBlocks n s → length s.firsts ≤ n
few_blocks n s good = let l = few s.firsts s.ends (omega (arith, good.ends_len)) (λ b h. (good.spans b h).2) in omega (arith, good.whole)
