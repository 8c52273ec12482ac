-- How many numbers are seen.
use Rattle.equal_futures.proofs.Prelude.{ℕ, ◌+◌, ◌≤◌, inl, inr, List, [], ◌∷◌, length, arith, SeenInOrder}

-- no more numbers than places
pub few_seen : (seen : ℕ) (xs : List ℕ) (count : ℕ) → SeenInOrder seen xs count → count ≤ seen + length xs
few_seen seen [] count h = omega arith
few_seen seen (x ∷ xs) count (inl h) = let l = few_seen seen xs count h.1 in omega arith
few_seen seen (x ∷ xs) count (inr h) = let l = few_seen (seen + 1) xs count h.1 in omega arith
