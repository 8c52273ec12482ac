use Rattle.numbered_walks.proofs.Prelude.{◌≡◌, ◌≤◌, ◌^◌, ℕ, [], get_or, length, take, marked, owner_marks}
use Rattle.numbered_walks.proofs.owners.owner_rows.Given as goal

abbrev pub invariant-loop-place : goal.invariant-loop-place
invariant-loop-place l = record { rows : (e : ℕ) → get_or l.rows.items e [] ≡ marked (owner_marks e (take l.place l.movers)); small : length l.rows.items ≤ 2 ^ 32 }
