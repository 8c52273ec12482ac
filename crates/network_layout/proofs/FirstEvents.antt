-- The numbers from 0 on as a set.
use Rattle.network_layout.proofs.Prelude.{◌≡◌, ℕ, zero, suc, ◌+◌, ap, ◌∙◌, arith, range_with_len, nat_tests, with_member}

one_more : (a n x : ℕ) → x ≡ a + n → with_member x (range_with_len a n) ≡ range_with_len a (suc n)
one_more a zero x is = let e : x ≡ a = omega arith in cc
one_more a (suc n) x is = grind (arith, nat_tests, one_more (a + 1) n x (omega arith))

pub next_event : (n : ℕ) → with_member n (range_with_len 0 n) ≡ range_with_len 0 (n + 1)
next_event n = let e : suc n ≡ n + 1 = omega arith in one_more 0 n n (omega arith) ∙ ap (range_with_len 0) e
