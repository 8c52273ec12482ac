-- Ranks with laps: what is said of the lead of one part over another is an order of two sums.
use Rattle.net_sound.proofs.Prelude.{◌≡◌, ℕ, zero, suc, ℤ, pos, ◌+ℤ◌, ◌-ℤ◌, ◌*ℤ◌, ◌<ℤ◌, sym, ap, ◌∙◌, arith, ints}
use lib.IntN.{+ℤ-suc_ℤ, suc_ℤ-*ℤ, zero-*ℤ, *ℤ_comm, +ℤ_assoc, +ℤ_idr, -ℤ-+ℤ_cancel}

distributes : (x : ℤ) (b : ℕ) (k : ℤ) → (x +ℤ pos b) *ℤ k ≡ (x *ℤ k) +ℤ (pos b *ℤ k)
distributes x zero k = ap (λ y. y *ℤ k) (+ℤ_idr x) ∙ sym (ap (λ y. (x *ℤ k) +ℤ y) (zero-*ℤ k) ∙ +ℤ_idr (x *ℤ k))
distributes x (suc b) k =
    ap (λ y. y *ℤ k) (+ℤ-suc_ℤ x (pos b))
    ∙ suc_ℤ-*ℤ (x +ℤ pos b) k
    ∙ ap (λ y. y +ℤ k) (distributes x b k)
    ∙ +ℤ_assoc (x *ℤ k) (pos b *ℤ k) k
    ∙ ap (λ y. (x *ℤ k) +ℤ y) (sym (suc_ℤ-*ℤ (pos b) k))

difference : (c : ℤ) (a b : ℕ) → (c *ℤ (pos a -ℤ pos b)) +ℤ (c *ℤ pos b) ≡ c *ℤ pos a
difference c a b =
    ap (λ y. y +ℤ (c *ℤ pos b)) (*ℤ_comm c (pos a -ℤ pos b))
    ∙ ap (λ y. ((pos a -ℤ pos b) *ℤ c) +ℤ y) (*ℤ_comm c (pos b))
    ∙ sym (distributes (pos a -ℤ pos b) b c)
    ∙ ap (λ y. y *ℤ c) (-ℤ-+ℤ_cancel (pos a) (pos b))
    ∙ *ℤ_comm (pos a) c

by_sums : (r t x y z : ℤ) → x +ℤ y ≡ z → t <ℤ (r +ℤ x) → (t +ℤ y) <ℤ (r +ℤ z)
by_sums r t x y z e h = omega (arith, ints)

pub apart : (r t c : ℤ) (a b : ℕ) → t <ℤ (r +ℤ (c *ℤ (pos a -ℤ pos b))) → (t +ℤ (c *ℤ pos b)) <ℤ (r +ℤ (c *ℤ pos a))
apart r t c a b h = by_sums r t (c *ℤ (pos a -ℤ pos b)) (c *ℤ pos b) (c *ℤ pos a) (difference c a b) h
