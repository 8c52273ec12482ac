-- Places in a list of blocks: what stands before one, and from it on.
use Rattle.csp_base.proofs.Prelude.{◌≡◌, ℕ, zero, suc, ◌+◌, ◌/◌, ◌%◌, ◌<◌, ◌≤◌, List, [], ◌∷◌, ◌++◌, length, take, drop, get_or, refl, sym, ap, le_refl, ◌∙◌, add-one, arith, take-append-drop, has_bit, word_at, AreBlocksFrom, events_of, has, first_word, end_from}
use Rattle.csp_base.proofs.BlockMembers.{word_at-append, word_at_later, has-events_of_at}
use Rattle.csp_base.proofs.MergeSteps.{first_word-word_at}

-- the front of blocks are blocks, and what follows are blocks from its end
pub AreBlocksFrom-front : (n : ℕ) (ps qs : List (ℕ × ℕ)) → AreBlocksFrom n (ps ++ qs) → AreBlocksFrom n ps
AreBlocksFrom-front n [] qs r = tt
AreBlocksFrom-front n (p ∷ ps) qs r = (r.0, r.1, r.2, r.3, AreBlocksFrom-front (p.0 + 1) ps qs r.4)

pub AreBlocksFrom-back : (n : ℕ) (ps qs : List (ℕ × ℕ)) → AreBlocksFrom n (ps ++ qs) → AreBlocksFrom (end_from n ps) qs
AreBlocksFrom-back n [] qs r = r
AreBlocksFrom-back n (p ∷ ps) qs r = AreBlocksFrom-back (p.0 + 1) ps qs r.4

pub AreBlocksFrom-append : (n : ℕ) (ps qs : List (ℕ × ℕ)) → AreBlocksFrom n ps → AreBlocksFrom (end_from n ps) qs → AreBlocksFrom n (ps ++ qs)
AreBlocksFrom-append n [] qs r s = s
AreBlocksFrom-append n (p ∷ ps) qs r s = (r.0, r.1, r.2, r.3, AreBlocksFrom-append (p.0 + 1) ps qs r.4 s)

pub AreBlocksFrom-take : (n : ℕ) (ps : List (ℕ × ℕ)) (i : ℕ) → AreBlocksFrom n ps → AreBlocksFrom n (take i ps)
AreBlocksFrom-take n ps i r = AreBlocksFrom-front n (take i ps) (drop i ps) (rw (take-append-drop i ps) r)

pub AreBlocksFrom-drop : (n : ℕ) (ps : List (ℕ × ℕ)) (i : ℕ) → AreBlocksFrom n ps → AreBlocksFrom (end_from n (take i ps)) (drop i ps)
AreBlocksFrom-drop n ps i r = AreBlocksFrom-back n (take i ps) (drop i ps) (rw (take-append-drop i ps) r)

-- the block at a place, and the numbers before the next place
end_from-take_suc : (n : ℕ) (ps : List (ℕ × ℕ)) (i : ℕ) (d : ℕ × ℕ) → i < length ps → end_from n (take (suc i) ps) ≡ (get_or ps i d).0 + 1
end_from-take_suc n [] i d l = absurd (omega arith)
end_from-take_suc n (p ∷ ps) zero d l = refl
end_from-take_suc n (p ∷ ps) (suc i) d l = end_from-take_suc (p.0 + 1) ps i d (omega arith)

pub end_from-take : (n : ℕ) (ps : List (ℕ × ℕ)) (i : ℕ) (d : ℕ × ℕ) → i < length ps → end_from n (take (i + 1) ps) ≡ (get_or ps i d).0 + 1
end_from-take n ps i d l = ap (λ k. end_from n (take k ps)) (add-one i) ∙ end_from-take_suc n ps i d l

pub AreBlocksFrom-at : (n : ℕ) (ps : List (ℕ × ℕ)) (i : ℕ) (d : ℕ × ℕ) → i < length ps → AreBlocksFrom n ps → AreBlocksFrom (get_or ps i d).0 (drop i ps)
AreBlocksFrom-at n [] i d l r = absurd (omega arith)
AreBlocksFrom-at n (p ∷ ps) zero d l r = (le_refl p.0, r.1, r.2, r.3, r.4)
AreBlocksFrom-at n (p ∷ ps) (suc i) d l r = AreBlocksFrom-at (p.0 + 1) ps i d (omega arith) r.4

-- no block before the end has a number from the end on
pub word_at_past : (n : ℕ) (ps : List (ℕ × ℕ)) (b : ℕ) → AreBlocksFrom n ps → end_from n ps ≤ b → word_at ps b ≡ 0
word_at_past n [] b r l = refl
word_at_past n (p ∷ ps) b r l = let h = end_from-le (p.0 + 1) ps r.4 in rw (word_at_later p ps b (omega arith)) (word_at_past (p.0 + 1) ps b r.4 l)
  where
    end_from-le : (n : ℕ) (ps : List (ℕ × ℕ)) → AreBlocksFrom n ps → n ≤ end_from n ps
    end_from-le n [] r = le_refl n
    end_from-le n (p ∷ ps) r = let h : n ≤ p.0 = r.0 in let g = end_from-le (p.0 + 1) ps r.4 in omega arith

-- the word at a number, from the place of the number on
pub word_at-drop : (ps : List (ℕ × ℕ)) (i b n : ℕ) → AreBlocksFrom 0 ps → end_from 0 (take i ps) ≤ n → n ≤ b → word_at ps b ≡ word_at (drop i ps) b
word_at-drop ps i b n r l m =
    ap (λ qs. word_at qs b) (sym (take-append-drop i ps)) ∙ word_at-append (take i ps) (drop i ps) b
    ∙ ap (λ w. w + word_at (drop i ps) b) (word_at_past 0 (take i ps) b (AreBlocksFrom-take 0 ps i r) (omega arith)) ∙ (omega arith)

-- whether an event is a member, from the blocks from its number on
pub has_from_front : (ps qs : List (ℕ × ℕ)) (x : ℕ) → AreBlocksFrom 0 ps → AreBlocksFrom (x / 64) qs → ((b : ℕ) → x / 64 ≤ b → word_at qs b ≡ word_at ps b)
    → has (events_of ps) x ≡ has_bit (first_word qs (x / 64)) (x % 64)
has_from_front ps qs x r s same =
    has-events_of_at 0 ps x r
    ∙ ap (λ w. has_bit w (x % 64)) (sym (same (x / 64) (le_refl (x / 64))) ∙ sym (first_word-word_at (x / 64) qs s))
