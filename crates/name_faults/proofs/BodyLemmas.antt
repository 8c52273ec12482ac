-- Levels and uses, from those of the occurrences that are left.
use Rattle.name_faults.proofs.Prelude.{◌≡◌, ℕ, ◌+◌, ◌<◌, max, List, [], ◌∷◌, ◌++◌, length, map, drop, get_or, ap, sym, ◌∙◌, append_assoc, arith, Bor, flat_map, drop_read, Name, Occurrence, greatest_level, level_of, use_of, seen}

module _ (os : List (Occurrence (Bor Name))) (i : ℕ) (o : Occurrence (Bor Name)) where
  pub level_later : (now whole : ℕ) → i < length os → o ≡ get_or os i o → max now (greatest_level (map seen (drop i os))) ≡ whole
      → max (max now (level_of (seen o))) (greatest_level (map seen (drop (i + 1) os))) ≡ whole
  level_later now whole within is so_far =
      let e : max now (max (level_of (seen o)) (greatest_level (map seen (drop (i + 1) os)))) ≡ whole = ap (λ ps. max now (greatest_level (map seen ps))) (sym (drop_read os i o within is)) ∙ so_far in
      omega arith

  pub uses_later : (us whole : List (ℕ × ℕ)) → i < length os → o ≡ get_or os i o → us ++ flat_map use_of (map seen (drop i os)) ≡ whole
      → (us ++ use_of (seen o)) ++ flat_map use_of (map seen (drop (i + 1) os)) ≡ whole
  uses_later us whole within is so_far =
      append_assoc us (use_of (seen o)) (flat_map use_of (map seen (drop (i + 1) os)))
      ∙ ap (λ ps. us ++ flat_map use_of (map seen ps)) (sym (drop_read os i o within is)) ∙ so_far
