-- What the proofs of this crate cite of the crates below, and of its own definitions.
pub use Rattle.csp_base.specs.Blocks.{blocks_of, with_bit}
pub use Rattle.csp_base.specs.Events.{diff_of, inter_of, is_subset_of, meets_of, set_of, union_of, with_member}
pub use Rattle.csp_base.specs.Prelude.{AreBlocks, AreBlocksFrom, Diff, Inter, SetOp, Union, combined_of, end_from, events_of, first_word, has, has_bit, keeps, least_of, rest_after, with_word, word_at, word_order_at}
unfoldable pub use Rattle.csp_base.specs.Prelude.{word_events}
pub use Rattle.csp_base.specs.Standard.{Decides, Equal, Greater, IsStrictlyIncreasing, Less, MatchBool, bit_not, bytes_decides, count_trailing_zeros, filter, find, flat_map, nat_cmp, or_zero_l, ordering_then, pointwise, pointwise_decides, slice_cmp, w64}
pub use Rattle.std.proofs.Common.{Bool, Err, List, None, Ok, Result, Some, [], add-one, ap, append-nil, append_assoc, arith, cond, drop, drop-cons, eq-eqb, eqb, eqb-true, false, get_or, inl, inr, le-leb, le_refl, leb, length, ltb, max, min, nat_eq, nat_le, ne_eqb, not, pow-suc, refl, set, subst, suc, sym, take, take-suc, true, zero, ℕ, ◌%◌, ◌&&◌, ◌*◌, ◌++◌, ◌+◌, ◌-◌, ◌/◌, ◌<◌, ◌^◌, ◌||◌, ◌∙◌, ◌∷◌, ◌≡◌, ◌≤◌, ◌⊎◌}
pub use Rattle.std.proofs.Math.Bool.{and_comm, or-false, or_assoc}
pub use Rattle.std.proofs.lemmas.Bool.{and_parts, both_ways, false≢true, not-true, or_cases, or_left, or_right}
pub use Rattle.std.proofs.lemmas.Grind.{common_steps}
pub use Rattle.std.proofs.lemmas.List.{take-append-drop, take_rest}
pub use Rattle.std.proofs.lemmas.Nat.Bits.{shr_and_one}
pub use Rattle.std.specs.Bool.{OnFalse, OnTrue}
pub use Rattle.std.specs.Int.{bit_at, trailing_zeros}
pub use Rattle.std.specs.List.{All, list_any}
pub use Rattle.std.specs.Prelude.{IfOk, IsOkAnd, IsTrue, MatchResult, bit_and, bit_or, bit_xor, slice_get, ◌==◌}
