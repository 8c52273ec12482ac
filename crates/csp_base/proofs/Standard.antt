-- What the standard library has, under one name for those who import it.
pub use Rattle.std.proofs.Math.Bool.{and-false, and-true, beq, or-false, or-true, or_assoc, or_comm}
pub use Rattle.std.proofs.Math.Dec.{leb, leb-zero}
pub use Rattle.std.proofs.Math.ListN.{drop_of_length-le, get_or-eq_default, set}
pub use Rattle.std.proofs.Math.Nat.{add-mod_left, div-div-eq-div-mul, div-eq_of_lt, div-le_self, mod-add-mod, mod-eq_of_lt, mod-le, mul-le-mul_left}
pub use Rattle.std.proofs.Math.Path.{fun_ext}
pub use Rattle.std.proofs.Math.Pow.{pow_mono, shr_lt}
pub use Rattle.std.proofs.Math.Seq.{drop-append_seam, drop-cons, drop-length, get_or-append_right, get_or-append_seam, take-append-add, take-append_seam, take-length, take-suc}
pub use Rattle.std.proofs.lemmas.Bool.{MatchBool-at_false, MatchBool-at_true, and_from, and_left, and_parts, and_right, both_ways, cases_Bool, cases_eq, cases_lt, cases_order, cond-false, cond-true, cond_both, eq-eqb, eqb-false, eqb-true, false_from_ne_true, false≢true, le-leb, le-ltb, leb-false, leb-true, lt-leb, lt-ltb, ltb-false, ltb-true, ltb_from_iff, ne_eqb, not-false, not-true, not_from_false, or_cases, or_from, or_left, or_parts, or_right, true≢false}
pub use Rattle.std.proofs.lemmas.Bool.Decides.{Decides-eqb, Decides-int_eq, nat_tests, same_from_decides}
pub use Rattle.std.proofs.lemmas.Cmp.{int_cmp_total, int_ranked, nat_cmp_total, nat_eq_equiv, nat_list_cmp_total, nat_list_eq_equiv, on_total, then_total, tied_itself}
pub use Rattle.std.proofs.lemmas.Fmt.{decimal-digits_value, decimal_digit, decimal_is_IsNumeral, decimal_nonempty, digits_decimal, digits_value-decimal, first_decimal, length-decimal-le}
pub use Rattle.std.proofs.lemmas.Grind.{common_steps, flat_map-append}
pub use Rattle.std.proofs.lemmas.Int.{by_lt_z, ints}
pub use Rattle.std.proofs.lemmas.Iterator.{YieldsList-from_slice}
pub use Rattle.std.proofs.lemmas.Iterator.Consumers.{YieldsList-at, YieldsList-from_filter, map_from_collect}
pub use Rattle.std.proofs.lemmas.Iterator.Search.{all_from_yields_List, any_from_yields_List, find_from_yields_List}
pub use Rattle.std.proofs.lemmas.Iterator.Splits.{YieldsList-from_slice_split}
pub use Rattle.std.proofs.lemmas.List.{append-nil, append_assoc, drop-append-le, drop-drop, drop_all, drop_more, get_or-append-add, get_or-drop, get_or-map, get_or-replicate, get_or-reverse, get_or-set_other, get_or-set_same, get_or-take, get_or_append_left, get_or_default, get_or_past, get_or_push, get_or_read, length-append, length-drop, length-map, length-replicate, length-reverse, length-set, length-take, length-take-le, length_push, map-append, map-set, map_more, nil_from_length, reverse-append, reverse-reverse, same_from_push, set-get_or, set_split, take-append-drop, take-append-le, take-map, take-take, take_all, take_more, take_rest}
pub use Rattle.std.proofs.lemmas.List.Elements.{All-from_get_or, All-more, filter_more}
pub use Rattle.std.proofs.lemmas.List.Filters.{dedup_is}
pub use Rattle.std.proofs.lemmas.List.Folds.{Any-from_list_any, find-append, find-set, find_at, find_past, list_all-append, list_all-map, list_all_at, list_any-append, list_any_at, list_any_more, position_or_len_push}
pub use Rattle.std.proofs.lemmas.List.Kept.{Contains-dedup, Contains-from_dedup, IsStrictlySortedBy-dedup, IsStrictlySortedBy-filter}
pub use Rattle.std.proofs.lemmas.List.Sorted.{Contains-permutation, IsNonDecreasingBy-from_all_adjacent, IsNonDecreasingBy-from_sort, IsPermutation-refl, IsPermutation-sym, list_any-IsPermutation}
pub use Rattle.std.proofs.lemmas.List.Sums.{count_by-le-length, fold-append, get_or-le-sum_by, passes_at_first, prefix_len-le-length, prefix_len_stops, sum-map, sum_by-cons, sum_by-set}
pub use Rattle.std.proofs.lemmas.Map.Keys.{IsDistinct-IsPermutation, IsDistinct-from_apart, IsDistinct-head, IsDistinct-push, IsDistinct-tail, IsStrictlyIncreasing-from_distinct, any_passes_from_place, le_from_is_le, sorted_head, sorted_tail}
pub use Rattle.std.proofs.lemmas.Map.Steps.{length-le_from_distinct_below}
pub use Rattle.std.proofs.lemmas.Map.Views.{any-filter_same}
pub use Rattle.std.proofs.lemmas.Nat.{and_le_l, div-add-mod', div-mul-add, le_or_l, mod-mul-add, mod_below, or_lt, pow-add, pow_pos, xor_lt}
pub use Rattle.std.proofs.lemmas.Nat.Bits.{bit_at-lt, bit_at-suc, bit_at-trailing_zeros, bit_at-zero, bit_at_above, bit_at_and, bit_at_clear_other, bit_at_clear_same, bit_at_lowest, bit_at_mask_below, bit_at_mask_inside, bit_at_not, bit_at_or, bit_at_set_other, bit_at_set_same, bit_at_xor, ones_shl, same_from_bits}
pub use Rattle.std.proofs.lemmas.Option.{MatchOption-at_some, get_or_from_slice_get, none-some, same_Some, slice_get-get_or, slice_get-map, slice_get_cases, slice_get_past, slice_get_read, slice_get_within, unwrap_or-slice_get}
pub use Rattle.std.proofs.lemmas.Result.{IfOk-weaker, err_from_is_err_and, on_ok_weaker}
pub use Rattle.std.proofs.lemmas.Slice.Eq.{bytes_eq-Decides, slice_eq-Decides}
pub use Rattle.std.proofs.lemmas.Slice.Zip.{firsts-zip, seconds-zip}
pub use Rattle.std.proofs.lemmas.Str.{digit_value_digit}
pub use Rattle.std.proofs.lemmas.Str.Parse.{FoldsDigits, IsNumeralModel, digit_from_value, digits_value_short, numerals_by_fold, tells_by_index}
