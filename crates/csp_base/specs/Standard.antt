-- What the standard library has, under one name for those who import it.
pub use Rattle.std.specs.BTreeMap.{BTreeMap, get_by}
pub use Rattle.std.specs.Bool.{Decides, MatchBool, OnFalse, OnTrue}
pub use Rattle.std.specs.Borrow.{Bor}
pub use Rattle.std.specs.Char.{digit_value}
pub use Rattle.std.specs.Cmp.{IsTotalOrder, first_so, second_so}
pub use Rattle.std.specs.Cmp.Lexicographic.{bytes_decides, nat_list_cmp_total, pointwise, pointwise_decides, slice_cmp, texts_po, texts_ties}
pub use Rattle.std.specs.Cmp.Rules.{comparing}
pub use Rattle.std.specs.Fmt.{decimal, signed_decimal}
pub use Rattle.std.specs.Hash.{same_Alike}
pub use Rattle.std.specs.HashMap.{HashMap, IsEmpty, Updates, get}
pub use Rattle.std.specs.Int.{IsInRange, bit_at, bit_not, trailing_zeros, w64}
pub use Rattle.std.specs.Int.Bits.{or_zero_l}
pub use Rattle.std.specs.Int.Count.{count_trailing_zeros}
pub use Rattle.std.specs.Io.KnownBytes.{Consumes, IsAtEnd}
pub use Rattle.std.specs.Iterator.{YieldsFirst, item_count}
pub use Rattle.std.specs.List.{All, AllByRecursion, Contains, filter, find, flat_map, insert, list_all, list_any, position, position_or_len, prefix_len, slice_get, slice_split, starts_with, zip}
unfoldable pub use Rattle.std.specs.List.{IsDistinct}
pub use Rattle.std.specs.List.Retain.{DiffersFromLast, IsFiltered}
pub use Rattle.std.specs.List.Sorted.{IsNonDecreasing, IsNonDecreasingBy, IsPartitionPoint, IsPermutation, IsSorted, IsStableByKey, IsStrictlyIncreasing, ties}
unfoldable pub use Rattle.std.specs.List.Sorted.{IsStrictlySortedBy}
pub use Rattle.std.specs.Map.{AreApart, IsKeyTest, lookup}
unfoldable pub use Rattle.std.specs.Map.{KeepsOthers}
pub use Rattle.std.specs.Option.{is_some, option_and_then, option_copied, option_map, option_map_or, option_or, unwrap_or}
pub use Rattle.std.specs.Ordering.{eq_by_cmp, int_cmp, int_eq, is_eq, is_lt, nat_cmp, ordering_index, ordering_reverse, ordering_then}
pub use Rattle.std.specs.Result.{IsErrAnd}
pub use Rattle.std.specs.Set.{is_member}
pub use Rattle.std.specs.Slice.{IsItemAt}
pub use Rattle.std.specs.Str.{IsUtf8, bytes_eq}
pub use Rattle.std.specs.Str.Parse.{AllDigits, digits_value_after}
pub use Rattle.std.specs.declared.alloc.AllocError.{AllocError}
pub use Rattle.std.specs.declared.alloc.Global.{Global}
pub use Rattle.std.specs.declared.cmp.Ordering.{Ordering}
pub use Rattle.std.specs.declared.cmp.Ordering.TheVariants.{Equal, Greater, Less}
