-- What the proofs of this crate cite of the crates below, and of its own definitions.
pub use Rattle.containers.proofs.MembersLemmas.{slice_get-append_left}
pub use Rattle.csp_base.proofs.Lists.{push_cases}
pub use Rattle.csp_base.proofs.Results.{was_made}
pub use Rattle.csp_base.proofs.Standard.{and_from, append-nil, common_steps, eqb-true, false≢true, get_or-append_seam, get_or_append_left, get_or_default, get_or_from_slice_get, length-append, length-map, length_push, lt-ltb, ltb-true, map-append, map_more, or_right, same_from_push, slice_get-get_or, slice_get-map, slice_get_within, take-append-drop, take-map, take_all, take_more}
pub use Rattle.csp_base.specs.Lists.{EachOnce, greatest, total}
pub use Rattle.csp_base.specs.Standard.{AllocError, HashMap, IsEmpty, Updates, get, lookup}
pub use Rattle.csp_program.specs.Prelude.{Env, Given, Names, any_of, before, expr_free, gen_binding, given_by, head_free, nowhere, pair_free, pair_with, past, proc_depth, proc_depth_of_layer, proc_free, proc_free_of_layer, proc_size, proc_size_of_layer, proc_with, under}
pub use Rattle.csp_program.specs.declared.expressions.EventPart.{EventPart}
pub use Rattle.csp_program.specs.declared.expressions.Gen.{Gen}
pub use Rattle.csp_program.specs.declared.processes.Proc.TheFolds.{fold-roll-Proc, map-Proc}
pub use Rattle.csp_program.specs.declared.processes.Proc.TheOpen.{Proc-F}
pub use Rattle.csp_program.specs.declared.processes.Proc.TheViews.{out-Proc, out-roll-Proc, roll-Proc, roll-out-Proc}
pub use Rattle.csp_program.specs.declared.processes.Proc.{Proc}
pub use Rattle.pool_parts.proofs.LowLemmas.{before_split, get_none, low_either, low_of, lower, none_low, under_split}
pub use Rattle.pool_parts.proofs.StoreLemmas.{is_absent, noted_at, noted_more, noted_push}
pub use Rattle.pool_parts.specs.Prelude.{IsAbsent, IsLow, IsStart, capped}
pub use Rattle.pool_parts.specs.declared.measure.Measure.{Measure}
pub use Rattle.pool_parts.specs.declared.place.ProcId.{ProcId}
pub use Rattle.std.proofs.Common.{Bool, List, None, Option, Some, [], ap, append_assoc, arith, cond, drop, false, get_or, inl, inr, length, map, max, min, nat_eq, nat_lt, refl, slice_get, subst, suc, sym, take, true, unwrap_or, zero, ℕ, ◌&&◌, ◌*◌, ◌++◌, ◌+◌, ◌<◌, ◌||◌, ◌∙◌, ◌∷◌, ◌≡◌, ◌≤◌, ◌⊎◌}
pub use Rattle.std.proofs.lemmas.Bool.{not-false, not-true}
pub use Rattle.std.proofs.lemmas.Option.{unwrap_or-slice_get}
pub use Rattle.std.proofs.lemmas.Result.{IfOk-weaker}
pub use Rattle.std.specs.Cmp.{first_so, second_so}
pub use Rattle.std.specs.Option.{option_copied}
pub use Rattle.std.specs.Prelude.{Err, IfOk, IsErr, MatchOption, Ok, OnErr, Result, if◌then◌else◌, not, option_map}
pub use Rattle.std.specs.Set.{is_member}
pub use Rattle.substitution.proofs.Forms.{proc_form, proc_is}
pub use Rattle.substitution.proofs.Stays.{proc_stays}
pub use Rattle.term_pool.specs.Prelude.{AddsOne, AddsParts, AreDifferent, AreMade, AreMeasured, ArePartsOnce, Fits, Grows, Has, HasAll, HasParts, IsFront, IsHeld, IsIn, IsInOne, IsKept, IsLeastAt, IsLeft, IsMade, IsNodeMeasure, Layer, Measures, PartsStandBelow, PartsStart, Puts, StandAt, StandBelow, StandsFor, all_below, all_with, arguments_at, choice_at, deepest_at, entry_layer, eq_entry, expr_at, fall, fields_at, gens_at, grown, head_at, id_or, laws-law, layer_below, layer_parts, layer_tree, layer_with_first, layers, left_below, measure_at, moved, node_with_first, other_first, own_depth, own_free, own_size, own_with, pairs_at, places, places_below, processes, shown, total_at, tree_at, tree_of, trees_in, trees_of, with_parts}
unfoldable pub use Rattle.term_pool.specs.Prelude.{parts, with_first}
pub use Rattle.term_pool.specs.declared.entry.Entry.{Entry}
pub use Rattle.term_pool.specs.declared.node.Node.{Node}
pub use Rattle.term_pool.specs.declared.own_parts.OwnParts.{OwnParts}
