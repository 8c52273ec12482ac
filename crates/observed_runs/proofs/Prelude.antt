-- What the proofs of this crate cite of the crates below, and of its own definitions.
pub use Rattle.containers.proofs.MembersLemmas.{slice_get-append_left}
pub use Rattle.csp_base.proofs.Rising.{has-with_member}
pub use Rattle.csp_base.proofs.Standard.{and_parts, append_assoc, both_ways, cases_Bool, cases_eq, cases_lt, cond-false, cond-true, eqb-true, false≢true, get_or-append_right, get_or-replicate, get_or-set_other, get_or-set_same, get_or_append_left, get_or_from_slice_get, get_or_past, get_or_read, length-append, length-replicate, or_cases, or_left, or_right, reverse-append, slice_get_within}
pub use Rattle.csp_base.specs.Events.{with_member}
pub use Rattle.csp_base.specs.Members.{has}
pub use Rattle.csp_tables.proofs.Runs.{end_push, node_form, run_push}
pub use Rattle.csp_tables.specs.Prelude.{BeginsAbove, HasForm, Part, StepsHaveForm, is_possible, no_node, node_after, node_at, target}
pub use Rattle.csp_tables.specs.Table.{IsRun, Node, end_of, is_run}
pub use Rattle.observed_runs.specs.Prelude.{AreDistinct, AreEnough, AreExplored, AreFollowed, AreFound, AreMarked, Found, Grows, HasOther, HasPair, HaveOrigins, IsAdded, IsExploration, IsFollowedTo, IsKept, LeadsTo, SeesOnly, StepsTo, is_marked, observed, pair_at}
pub use Rattle.observed_runs.specs.Progress.{AreEnoughSoFar}
pub use Rattle.std.proofs.Common.{Err, IsTrue, List, None, Ok, Option, Result, Some, [], ap, arith, eq-eqb, false, get_or, inl, inr, length, nat_eq, refl, replicate, rules, set, subst, suc, sym, true, zero, ℕ, ◌++◌, ◌+◌, ◌-◌, ◌<◌, ◌^◌, ◌||◌, ◌∙◌, ◌∷◌, ◌≡◌, ◌≢◌, ◌≤◌, ◌⊎◌}
pub use Rattle.std.proofs.lemmas.Bool.{false_from_ne_true}
pub use Rattle.std.proofs.lemmas.Result.{IfOk-weaker}
pub use Rattle.std.specs.Prelude.{IfOk, IsOkAnd, IsSomeAnd, MatchOption, MatchResult, reverse, slice_index, slice_set}
