-- What the proofs of this crate cite of the crates below, and of its own definitions.
pub use Rattle.conformance.specs.Alike.{AreAlike, IsAlike}
pub use Rattle.conformance.specs.Conforming.{AreMatched, HasWithin, RefusesAfter, RunsOutside, TableConforms}
pub use Rattle.conformance.specs.Conforms.{AcceptsWithin, AllConform, Conforms}
pub use Rattle.conformance.specs.Failing.{FaultsRefute, GoesOutside, RefusesTooMuch, TablesTell}
pub use Rattle.conformance.specs.Finding.{AllAccept, AreInside, IsFirstOutside, RefusesAt}
pub use Rattle.conformance.specs.Following.{Following, follow_step}
pub use Rattle.conformance.specs.Inherits.{ConformingNetworksAreLive}
pub use Rattle.conformance.specs.Keys.{AllKeysConform, IsKey, IsOneToOne, KeyConforms, event_code, listed, node_code, set_code, step_code, table_code}
pub use Rattle.containers.specs.Exact.{IsExact-pointwise}
pub use Rattle.containers.specs.Members.{with_new}
pub use Rattle.csp_base.proofs.Rising.{is_subset_of_from_members, member_of_superset}
pub use Rattle.csp_base.proofs.Standard.{and_from, and_parts, cases_Bool, cases_lt, cond-false, cond-true, eqb-true, false≢true, get_or-append_seam, get_or_append_left, get_or_default, get_or_from_slice_get, get_or_past, get_or_read, length-append, length-map, nat_tests, none-some, or_cases, or_left, or_right, same_Some, slice_get_cases}
pub use Rattle.csp_base.specs.Members.{has}
pub use Rattle.csp_base.specs.Prelude.{is_subset_of}
pub use Rattle.csp_base.specs.Standard.{IsNonDecreasingBy, IsPartitionPoint, bytes_decides, flat_map, is_eq, is_member, nat_cmp, ordering_index, slice_cmp, texts_ties}
pub use Rattle.csp_tables.proofs.Runs.{node_form, run_push}
pub use Rattle.csp_tables.specs.Prelude.{After, AllTakePart, ArePartsOf, AreWithin, BeginsAbove, Component, ComponentStep, FlatStep, HasForm, IsAcceptance, IsPartOf, IsRun, IsTrace, IsWithin, Label, NetworkStep, Node, NodesHaveForm, Offers, OneMoves, Part, Path, Stable, StepsHaveForm, Tree, WellNested, acceptances_after, end_of, in_some_component, is_possible, is_run, leaves, no_node, node_after, node_at, project, silent, target, visible, visible_events}
pub use Rattle.net_sound.proofs.FlatLists.{alphabets, by_test, flat_alphabets, match_false, match_true, same_some, step_alphabet}
pub use Rattle.net_sound.proofs.Flattening.{back, forth, kept}
pub use Rattle.net_sound.proofs.Local.{AllAfter, all_after, run_forth, run_kept}
pub use Rattle.net_sound.proofs.Soundness.{path_alphabet, silence_is_bounded}
pub use Rattle.observed_runs.proofs.Leading.{listed_step, step_listed, step_within}
pub use Rattle.observed_runs.specs.Prelude.{Found, IsExploration, LeadsTo, StepsTo, observed, pair_at}
pub use Rattle.std.proofs.Common.{Bool, Equal, Greater, IsTrue, Less, List, MatchBool, None, Option, Some, [], ap, append-nil, append_assoc, ap₂, arith, drop, eq-eqb, false, get_or, if◌then◌else◌, inl, inr, length, map, nat_eq, refl, rules, subst, suc, sym, true, zero, ℕ, ◌&&◌, ◌++◌, ◌+◌, ◌-◌, ◌<◌, ◌||◌, ◌∙◌, ◌∷◌, ◌≡◌, ◌≤◌, ◌⊎◌}
pub use Rattle.std.proofs.lemmas.Fn.{always_returns_same}
pub use Rattle.std.proofs.lemmas.Option.{slice_get_within}
pub use Rattle.std.specs.Cmp.Lexicographic.{pointwise}
pub use Rattle.std.specs.Prelude.{IfOk, slice_get, slice_index}
