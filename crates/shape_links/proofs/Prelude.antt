-- What the proofs of this crate cite of the crates below, and of its own definitions.
pub use Rattle.csp_base.proofs.Booleans.{and_false}
pub use Rattle.csp_base.proofs.Listed.{has_push_cases}
pub use Rattle.csp_base.proofs.Standard.{and_from, and_parts, both_ways, cases_Bool, cases_eq, cases_lt, cond-false, cond-true, drop-append_seam, false≢true, get_or-append_seam, get_or-reverse, get_or_append_left, get_or_from_slice_get, get_or_past, get_or_read, length-append, length-reverse, list_all_at, list_any-append, list_any_at, not-false, or_cases, or_left, or_right, reverse-append, slice_get_within, take-append_seam}
pub use Rattle.csp_base.specs.Members.{has}
pub use Rattle.csp_base.specs.Standard.{pointwise}
pub use Rattle.csp_tables.proofs.Runs.{end_push, node_form}
pub use Rattle.csp_tables.specs.Prelude.{HasForm, IsOn, IsWellFormed, Joins, Link, Part, RunsTo, Shape, TripleDisjoint, UseSets, acceptance_at, alphabets_of, end_of, is_end, is_possible, link_at, node_after, node_at, part_at, sharers, use_at}
pub use Rattle.design_rules.proofs.Counts.{count_more, count_push_more, count_push_same, count_same}
pub use Rattle.design_rules.proofs.Holders.{one_link}
pub use Rattle.design_rules.proofs.Places.{one_link_at}
pub use Rattle.design_rules.proofs.Runs.{end_within, possible_within, run_induction}
pub use Rattle.design_rules.proofs.Shapes.{first_end, link_shared, sharer, some_link}
pub use Rattle.design_rules.specs.Prelude.{AllKeepPlaces, ReachesLink, count_in, is_odd}
pub use Rattle.digraph.specs.Prelude.{IsLeastCircle, Leads}
pub use Rattle.net_sound.proofs.Sharers.{at_three}
pub use Rattle.net_sound.proofs.Within.{part_form}
pub use Rattle.observed_runs.proofs.Leading.{listed_step, step_within}
pub use Rattle.observed_runs.proofs.Runs.{either_way}
pub use Rattle.observed_runs.specs.Prelude.{AreEnough, HaveEnough, IsExploration, LeadsTo, SeesOnly, holder_step, observed, pair_at, parity_step}
pub use Rattle.shape_links.specs.Acquired.{is_acquired_by}
pub use Rattle.shape_links.specs.Component.{IsDecided, IsFirstFailing, table_of}
pub use Rattle.shape_links.specs.Links.{AreOwners, AreSteps, IsOnOne, IsOwner, ends_below, ends_of}
pub use Rattle.shape_links.specs.OddLinks.{AreOddLinks, IsTurned}
pub use Rattle.shape_links.specs.Setting.{KeepKinds, Setting}
pub use Rattle.shape_links.specs.Turned.{turned_circle}
pub use Rattle.shape_links.specs.declared.component.Component.{Component}
pub use Rattle.std.proofs.Common.{Bool, IsTrue, List, None, Option, Result, Some, [], ap, arith, below_more, cond, drop, eq-eqb, eqb-true, false, get_or, inl, inr, length, nat_eq, not, refl, subst, suc, sym, take, true, vec_len, zero, ℕ, ◌&&◌, ◌++◌, ◌+◌, ◌-◌, ◌<◌, ◌∙◌, ◌∷◌, ◌≡◌, ◌≤◌, ◌⊎◌}
pub use Rattle.std.proofs.lemmas.Option.{none-some, same_Some}
pub use Rattle.std.specs.List.{list_all, list_any}
pub use Rattle.std.specs.Prelude.{IfOk, IsSomeAnd, MatchOption, reverse, slice_get, slice_index}
