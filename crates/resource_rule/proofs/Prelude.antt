-- What the proofs of this crate cite of the crates below, and of its own definitions.
pub use Rattle.csp_base.proofs.Listed.{any_member, any_of, has_first}
pub use Rattle.csp_base.proofs.Rising.{has-with_member, is_subset_of_from_members, member_of_superset}
pub use Rattle.csp_base.proofs.Standard.{and_from, and_parts, cases_Bool, cases_eq, cases_lt, cond-false, cond-true, false≢true, get_or_from_slice_get, get_or_read, list_any_at, list_any_more, ne_eqb, none-some, not-false, or-false, or_cases, or_comm, or_left, or_right, same_Some, slice_get_within}
pub use Rattle.csp_base.specs.Prelude.{has, is_subset_of}
pub use Rattle.csp_tables.specs.Prelude.{IsRun, IsWellFormed, Joins, Link, Shape, TripleDisjoint, UseSets, acceptances_after, accepted, alphabets_of, end_of, is_end, is_possible, link_at, node_at, part_at, use_at}
pub use Rattle.design_rules.proofs.Accepting.{at_place}
pub use Rattle.design_rules.proofs.Runs.{end_within}
pub use Rattle.design_rules.proofs.Shapes.{first_end, link_shared}
pub use Rattle.design_rules.specs.Prelude.{StandsAbove, count_in, is_odd, top_number}
pub use Rattle.design_rules.specs.Resource.{IsHeldWhile, UsesInTurn, holds}
pub use Rattle.digraph.proofs.WalkLaws.{same_longest}
pub use Rattle.digraph.specs.Prelude.{HasArc, IsLeastCircle, has_arc}
pub use Rattle.net_sound.proofs.Within.{part_form}
pub use Rattle.observed_runs.proofs.Leading.{listed_step}
pub use Rattle.observed_runs.specs.Prelude.{AreEnough, Found, IsExploration, SeesOnly, observed, pair_at, parity_step}
pub use Rattle.resource_conditions.proofs.Sets.{all_possible, any_at, some_possible}
pub use Rattle.resource_conditions.specs.Finding.{FindsRun}
pub use Rattle.resource_rule.specs.Holdings.{AddsArcs, AreHeld, Below, HoldsWhile, LeadsToHeld, LeadsToSome, OffersWhile, is_acquiring, resource_of}
pub use Rattle.resource_rule.specs.Uses.{HaveNodes, IsInTurn, IsOfferedHolding, UsesLink, WatchesLink, are_uses, is_offered, is_offered_at, is_use}
pub use Rattle.rule_rankings.specs.ResourceRanks.{number_by}
pub use Rattle.shape_links.proofs.Acquiring.{acquired_link, is_part}
pub use Rattle.shape_links.proofs.Circles.{circle_some, turned_least}
pub use Rattle.shape_links.proofs.Links.{end_here, end_place, ends_complete, ends_sound, has_place, link_past, place_in, same_end}
pub use Rattle.shape_links.proofs.Parity.{parity_is}
pub use Rattle.shape_links.proofs.Watching.{all_enough, off_link, parity_only}
pub use Rattle.shape_links.specs.Component.{IsDecided}
pub use Rattle.shape_links.specs.Links.{ends_of}
pub use Rattle.shape_links.specs.OddLinks.{AreOddLinks}
pub use Rattle.shape_links.specs.Setting.{IsUser, KeepKinds, Setting, node_of}
pub use Rattle.shape_links.specs.Turned.{turned_circle}
pub use Rattle.shape_links.specs.declared.component.Component.{Component}
pub use Rattle.std.proofs.Common.{Bool, IsTrue, List, None, Option, Some, [], ap, arith, below_more, cond, eq-eqb, eqb-true, false, get_or, inl, inr, length, nat_eq, not, refl, replicate, subst, suc, sym, take, true, zero, ℕ, ◌&&◌, ◌+◌, ◌<◌, ◌||◌, ◌∙◌, ◌∷◌, ◌≡◌, ◌≤◌}
pub use Rattle.std.proofs.lemmas.Bool.{both_ways}
pub use Rattle.std.proofs.lemmas.List.{length-replicate, with_items_is}
pub use Rattle.std.proofs.lemmas.Option.{IfSome_then}
pub use Rattle.std.proofs.lemmas.Result.{IfOk-weaker}
pub use Rattle.std.specs.List.{list_any}
pub use Rattle.std.specs.Prelude.{IfSome, slice_get, slice_index}
