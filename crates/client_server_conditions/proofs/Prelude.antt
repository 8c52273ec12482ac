-- What the proofs of this crate cite of the crates below, and of its own definitions.
pub use Rattle.client_server_conditions.specs.Conditions.{AreAcknowledgements, HasAnswers, IsOnSide, KeepLesser, Keeps, KeepsAt, KeepsLinks, KeepsOn, KeepsWhole, condition_of, is_asked_of, is_open_at, node_in, node_to}
pub use Rattle.client_server_conditions.specs.Duties.{AreWatched, Decides, IsAsked, IsInTurn, KeepEach, KeepsOpened, TakesAnswers, is_acknowledged}
pub use Rattle.client_server_conditions.specs.Network.{Asks, Grants, IsLinked, Network}
pub use Rattle.client_server_conditions.specs.Nodes.{AreInTurn, EachShared, HasAllOrNone, is_in_turn, is_out_of_turn, refuses, splits, takes}
pub use Rattle.client_server_conditions.specs.Sides.{AgreeOn, AreSides, IsClient, IsSide, IsSideOrNone, LacksAll, PartOwn}
pub use Rattle.client_server_conditions.specs.Tests.{keeps}
pub use Rattle.client_server_conditions.specs.declared.conditions.RunCondition.{RunCondition}
pub use Rattle.client_server_conditions.specs.declared.conditions.RunCondition.TheVariants.{Answers, Service, Turns}
pub use Rattle.csp_base.proofs.Booleans.{and_second_false, or_unless, same_tests}
pub use Rattle.csp_base.proofs.SetLaws.{common_member, has-with_member, is_subset_of_from_members, meets_of_from_member, member_of_superset}
pub use Rattle.csp_base.proofs.Standard.{IfOk-weaker, and_from, and_parts, both_ways, cases_Bool, cases_lt, cond-false, cond-true, get_or-append_seam, get_or_append_left, get_or_from_slice_get, get_or_read, length-append, none-some, not-false, not-true, or_comm, same_Some, slice_get_within}
pub use Rattle.csp_base.specs.Prelude.{has, is_subset_of, meets_of}
pub use Rattle.csp_tables.specs.Prelude.{AreApart, IsRun, IsWellFormed, IsWithin, Joins, Link, Part, RoleSets, RunsTo, Shape, end_of, is_end, is_possible, link_at, node_at, part_at, role_at, sharers}
pub use Rattle.design_rules.proofs.Shapes.{first_end, link_shared, link_within, turned}
pub use Rattle.design_rules.specs.ClientServer.{HasClient, HasRoles, IsClientOn}
pub use Rattle.design_rules.specs.Prelude.{BreaksClientServer, BreaksRoles, count_in, has_acknowledgements, is_acknowledgement, is_odd, is_open}
pub use Rattle.net_sound.proofs.Within.{part_form}
pub use Rattle.observed_runs.specs.Prelude.{AreEnough, observed, pair_at, parity_step}
pub use Rattle.shape_links.proofs.Links.{end_here, ends_complete, place_in}
pub use Rattle.shape_links.proofs.Watching.{any_enough, off_link}
pub use Rattle.shape_links.specs.Component.{IsDecided, table_of}
pub use Rattle.shape_links.specs.Links.{IsOwner, ends_of}
pub use Rattle.std.proofs.Common.{Bool, IsTrue, List, None, Option, Some, [], ap, arith, below_more, cond, eq-eqb, false, get_or, inl, inr, length, nat_eq, not, refl, subst, suc, sym, true, zero, ℕ, ◌&&◌, ◌++◌, ◌+◌, ◌<◌, ◌||◌, ◌∙◌, ◌∷◌, ◌≡◌, ◌≤◌, ◌⊎◌}
pub use Rattle.std.proofs.lemmas.Bool.{eqb-true, false≢true, or_cases, or_left, or_parts, or_right}
pub use Rattle.std.specs.List.{list_any}
pub use Rattle.std.specs.Prelude.{IfOk, IfSome}
pub use mathlib.Core.Bool.{beq}
