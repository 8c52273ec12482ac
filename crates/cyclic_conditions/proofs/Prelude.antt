-- What the proofs of this crate cite of the crates below, and of its own definitions.
pub use Rattle.csp_base.proofs.Booleans.{and_second_false}
pub use Rattle.csp_base.proofs.Listed.{find_has, has_first, none_found}
pub use Rattle.csp_base.proofs.Rising.{is_subset_of_from_members, member_of_superset}
pub use Rattle.csp_base.proofs.Standard.{add-mod_left, both_ways, cases_Bool, cases_eq, cases_lt, err_from_is_err_and, false≢true, get_or-append_seam, get_or-replicate, get_or-set_other, get_or-set_same, get_or_append_left, get_or_past, get_or_read, length-append, length-replicate, length-set, mod-eq_of_lt, mod_below, none-some, on_ok_weaker, or_right, same_Some, slice_get_within}
pub use Rattle.csp_base.specs.Prelude.{Tells, has, is_subset_of}
pub use Rattle.csp_base.specs.declared.stop.Stop.{Stop}
pub use Rattle.csp_tables.proofs.Runs.{node_form}
pub use Rattle.csp_tables.specs.Prelude.{IsReached, IsRun, IsWellFormed, Link, LinksAreOrdered, Node, Part, Shape, TripleDisjoint, acceptance_at, alphabets_of, end_of, is_end, is_possible, link_at, node_at, part_at}
pub use Rattle.cyclic_conditions.specs.Facts.{AreClashing, AreFirsts, AreMore, AreNoted, ClashesWith, Disagree, HasFirst, IsFact, IsNoted, IsNotedAt, IsPossibleAt, first_at, links_in_order}
pub use Rattle.cyclic_conditions.specs.Laps.{AreLaps, Leads, links_along, next_place, shape_of}
pub use Rattle.cyclic_conditions.specs.Orders.{IsOrder, order_at}
pub use Rattle.cyclic_conditions.specs.Shorts.{AreShorts, Before, IsAcceptance, IsFirstShort, IsShort, IsShortAt, IsShortBy, short_at}
pub use Rattle.cyclic_conditions.specs.Told.{FallsFirst, IsBrokenOrder}
pub use Rattle.cyclic_conditions.specs.declared.facts.Fact.{Fact}
pub use Rattle.cyclic_conditions.specs.declared.laps.Laps.{Laps}
pub use Rattle.cyclic_conditions.specs.declared.shorts.Shorts.{Shorts}
pub use Rattle.design_rules.proofs.Accepting.{at_place, set_shared}
pub use Rattle.design_rules.proofs.Counts.{count_at_most}
pub use Rattle.design_rules.proofs.Places.{earlier, first_lap, some_links}
pub use Rattle.design_rules.proofs.Runs.{end_within, possible_within}
pub use Rattle.design_rules.proofs.Shapes.{link_shared}
pub use Rattle.design_rules.specs.Cyclic.{AllKeepPlaces, FallsShort, IsWholeEnd}
pub use Rattle.design_rules.specs.Prelude.{BreaksCyclic, BreaksOrder, Clash, HasWholeEnd, IsReachedAt, KeepsPlaces, ReachesLink, count_below, count_in, links_of, place_after}
pub use Rattle.design_rules.specs.declared.rule_fault.RuleFault.TheVariants.{NoOrder}
pub use Rattle.design_rules.specs.declared.rule_fault.RuleFault.{RuleFault}
pub use Rattle.net_sound.proofs.Within.{part_form}
pub use Rattle.observed_runs.proofs.Leading.{listed_step, step_listed}
pub use Rattle.observed_runs.specs.Prelude.{AreEnough, AreFound, IsExploration, lap_step, observed, pair_at}
pub use Rattle.shape_links.proofs.Links.{on_one, owner_end, vocabulary_owner}
pub use Rattle.shape_links.specs.Component.{table_of}
pub use Rattle.shape_links.specs.Links.{IsOnOne, IsOwner, ends_below, ends_of}
pub use Rattle.std.proofs.Common.{Bool, IsTrue, List, None, Option, Some, [], ap, arith, cond, drop, false, get_or, inl, inr, length, nat_eq, nat_le, nat_lt, refl, subst, suc, sym, true, zero, ℕ, ◌%◌, ◌++◌, ◌+◌, ◌-◌, ◌<◌, ◌^◌, ◌∙◌, ◌∷◌, ◌≡◌, ◌≤◌, ◌⊎◌}
pub use Rattle.std.proofs.lemmas.List.{get_or_default, with_items_is}
pub use Rattle.std.proofs.lemmas.Result.{IfErr-weaker}
pub use Rattle.std.specs.List.{find}
pub use Rattle.std.specs.Prelude.{IfErr, replicate, slice_get, slice_set, unwrap_or}
pub use Rattle.std.specs.Vec.{with_items}
