-- What the proofs of this crate cite of the crates below, and of its own definitions.
pub use Rattle.csp_base.proofs.Listed.{any_of, find_has, has_at, none_found}
pub use Rattle.csp_base.proofs.Results.{if_both, was_made}
pub use Rattle.csp_base.proofs.Rising.{is_subset_of_from_members, meets_of_from_member, member_of_superset}
pub use Rattle.csp_base.proofs.SetLaws.{common_member}
pub use Rattle.csp_base.proofs.Standard.{and_from, and_parts, cases_Bool, cases_eq, cases_lt, cond-false, cond-true, false≢true, get_or-append_seam, get_or_append_left, get_or_from_slice_get, get_or_past, length-append, none-some, or_cases, or_right, slice_get_within}
pub use Rattle.csp_base.specs.Members.{has}
pub use Rattle.csp_base.specs.Prelude.{is_subset_of, meets_of}
pub use Rattle.csp_tables.specs.Prelude.{Accepts, AreApart, AsMany, AtMostOne, IsNonEmpty, IsPossible, IsWellFormed, IsWithin, LapsFit, Node, Part, PartRanks, PartsFit, Ranking, RanksFit, RoleSets, Shape, TripleDisjoint, UseSets, acceptance_at, accepted, alphabets_of, end_of, is_end, is_possible, lap_of, no_node, node_at, part_at, rank_at, role_at, use_at}
pub use Rattle.design_rules.proofs.Counts.{count_mono}
pub use Rattle.design_rules.proofs.Cyclic.{earlier_place, place_below}
pub use Rattle.design_rules.proofs.Places.{reached_differ}
pub use Rattle.design_rules.proofs.RankCheck.{lap_absent}
pub use Rattle.design_rules.proofs.Runs.{end_within}
pub use Rattle.design_rules.proofs.Shapes.{link_shared}
pub use Rattle.design_rules.specs.Prelude.{AllKeepPlaces, AreCyclicRanks, AreResourceRanks, IsClientServerRanking, KeepUses, NumbersRise, OthersRankZero, ReachesLink, Serves, above_all, acquires, count_below, ends_lap, is_held, lap_at, links_of, place_of, rank_there, top_number}
pub use Rattle.digraph.specs.Prelude.{AreHeights}
pub use Rattle.dl_limits.specs.declared.TheConstants.{MOST_COMPONENTS}
pub use Rattle.net_sound.proofs.Within.{part_form}
pub use Rattle.rule_rankings.specs.ClientServerRanks.{IsRank, serving_rank}
pub use Rattle.rule_rankings.specs.CyclicRanks.{AreTops, IsGreatest, IsLap}
pub use Rattle.rule_rankings.specs.ResourceRanks.{HaveTop, IsLeastAcquired, number_by}
pub use Rattle.rule_rankings.specs.Rows.{AreAllRanked, AreEach, AreLaps, AreRanked, AreRanks, HasLap, IsRanked, NoLap}
pub use Rattle.shape_links.proofs.Links.{ends_complete, ends_sound, has_place, on_one, one_owner, place_in, some_at, vocabulary_owner}
pub use Rattle.shape_links.specs.Acquired.{is_acquired_by}
pub use Rattle.shape_links.specs.Links.{ends_of}
pub use Rattle.shape_links.specs.Setting.{Setting}
pub use Rattle.std.proofs.Common.{Bool, IsTrue, List, [], ap, arith, cond, eq-eqb, false, get_or, inl, inr, length, lt-ltb, map, max, nat_eq, nat_le, nat_lt, ne_eqb, of_z, pos, refl, subst, suc, sym, to_z, true, w64, zero, ℕ, ℤ, ◌&&◌, ◌*◌, ◌++◌, ◌+◌, ◌-◌, ◌<◌, ◌^◌, ◌||◌, ◌∙◌, ◌∷◌, ◌≡◌, ◌≤◌, ◌⊎◌}
pub use Rattle.std.proofs.lemmas.Bool.{both_ways, eqb-true, or_left}
pub use Rattle.std.proofs.lemmas.Int.{ints}
pub use Rattle.std.proofs.lemmas.List.{get_or_read, map-append}
pub use Rattle.std.specs.List.{list_any}
pub use Rattle.std.specs.Prelude.{slice_index}
