-- What the proofs of this crate cite of the crates below, and of its own definitions.
pub use Rattle.csp_base.proofs.Booleans.{and_second_false}
pub use Rattle.csp_base.proofs.Listed.{any_member, any_of}
pub use Rattle.csp_base.proofs.Rising.{is_subset_of_from_members, member_of_superset}
pub use Rattle.csp_base.proofs.SetLaws.{has-inter_of}
pub use Rattle.csp_base.proofs.Standard.{and_from, and_parts, both_ways, cases_Bool, cases_eq, cond-false, cond-true, eqb-true, false≢true, list_all_at, or_cases, same_Some}
pub use Rattle.csp_base.specs.Prelude.{has, inter_of, is_subset_of, meets_of}
pub use Rattle.csp_tables.specs.Prelude.{Accepts, IsPossible, IsRun, IsWellFormed, IsWithin, Link, Node, Shape, TripleDisjoint, UseSets, acceptances_after, accepted, alphabets_of, end_of, is_possible, link_at, node_at, part_at, use_at}
pub use Rattle.design_rules.proofs.Accepting.{at_place, each_set}
pub use Rattle.design_rules.proofs.Holders.{last_more, last_same, odd_more, odd_same, one_link}
pub use Rattle.design_rules.proofs.Runs.{end_within, possible_within, run_induction}
pub use Rattle.design_rules.proofs.Shapes.{link_shared, some_link}
pub use Rattle.design_rules.specs.Prelude.{LacksKind}
pub use Rattle.design_rules.specs.Resource.{GrantsAll, IsHolder, IsUsedInTurn, JoinsKinds, is_held}
pub use Rattle.net_sound.proofs.Within.{part_form}
pub use Rattle.observed_runs.proofs.Leading.{observed_push}
pub use Rattle.observed_runs.specs.Prelude.{AreEnough, IsExploration, LeadsTo, SeesOnly, holder_step, observed, pair_at}
pub use Rattle.resource_conditions.specs.Finding.{FindsRun, IsFirstWithout}
pub use Rattle.resource_conditions.specs.Setting.{HasLinked, HasParted}
pub use Rattle.resource_conditions.specs.Tests.{Keeps, are_grants, are_turns, is_turn, meets, wanted_in}
pub use Rattle.resource_conditions.specs.declared.resources.Asked.{Asked}
pub use Rattle.shape_links.proofs.Links.{link_past}
pub use Rattle.shape_links.proofs.Watching.{all_enough, holder_only}
pub use Rattle.shape_links.specs.Component.{IsDecided}
pub use Rattle.shape_links.specs.Links.{AreOwners}
pub use Rattle.shape_links.specs.Setting.{KeepKinds, Setting, node_of}
pub use Rattle.std.proofs.Common.{Bool, IsTrue, List, MatchBool, None, Option, Some, [], ap, arith, cond, eq-eqb, false, get_or, inl, inr, length, min, nat_eq, ne_eqb, not, refl, subst, suc, sym, true, ℕ, ◌&&◌, ◌++◌, ◌+◌, ◌-◌, ◌<◌, ◌||◌, ◌∙◌, ◌∷◌, ◌≡◌, ◌≤◌}
pub use Rattle.std.proofs.lemmas.Bool.{cases_lt, or_left, or_right}
pub use Rattle.std.proofs.lemmas.Result.{IfOk-weaker}
pub use Rattle.std.specs.List.{list_all, list_any}
pub use Rattle.std.specs.Prelude.{slice_index}
