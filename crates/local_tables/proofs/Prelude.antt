-- What the proofs of this crate cite of the crates below, and of its own definitions.
pub use Rattle.containers.proofs.MembersLemmas.{slice_get-append_left}
pub use Rattle.containers.specs.Members.{with_new}
pub use Rattle.csp_base.proofs.Lists.{drop_read, map_push, push_cases, slice_get_last, slice_get_some, take_read}
pub use Rattle.csp_base.proofs.Standard.{cases_lt, drop_all, false≢true, get_or_default, get_or_from_slice_get, length-append, length-map, reverse-append, same_Some, slice_get-get_or, slice_get-map, slice_get_within}
pub use Rattle.csp_base.specs.Lists.{EachOnce, total}
pub use Rattle.csp_base.specs.Prelude.{StandsIn, has}
pub use Rattle.csp_program.specs.Prelude.{proc_depth, proc_size}
pub use Rattle.csp_program.specs.declared.processes.Proc.{Proc}
pub use Rattle.csp_program.specs.declared.programs.Content.{Content}
pub use Rattle.csp_steps.proofs.Firsts.{firsts_back, firsts_once, firsts_there, stands_none}
pub use Rattle.csp_steps.proofs.Noting.{fits_stay}
pub use Rattle.csp_steps.proofs.Targets.{firsts_goals, step_target, target_step}
pub use Rattle.csp_steps.specs.Prelude.{AreFirsts, AreStepsOf, AreTargets, goals, is_by, seen}
pub use Rattle.csp_steps.specs.declared.step.StepTo.{StepTo}
pub use Rattle.csp_tables.specs.Prelude.{Component, ComponentStep, IsInTable, IsStepOf, IsTableOf, Label, Path, RawStep, RawTable, Reached, event_targets, silent, silent_targets, standing_at, targets_in, visible, visible_events}
pub use Rattle.dl_limits.specs.declared.TheConstants.{MOST_TERMS, MOST_TERM_DEPTH}
pub use Rattle.local_tables.specs.Prelude.{AreFound, AreLed, AreRows, AreSteps, AreTabled, AreTaken, AreTerms, AreTermsOf, CanEnd, FaultsExcludeTables, IsAt, IsFollowed, IsInOrder, IsInside, IsLocalTable, IsRow, IsTabled, IsUpTo, IsWithin, LeadsToTerm, Origin, Room, counted_size, first_found, label_of, part_of, process_label, step_count, step_events, step_more, terms_at, with_term}
pub use Rattle.local_tables.specs.declared.found.Found.{Found}
pub use Rattle.local_tables.specs.declared.local_table.LocalTable.{LocalTable}
pub use Rattle.local_tables.specs.declared.task.Task.{Task}
pub use Rattle.net_sound.proofs.Numbered.{run_down}
pub use Rattle.pool_parts.proofs.StoreLemmas.{are_once}
pub use Rattle.pool_parts.specs.Prelude.{capped, eq_id}
pub use Rattle.pool_parts.specs.declared.place.ProcId.{ProcId}
pub use Rattle.process_steps.proofs.Listed.{lists_are, lists_are_there}
pub use Rattle.process_steps.specs.Prelude.{LacksNone, Move, ProcessStep, Step, Ticks}
pub use Rattle.process_steps.specs.declared.label.Label.TheVariants.{Tick}
pub use Rattle.std.proofs.Common.{Bool, Err, IsTrue, List, None, Ok, Option, Some, [], ap, append-nil, append_assoc, arith, cond, eq-eqb, false, inl, inr, length, nat_eq, refl, subst, suc, sym, true, zero, ℕ, ◌++◌, ◌+◌, ◌-◌, ◌<◌, ◌^◌, ◌∙◌, ◌∷◌, ◌≡◌, ◌≤◌, ◌⊎◌}
pub use Rattle.std.proofs.lemmas.Bool.{eqb-true}
pub use Rattle.std.specs.Cmp.{first_so, second_so}
pub use Rattle.std.specs.List.{IsDistinct}
pub use Rattle.std.specs.Prelude.{drop, if◌then◌else◌, map, min, option_map, reverse, slice_get, slice_index_or, take, ◌&&◌}
pub use Rattle.std.specs.Set.{is_member}
pub use Rattle.term_pool.specs.Prelude.{AreDifferent, IsFront, tree_at}
