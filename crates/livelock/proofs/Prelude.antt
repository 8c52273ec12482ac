-- What the proofs of this crate cite of the crates below, and of its own definitions.
pub use Rattle.csp_base.proofs.Standard.{YieldsList-from_slice, find_from_yields_List}
pub use Rattle.csp_base.specs.Prelude.{Tells}
pub use Rattle.csp_base.specs.declared.stop.Stop.{Stop}
pub use Rattle.csp_program.specs.Prelude.{Outcome}
pub use Rattle.csp_program.specs.declared.expressions.Expr.{Expr}
pub use Rattle.csp_program.specs.declared.kinds.ValueKind.{ValueKind}
pub use Rattle.csp_tables.specs.Network.{leaves}
pub use Rattle.hidden_bounds.proofs.Passing.{passes_excludes, passes_once}
pub use Rattle.hidden_bounds.specs.Prelude.{IsBound, TellsLoop}
pub use Rattle.hidden_bounds.specs.declared.bounding.HiddenBound.{HiddenBound}
pub use Rattle.hidden_bounds.specs.declared.bounding.LoopFault.{LoopFault}
pub use Rattle.hidden_steps.proofs.Agreeing.{no_order, one_order, one_rest}
pub use Rattle.hidden_steps.proofs.Bounding.{hidden_steps_are_bounded}
pub use Rattle.hidden_steps.specs.Order.{Taken}
pub use Rattle.livelock.specs.Bounded.{HasOrder, HasTooGreatBound, IsBoundOf, IsToldBound, LacksOrder, LacksValue, NamesNoSet}
unfoldable pub use Rattle.livelock.specs.Bounded.{IsBounded, OrderDecides}
pub use Rattle.livelock.specs.Complete.{BoundsAreTold, IsWithinBound, StatusesAreOne, VerdictsAreOne}
pub use Rattle.livelock.specs.Named.{data_named, datum, is_data_named}
pub use Rattle.livelock.specs.Stopping.{halt_of}
pub use Rattle.livelock.specs.Whole.{BoundsHidden, IsBoundedWhole}
pub use Rattle.network_stages.proofs.Excluded.{faults_exclude_tables}
pub use Rattle.network_stages.specs.Networks.{IsSpelled, Network}
pub use Rattle.network_stages.specs.Prelude.{HasNoTables, HasTables}
pub use Rattle.network_trees.proofs.InOrder.{network_is_tree}
pub use Rattle.process_steps.specs.ComponentStep.{ProcessStep}
pub use Rattle.process_steps.specs.Prelude.{events_in}
pub use Rattle.report.proofs.Points.{at_refusal, goes_on, refused_or, unproved_or}
pub use Rattle.report.specs.Prelude.{Point, RefusedOr, passed, told, verdict_status}
pub use Rattle.report.specs.declared.answer.Shortfall.{Shortfall}
pub use Rattle.report.specs.Stops.{Answers, HaltsWith}
pub use Rattle.report.specs.declared.answer.Done.{Done}
pub use Rattle.report.specs.declared.answer.Refusal.{Refusal}
pub use Rattle.report.specs.declared.answer.Verdict.{Verdict}
pub use Rattle.std.proofs.Common.{Err, List, None, Ok, Option, Some, ap, length, refl, rules, subst, sym, tests, ℕ, ◌<◌, ◌^◌, ◌∙◌, ◌≡◌, ◌≤◌}
pub use Rattle.std.specs.Option.{option_and_then, option_copied}
