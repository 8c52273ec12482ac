-- What proofs of this crate cite of elsewhere, under one name.
pub use Rattle.csp_program.specs.declared.processes.Proc.{Proc}
pub use Rattle.csp_tables.specs.Prelude.{Component, IsPartOf, Part, leaves}
pub use Rattle.network_stages.specs.Prelude.{HasNoPart, Network}
pub use Rattle.process_steps.specs.Prelude.{ProcessStep}
pub use Rattle.report.proofs.Points.{at_refusal, at_want, goes_on, refused_or}
pub use Rattle.report.specs.Prelude.{passed, told}
pub use Rattle.report.specs.declared.answer.Refusal.{Refusal}
pub use Rattle.report.specs.declared.answer.Verdict.{Verdict}
pub use Rattle.std.proofs.Common.{Some, arith, rules, slice_get, subst, sym, ℕ, ◌∙◌, ◌≡◌}
pub use Rattle.std.proofs.lemmas.Option.{same_Some, slice_get_within}
pub use Rattle.tabulation.specs.Tabulated.{IsTable}
unfoldable pub use Rattle.tabulation.specs.Tabulated.{IsTabulated}
