-- What is defined here, under one name for those who import it.
pub use Rattle.report.specs.EventText.{channel_name, event_text, info_text}
pub use Rattle.report.specs.Lines.{events_text, more_events_text, numbers_text, set_text, trace_text}
pub use Rattle.report.specs.Parts.{part_text, parts_text, text_and, words_text}
pub use Rattle.report.specs.Points.Point.{passed, told}
pub use Rattle.report.specs.Points.{Point, RefusedOr, RefusedUnless, UnprovedOr, UnprovedUnless}
pub use Rattle.report.specs.Refusals.{component_text, kind_text, nesting_text, network_text, program_text, refusal_text, site_text, text_fault_text, value_text}
pub use Rattle.report.specs.Report.{conforms_text, deadlock_free_text, done_text, livelock_free_text, refused_text, report_text, rule_text, run_text, status, verdict_status, verdict_text}
pub use Rattle.report.specs.Shortfalls.{shortfall_text}
pub use Rattle.report.specs.Sides.{side_line, side_name}
pub use Rattle.report.specs.Stops.{Answers, Ends, HaltsWith, IsEnd, IsVerdict, refuse, unproved}
