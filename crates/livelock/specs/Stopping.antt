-- How it is told that a set has no value, and that there is no bound. (For private contracts: no public one cites this.)
use Rattle.hidden_bounds.specs.declared.bounding.LoopFault.{LoopFault}
use Rattle.hidden_bounds.specs.declared.bounding.LoopFault.TheVariants as fault
use Rattle.report.specs.declared.stop.Halt.{Halt}
use Rattle.report.specs.declared.answer.Refusal.{Refusal}
use Rattle.report.specs.declared.answer.Verdict.{Verdict}
use Rattle.report.specs.declared.answer.Refusal.TheVariants as refusal
use Rattle.report.specs.declared.answer.Shortfall.TheVariants as shortfall
use Rattle.report.specs.declared.answer.Side.TheVariants as side
use Rattle.report.specs.declared.answer.Site.TheVariants as site
use Rattle.report.specs.declared.answer.Verdict.TheVariants as verdict
use Rattle.report.specs.declared.stop.Halt.TheVariants as halt
use Rattle.csp_base.specs.declared.stop.Stop.{Stop}
use Rattle.csp_base.specs.declared.stop.Stop.TheVariants as stop
use Rattle.value_operators.specs.Gives.{EvalFault}

abbrev pub stop_without_value : EvalFault → Stop Refusal
stop_without_value stop.NoMemory = stop.NoMemory
stop_without_value (stop.Told kind) = stop.Told (refusal.Value kind site.HiddenSet)

-- the verdict on a network that has no bound
abbrev pub verdict_of : LoopFault → Verdict
verdict_of (fault.NoOrder parts) = verdict.NotProved (shortfall.NoOrder parts)
verdict_of (fault.BoundLimit part) = verdict.Refused side.Script (refusal.BoundLimit part)

abbrev pub halt_of : Stop LoopFault → Halt
halt_of stop.NoMemory = halt.NoMemory
halt_of (stop.Told f) = halt.Told (verdict_of f)
