-- What was printed of a reply, and how a fault of a text is told. (For private contracts: no public one cites this.)
use Rattle.std.specs.Prelude.{◌≡◌, ℕ, List, Result, Err}
use Rattle.csp_text.specs.declared.fault.NoScript.{NoScript}
use Rattle.dl_outside.specs.declared.shelf.LoadFault.{LoadFault}
use Rattle.report.specs.declared.answer.Answer.{Answer}
use Rattle.report.specs.declared.answer.Side.{Side}
use Rattle.report.specs.declared.answer.Answer.TheVariants as answer
use Rattle.report.specs.declared.answer.TextFault.TheVariants as text
use Rattle.csp_base.specs.declared.stop.Stop.{Stop}
use Rattle.csp_base.specs.declared.stop.Stop.TheVariants as stop
use Rattle.dl_top.specs.Cause.{TellsLoad}
use Rattle.dl_top.specs.Reply.{reply_status, reply_text}
use Rattle.dl_top.specs.declared.reply.Printed.{Printed}
use Rattle.dl_top.specs.declared.reply.Reply.{Reply}

pub record Prints (Cause : Reply → Type 0) (printed : Printed) : Type 0 where
  pub reply : Reply
  pub cause : Cause reply
  pub text : printed.text ≡ reply_text reply
  pub status : printed.status ≡ reply_status reply

-- the text of this side could not be loaded by a load like this, as it is told
abbrev pub IsUnloaded : (Result (List ℕ) LoadFault → Type 0) → Side → Answer → Type 0
IsUnloaded IsLoad side a = (f : LoadFault) × IsLoad (Err f) × TellsLoad side f a

-- why a walk stops at a text of this side that is no script
abbrev pub no_script : Side → Stop NoScript → Stop Answer
no_script side stop.NoMemory = stop.NoMemory
no_script side (stop.Told fault) = stop.Told (answer.NoProgram side (text.NoScript fault.at))
