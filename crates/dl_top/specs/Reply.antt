-- What is sent for the words: the report of an answer, and for a trial a line before it that names the trial.
use Rattle.std.specs.Prelude.{ℕ, Option, None, Some, List, [], ◌++◌, codes}
use Rattle.std.specs.Fmt.{decimal}
use Rattle.command_words.specs.declared.request.Trial.{Trial}
use Rattle.csp_tables.specs.declared.rule.Rule.{Rule}
use Rattle.csp_tables.specs.declared.rule.Rule.TheVariants.{ClientServer, Cyclic, Resource}
use Rattle.net_maker.specs.Families.{family_name, family_text}
use Rattle.net_maker.specs.declared.families.Family.{Family}
use Rattle.net_maker.specs.declared.families.Family.TheVariants.{Chain, Forks, Mesh}
use Rattle.report.specs.Prelude.{report_text, status}
use Rattle.report.specs.declared.answer.Answer.{Answer}
use Rattle.dl_top.specs.declared.reply.Reply.{Reply}
use Rattle.csp_base.specs.Texts.{line}

-- the script of a trial, and the rule by which it is judged
abbrev pub trial_text : Trial → List ℕ
trial_text trial = family_text trial.family trial.size

abbrev pub rule_of : Family → Rule
rule_of Forks = Resource
rule_of Chain = ClientServer
rule_of Mesh = Cyclic

abbrev pub heading_text : Option Trial → List ℕ
heading_text None = []
heading_text (Some trial) = line (codes "trial " ++ family_name trial.family ++ codes " " ++ decimal trial.size)

abbrev pub reply_text : Reply → List ℕ
reply_text reply = heading_text reply.trial ++ report_text reply.answer

abbrev pub reply_status : Reply → ℕ
reply_status reply = status reply.answer

-- an answer that is of no trial
abbrev pub plain : Answer → Reply
plain answer = record { trial = None; answer = answer }
