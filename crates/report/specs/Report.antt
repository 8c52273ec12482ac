-- The printed report of each answer, and the exit status.
use Rattle.std.specs.Prelude.{ℕ, ℤ, ◌+◌, List, [], ◌∷◌, ◌++◌, codes, length}
use Rattle.csp_base.specs.Standard.{flat_map, decimal, signed_decimal}
use Rattle.csp_program.specs.declared.programs.Content.{Content}
use Rattle.csp_tables.specs.Prelude.{Node}
use Rattle.csp_tables.specs.declared.rule.Rule.{Rule}
use Rattle.csp_tables.specs.declared.rule.Rule.TheVariants.{Cyclic, ClientServer, Resource}
use Rattle.numbered_walks.specs.declared.moves.Move.{Move}
use Rattle.numbered_walks.specs.declared.moves.Move.TheVariants as moves
use Rattle.report.specs.EventText.{event_text}
use Rattle.report.specs.Lines.{set_text}
use Rattle.report.specs.Refusals.{refusal_text, text_fault_text}
use Rattle.report.specs.Shortfalls.{shortfall_text}
use Rattle.report.specs.Sides.{side_line, side_name}
use Rattle.report.specs.declared.answer.Answer.{Answer}
use Rattle.report.specs.declared.answer.Answer.TheVariants as answer
use Rattle.report.specs.declared.answer.Done.{Done}
use Rattle.report.specs.declared.answer.Done.TheVariants as done
use Rattle.report.specs.declared.answer.OutsideFault.{OutsideFault}
use Rattle.report.specs.declared.answer.OutsideFault.TheVariants as outside
use Rattle.report.specs.declared.answer.Side.{Side}
use Rattle.report.specs.declared.answer.Verdict.{Verdict}
use Rattle.report.specs.declared.answer.Verdict.TheVariants as verdict
use Rattle.csp_base.specs.Texts.{line}

-- how a rule is written on a command line and in reports
abbrev pub rule_text : Rule → List ℕ
rule_text Cyclic = codes "cyclic"
rule_text ClientServer = codes "client-server"
rule_text Resource = codes "resource"

-- the report of a network that is proved free of deadlock
abbrev pub deadlock_free_text : (rule : Rule) (components nodes bound : ℕ) (greatest_rank : ℤ) → List ℕ
deadlock_free_text rule components nodes bound greatest_rank =
    line (codes "deadlock-free")
    ++ line (codes "rule " ++ rule_text rule)
    ++ line (codes "components " ++ decimal components)
    ++ line (codes "nodes " ++ decimal nodes)
    ++ line (codes "silent bound " ++ decimal bound)
    ++ line (codes "greatest rank " ++ signed_decimal greatest_rank)

abbrev pub outside_text : Side → OutsideFault → List ℕ
outside_text side outside.NotFound = codes "outside fault: " ++ side_name side ++ codes " not found"
outside_text side outside.NotRead = codes "outside fault: " ++ side_name side ++ codes " not read"

-- the report of a network whose components conform to its specification
abbrev pub conforms_text : (components bound : ℕ) → List ℕ
conforms_text components bound = line (codes "conforms") ++ line (codes "components " ++ decimal components) ++ line (codes "silent bound " ++ decimal bound)

-- the report of a network whose hidden events are bounded
abbrev pub livelock_free_text : (components bound : ℕ) → List ℕ
livelock_free_text components bound = line (codes "livelock-free") ++ line (codes "components " ++ decimal components) ++ line (codes "hidden bound " ++ decimal bound)

-- the report where the text of a side is refused for this reason
abbrev pub refused_text : Side → List ℕ → List ℕ
refused_text side reason = line (codes "refused") ++ side_line side ++ line reason

-- the reports that speak of a network: events are those of its program
module _ (p : Content) where
  -- a node of a table: its events with the nodes to which they lead, and its acceptances
  abbrev pub next_text : ℕ → ℕ × ℕ → List ℕ
  next_text n step = line (decimal n ++ codes " " ++ event_text p step.0 ++ codes " -> " ++ decimal step.1)

  abbrev pub accept_text : ℕ → List ℕ → List ℕ
  accept_text n set = line (decimal n ++ codes " accepts " ++ set_text p set)

  abbrev pub node_text : ℕ → Node → List ℕ
  node_text n node = flat_map (next_text n) node.next ++ flat_map (accept_text n) node.accept

  -- nodes, numbered from n on
  abbrev pub nodes_text : ℕ → List Node → List ℕ
  nodes_text n [] = []
  nodes_text n (node ∷ nodes) = node_text n node ++ nodes_text (n + 1) nodes

  abbrev pub table_text : ℕ → ℕ → List Node → List ℕ
  table_text i count nodes =
      line (codes "component " ++ decimal i ++ codes " of " ++ decimal count) ++ line (codes "nodes " ++ decimal (length nodes)) ++ nodes_text 0 nodes

  -- a step of a run
  abbrev pub move_text : Move → List ℕ
  move_text (moves.Silent i) = line (codes "component " ++ decimal i ++ codes " silent")
  move_text (moves.Event e) = line (event_text p e)

  -- the report of a run, with its last line
  abbrev pub run_text : List Move → List ℕ → List ℕ
  run_text ms last = line (codes "run of " ++ decimal (length ms) ++ codes " steps") ++ flat_map move_text ms ++ line last

  abbrev pub done_text : Done → List ℕ
  done_text (done.Table i count part) = table_text i count part.table
  done_text (done.DeadlockFree rule components nodes bound rank) = deadlock_free_text rule components nodes bound rank
  done_text (done.Conforms components bound) = conforms_text components bound
  done_text (done.Walked ms) = run_text ms (codes "goes on")
  done_text (done.LivelockFree components bound) = livelock_free_text components bound

  abbrev pub verdict_text : Verdict → List ℕ
  verdict_text (verdict.Refused side refusal) = refused_text side (refusal_text p refusal)
  verdict_text (verdict.NotProved shortfall) = line (codes "not proved") ++ shortfall_text p shortfall
  verdict_text (verdict.Stuck ms) = run_text ms (codes "stuck")
  verdict_text (verdict.Done what) = done_text what

abbrev pub report_text : Answer → List ℕ
report_text answer.Usage = line (codes "usage: dlcheck check RULE SCRIPT | show SCRIPT | table SCRIPT INDEX | trial FAMILY N | run SCRIPT SEED STEPS | livelock SCRIPT SET | conform SCRIPT SPEC")
report_text (answer.Outside side fault) = line (outside_text side fault)
report_text (answer.NoProgram side fault) = refused_text side (text_fault_text side fault)
report_text (answer.Shown text) = text
report_text (answer.Decided program verdict) = verdict_text program verdict

-- 0 done, 1 not proved or stuck, 2 refused, 3 no command, 4 a fault outside
abbrev pub verdict_status : Verdict → ℕ
verdict_status (verdict.Refused side refusal) = 2
verdict_status (verdict.NotProved shortfall) = 1
verdict_status (verdict.Stuck ms) = 1
verdict_status (verdict.Done what) = 0

abbrev pub status : Answer → ℕ
status answer.Usage = 3
status (answer.Outside side fault) = 4
status (answer.NoProgram side fault) = 2
status (answer.Shown text) = 0
status (answer.Decided program verdict) = verdict_status verdict
