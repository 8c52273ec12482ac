-- The line that tells why a text has no program, and that of each refusal of a program.
use Rattle.std.specs.Prelude.{ℕ, zero, suc, ◌+◌, List, ◌++◌, codes}
use Rattle.std.specs.Fmt.{decimal}
use Rattle.csp_program.specs.declared.kinds.ValueKind.{ValueKind}
use Rattle.csp_program.specs.declared.programs.Content.{Content}
use Rattle.csp_program.specs.declared.kinds.ValueKind.TheVariants as kind
use Rattle.dl_limits.specs.declared.TheConstants.{MOST_COMPONENTS, MOST_NETWORK_DEPTH, MOST_SETS, MOST_TERM_DEPTH, MOST_TERMS}
use Rattle.network_trees.specs.declared.fault.LayoutFault.{LayoutFault}
use Rattle.network_trees.specs.declared.fault.LayoutFault.TheVariants as network
use Rattle.process_steps.specs.declared.component_fault.ComponentFault.{ComponentFault}
use Rattle.process_steps.specs.declared.component_fault.ComponentFault.TheVariants as table
use Rattle.report.specs.EventText.{event_text}
use Rattle.report.specs.Lines.{trace_text}
use Rattle.report.specs.Sides.{side_name}
use Rattle.report.specs.declared.answer.Refusal.{Refusal}
use Rattle.report.specs.declared.answer.Refusal.TheVariants as refusal
use Rattle.report.specs.declared.answer.Side.{Side}
use Rattle.report.specs.declared.answer.Site.{Site}
use Rattle.report.specs.declared.answer.Site.TheVariants as site
use Rattle.report.specs.declared.answer.TextFault.{TextFault}
use Rattle.report.specs.declared.answer.TextFault.TheVariants as fault
use Rattle.script_names.specs.declared.fault.ResolveFault.{ResolveFault}
use Rattle.script_names.specs.declared.fault.ResolveFault.TheVariants as program

abbrev pub kind_text : ValueKind → List ℕ
kind_text kind.Range = codes "Range"
kind_text kind.Division = codes "Division"
kind_text kind.OutsideChannel = codes "OutsideChannel"
kind_text kind.Kind = codes "Kind"
kind_text kind.EmptyChoice = codes "EmptyChoice"
kind_text kind.SetLimit = codes "SetLimit"

abbrev pub site_text : Site → List ℕ
site_text site.Network = codes " in the network"
site_text (site.Component i) = codes " in component " ++ decimal i
site_text (site.Annotation i) = codes " in the annotation of component " ++ decimal i
site_text site.HiddenSet = codes " in the hidden set"

-- a value that there isn't
abbrev pub value_text : ValueKind → Site → List ℕ
value_text k at = codes "2 value fault " ++ kind_text k ++ site_text at

-- why a script has no program
abbrev pub program_text : ResolveFault → List ℕ
program_text program.NoAssert = codes "3 no deadlock assertion"
program_text (program.Unknown d x) = codes "4 unknown name " ++ x ++ codes " in declaration " ++ decimal d
program_text (program.Twice d x) = codes "5 name " ++ x ++ codes " is declared twice in declaration " ++ decimal d
program_text (program.WrongKind d) = codes "6 wrong kind in declaration " ++ decimal d
program_text (program.WrongCount d x) = codes "7 wrong count for " ++ x ++ codes " in declaration " ++ decimal d
program_text (program.ParallelInside d) = codes "8 parallel inside a component in declaration " ++ decimal d
program_text (program.EventLimit n) = codes "9 there are " ++ decimal n ++ codes " events"
program_text (program.DataDepth d) = codes "33 data too deep in declaration " ++ decimal d
program_text (program.Value d k) = codes "2 value fault " ++ kind_text k ++ codes " in declaration " ++ decimal d

-- why the text of a side has no program
abbrev pub text_fault_text : Side → TextFault → List ℕ
text_fault_text s fault.TooLong = codes "36 " ++ side_name s ++ codes " is too long"
text_fault_text s (fault.NoScript at) = codes "1 no script near line " ++ decimal at.line ++ codes " column " ++ decimal at.column
text_fault_text s (fault.Unresolved f) = program_text f

module _ (p : Content) where
  -- where an operand, whose first component has this number and which has so many, differs from its alphabet
  abbrev pub nesting_text : ℕ → ℕ → ℕ → List ℕ
  nesting_text first zero e = codes "14 an empty operand has " ++ event_text p e ++ codes " in its alphabet"
  nesting_text first (suc more) e =
      codes "14 components " ++ decimal first ++ codes " to " ++ decimal (first + more) ++ codes " differ from their alphabet at " ++ event_text p e

  -- why the component with the number i has no normal table
  abbrev pub component_text : ℕ → ComponentFault → List ℕ
  component_text i (table.Value k) = value_text k (site.Component i)
  component_text i table.TermCount = codes "10 component " ++ decimal i ++ codes " has more than " ++ decimal MOST_TERMS ++ codes " terms"
  component_text i table.TermDepth = codes "10 component " ++ decimal i ++ codes " has a term of depth over " ++ decimal MOST_TERM_DEPTH
  component_text i table.TermTotal = codes "10 component " ++ decimal i ++ codes " has terms that are too large"
  component_text i table.StepCount = codes "11 component " ++ decimal i ++ codes " has too many steps"
  component_text i table.Diverges = codes "12 component " ++ decimal i ++ codes " diverges"
  component_text i table.SubsetLimit = codes "13 component " ++ decimal i ++ codes " has more than " ++ decimal MOST_SETS ++ codes " sets of terms"
  component_text i (table.Terminates trace) = codes "19 component " ++ decimal i ++ codes " can terminate after " ++ trace_text p trace

  abbrev pub network_text : LayoutFault → List ℕ
  network_text (network.Value k) = value_text k site.Network
  network_text (network.BadNesting first count e) = nesting_text first count e
  network_text network.EmptyNetwork = codes "15 the network has no components"
  network_text network.ComponentLimit = codes "16 more than " ++ decimal MOST_COMPONENTS ++ codes " components"
  network_text network.NetworkDepth = codes "34 the network is nested deeper than " ++ decimal MOST_NETWORK_DEPTH

  -- why a program is refused
  abbrev pub refusal_text : Refusal → List ℕ
  refusal_text (refusal.Value k at) = value_text k at
  refusal_text (refusal.Network f) = network_text f
  refusal_text (refusal.Component i f) = component_text i f
  refusal_text (refusal.NoComponent n) = codes "35 there are " ++ decimal n ++ codes " components"
  refusal_text (refusal.DifferentEvents n) = codes "41 the events differ at number " ++ decimal n
  refusal_text (refusal.DifferentComponents i) = codes "42 components differ at " ++ decimal i
  refusal_text refusal.NoSet = codes "37 no such set"
  refusal_text (refusal.BoundLimit i) = codes "38 hidden bound passes 64 bits at component " ++ decimal i
