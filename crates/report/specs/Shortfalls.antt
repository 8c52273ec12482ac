-- The lines of each reason why a network is not proved.
use Rattle.std.specs.Prelude.{ℕ, List, ◌++◌, codes}
use Rattle.csp_base.specs.Standard.{flat_map, decimal}
use Rattle.csp_program.specs.declared.programs.Content.{Content}
use Rattle.design_rules.specs.declared.condition.Condition.{Condition}
use Rattle.design_rules.specs.declared.condition.Condition.TheVariants.{Roles, Clients, Turns, Service, Answers, Kinds, Holders, Grants, Uses}
use Rattle.design_rules.specs.declared.rule_fault.RuleFault.{RuleFault}
use Rattle.design_rules.specs.declared.rule_fault.RuleFault.TheVariants as fault
use Rattle.report.specs.EventText.{event_text}
use Rattle.report.specs.Lines.{trace_text, numbers_text}
use Rattle.report.specs.declared.answer.Shortfall.{Shortfall}
use Rattle.report.specs.declared.answer.Shortfall.TheVariants as shortfall
use Rattle.csp_base.specs.Texts.{line}

abbrev pub link_text : ℕ × ℕ → List ℕ
link_text link = codes "link " ++ decimal link.0 ++ codes " " ++ decimal link.1

-- the number under which it is told that a condition is broken: of clients and servers, or of users and resources
abbrev pub condition_number : Condition → List ℕ
condition_number Roles = codes "26"
condition_number Clients = codes "26"
condition_number Turns = codes "26"
condition_number Service = codes "26"
condition_number Answers = codes "26"
condition_number Kinds = codes "28"
condition_number Holders = codes "28"
condition_number Grants = codes "28"
condition_number Uses = codes "28"

abbrev pub condition_name : Condition → List ℕ
condition_name Roles = codes "S1"
condition_name Clients = codes "S2"
condition_name Turns = codes "S3"
condition_name Service = codes "S4"
condition_name Answers = codes "S5"
condition_name Kinds = codes "U1"
condition_name Holders = codes "U2"
condition_name Grants = codes "U3"
condition_name Uses = codes "U4"

module _ (p : Content) where
  abbrev pub after_text : ℕ → List ℕ → List ℕ
  after_text i trace = codes "component " ++ decimal i ++ codes " after " ++ trace_text p trace

  -- a condition of a rule, with the component that breaks it
  abbrev pub condition_text : Condition → ℕ → List ℕ → List ℕ
  condition_text k i trace =
      condition_number k ++ codes " component " ++ decimal i ++ codes " breaks " ++ condition_name k ++ codes " after " ++ trace_text p trace

  -- what breaks a rule
  abbrev pub broken_rule_text : RuleFault → List ℕ
  broken_rule_text (fault.NoOrder i trace e) = line (codes "23 component " ++ decimal i ++ codes " breaks C1 after " ++ trace_text p trace ++ codes " by " ++ event_text p e)
  broken_rule_text (fault.LinksCircle links) = line (codes "24 links in a circle") ++ flat_map (λ link. line (link_text link)) links
  broken_rule_text (fault.NoWholeEnd left right left_trace right_trace) =
      line (codes "25 link " ++ decimal left ++ codes " " ++ decimal right ++ codes " has no full end")
      ++ line (after_text left left_trace) ++ line (after_text right right_trace)
  broken_rule_text (fault.Broken k i trace) = line (condition_text k i trace)
  broken_rule_text (fault.ClientsCircle clients) = line (codes "27 clients in a circle" ++ numbers_text clients)
  broken_rule_text (fault.ResourcesCircle resources) = line (codes "29 resources in a circle" ++ numbers_text resources)

  abbrev pub shortfall_text : Shortfall → List ℕ
  shortfall_text (shortfall.NotTripleDisjoint e parts) =
      line (codes "20 event " ++ event_text p e ++ codes " is in alphabets " ++ decimal parts.0 ++ codes " " ++ decimal parts.1 ++ codes " " ++ decimal parts.2)
  shortfall_text (shortfall.Stops i trace) = line (codes "21 component " ++ decimal i ++ codes " can stop after " ++ trace_text p trace)
  shortfall_text (shortfall.Breaks f) = broken_rule_text f
  shortfall_text (shortfall.Outside i trace) = line (codes "43 component " ++ decimal i ++ codes " does " ++ trace_text p trace ++ codes " outside its specification")
  shortfall_text (shortfall.Refuses i trace) = line (codes "44 component " ++ decimal i ++ codes " refuses too much after " ++ trace_text p trace)
  shortfall_text (shortfall.NoOrder components) = line (codes "39 no order for components" ++ numbers_text components)
