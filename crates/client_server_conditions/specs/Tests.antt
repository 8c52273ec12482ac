-- S3, S4 and S5 as tests of a node. (No rule's decider cites this.)
use Rattle.std.specs.Prelude.{ℕ, List, Bool, not, ◌&&◌}
use Rattle.std.specs.List.{list_any}
use Rattle.csp_tables.specs.Prelude.{Node, RoleSets}
use Rattle.client_server_conditions.specs.Nodes.{is_out_of_turn, refuses, takes}
use Rattle.client_server_conditions.specs.declared.conditions.RunCondition.{RunCondition}
use Rattle.client_server_conditions.specs.declared.conditions.RunCondition.TheVariants.{Turns, Service, Answers}

-- whether a component with these roles keeps the condition at the node, on a link with these events and these acknowledgements
abbrev pub keeps : RunCondition → List ℕ → List ℕ → RoleSets → List ℕ → Node → Bool → Bool
keeps Turns vocabulary shared roles acknowledgements node opened = not (list_any (is_out_of_turn shared roles opened) node.next)
keeps Service vocabulary shared roles acknowledgements node opened = not (opened && list_any (takes vocabulary roles.sreq) node.accept)
keeps Answers vocabulary shared roles acknowledgements node opened = not (opened && list_any (refuses vocabulary acknowledgements) node.accept)
