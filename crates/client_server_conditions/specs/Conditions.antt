-- S3, S4 and S5, each as what holds after every run of a part. (No rule's decider cites this.)
use Rattle.std.specs.Prelude.{◌≡◌, ◌<◌, ℕ, List, Bool, true, not, ◌&&◌, nat_eq, IsTrue, length}
use Rattle.csp_base.specs.Members.{has}
use Rattle.csp_tables.specs.Prelude.{part_at, AreApart, Node, node_at, end_of, is_end, link_at, RunsTo, role_at}
use Rattle.design_rules.specs.Prelude.{is_open, AllKeep}
use Rattle.design_rules.specs.declared.condition.Condition.{Condition}
use Rattle.design_rules.specs.ClientServer.{TakesTurns, ServesAll, TakesAnswers}
use Rattle.client_server_conditions.specs.Network.{Network, Asks, Grants}
use Rattle.client_server_conditions.specs.Nodes.{AreInTurn, EachShared, HasAllOrNone}
use Rattle.client_server_conditions.specs.declared.conditions.RunCondition.{RunCondition}
use Rattle.client_server_conditions.specs.declared.conditions.RunCondition.TheVariants.{Turns, Service, Answers}
use Rattle.design_rules.specs.declared.condition.Condition.TheVariants as condition

-- which of the rule's conditions it is
abbrev pub condition_of : RunCondition → Condition
condition_of Turns = condition.Turns
condition_of Service = condition.Service
condition_of Answers = condition.Answers

-- the part keeps the condition after the run
abbrev pub Keeps : Network → RunCondition → ℕ → List ℕ → Type 0
Keeps network Turns i s = TakesTurns network.shape network.roles i s
Keeps network Service i s = ServesAll network.shape network.roles i s
Keeps network Answers i s = TakesAnswers network.shape network.roles i s

abbrev pub node_in : Network → ℕ → ℕ → Node
node_in network i n = node_at (part_at network.shape.parts i).table n

-- the node to which the run leads in the part
abbrev pub node_to : Network → ℕ → List ℕ → ℕ
node_to network i s = end_of (part_at network.shape.parts i).table 0 s

-- the acceptance has all acknowledgements of the link to the part
abbrev pub HasAnswers : Network → ℕ → ℕ → List ℕ → Type 0
HasAnswers network i l M = (e : ℕ) → IsTrue (has (link_at network.shape l).shared e) → IsTrue (has (role_at network.roles i).cack e) → IsTrue (has M e)

-- what the condition asks of the part on the link, at the node, where the link is open or not
abbrev pub KeepsAt : Network → RunCondition → ℕ → ℕ → ℕ → Bool → Type 0
KeepsAt network Turns i l n opened = AreInTurn (node_in network i n).next (link_at network.shape l).shared (role_at network.roles i) opened
KeepsAt network Service i l n opened = opened ≡ true → Grants network i l → EachShared (λ M. AreApart M (role_at network.roles i).sreq) network.shape.vocabulary (node_in network i n).accept
KeepsAt network Answers i l n opened = opened ≡ true → Asks network i l → EachShared (HasAnswers network i l) network.shape.vocabulary (node_in network i n).accept

-- after the run
abbrev pub KeepsOn : Network → RunCondition → ℕ → ℕ → List ℕ → Type 0
KeepsOn network condition i l s = RunsTo network.shape i s → KeepsAt network condition i l (node_to network i s) (is_open network.shape network.roles l s)

-- on each link of the part
abbrev pub KeepsLinks : Network → RunCondition → ℕ → List ℕ → Type 0
KeepsLinks network condition i s = (l : ℕ) → l < length network.shape.links → IsTrue (is_end network.shape i l) → KeepsOn network condition i l s

-- what the condition asks of the part whatever the link
abbrev pub KeepsWhole : Network → RunCondition → ℕ → List ℕ → Type 0
KeepsWhole network Turns i s = Unit {0}
KeepsWhole network Service i s = RunsTo network.shape i s → EachShared (HasAllOrNone (role_at network.roles i).sreq) network.shape.vocabulary (node_in network i (node_to network i s)).accept
KeepsWhole network Answers i s = Unit {0}

-- the acknowledgements to the part among the link's events
abbrev pub AreAcknowledgements : Network → ℕ → ℕ → List ℕ → Type 0
AreAcknowledgements network i l events = (e : ℕ) → has events e ≡ (has (link_at network.shape l).shared e && has (role_at network.roles i).cack e)

-- whether the condition asks anything of an end of a link: of which side it is, and whether the link has acknowledgements
abbrev pub is_asked_of : RunCondition → Bool → Bool → Bool
is_asked_of Turns asks acknowledged = true
is_asked_of Service asks acknowledged = not asks && acknowledged
is_asked_of Answers asks acknowledged = asks && acknowledged

-- the side of which the condition asks
abbrev pub IsOnSide : Network → RunCondition → ℕ → ℕ → Type 0
IsOnSide network Turns i l = Unit {0}
IsOnSide network Service i l = Grants network i l
IsOnSide network Answers i l = Asks network i l

-- a state that the events of the link lead to is odd, and the link has acknowledgements
abbrev pub is_open_at : Bool → ℕ → Bool
is_open_at acknowledged state = acknowledged && nat_eq state 1

-- the lesser ones of S3 and S4 hold
abbrev pub KeepLesser : Network → RunCondition → Type 0
KeepLesser network Turns = Unit {0}
KeepLesser network Service = AllKeep (Keeps network Turns)
KeepLesser network Answers = AllKeep (Keeps network Turns) × AllKeep (Keeps network Service)
