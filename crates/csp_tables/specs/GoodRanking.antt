-- A good ranking of a network: over tables of a component each, that have the form of tables and the components'
-- behaviour, it has the numbers that the tables ask for, and it falls along each ungranted request.
use Rattle.std.specs.Prelude.{List}
use Rattle.csp_tables.specs.Label.{Label}
use Rattle.csp_tables.specs.Network.{Component}
use Rattle.csp_tables.specs.Part.{Part}
use Rattle.csp_tables.specs.Form.{HaveForm}
use Rattle.csp_tables.specs.Ranking.{Ranking, Fits}
use Rattle.csp_tables.specs.Behaviour.{HaveBehaviours}
use Rattle.csp_tables.specs.Falls.{Falls}

pub record IsGoodRanking {T : Type 0} (Step : T → Label → T → Type 0) (components : List (Component T)) (parts : List Part) (ranking : Ranking) : Type 0 where
  pub form : HaveForm parts
  pub behaviours : HaveBehaviours Step components parts
  pub fits : Fits parts ranking
  pub falls : Falls parts ranking
