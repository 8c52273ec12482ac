-- Why a script has no network, in the words of the report, excludes that it has one: so each comes exactly where it holds.
use Rattle.csp_text.specs.declared.script.Script.{Script}
use Rattle.network_stages.specs.Prelude.{IsNetworkOf, Network, HasNoNetwork}
use Rattle.report.specs.declared.answer.Answer.{Answer}
use Rattle.report.specs.declared.answer.Side.{Side}

abbrev pub FaultsExcludeNetworks : Type 0
FaultsExcludeNetworks = (side : Side) (script : Script) (network : Network) (a : Answer) → IsNetworkOf script network → HasNoNetwork side script a → ⊥
