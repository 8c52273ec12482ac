-- No script has two networks.
use Rattle.std.specs.Prelude.{◌≡◌}
use Rattle.csp_text.specs.declared.script.Script.{Script}
use Rattle.network_stages.specs.Networks.{IsNetworkOf, Network}

abbrev pub EachScriptHasOneNetwork : Type 0
EachScriptHasOneNetwork = (script : Script) (network other : Network) → IsNetworkOf script network → IsNetworkOf script other → network ≡ other
