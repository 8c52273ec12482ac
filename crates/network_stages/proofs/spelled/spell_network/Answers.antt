use Rattle.std.proofs.lemmas.Result.{IfErr-weaker}
use Rattle.network_stages.proofs.Spelling.{has_no_network}
use Rattle.network_stages.proofs.spelled.spell_network.Goals as goal

pub returns-in-Ok-clause-told : goal.returns-in-Ok-clause-told
returns-in-Ok-clause-told c = IfErr-weaker c.lay_out.result _ _ (λ s. has_no_network c.args.side c.args.script.now c.in-Ok.program s c.in-Ok.ensures) c.lay_out.ensures.told
