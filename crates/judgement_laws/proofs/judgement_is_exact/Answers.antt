use Rattle.judgement_laws.proofs.Whole.{exact}
use Rattle.judgement_laws.proofs.judgement_is_exact.Goals as goal

pub returns : goal.returns
returns c = exact
