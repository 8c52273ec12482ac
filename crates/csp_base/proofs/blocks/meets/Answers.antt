use Rattle.csp_base.proofs.SetTests.{meets_of_from_answer}
use Rattle.csp_base.proofs.blocks.meets.Goals as goal

pub returns : goal.returns
returns c = meets_of_from_answer _ _ _ c.gives_any.ensures.found c.gives_any.ensures.none
