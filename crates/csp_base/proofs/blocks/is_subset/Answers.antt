use Rattle.csp_base.proofs.SetTests.{is_subset_of_from_answer}
use Rattle.csp_base.proofs.blocks.is_subset.Goals as goal

pub returns : goal.returns
returns c = is_subset_of_from_answer _ _ _ c.gives_any.ensures.found c.gives_any.ensures.none
