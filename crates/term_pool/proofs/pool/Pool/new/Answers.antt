-- No part, no entry and no measure is kept.
use Rattle.term_pool.proofs.KeptLemmas.{nothing_kept}
use Rattle.term_pool.proofs.pool.Pool.new.Goals as goal

pub invariant_of-result : goal.invariant_of-result
invariant_of-result c = nothing_kept c.no_parts.result c.under.result c.new.result c.no_parts.ensures c.under.ensures c.new.ensures
