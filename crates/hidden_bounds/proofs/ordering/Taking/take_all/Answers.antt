use Rattle.hidden_bounds.proofs.Prelude.{sym, false≢true}
use Rattle.hidden_bounds.proofs.ordering.Taking.take_all.Goals as goal

pub loop-more-init : goal.loop-more-init
loop-more-init c = record { so_far = c.requires.so_far; known = λ no. absurd (false≢true (sym no)) }
