use Rattle.csp_base.proofs.Prelude.{◌++◌, ap, events_of}
use Rattle.csp_base.proofs.Words.{word_events-zero}
use Rattle.csp_base.proofs.members.first_block.Goals as goal

pub returns-then-is_empty-clause-events : goal.returns-then-is_empty-clause-events
returns-then-is_empty-clause-events c = ap (λ xs. xs ++ events_of c.args.blocks.now) (word_events-zero 64 0)
