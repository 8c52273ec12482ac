use Rattle.csp_base.proofs.LowestBit.{word_events-cleared}
use Rattle.csp_base.proofs.members.without_lowest.Goals as goal

pub returns : goal.returns
returns c = λ from. word_events-cleared c.args.word from c.requires c.ranges.word.fits
