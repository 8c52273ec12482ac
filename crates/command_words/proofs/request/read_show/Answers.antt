use Rattle.command_words.proofs.Prelude.{sym, ◌∙◌, bytes_eq-Decides}
use Rattle.command_words.proofs.Items.{two_words}
use Rattle.command_words.proofs.request.read_show.Goals as goal

pub returns-in-len2-clause-asks : goal.returns-in-len2-clause-asks
returns-in-len2-clause-asks c = two_words _ _ _ _ _ _
    c.in-len2.len_at_least c.in-len2.len_below c.show-item.is c.script-item.is
    c.as_slice.ensures c.as_slice-in-len2.ensures
    ((bytes_eq-Decides _ _).0 (sym c.eq.ensures ∙ c.if-eq.true))
