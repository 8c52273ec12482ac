use Rattle.command_words.proofs.Prelude.{refl, sym, ◌∙◌, bytes_eq-Decides}
use Rattle.command_words.proofs.Items.{three_words}
use Rattle.command_words.proofs.request.read_check.Goals as goal

pub returns-in-Some-clause-asks : goal.returns-in-Some-clause-asks
returns-in-Some-clause-asks c =
    three_words _ _ _ _ _ _ _ _ _ _ c.in-len3.len_at_least c.in-len3.len_below c.check-item.is c.rule-item.is c.script-item.is
    c.as_slice.ensures c.as_slice-in-len3.ensures c.as_slice-in-Some.ensures ((bytes_eq-Decides _ _).0 (sym c.eq.ensures ∙ c.if-eq.true))
    c.in-Some.ensures.named refl
