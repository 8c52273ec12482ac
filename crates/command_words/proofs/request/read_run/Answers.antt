use Rattle.command_words.proofs.Prelude.{sym, ◌∙◌, bytes_eq-Decides}
use Rattle.command_words.proofs.Items.{four_words}
use Rattle.command_words.proofs.request.read_run.Goals as goal

pub returns-in-Some-spelled_number-clause-asks : goal.returns-in-Some-spelled_number-clause-asks
returns-in-Some-spelled_number-clause-asks c = record {
  within = (c.in-Some.ensures.number.0, c.in-Some-spelled_number.ensures.number.0);
  are = four_words _ _ _ _ _ _ _ _ _ _ _ _ c.in-len4.len_at_least c.in-len4.len_below c.run-item.is c.script-item.is c.seed-item.is c.steps-item.is
      c.as_slice.ensures c.as_slice-in-len4-3.ensures c.as_slice-in-len4.ensures c.as_slice-in-len4-2.ensures ((bytes_eq-Decides _ _).0 (sym c.eq.ensures ∙ c.if-eq.true))
      c.in-Some.ensures.number.1 c.in-Some-spelled_number.ensures.number.1;
}
