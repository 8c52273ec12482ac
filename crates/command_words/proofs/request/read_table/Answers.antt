use Rattle.command_words.proofs.Prelude.{refl, sym, ◌∙◌, bytes_eq-Decides}
use Rattle.command_words.proofs.Items.{three_words}
use Rattle.command_words.proofs.request.read_table.Goals as goal

pub returns-in-Some-clause-asks : goal.returns-in-Some-clause-asks
returns-in-Some-clause-asks c = (
  c.in-Some.ensures.number.0,
  three_words _ _ _ _ _ _ _ _ _ _ c.in-len3.len_at_least c.in-len3.len_below c.table-item.is c.script-item.is c.index-item.is
      c.as_slice.ensures c.as_slice-in-Some.ensures c.as_slice-in-len3.ensures ((bytes_eq-Decides _ _).0 (sym c.eq.ensures ∙ c.if-eq.true))
      refl c.in-Some.ensures.number.1,
)
