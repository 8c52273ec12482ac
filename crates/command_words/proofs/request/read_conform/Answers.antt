use Rattle.command_words.proofs.Prelude.{refl, sym, ◌∙◌, bytes_eq-Decides}
use Rattle.command_words.proofs.Items.{three_words}
use Rattle.command_words.proofs.request.read_conform.Goals as goal

pub returns-in-len3-clause-asks : goal.returns-in-len3-clause-asks
returns-in-len3-clause-asks c = record {
  within = tt;
  are = three_words _ _ _ _ _ _ _ _ _ _ c.in-len3.len_at_least c.in-len3.len_below c.conform-item.is c.script-item.is c.specification-item.is
      c.as_slice.ensures c.as_slice-in-len3.ensures c.as_slice-in-len3-2.ensures ((bytes_eq-Decides _ _).0 (sym c.eq.ensures ∙ c.if-eq.true))
      refl refl;
}
