use Rattle.comparison.proofs.Prelude.{◌<◌, ◌∙◌, length, ap, arith, sym, Part}
use Rattle.comparison.proofs.Components.{form_read, part_read}
use Rattle.comparison.proofs.conforming.check_parts.Goals as goal

pub check-requires : goal.check-requires
check-requires c =
    let within = c.loop-place-test.true in
    let there : c.loop-place.place < length c.args.specified.now = omega (arith, c.requires.as_many, c.loop-place-test.true) in
    record {
      form = form_read _ _ _ c.requires.form within c.index-parts-place.is;
      specified_form = form_read _ _ _ c.requires.specified_form there c.index-specified-place.is;
      alphabet =
          ap (λ (p : Part). p.alphabet) (part_read _ _ _ within c.index-parts-place.is) ∙ c.requires.events c.loop-place.place within
          ∙ sym (ap (λ (p : Part). p.alphabet) (part_read _ _ _ there c.index-specified-place.is));
    }
