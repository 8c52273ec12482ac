use Rattle.shape_links.proofs.Prelude.{◌∙◌, ap, sym, subst, HasForm, Shape, part_form}
use Rattle.shape_links.proofs.Links.{part_read}
use Rattle.shape_links.proofs.sorted_shape.SortedShape.part.Goals as goal

pub returns-clause-form : goal.returns-clause-form
returns-clause-form c =
    let shape = c.args.self.now in
    let p = part_read shape c.parts.result.now c.args.part c.index-parts-part.result (c.parts.ensures.value ∙ ap (λ (s : Shape). s.parts) c.shape.ensures.value) c.requires c.index-parts-part.is in
    subst HasForm (sym p) (part_form shape.parts c.args.part c.requires c.shape.ensures.form.form)
