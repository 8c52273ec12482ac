use Rattle.csp_steps.proofs.Prelude.{List, Some, ap, sym, ◌∙◌, subst, slice_get, get_or_from_slice_get, tree_at, Does, Operator}
use Rattle.csp_steps.proofs.Alike.{on_ok_of}
use Rattle.csp_steps.proofs.Noting.{fits_noted}
use Rattle.csp_steps.proofs.around.steps_around.Goals as goal

pub returns-clause-fits : goal.returns-clause-fits
returns-clause-fits c =
    let has = c.in_ok-number.ensures.has in
    let same = c.index-as_slice-number.is ∙
    get_or_from_slice_get c.as_slice.result.now c.in_ok-number.number has.value c.index-as_slice-number.result (ap (λ (ops : List Operator). slice_get ops c.in_ok-number.number) c.as_slice.ensures ∙ has.listed) in
    fits_noted c.args.program.now c.args.pool.now c.made_of.new.pool c.operator_number.new.evaluated c.made_of.new.places c.in_ok-steps.ensures.front c.in_ok-number.ensures.fits
    (on_ok_of c.made_of.result c.in_ok-steps.steps _ c.in_ok-steps.was (c.made_of.ensures.noted c.args.program.now c.operator_number.new.evaluated.operators
    (record {
      listed = has.listed ∙ ap (λ (op : Operator). Some op) (sym same);
      does = subst (λ (op : Operator). Does c.args.program.now c.args.pool.now op (tree_at c.args.pool.now c.args.id)) (sym same) has.holds;
    }) c.in_ok-number.ensures.fits.operators))
