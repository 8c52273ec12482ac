-- A part none of whose names gets a value stays as it is.
use Rattle.pool_parts.proofs.Prelude.{Some, get_or, ap, sym, ◌∙◌, slice_get-get_or, given_by}
use Rattle.pool_parts.proofs.LowLemmas.{get_none}
use Rattle.pool_parts.proofs.put.put_values.Goals as goal

pub returns-then-are_below-clause-made : goal.returns-then-are_below-clause-made
returns-then-are_below-clause-made g c = λ other.
    let part = get_or c.args.store.now c.args.place other in
    let none = get_none c.measure.result.least (given_by c.args.values.now) (g.T.Part.free part) (c.are_below.ensures c.if-are_below.true) (c.measure.ensures.low other) in
    slice_get-get_or c.args.store.now c.args.place other c.requires ∙ ap (λ x. Some x) (sym (g.met.T.Put.stays (given_by c.args.values.now) part none))
