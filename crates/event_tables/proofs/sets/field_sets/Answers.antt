use Rattle.event_tables.proofs.Prelude.{List, ap, sym, ◌∙◌, Atom, and_then, value_of}
use Rattle.script_names.specs.Resolved as meant
use Rattle.event_tables.proofs.SetLaws.{sets_begin, sets_end, sets_step, sets_stop, sets_with, stop_err}
use Rattle.event_tables.proofs.sets.field_sets.Goals as goal

pub loop-expr-init : goal.loop-expr-init
loop-expr-init c =
    sets_begin c.args.content.now c.args.types.now
    ∙ ap (λ (s : List (List Atom)). sets_with s (meant.field_sets c.args.content.now c.args.types.now)) (sym c.new-sets.ensures)

pub loop-expr-preserved : goal.loop-expr-preserved
loop-expr-preserved c =
    let h = c.in_ok-add_set.ensures in
    sets_step c.args.content.now c.args.types.now c.loop-expr.expr-index c.expr-item.result c.loop-expr-test.true c.expr-item.is c.loop-expr.sets c.loop-expr.invariant
    h.0 c.add_set.new.sets h.1 h.2

pub returns : goal.returns
returns c = sets_end c.args.content.now c.args.types.now c.loop-expr.expr-index c.loop-expr.sets c.loop-expr-test.false c.loop-expr.invariant

pub returns-in_err-add_set : goal.returns-in_err-add_set
returns-in_err-add_set c =
    stop_err c.from_residual.result c.in_err-add_set.field-0.0 c.loop-expr.sets c.add_set.new.sets (and_then (value_of c.args.content.now c.expr-item.result) meant.field_set)
    (meant.field_sets c.args.content.now c.args.types.now) c.from_residual.ensures.1
    (λ why none. sets_stop c.args.content.now c.args.types.now c.loop-expr.expr-index c.expr-item.result c.loop-expr-test.true c.expr-item.is c.loop-expr.sets c.loop-expr.invariant why none)
    c.in_err-add_set.ensures
