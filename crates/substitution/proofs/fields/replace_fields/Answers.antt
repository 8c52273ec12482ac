use Rattle.substitution.proofs.Prelude.{◌+◌, ◌∷◌, drop, ap, sym, arith, pushed, after_all, field_with, fields_with, given_by, Given}
use Rattle.substitution.proofs.Loops.{next_made, next_left}
use Rattle.substitution.proofs.fields.replace_fields.Goals as goal

pub loop-field-preserved : goal.loop-field-preserved
loop-field-preserved c =
    let rest = drop (c.loop-field.field-index + 1) c.args.fields.now in (
      next_made (fields_with (given_by c.loop-field.values)) c.args.fields.now c.loop-field.field-index c.field-item.result _ (fields_with (given_by c.pass_field.new.values) rest)
          c.loop-field.made c.push_made.new.self (fields_with (given_by c.args.values.now) c.args.fields.now) (omega arith) c.field-item.is
          (ap (λ (given : Given). field_with (given_by c.loop-field.values) c.field-item.result ∷ fields_with given rest) (sym c.in_ok-pass_field.ensures)) c.loop-field.invariant.0
          (pushed _ _ _ _ c.replace_field.ensures c.in_ok-push_made.ensures.ok),
      next_left after_all c.args.fields.now c.loop-field.field-index c.field-item.result (given_by c.loop-field.values) (given_by c.pass_field.new.values)
          (after_all c.args.fields.now (given_by c.args.values.now)) (omega arith) c.field-item.is (ap (after_all rest) c.in_ok-pass_field.ensures) c.loop-field.invariant.1,
    )
