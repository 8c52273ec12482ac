use Rattle.pool_parts.proofs.Prelude.{refl, arith, common_steps}
use Rattle.pool_parts.proofs.LowLemmas as low
use Rattle.pool_parts.proofs.measured.of_fields.Goals as goal

pub loop-field-init : goal.loop-field-init
loop-field-init c = record { small = grind (arith, common_steps); depth = grind (arith, common_steps); size = grind (arith, common_steps); low = low.low_start low.fields_free c.args.fields.now c.leaf-all.result.least }

pub loop-field-preserved : goal.loop-field-preserved
loop-field-preserved c = record {
  small = grind (arith, common_steps);
  depth = grind (arith, common_steps);
  size = grind (arith, common_steps);
  low = low.low_step low.fields_free c.args.fields.now low.field_free low.first_field c.loop-field.field-index c.field-item.result c.loop-field.all.least c.of_field.result.least c.join-all.result.least
      c.loop-field-test.true c.field-item.is c.loop-field.invariant.low c.join-all.ensures.least c.of_field.ensures.low;
}

pub returns-clause-low : goal.returns-clause-low
returns-clause-low c = low.low_end low.fields_free c.args.fields.now refl c.loop-field.field-index c.loop-field.all.least c.loop-field-test.false c.loop-field.invariant.low
