-- The loops; the other goals close by the lemmas that src/trees.rt names.
use Rattle.script_printer.proofs.Prelude.{◌∷◌, arith, Symbol, Comma, Dot, field_tokens, gen_tokens, item_tokens, operand_tokens, part_tokens, renamed_tokens}
use Rattle.script_printer.proofs.Written.{each_end, each_step, separated_end, separated_step}
use Rattle.script_printer.proofs.trees.+trees.Goals as goal

pub put_dotted-loop-field-preserved : goal.put_dotted-loop-field-preserved
put_dotted-loop-field-preserved t c =
    each_step (λ x. Symbol Dot ∷ operand_tokens x) c.args.fields.now c.loop-field.field-index c.field-item.result _ _ _
    c.loop-field-test.true c.field-item.is c.in_ok-put_after.ensures c.loop-field.invariant

pub put_dotted-returns : goal.put_dotted-returns
put_dotted-returns t c = each_end (λ x. Symbol Dot ∷ operand_tokens x) c.args.fields.now c.loop-field.field-index _ _ (omega arith) c.loop-field.invariant

pub put_fields-loop-field-preserved : goal.put_fields-loop-field-preserved
put_fields-loop-field-preserved t c =
    each_step field_tokens c.args.fields.now c.loop-field.field-index c.field-item.result _ _ _
    c.loop-field-test.true c.field-item.is c.in_ok-put_field.ensures c.loop-field.invariant

pub put_fields-returns : goal.put_fields-returns
put_fields-returns t c = each_end field_tokens c.args.fields.now c.loop-field.field-index _ _ (omega arith) c.loop-field.invariant

pub put_items-loop-place-preserved : goal.put_items-loop-place-preserved
put_items-loop-place-preserved t c =
    separated_step item_tokens (Symbol Comma) c.args.items.now c.loop-place.place c.index-items-place.result _ _ _ _
    c.loop-place-test.true c.index-items-place.is c.in_ok-put_between.ensures c.in_ok-put_item.ensures c.loop-place.invariant

pub put_items-returns : goal.put_items-returns
put_items-returns t c = separated_end item_tokens (Symbol Comma) c.args.items.now c.loop-place.place _ _ (omega arith) c.loop-place.invariant

pub put_operands-loop-place-preserved : goal.put_operands-loop-place-preserved
put_operands-loop-place-preserved t c =
    separated_step operand_tokens (Symbol c.args.sign) c.args.operands.now c.loop-place.place c.index-operands-place.result _ _ _ _
    c.loop-place-test.true c.index-operands-place.is c.in_ok-put_between.ensures c.in_ok-put_operand.ensures c.loop-place.invariant

pub put_operands-returns : goal.put_operands-returns
put_operands-returns t c = separated_end operand_tokens (Symbol c.args.sign) c.args.operands.now c.loop-place.place _ _ (omega arith) c.loop-place.invariant

pub put_gens-loop-place-preserved : goal.put_gens-loop-place-preserved
put_gens-loop-place-preserved t c =
    separated_step gen_tokens (Symbol Comma) c.args.gens.now c.loop-place.place c.index-gens-place.result _ _ _ _
    c.loop-place-test.true c.index-gens-place.is c.in_ok-put_between.ensures c.in_ok-put_gen.ensures c.loop-place.invariant

pub put_gens-returns : goal.put_gens-returns
put_gens-returns t c = separated_end gen_tokens (Symbol Comma) c.args.gens.now c.loop-place.place _ _ (omega arith) c.loop-place.invariant

pub put_parts-loop-place-preserved : goal.put_parts-loop-place-preserved
put_parts-loop-place-preserved t c =
    separated_step part_tokens (Symbol Comma) c.args.parts.now c.loop-place.place c.index-parts-place.result _ _ _ _
    c.loop-place-test.true c.index-parts-place.is c.in_ok-put_between.ensures c.in_ok-put_part.ensures c.loop-place.invariant

pub put_parts-returns : goal.put_parts-returns
put_parts-returns t c = separated_end part_tokens (Symbol Comma) c.args.parts.now c.loop-place.place _ _ (omega arith) c.loop-place.invariant

pub put_pairs-loop-place-preserved : goal.put_pairs-loop-place-preserved
put_pairs-loop-place-preserved t c =
    separated_step renamed_tokens (Symbol Comma) c.args.pairs.now c.loop-place.place c.index-pairs-place.result _ _ _ _
    c.loop-place-test.true c.index-pairs-place.is c.in_ok-put_between.ensures c.in_ok-put_pair.ensures c.loop-place.invariant

pub put_pairs-returns : goal.put_pairs-returns
put_pairs-returns t c = separated_end renamed_tokens (Symbol Comma) c.args.pairs.now c.loop-place.place _ _ (omega arith) c.loop-place.invariant
