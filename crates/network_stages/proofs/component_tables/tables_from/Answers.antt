use Rattle.network_stages.proofs.Prelude.{arith, subst, sym, whole_room}
use Rattle.network_stages.proofs.Tabling.{AreMade, first_fault, none_made, one_made}
use Rattle.network_stages.proofs.component_tables.tables_from.Goals as goal

pub loop-part-init : goal.loop-part-init
loop-part-init c =
    let none = subst (λ tables. AreMade c.args.program.now c.args.seats.now tables 0 whole_room) (sym c.new-made.ensures.items) (none_made c.args.program.now c.args.seats.now) in
    record {
      made = subst (λ room. AreMade c.args.program.now c.args.seats.now c.new-made.result.items 0 room) (sym c.whole-room.ensures) none;
      terms = c.new-terms.ensures c.args.program.now;
    }

pub loop-part-preserved : goal.loop-part-preserved
loop-part-preserved c = record {
  made = one_made c.args.program.now c.args.seats.now _ _ c.loop-part.part _ _ _ _ c.loop-part.invariant.made (omega arith) c.index-seats-part.is
      c.in-Ok.ensures.table c.in_ok-add-in-Ok.ensures c.after-room.ensures;
  terms = c.in-Ok.ensures.terms;
}

pub returns-in-Err-clause-told : goal.returns-in-Err-clause-told
returns-in-Err-clause-told c =
    first_fault c.args.program.now c.args.seats.now _ c.loop-part.part c.args.first _ _ _ _ (omega arith) c.index-seats-part.is c.loop-part.invariant.made.so_far
    c.loop-part.invariant.made.left c.in-Err.ensures.fault c.table_fault.ensures
