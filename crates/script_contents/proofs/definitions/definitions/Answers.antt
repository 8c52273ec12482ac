use Rattle.script_contents.proofs.Prelude.{arith, MOST_BYTES, counts, few_here, few_left, definitions_by, first_of, none_yet}
use Rattle.script_contents.proofs.ContentLaws.{definitions_end, definitions_step}
use Rattle.script_contents.proofs.definitions.definitions.Goals as goal

pub add_definition-requires : goal.add_definition-requires
add_definition-requires c =
    few_here (counts c.loop-decl.numbers) c.loop-decl.decl-index c.args.decls.now c.decl-item.result MOST_BYTES c.loop-decl-test.true c.decl-item.is c.loop-decl.invariant.few

pub count-numbers-requires : goal.count-numbers-requires
count-numbers-requires c =
    few_here (counts c.loop-decl.numbers) c.loop-decl.decl-index c.args.decls.now c.decl-item.result MOST_BYTES c.loop-decl-test.true c.decl-item.is c.loop-decl.invariant.few

pub loop-decl-preserved : goal.loop-decl-preserved
loop-decl-preserved c = record {
  made = definitions_step (first_of c.args.meanings.now.names.now) c.args.meanings.now.kinds.now c.add_definition.new.made c.loop-decl.made (definitions_by c.args.meanings.now none_yet c.args.decls.now)
      (counts c.loop-decl.numbers) (counts c.count-numbers.result) c.loop-decl.decl-index c.args.decls.now c.decl-item.result c.loop-decl-test.true c.decl-item.is
      c.count-numbers.ensures c.in_ok-add_definition.ensures c.loop-decl.invariant.made;
  few = few_left (counts c.loop-decl.numbers) (counts c.count-numbers.result) c.loop-decl.decl-index c.args.decls.now c.decl-item.result MOST_BYTES c.loop-decl-test.true c.decl-item.is
      c.count-numbers.ensures c.loop-decl.invariant.few;
}

pub returns : goal.returns
returns c =
    definitions_end (first_of c.args.meanings.now.names.now) c.args.meanings.now.kinds.now c.loop-decl.made (definitions_by c.args.meanings.now none_yet c.args.decls.now)
    (counts c.loop-decl.numbers) c.loop-decl.decl-index c.args.decls.now (omega arith) c.loop-decl.invariant.made
