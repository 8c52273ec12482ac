use Rattle.name_tables.proofs.Prelude.{◌++◌, refl, arith, MOST_BYTES, declared, declared_from, counts}
use Rattle.name_tables.proofs.DeclaredLemmas.{declared_step, nothing_left}
use Rattle.name_tables.proofs.SizeLaws.{few_here, few_left}
use Rattle.name_tables.proofs.declared.declare_all.Goals as goal

pub declare-requires : goal.declare-requires
declare-requires c =
    few_here (counts c.loop-decl.numbers) c.loop-decl.decl-index c.args.decls.now c.decl-item.result MOST_BYTES c.loop-decl-test.true c.decl-item.is c.loop-decl.invariant.few

pub loop-decl-preserved : goal.loop-decl-preserved
loop-decl-preserved c = record {
  names = declared_step c.declare.new.names c.loop-decl.names (c.args.names.now ++ declared c.args.decls.now) (counts c.loop-decl.numbers) (counts c.declare.new.numbers)
      c.loop-decl.decl-index c.args.decls.now c.decl-item.result c.loop-decl-test.true c.decl-item.is c.in_ok-declare.ensures.numbers
      c.in_ok-declare.ensures.names c.loop-decl.invariant.names;
  few = few_left (counts c.loop-decl.numbers) (counts c.declare.new.numbers) c.loop-decl.decl-index c.args.decls.now c.decl-item.result MOST_BYTES
      c.loop-decl-test.true c.decl-item.is c.in_ok-declare.ensures.numbers c.loop-decl.invariant.few;
}

pub returns : goal.returns
returns c =
    nothing_left (λ ds. declared_from (counts c.loop-decl.numbers) ds) c.loop-decl.names (c.args.names.now ++ declared c.args.decls.now) c.loop-decl.decl-index c.args.decls.now refl (omega arith) c.loop-decl.invariant.names
