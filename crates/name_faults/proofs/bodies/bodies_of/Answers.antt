use Rattle.name_faults.proofs.Prelude.{◌++◌, ◌∙◌, ◌+◌, ◌≤◌, ap, arith, drop, length, sym, drop_read, first_of, bodies_after, declaration_depth, depth}
use Rattle.name_faults.proofs.KnownLemmas.{bodies_on}
use Rattle.name_faults.proofs.Small.{in_declarations}
use Rattle.name_faults.proofs.bodies.bodies_of.Goals as goal

pub add_body-requires : goal.add_body-requires
add_body-requires c =
    let fits : declaration_depth c.decl-item.result ≤ depth c.args.decls.now = in_declarations c.args.decls.now c.loop-decl.decl-index c.decl-item.result c.loop-decl-test.true c.decl-item.is in
    record { names = c.loop-decl.invariant.names; depth = omega arith }

pub loop-decl-preserved : goal.loop-decl-preserved
loop-decl-preserved c =
    let m = c.args.meanings.now in
    let old = c.loop-decl.bodies in
    let rest = drop (c.loop-decl.decl-index + 1) c.args.decls.now in
    record {
      bodies = ap (λ bs. bs ++ bodies_after m (length bs) rest) c.in_ok-add_body.ensures.bodies
          ∙ bodies_on (first_of m.names.now) m.kinds.now rest old c.decl-item.result
          ∙ ap (λ ds. old ++ bodies_after m (length old) ds) (sym (drop_read _ _ _ c.loop-decl-test.true c.decl-item.is))
          ∙ c.loop-decl.invariant.bodies;
      names = c.in_ok-add_body.ensures.names;
    }
