use Rattle.name_tables.proofs.Prelude.{◌++◌, ◌≤◌, arith, flat_map, MOST_BYTES, body_ends, first_of, declaration_size, size, rows}
use Rattle.name_tables.proofs.DeclaredLemmas.{flat_end, flat_step}
use Rattle.name_tables.proofs.SizeLaws.{size_at}
use Rattle.name_tables.proofs.ends.add_bodies.Goals as goal

pub add_body-requires : goal.add_body-requires
add_body-requires c =
    let few : size c.args.decls.now ≤ MOST_BYTES = c.requires in
    let part : declaration_size c.decl-item.result ≤ size c.args.decls.now = size_at c.args.decls.now c.loop-decl.decl-index c.decl-item.result c.loop-decl-test.true c.decl-item.is in
    omega arith

pub loop-decl-preserved : goal.loop-decl-preserved
loop-decl-preserved c =
    flat_step (body_ends (first_of c.args.names.now)) (rows c.add_body.new.all.items) (rows c.loop-decl.all.items) (rows c.args.all.now.items ++ flat_map (body_ends (first_of c.args.names.now)) c.args.decls.now)
    c.loop-decl.decl-index c.args.decls.now c.decl-item.result c.loop-decl-test.true c.decl-item.is c.in_ok-add_body.ensures c.loop-decl.invariant

pub returns : goal.returns
returns c =
    flat_end (body_ends (first_of c.args.names.now)) (rows c.loop-decl.all.items) (rows c.args.all.now.items ++ flat_map (body_ends (first_of c.args.names.now)) c.args.decls.now)
    c.loop-decl.decl-index c.args.decls.now (omega arith) c.loop-decl.invariant
