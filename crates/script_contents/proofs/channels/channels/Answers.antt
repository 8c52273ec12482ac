use Rattle.script_contents.proofs.Prelude.{◌≤◌, arith, flat_map, channels_by, declaration_size, size, size_at, flat_end, flat_step}
use Rattle.script_contents.proofs.channels.channels.Goals as goal

pub add_channels-requires : goal.add_channels-requires
add_channels-requires c =
    let part : declaration_size c.decl-item.result ≤ size c.args.decls.now = size_at c.args.decls.now c.loop-decl.decl-index c.decl-item.result c.loop-decl-test.true c.decl-item.is in
    omega (arith, c.requires)

pub loop-decl-preserved : goal.loop-decl-preserved
loop-decl-preserved c =
    flat_step (channels_by c.args.meanings.now) c.add_channels.new.made c.loop-decl.made (flat_map (channels_by c.args.meanings.now) c.args.decls.now) c.loop-decl.decl-index c.args.decls.now c.decl-item.result
    c.loop-decl-test.true c.decl-item.is c.in_ok-add_channels.ensures c.loop-decl.invariant

pub returns : goal.returns
returns c = flat_end (channels_by c.args.meanings.now) c.loop-decl.made (flat_map (channels_by c.args.meanings.now) c.args.decls.now) c.loop-decl.decl-index c.args.decls.now (omega arith) c.loop-decl.invariant
