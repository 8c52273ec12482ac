use Rattle.script_contents.proofs.Prelude.{◌≤◌, arith, tokens, size}
use Rattle.script_contents.proofs.ContentLaws.{content_is}
use Rattle.script_contents.proofs.SizeLaws.{root_tokens}
use Rattle.script_contents.proofs.content.plain_content.Goals as goal

pub definitions_and_root-requires-clause-root : goal.definitions_and_root-requires-clause-root
definitions_and_root-requires-clause-root c =
    let part : tokens c.args.root.now ≤ size c.args.decls.now = root_tokens c.args.decls.now c.args.root.now c.requires.root in
    omega (arith, c.requires.few)

pub returns : goal.returns
returns c =
    content_is c.args.meanings.now.names.now c.args.decls.now c.args.meanings.now.kinds.now c.args.root.now
    (record {
      events = c.new.result;
      channels = c.in_ok-channels.channels;
      consts = c.in_ok-channels.consts;
      defs = c.in_ok-defs.defs;
      roles = c.in_ok-roles.roles;
      resources = c.in_ok-roles.resources;
      root = c.in_ok-defs.root;
    })
    c.requires.names c.requires.root c.new.ensures c.in_ok-channels.ensures.channels c.in_ok-channels.ensures.constants c.in_ok-defs.ensures.definitions c.in_ok-roles.ensures.roles c.in_ok-roles.ensures.resources c.in_ok-defs.ensures.root
