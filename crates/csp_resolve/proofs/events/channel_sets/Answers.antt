use Rattle.csp_resolve.proofs.Prelude.{◌+◌, ◌≤◌, List, ap, sym, ◌∙◌, arith, Vec, Global, sets_of, types_read, MOST_BYTES, SharedSets, spread, first_of, size}
use Rattle.csp_resolve.proofs.AnswerLaws.{passed_grown}
use Rattle.csp_resolve.proofs.Few.{one_counted}
use Rattle.csp_resolve.proofs.SetsLaws.{sets_begin, sets_end, sets_step, sets_stop, sets_with}
use Rattle.script_names.specs.Resolved as meant
use Rattle.csp_resolve.proofs.events.channel_sets.Goals as goal

pub add_sets-requires : goal.add_sets-requires
add_sets-requires c = record {
  few = (one_counted c.args.decls.now c.loop-decl.decl-index c.loop-decl.i c.decl-item.result MOST_BYTES c.loop-decl-test.true c.decl-item.is c.loop-decl.invariant.few).own;
  plain = c.requires.plain;
}

pub overflow_add-i : goal.overflow_add-i
overflow_add-i c =
    let few : c.loop-decl.i + 1 ≤ MOST_BYTES =
    (one_counted c.args.decls.now c.loop-decl.decl-index c.loop-decl.i c.decl-item.result MOST_BYTES c.loop-decl-test.true c.decl-item.is c.loop-decl.invariant.few).next in
    omega (arith, few)

pub loop-decl-init : goal.loop-decl-init
loop-decl-init c =
    let p = c.args.content.now in
    let types_of = types_read (first_of c.args.meanings.now.names.now) c.args.meanings.now.kinds.now in
    record {
      so_far = sets_begin p types_of c.args.decls.now
          ∙ ap (λ (shared : List SharedSets). sets_with (spread shared) (meant.channel_sets p types_of 0 c.args.decls.now)) (sym c.new-shared.ensures.items);
      few = let few : size c.args.decls.now ≤ MOST_BYTES = c.requires.few in omega (arith, few);
    }

pub loop-decl-preserved : goal.loop-decl-preserved
loop-decl-preserved c =
    let h = c.in_ok-add_sets.ensures in
    let p = c.args.content.now in
    let types_of = types_read (first_of c.args.meanings.now.names.now) c.args.meanings.now.kinds.now in
    record {
      so_far = sets_step p types_of c.args.decls.now c.loop-decl.decl-index c.loop-decl.i c.decl-item.result c.loop-decl-test.true c.decl-item.is
          (spread c.loop-decl.shared.items) (meant.channel_sets p types_of 0 c.args.decls.now) c.loop-decl.invariant.so_far h.0 (spread c.add_sets.new.shared.items) h.1 h.2;
      few = (one_counted c.args.decls.now c.loop-decl.decl-index c.loop-decl.i c.decl-item.result MOST_BYTES c.loop-decl-test.true c.decl-item.is c.loop-decl.invariant.few).left;
    }

pub returns : goal.returns
returns c =
    let p = c.args.content.now in
    let types_of = types_read (first_of c.args.meanings.now.names.now) c.args.meanings.now.kinds.now in
    sets_end p types_of c.args.decls.now c.loop-decl.i c.loop-decl.decl-index (spread c.loop-decl.shared.items) (meant.channel_sets p types_of 0 c.args.decls.now) c.loop-decl-test.false
    c.loop-decl.invariant.so_far

pub returns-in_err-add_sets : goal.returns-in_err-add_sets
returns-in_err-add_sets c =
    let p = c.args.content.now in
    let types_of = types_read (first_of c.args.meanings.now.names.now) c.args.meanings.now.kinds.now in
    passed_grown c.from_residual.result c.in_err-add_sets.field-0.0 (λ (shared : Vec SharedSets Global). spread shared.items) c.loop-decl.shared.items c.add_sets.new.shared.items
    (sets_of p types_of c.loop-decl.i c.decl-item.result) (meant.channel_sets p types_of 0 c.args.decls.now) c.from_residual.ensures.1 c.in_err-add_sets.ensures
    (λ g none. sets_stop p types_of c.args.decls.now c.loop-decl.decl-index c.loop-decl.i c.decl-item.result c.loop-decl-test.true c.decl-item.is
    (spread c.loop-decl.shared.items) (meant.channel_sets p types_of 0 c.args.decls.now) c.loop-decl.invariant.so_far g none)
