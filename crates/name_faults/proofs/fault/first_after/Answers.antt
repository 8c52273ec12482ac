use Rattle.name_faults.proofs.Prelude.{◌≡◌, ◌≤◌, List, [], take, refl, sym, subst, arith, Decl, first_of, meanings_of, IsKnown, fault_from, take_read, MOST_BYTES, declaration_depth, depth, same_meanings}
use Rattle.name_faults.proofs.KnownLemmas.{deep_so, next_known, none_told, nothing_is_known, passed, told_here}
use Rattle.name_faults.proofs.Small.{declarations_fit, definitions_fit, in_declarations}
use Rattle.name_faults.proofs.fault.first_after.Goals as goal

pub loop-decl-init : goal.loop-decl-init
loop-decl-init c = record { names = c.requires.walk; known = nothing_is_known c.args.known.now c.requires.known; so_far = refl }

pub fault_in-requires : goal.fault_in-requires
fault_in-requires c =
    let fits : declaration_depth c.decl-item.result ≤ depth c.args.decls.now = in_declarations c.args.decls.now c.loop-decl.decl-index c.decl-item.result c.loop-decl-test.true c.decl-item.is in
    let shallow = c.requires.small.shallow in
    record { names = c.loop-decl.invariant.names; depth = omega arith }

pub count-requires : goal.count-requires
count-requires c = record {
  declarations = declarations_fit c.args.decls.now c.loop-decl.decl-index MOST_BYTES c.loop-decl.known c.fault_in.new.known c.decl-item.result c.loop-decl-test.true c.requires.small.few c.loop-decl.invariant.known c.in_ok-fault.ensures.known;
  definitions = definitions_fit c.args.decls.now c.loop-decl.decl-index MOST_BYTES c.loop-decl.known c.fault_in.new.known c.decl-item.result c.loop-decl-test.true c.requires.small.few c.loop-decl.invariant.known c.in_ok-fault.ensures.known;
}

pub returns-in-Some : goal.returns-in-Some
returns-in-Some c =
    let decls = c.args.decls.now in
    let kinds = c.args.meanings.now.kinds.now in
    let m = first_of c.args.meanings.now.names.now in
    let same : m ≡ meanings_of decls = same_meanings decls c.args.meanings.now.names.now c.requires.names in
    told_here decls kinds m same c.args.depths.now (deep_so decls kinds m same c.args.depths.now c.requires.depths)
    c.loop-decl.decl-index c.loop-decl.known c.decl-item.result c.in_ok-fault.field-0 c.in-Some.fault (fault_from decls kinds [] decls)
    c.loop-decl-test.true c.decl-item.is c.loop-decl.invariant.known c.loop-decl.invariant.so_far c.in-Some.is c.in_ok-fault.ensures.told

pub loop-decl-preserved : goal.loop-decl-preserved
loop-decl-preserved c =
    let decls = c.args.decls.now in
    let kinds = c.args.meanings.now.kinds.now in
    let m = first_of c.args.meanings.now.names.now in
    let same : m ≡ meanings_of decls = same_meanings decls c.args.meanings.now.names.now c.requires.names in
    record {
      names = c.in_ok-fault.ensures.names;
      known = subst (λ (ds : List Decl). IsKnown ds c.count.new.self) (sym (take_read decls c.loop-decl.decl-index c.decl-item.result c.loop-decl-test.true c.decl-item.is))
          (next_known (take c.loop-decl.decl-index decls) c.loop-decl.known c.fault_in.new.known c.decl-item.result c.count.new.self c.loop-decl.invariant.known
          c.in_ok-fault.ensures.known c.count.ensures);
      so_far = passed decls kinds m same c.args.depths.now (deep_so decls kinds m same c.args.depths.now c.requires.depths)
          c.loop-decl.decl-index c.loop-decl.known c.decl-item.result c.in_ok-fault.field-0 (fault_from decls kinds [] decls)
          c.loop-decl-test.true c.decl-item.is c.loop-decl.invariant.known c.loop-decl.invariant.so_far c.in-None.is c.in_ok-fault.ensures.told;
    }

pub returns : goal.returns
returns c =
    none_told c.args.decls.now c.args.meanings.now.kinds.now c.loop-decl.decl-index (fault_from c.args.decls.now c.args.meanings.now.kinds.now [] c.args.decls.now) (omega arith) c.loop-decl.invariant.so_far
