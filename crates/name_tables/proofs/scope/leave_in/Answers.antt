use Rattle.name_tables.proofs.Prelude.{◌≡◌, ◌∙◌, ap, length, map, take, arith, shown}
use Rattle.name_tables.proofs.ScopeLemmas.{map-take}
use Rattle.name_tables.proofs.scope.leave_in.Goals as goal

pub returns-clause-items : goal.returns-clause-items
returns-clause-items c =
    let bs = c.args.bindings.now.items in
    let n : length c.loop-bindings.bindings.items ≡ c.args.count = omega (arith, c.loop-bindings.invariant.enough) in
    ap (map shown) (c.loop-bindings.invariant.is ∙ ap (λ k. take k bs) n) ∙ map-take c.args.count bs
