use Rattle.std.proofs.Common.{◌≡◌, ◌++◌, ◌∷◌, []}
use Rattle.name_tables.proofs.ScopeLemmas.{bound-found, unbound-kept, unbound-numbers}
use Rattle.name_tables.proofs.scope.unbind_in.Goals as goal

pub restore-requires : goal.restore-requires
restore-requires c =
    let e : c.args.bindings.now.items ≡ c.pop.new.self.items ++ c.in-Some.binding ∷ [] = c.in-Some.ensures.items in
    bound-found c.args.last.now c.args.bindings.now.items c.pop.new.self.items c.in-Some.binding e c.requires.numbers

pub returns-in-Some-clause-kept : goal.returns-in-Some-clause-kept
returns-in-Some-clause-kept c =
    let e : c.args.bindings.now.items ≡ c.pop.new.self.items ++ c.in-Some.binding ∷ [] = c.in-Some.ensures.items in
    unbound-kept c.args.bindings.now.items c.pop.new.self.items c.in-Some.binding e c.requires.kept

pub returns-in-Some-clause-numbers : goal.returns-in-Some-clause-numbers
returns-in-Some-clause-numbers c =
    let e : c.args.bindings.now.items ≡ c.pop.new.self.items ++ c.in-Some.binding ∷ [] = c.in-Some.ensures.items in
    unbound-numbers c.args.last.now c.restore.new.last c.args.bindings.now.items c.pop.new.self.items c.in-Some.binding e c.requires.kept c.requires.numbers c.restore.ensures
