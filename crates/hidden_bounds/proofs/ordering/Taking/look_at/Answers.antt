use Rattle.hidden_bounds.proofs.Prelude.{◌≡◌, rules, standing_at}
use Rattle.hidden_bounds.specs.declared.standings.Standing.TheVariants as standing
use Rattle.hidden_bounds.proofs.Known.{known_of_round}
use Rattle.hidden_bounds.proofs.Looking.{is_free, is_round, tables_within}
use Rattle.hidden_bounds.proofs.ordering.Taking.look_at.Goals as goal

pub bounds-scope-part : goal.bounds-scope-part
bounds-scope-part c = tables_within c.args.scope.now c.requires.scope _ c.args.part c.requires.so_far.one_each c.requires.within

pub returns-in-Some-clause-free : goal.returns-in-Some-clause-free
returns-in-Some-clause-free c =
    let unknown : standing_at c.args.self.now.standings.items c.args.part ≡ standing.Unknown = search rules in
    is_free _ c.requires.scope _ _ _ c.requires.so_far _ c.index-scope-part.result c.requires.within c.index-scope-part.is unknown c.in-Some.height (rw c.in-Some.is at c.in_ok-height.ensures.height)

pub returns-in-None-clause-so_far : goal.returns-in-None-clause-so_far
returns-in-None-clause-so_far c =
    let unknown : standing_at c.args.self.now.standings.items c.args.part ≡ standing.Unknown = search rules in
    is_round _ c.requires.scope _ _ _ c.requires.so_far _ c.index-scope-part.result c.requires.within c.index-scope-part.is unknown (rw c.in-None.is at c.in_ok-height.ensures.round)

pub returns-in-None-clause-stay : goal.returns-in-None-clause-stay
returns-in-None-clause-stay c =
    let unknown : standing_at c.args.self.now.standings.items c.args.part ≡ standing.Unknown = search rules in
    known_of_round c.args.self.now.standings.items c.args.part c.requires.within unknown
