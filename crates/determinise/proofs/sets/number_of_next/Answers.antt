use Rattle.determinise.proofs.Prelude.{◌<◌, ◌∙◌, ℕ, List, inl, refl, sym, subst, All, IsSilentClosure, set_at, IsUnmarked}
use Rattle.determinise.proofs.Groups.{targets_below}
use Rattle.determinise.proofs.KnownSets.{known_kept}
use Rattle.determinise.proofs.sets.number_of_next.Goals as goal

pub returns-in-Some-clause-number : goal.returns-in-Some-clause-number
returns-in-Some-clause-number c = c.in-Some.ensures.within c.args.table.now c.args.sets.now c.requires.ready.lists

pub returns-in-Some-clause-set : goal.returns-in-Some-clause-set
returns-in-Some-clause-set c = subst (λ (ts : List ℕ). IsSilentClosure c.args.table.now ts (set_at c.args.sets.now c.in-Some.number)) c.in_ok-starts.ensures (c.in-Some.ensures.set c.args.table.now c.args.sets.now c.requires.ready.lists)

pub returns-in-Some-clause-order : goal.returns-in-Some-clause-order
returns-in-Some-clause-order c = inl (c.in-Some.ensures.within c.args.table.now c.args.sets.now c.requires.ready.lists, refl)

pub number_of_closure-requires-clause-within : goal.number_of_closure-requires-clause-within
number_of_closure-requires-clause-within c = subst (All (λ t. t < c.args.table.now.count)) (sym (c.as_slice.ensures ∙ c.in_ok-starts.ensures)) (targets_below c.args.table.now.count c.args.moves.now c.requires.within)

pub returns-clause-ready : goal.returns-clause-ready
returns-clause-ready c =
    let raw = c.args.table.now in
    let new = c.number_of_closure.new.sets in
    let lists = c.in_ok-add.ensures.known raw new
    (known_kept raw c.args.known.now.starts c.args.known.now.numbers.items (IsSilentClosure raw c.as_slice.result.now) c.args.sets.now new c.number_of_closure.ensures.more c.requires.ready.lists)
    c.in_ok-number.ensures.number
    (subst (λ (ts : List ℕ). IsSilentClosure raw ts (set_at new c.in_ok-number.number)) c.as_slice.ensures c.in_ok-number.ensures.set) in
    record { lists = lists; unmarked = subst (λ marks. IsUnmarked raw.count marks.items) (sym c.in_ok-add.ensures.marks) c.in_ok-number.ensures.unmarked }
