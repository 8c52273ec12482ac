use Rattle.observed_runs.proofs.Prelude.{◌≡◌, ◌++◌, ◌∷◌, [], ℕ, List, get_or, set, ap, sym, subst, rules, ◌∙◌, get_or_read, with_member, AreMarked}
use Rattle.observed_runs.proofs.Marking.{one_more, unmarked}
use Rattle.observed_runs.proofs.pairs.Pairs.insert_new.Goals as goal

pub invariant_of-self-2 : goal.invariant_of-self-2
invariant_of-self-2 c =
    let old = c.self.inside in
    let pairs : c.push.new.self.items ≡ c.self.inside.pairs.items ++ c.args.pair ∷ [] = search rules in
    let marks : c.insert.new.self ≡ with_member c.args.pair.1 (get_or c.make_room.new.seen.items c.args.pair.0 []) =
    c.in_ok-insert.ensures.ok ∙ ap (with_member c.args.pair.1) (get_or_read c.make_room.new.seen.items c.args.pair.0 c.index_mut.result.now c.in_ok-make_room.ensures.room c.index_mut.ensures.value []) in
    subst (λ (ps : List (ℕ × ℕ)). AreMarked ps (set c.make_room.new.seen.items c.args.pair.0 c.insert.new.self)) (sym pairs)
    (subst (λ (seconds : List ℕ). AreMarked (old.pairs.items ++ c.args.pair ∷ []) (set c.make_room.new.seen.items c.args.pair.0 seconds)) (sym marks)
    (one_more c.make_room.new.seen.items c.args.pair c.in_ok-make_room.ensures.room old.pairs.items old.seen.items c.self.invariant (unmarked old.pairs.items old.seen.items c.args.pair c.self.invariant (rw (← c.self.view_is) at c.requires)) c.make_room.ensures.same))
