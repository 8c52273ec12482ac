use Rattle.resource_rule.proofs.Prelude.{◌∙◌, ℕ, List, ap, refl, sym, subst, cond-false, cond-true, none-some, same_Some, has, Joins, UseSets, use_at}
use Rattle.resource_rule.proofs.InTurn.{turn_of}
use Rattle.resource_rule.proofs.user.User.in_turn.Goals as goal

pub other_end-requires : goal.other_end-requires
other_end-requires c = (c.in-Some.ensures.found c.in-Some.link refl).within

pub returns-in_default : goal.returns-in_default
returns-in_default c _ j l joins on = absurd (none-some l (c.in_default.ensures.owned l (record { within = joins.within; event = on })))

pub returns-then-contains : goal.returns-then-contains
returns-then-contains c told j l joins on =
    let g = c.args.self.now.setting.now in
    let same = same_Some c.in-Some.link l (c.in-Some.ensures.owned l (record { within = joins.within; event = on })) in
    let end = c.other_end.ensures.only j (subst (λ k. Joins c.args.self.now.setting.now.shape c.args.self.now.part j k) (sym same) joins) in
    let release = sym (c.contains-then-contains.ensures.member ∙ ap (λ (xs : List ℕ). has xs c.args.event) (c.release.ensures ∙ ap (λ (u : UseSets). u.release) c.uses-uses.ensures)) ∙ told in
    turn_of g c.args.held.now c.args.event c.in-Some.link c.other_end.result l j same end
    (cond-true (has c.args.held.now c.in-Some.link) (has (use_at g.uses c.other_end.result).release c.args.event) (has (use_at g.uses c.other_end.result).acquire c.args.event) (sym c.contains.ensures.member ∙ c.if-contains.true) ∙ release)

pub returns : goal.returns
returns c told j l joins on =
    let g = c.args.self.now.setting.now in
    let same = same_Some c.in-Some.link l (c.in-Some.ensures.owned l (record { within = joins.within; event = on })) in
    let end = c.other_end.ensures.only j (subst (λ k. Joins c.args.self.now.setting.now.shape c.args.self.now.part j k) (sym same) joins) in
    let acquire = sym (c.contains-2.ensures.member ∙ ap (λ (xs : List ℕ). has xs c.args.event) (c.acquire.ensures ∙ ap (λ (u : UseSets). u.acquire) c.uses-uses.ensures)) ∙ told in
    turn_of g c.args.held.now c.args.event c.in-Some.link c.other_end.result l j same end
    (cond-false (has c.args.held.now c.in-Some.link) (has (use_at g.uses c.other_end.result).release c.args.event) (has (use_at g.uses c.other_end.result).acquire c.args.event) (sym c.contains.ensures.member ∙ c.if-contains.false) ∙ acquire)
