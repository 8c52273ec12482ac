use Rattle.determinise.proofs.Prelude.{◌≡◌, ℕ, true, List, [], ◌∷◌, ◌++◌, sym, subst, ◌∙◌, nat_eq, is_member, pointwise, cond-true, AreKnown, not-false, not-true}
use Rattle.determinise.proofs.KnownSets.{known_more}
use Rattle.determinise.proofs.known.Known.add.Goals as goal

pub returns-in_ok-push-clause-known : goal.returns-in_ok-push-clause-known
returns-in_ok-push-clause-known c raw sets k below closure =
    known_more raw c.make_room.new.self.starts c.make_room.new.self.numbers.items sets c.insert_full.new.self c.args.starts c.args.number c.push.new.self.items
    c.in_ok-is_new.ensures.list (not-true (is_member (pointwise nat_eq) c.make_room.new.self.starts c.args.starts) (sym c.in_ok-is_new.ensures.new ∙ c.if-is_new.true)) c.in_ok-push.ensures.items below closure
    (c.make_room.ensures.known raw sets k)

pub returns-else-is_new-clause-known : goal.returns-else-is_new-clause-known
returns-else-is_new-clause-known c raw sets k below closure =
    let member : is_member (pointwise nat_eq) c.make_room.new.self.starts c.args.starts ≡ true = not-false _ (sym c.in_ok-is_new.ensures.new ∙ c.if-is_new.false) in
    subst (λ (ss : List (List ℕ)). AreKnown raw sets ss c.make_room.new.self.numbers.items)
    (sym (c.in_ok-is_new.ensures.list ∙ cond-true (is_member (pointwise nat_eq) c.make_room.new.self.starts c.args.starts) c.make_room.new.self.starts (c.make_room.new.self.starts ++ c.args.starts ∷ []) member))
    (c.make_room.ensures.known raw sets k)
