use Rattle.csp_steps.proofs.Prelude.{◌++◌, ◌∷◌, [], map, List, ℕ, ap, ◌∙◌, subst, Atom, tree_at, with_bound, AreMoves, seen, way_move, number_of, IsTurned}
use Rattle.csp_steps.proofs.Walking.{gone_to_way}
use Rattle.csp_steps.proofs.prefix.turn_on.Goals as goal

pub returns-in_ok-add_way-in-Way-clause-round : goal.returns-in_ok-add_way-in-Way-clause-round
returns-in_ok-add_way-in-Way-clause-round c =
    gone_to_way c.args.filling.now.program.now c.args.filling.now.start.now.first c.args.filling.now.to c.args.pool.now c.add_way.new.pool c.args.walk.now c.advance.new.walk c.args.steps.now c.add_way.new.steps
    (with_bound c.advance.new.walk.bound.items [], number_of c.advance.new.walk.values.items) c.in_ok-add_way-in-Way.ensures.front c.requires.to
    (subst (IsTurned c.args.filling.now.program.now c.args.walk.now c.advance.new.walk) c.in-Way.is c.in_ok-advance.ensures.turned)
    (subst (λ (n : ℕ). AreMoves c.add_way.new.pool c.add_way.new.steps
    (map (seen c.args.pool.now) c.args.steps.now ++ way_move c.args.filling.now.start.now.first (tree_at c.args.pool.now c.args.filling.now.to) (with_bound c.advance.new.walk.bound.items [], n) ∷ []))
    (c.number_of-number.ensures ∙ ap number_of c.as_slice.ensures)
    (subst (λ (bs : List (ℕ × Atom)). AreMoves c.add_way.new.pool c.add_way.new.steps
    (map (seen c.args.pool.now) c.args.steps.now ++ way_move c.args.filling.now.start.now.first (tree_at c.args.pool.now c.args.filling.now.to) (with_bound bs [], c.number_of-number.result) ∷ [])) c.as_slice-in-Way.ensures
    c.in_ok-add_way-in-Way.ensures.steps))
