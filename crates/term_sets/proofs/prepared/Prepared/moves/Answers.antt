use Rattle.term_sets.proofs.Prelude.{◌≡◌, ℕ, ◌<◌, List, [], get_or, ap, subst, ◌∙◌, flat_map, All, RawTable, AreMovesOf, IfOk-weaker}
use Rattle.term_sets.proofs.MoveLists.{moves_of_terms, moves_within}
use Rattle.term_sets.proofs.prepared.Prepared.moves.Goals as goal

pub returns-clause-steps : goal.returns-clause-steps
returns-clause-steps c =
    let raw : RawTable = c.self.inside.offers in
    let terms = c.args.terms.now in
    let gathered : c.in_ok-moves.moves.items ≡ flat_map (λ n. get_or c.self.inside.moves.items n []) terms = c.in_ok-moves.ensures ∙ ap (λ (rows : List (List (ℕ × ℕ))). flat_map (λ n. get_or rows n []) terms) c.deref.ensures.value in
    IfOk-weaker c.in_order.result _ _ (λ made same. subst (λ (r : RawTable). AreMovesOf r terms made.items) c.self.view_is (moves_of_terms c.self.inside.moves.items raw terms c.in_ok-moves.moves.items made.items c.self.invariant.2 gathered same)) c.in_order.ensures.same

pub returns-clause-within : goal.returns-clause-within
returns-clause-within c =
    let raw : RawTable = c.self.inside.offers in
    let terms = c.args.terms.now in
    let gathered : c.in_ok-moves.moves.items ≡ flat_map (λ n. get_or c.self.inside.moves.items n []) terms = c.in_ok-moves.ensures ∙ ap (λ (rows : List (List (ℕ × ℕ))). flat_map (λ n. get_or rows n []) terms) c.deref.ensures.value in
    IfOk-weaker c.in_order.result _ _ (λ made same. subst (λ (r : RawTable). All (λ step. step.1 < r.count) made.items) c.self.view_is (moves_within raw terms made.items c.self.invariant.0 (moves_of_terms c.self.inside.moves.items raw terms c.in_ok-moves.moves.items made.items c.self.invariant.2 gathered same))) c.in_order.ensures.same
