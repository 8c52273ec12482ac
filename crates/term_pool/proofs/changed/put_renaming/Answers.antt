use Rattle.term_pool.proofs.Prelude.{◌≡◌, List, [], map, sym, ◌∙◌, subst, IfOk, given_by, pair_with, past, EventPart, Gen, gens_at, pairs_at}
use Rattle.term_pool.proofs.changed.put_renaming.Goals as goal

pub returns-clause-pairs : goal.returns-clause-pairs
returns-clause-pairs c =
    let pairs_of : List Gen → List (EventPart × EventPart) → List (EventPart × EventPart) = λ gs ps. map (pair_with (past gs (given_by c.args.values.now))) ps in
    c.in_ok-pairs.ensures.place (pairs_of (gens_at c.args.parts.now c.args.gens) (pairs_at c.args.parts.now c.args.pairs))
    (subst (λ (gs : List Gen). IfOk c.put_pairs-made.result (λ made. made ≡ pairs_of gs (pairs_at c.args.parts.now c.args.pairs))) (c.as_slice-old_gens.ensures ∙ sym (c.get-2.ensures []))
    (subst (λ (ps : List (EventPart × EventPart)). IfOk c.put_pairs-made.result (λ made. made ≡ pairs_of c.as_slice-old_gens.result.now ps)) (c.as_slice-old_pairs.ensures ∙ sym (c.get.ensures [])) c.put_pairs-made.ensures))

pub returns-clause-gens : goal.returns-clause-gens
returns-clause-gens c = c.in_ok-gens.ensures.made []
