use Rattle.conformance.proofs.Prelude.{ℕ, List, length, subst, sym, StepsHaveForm}
use Rattle.conformance.proofs.follower.next_node.Goals as goal

pub target_of-requires : goal.target_of-requires
target_of-requires c =
    let part = c.args.part.now in
    (part.alphabet, length part.table, subst (λ (steps : List (ℕ × ℕ)). StepsHaveForm part.alphabet (length part.table) steps) (sym c.next.ensures) (c.in-Some.ensures.form c.requires))
