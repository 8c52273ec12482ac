use Rattle.numbered_walks.proofs.Prelude.{subst, Numbered, OwnsItsSteps}
use Rattle.numbered_walks.proofs.mover.Mover.alphabet.Goals as goal

pub returns-clause-own : goal.returns-clause-own
returns-clause-own c = subst (λ (m : Numbered). OwnsItsSteps m.alphabet m.table) c.self.view_is c.self.invariant.1
