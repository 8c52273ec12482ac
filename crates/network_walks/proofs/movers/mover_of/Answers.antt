use Rattle.network_walks.proofs.Prelude.{ℕ, List, subst, sym, OwnsItsSteps}
use Rattle.network_walks.proofs.Made.{owns}
use Rattle.network_walks.proofs.movers.mover_of.Goals as goal

pub new-requires : goal.new-requires
new-requires c =
    subst (λ (al : List ℕ). OwnsItsSteps al c.args.table.now.local.table) (sym c.alphabet.ensures) (owns c.args.program.now c.args.seat.now c.args.table.now c.requires)
