-- The network of a program is well nested, so its steps are those of its components side by side.
use Rattle.judgement_laws.proofs.Prelude.{ProcessStep, flat_steps_are_tree_steps, tree_steps_are_flat, run_kept, network_is_tree, NetworksAreFlat}

pub networks_are_flat : NetworksAreFlat
networks_are_flat network spelled =
    let nested = (network_is_tree network.program network.tree spelled).0.nesting in
    record {
      forth = λ t u l reached step. tree_steps_are_flat (ProcessStep network.program) t u l (run_kept (ProcessStep network.program) reached.0 network.tree t nested reached.1) step;
      back = λ t l ds reached step. flat_steps_are_tree_steps (ProcessStep network.program) t l ds (run_kept (ProcessStep network.program) reached.0 network.tree t nested reached.1) step;
    }
