use Rattle.net_sound.proofs.Flattening.{tree_steps_are_flat, flat_steps_are_tree_steps, steps_keep_nesting, steps_keep_alphabets}
use Rattle.net_sound.proofs.Shape.{steps_are_told}
use Rattle.net_sound.proofs.nesting_does_not_matter.Goals as goal

pub returns : goal.returns
returns g c =
    let Step = g.S.Transitions.step in
    record { forth = tree_steps_are_flat Step; back = flat_steps_are_tree_steps Step; told = steps_are_told Step; nested = steps_keep_nesting Step; alphabets = steps_keep_alphabets Step }
