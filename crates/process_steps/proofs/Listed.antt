-- The laws of lists of steps.
use Rattle.process_steps.specs.Prelude.{ListsAreSteps, ListsAreThere, steps_of}
use Rattle.process_steps.proofs.Chains.{if_of, the_value}
use Rattle.process_steps.proofs.Complete.{lists, there}
use Rattle.process_steps.proofs.Members.{at_place, placed}
use Rattle.process_steps.proofs.Sound.{reads}

pub lists_are : ListsAreSteps
lists_are p t moves h l u = (
  (λ g. (if_of _ (steps_of p t) moves h (reads p t)).steps (l, u) (at_place moves g.0 (l, u) g.1)),
  (λ s. placed moves (l, u) (if_of _ (steps_of p t) moves h (lists p s))),
)

pub lists_are_there : ListsAreThere
lists_are_there p t = ((λ g. (if_of _ (steps_of p t) g.0 g.1 (reads p t)).lacks), (λ h. the_value (steps_of p t) (there p h)))
