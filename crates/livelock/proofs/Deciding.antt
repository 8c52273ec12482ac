-- A bound that is found, and a fault, as they are told.
use Rattle.livelock.proofs.Prelude.{◌≡◌, ◌<◌, ◌^◌, ℕ, List, length, refl, ap, leaves, Network, ProcessStep, passed, told, HaltsWith, OrderDecides, IsBound, TellsLoop, HiddenBound, LoopFault, Done, Tells, Stop, halt_of}
use Rattle.hidden_bounds.specs.declared.bounding.LoopFault.TheVariants as fault
use Rattle.csp_base.specs.declared.stop.Stop.TheVariants as stop
use Rattle.report.specs.declared.answer.Done.TheVariants as done
use Rattle.report.specs.declared.answer.Refusal.TheVariants as refusal
use Rattle.report.specs.declared.answer.Shortfall.TheVariants as shortfall
use Rattle.report.specs.declared.answer.Verdict.TheVariants as verdict

module _ (network : Network) (events : List ℕ) where
  pub bound_decides : (found : HiddenBound) → IsBound (ProcessStep network.program) events (leaves network.tree) found → found.bound < 2 ^ 64
      → (what : Done) → what ≡ done.LivelockFree (length (leaves network.tree)) found.bound → OrderDecides network events (verdict.Done what)
  unfolding OrderDecides
  bound_decides found is fits what same = passed is.order is.is (passed found.bound (is.bound, fits) (ap verdict.Done same))

  pub fault_decides : (why : Stop LoopFault) → Tells (TellsLoop (ProcessStep network.program) events (leaves network.tree)) why → HaltsWith (OrderDecides network events) (halt_of why)
  unfolding OrderDecides
  fault_decides stop.NoMemory tells = tt
  fault_decides (stop.Told (fault.NoOrder parts)) tells = told (shortfall.NoOrder parts) (parts, tells, refl) refl
  fault_decides (stop.Told (fault.BoundLimit part)) tells = passed tells.order tells.is (told (refusal.BoundLimit part) (part, tells.passes, refl) refl)
