-- What follows from what a call tells.
use Rattle.digraph.proofs.Prelude.{Tells, Stop}
use Rattle.csp_base.specs.declared.stop.Stop.TheVariants as stop

pub tells_weaker : {F : Type 0} (P Q : F → Type 0) → ((f : F) → P f → Q f) → (s : Stop F) → Tells P s → Tells Q s
tells_weaker P Q weaker stop.NoMemory told = told
tells_weaker P Q weaker (stop.Told f) told = weaker f told
