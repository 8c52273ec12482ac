use Rattle.network_stages.proofs.MadeParts.{AreMade}
use Rattle.network_stages.proofs.parts.all_parts.Given as goal

abbrev pub invariant-loop-place : goal.invariant-loop-place
invariant-loop-place l = AreMade l.program l.seats l.made.items l.place
