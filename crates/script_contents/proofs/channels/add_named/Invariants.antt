use Rattle.script_contents.proofs.Prelude.{◌≡◌, ◌++◌, map, take, Name, plain_channel}
use Rattle.script_contents.proofs.channels.add_named.Given as goal

abbrev pub invariant-loop-x : goal.invariant-loop-x
invariant-loop-x l = l.made ≡ l.initial.made ++ map (λ (x : Name). plain_channel x l.types) (take l.x-index l.xs)
