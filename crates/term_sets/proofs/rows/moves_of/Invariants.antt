use Rattle.term_sets.proofs.Prelude.{◌≡◌, [], take, get_or, flat_map}
use Rattle.term_sets.proofs.rows.moves_of.Given as goal

abbrev pub invariant-loop-n : goal.invariant-loop-n
invariant-loop-n l = l.moves.items ≡ flat_map (λ n. get_or l.rows n []) (take l.n-index l.terms)
