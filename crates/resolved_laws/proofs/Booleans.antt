-- What `&&`, `||` and `not` say of their parts.
use Rattle.resolved_laws.proofs.Sources.{Bool, true, false, ◌&&◌, IsTrue, refl, false≢true, is_and}

pub and : {a b : Bool} → IsTrue a → IsTrue b → IsTrue (a && b)
and {a} {b} h g = is_and a b h g

pub two : (a b : Bool) → IsTrue (a && b) → IsTrue a × IsTrue b
two true b h = (refl, h)
two false b h = absurd (false≢true h)
