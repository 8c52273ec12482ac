-- `==` on places is equality.
use Rattle.std.specs.Prelude.{◌≡◌, Bool, true}
use Rattle.std.proofs.lemmas.Bool.{eqb-true}
use Rattle.pool_parts.specs.contracts.place.ProcIdPartialEq.TheImpl as ids
use Rattle.pool_parts.specs.declared.place.ProcId.{ProcId}

abbrev pub eq_id : ProcId → ProcId → Bool
eq_id = (ids.ghosts).eq

pub exact_id : (x y : ProcId) → eq_id x y ≡ true → x ≡ y
exact_id x y h = λ i. record { 0 = eqb-true x.0 y.0 h i }
