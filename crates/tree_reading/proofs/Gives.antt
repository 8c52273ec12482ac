-- What the readers give once they may call one another often enough.
use Rattle.tree_reading.proofs.Prelude.{Option, Some, Limited, Settles}

abbrev pub Gives : {A : Type 0} → (Limited → Option A) → A → Type 0
Gives F x = Settles F (Some x)
