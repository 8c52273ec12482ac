-- Serves the contracts of the set that grows: its two parts rise and are of one kind together.
use Rattle.std.specs.Prelude.{ℕ, List}
use Rattle.csp_atoms.specs.Prelude.{AllOfKind, IsRising}
use Rattle.csp_atoms.specs.declared.atom.Atom.{Atom}

pub record IsParted (settled : List Atom) (waiting : List Atom) : Type 0 where
  pub settled_rises : IsRising settled
  pub waiting_rises : IsRising waiting
  pub kind : ℕ
  pub settled_kind : AllOfKind kind settled
  pub waiting_kind : AllOfKind kind waiting
