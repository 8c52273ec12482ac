-- The arcs of the digraph of a table's silent steps are these steps.
use Rattle.tau_order.proofs.Prelude.{ℕ, IsTrue, sym, subst, silent, RawTable, RawStep, silent_listed, listed_silent, Digraph, HasArc, AreSilentRows}

module _ (raw : RawTable) (g : Digraph) (rows : AreSilentRows raw g) where
  pub step_of : (s t : ℕ) → HasArc g s t → RawStep raw s silent t
  step_of s t arc = listed_silent raw s t (subst IsTrue (rows.same s t) arc)

  pub arc_of : (s t : ℕ) → RawStep raw s silent t → HasArc g s t
  arc_of s t step = subst IsTrue (sym (rows.same s t)) (silent_listed raw s t step)
