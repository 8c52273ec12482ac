-- What proofs of this crate cite of elsewhere, under one name.
pub use Rattle.csp_base.specs.Prelude.{Tells}
pub use Rattle.csp_tables.proofs.Listed.{listed_silent, silent_at, silent_listed}
pub use Rattle.csp_tables.specs.Prelude.{RawStep, RawTable, SilentStep, silent}
pub use Rattle.digraph.proofs.Results.{tells_weaker}
pub use Rattle.digraph.proofs.WalkLaws.{same_heights, same_least_circle, same_no_circle}
pub use Rattle.digraph.specs.Prelude.{AreHeights, Digraph, HasArc, IsLeastCircle, has_arc}
pub use Rattle.std.proofs.Common.{IsTrue, length, nat_eq, rules, subst, sym, take, ℕ, ◌&&◌, ◌<◌, ◌≡◌}
pub use Rattle.std.specs.List.{list_any}
pub use Rattle.tau_order.specs.SilentRows.{AreSilentRows}
