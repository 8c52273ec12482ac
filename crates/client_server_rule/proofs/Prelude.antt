-- What proofs of this crate cite of elsewhere, under one name.
pub use Rattle.client_server_conditions.proofs.Deciding.{one_side}
pub use Rattle.client_server_conditions.specs.Network.{Asks, Grants, IsLinked, Network}
pub use Rattle.client_server_rule.specs.Serving.{ServesBelow, ServesOn}
pub use Rattle.csp_tables.specs.Prelude.{Link, Shape, link_at}
pub use Rattle.design_rules.specs.Prelude.{BreaksClientServer, Serves}
pub use Rattle.digraph.proofs.WalkLaws.{same_heights, same_least_circle, same_no_circle}
pub use Rattle.digraph.specs.Prelude.{AreHeights, HasArc, IsLeastCircle, has_arc}
pub use Rattle.std.proofs.Common.{Bool, ap, arith, eq-eqb, inl, inr, length, nat_eq, subst, sym, true, ℕ, ◌&&◌, ◌+◌, ◌<◌, ◌||◌, ◌∙◌, ◌≡◌, ◌⊎◌}
pub use Rattle.std.proofs.lemmas.Bool.{and_from, cases_lt, or_right}
