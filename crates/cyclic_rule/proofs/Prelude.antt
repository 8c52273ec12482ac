-- What the proofs of this crate cite of the crates below, and of its own definitions.
pub use Rattle.csp_base.proofs.Listed.{has_at}
pub use Rattle.csp_base.proofs.Standard.{both_ways, cases_Bool, cases_eq, cases_lt, get_or_from_slice_get, get_or_read, mod-le, mod_below, same_Some, slice_get_within}
pub use Rattle.csp_base.specs.Members.{has}
pub use Rattle.csp_tables.specs.Shape.{IsWellFormed, Shape}
pub use Rattle.cyclic_conditions.specs.Orders.{AreOrders, IsOrder, order_at}
pub use Rattle.cyclic_rule.specs.Chains.{Adds, ComesNext, IsNextAt, IsNextIn, IsRestAfter}
pub use Rattle.design_rules.proofs.Places.{Keeping, first_lap, precedes, precedes_rest, some_links}
pub use Rattle.design_rules.proofs.Walks.{walk_bound}
pub use Rattle.design_rules.specs.Prelude.{AllKeepPlaces, AreChainNumbers, ComesAfter, MustPrecede, NumbersRise, links_of, place_after}
pub use Rattle.digraph.proofs.WalkLaws.{same_walk}
pub use Rattle.digraph.specs.Digraph.{HasArc}
pub use Rattle.digraph.specs.Prelude.{IsLeastCircle, IsLongestWalk}
pub use Rattle.shape_links.proofs.Circles.{circle_some, turned_least}
pub use Rattle.shape_links.proofs.Links.{ends_complete, ends_sound, has_place, place_in, some_at}
pub use Rattle.shape_links.specs.Links.{ends_of}
pub use Rattle.shape_links.specs.Turned.{turned_circle}
pub use Rattle.std.proofs.Common.{List, Some, [], ap, arith, false, get_or, inl, inr, length, map, refl, subst, suc, sym, true, zero, ℕ, ◌%◌, ◌+◌, ◌-◌, ◌<◌, ◌∙◌, ◌≡◌, ◌≤◌, ◌⊎◌}
pub use Rattle.std.specs.Prelude.{slice_get, slice_index}
