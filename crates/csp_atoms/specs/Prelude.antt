-- What is defined here, under one name for those who import it.
pub use Rattle.csp_atoms.specs.Merge.{begins_with, least_of, rest_after, result_of, with_last}
pub use Rattle.csp_atoms.specs.Order.{atom_number, kind_of, order_of, same_kind}
unfoldable pub use Rattle.csp_atoms.specs.Order.{less, same}
pub use Rattle.csp_atoms.specs.Search.{count_before, stands_at}
pub use Rattle.csp_atoms.specs.Sets.{AllAbove, AllOfKind, IsAtomSet, IsOneKind, IsRising, alike, both_events, diff_of, event_atoms, event_number, event_numbers, fits, has_atom, inter_of, is_set, leads, one_more, place_of, union_of, with_atom}
pub use Rattle.csp_atoms.specs.declared.atom.Atom.{Atom}
