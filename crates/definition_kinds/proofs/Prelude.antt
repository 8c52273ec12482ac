-- What other libraries give, under one name for the files here.
pub use Rattle.csp_base.proofs.Lists.{push_cases}
pub use Rattle.csp_base.proofs.Standard.{any_passes_from_place, cases_Bool, cases_lt, eqb-true, false≢true, fun_ext, get_or-append_seam, get_or_append_left, length-append, list_any_more, lt-ltb, ltb-true, nat_tests, or_cases, or_left, slice_get-map, slice_get_past, slice_get_read, slice_get_within, take_more}
pub use Rattle.csp_base.specs.Members.{has}
pub use Rattle.csp_base.specs.Standard.{Global, flat_map, option_map}
pub use Rattle.csp_text.specs.declared.script.Decl.{Decl}
pub use Rattle.definition_kinds.specs.Found.{AreFound, IsFound, class_found, kind_found}
pub use Rattle.definition_kinds.specs.Sources.{AreLeading, AreReached, comes_from, is_last, is_vertex, marked, some_from}
pub use Rattle.definition_kinds.specs.declared.kinds.Found.{Found}
pub use Rattle.digraph.proofs.WalkLaws.{Reaches-arc, Reaches-itself}
pub use Rattle.digraph.specs.Digraph.{has_arc}
pub use Rattle.digraph.specs.Prelude.{Digraph, HasArc, Reaches, ReachesFrom, Walk}
pub use Rattle.name_tables.specs.Ends.{rows}
pub use Rattle.name_tables.specs.Prelude.{SameFirsts}
pub use Rattle.script_names.specs.Prelude.{AreKindsOf, Entities, HasClass, LeadsTo, Meanings, beyond, body_ends, declared, ends_at, first_ends, first_of, here, meanings_of, script_ends}
pub use Rattle.script_names.specs.declared.kinds.Kind.{Kind}
pub use Rattle.script_names.specs.declared.kinds.Class.{Class}
pub use Rattle.script_names.specs.declared.kinds.End.{End}
pub use Rattle.script_sizes.specs.Size.{declaration_size, size}
pub use Rattle.std.proofs.Common.{Bool, List, [], ap, arith, eq-eqb, false, get_or, inl, inr, length, nat_eq, nat_lt, refl, subst, suc, sym, take, true, zero, ℕ, ◌&&◌, ◌++◌, ◌+◌, ◌<◌, ◌||◌, ◌∙◌, ◌∷◌, ◌≡◌, ◌≤◌, ◌⊎◌}
pub use Rattle.std.specs.List.{list_any}
pub use Rattle.std.specs.Prelude.{IsTrue, None, Some, Vec, if◌then◌else◌, slice_get, ◌↔◌}
