-- What other libraries give, under one name for the files here.
pub use Rattle.containers.specs.Exact.{IsExact-pointwise}
pub use Rattle.csp_base.proofs.Lists.{drop_read}
pub use Rattle.csp_base.proofs.Standard.{append-nil, drop_of_length-le, list_any-append}
pub use Rattle.csp_base.specs.Standard.{AreApart, IsKeyTest, Ordering, eq_by_cmp, is_eq, list_any, lookup, nat_cmp, pointwise, slice_cmp, texts_ties}
unfoldable pub use Rattle.csp_base.specs.Standard.{KeepsOthers}
pub use Rattle.csp_text.specs.declared.script.Decl.{Decl}
pub use Rattle.dl_limits.specs.declared.TheConstants.{MOST_BYTES}
pub use Rattle.indexmap.proofs.CallerLemmas.{insert_entry-new}
pub use Rattle.name_tables.specs.Counted.{counts, total}
pub use Rattle.name_tables.specs.Ends.{rows}
pub use Rattle.name_tables.specs.Firsts.{SameFirsts, SameNames}
pub use Rattle.name_tables.specs.Hidden.{HasNumbers, KeepHidden, Writes, shown}
pub use Rattle.name_tables.specs.Spelling.{Spelling, at_name}
pub use Rattle.name_tables.specs.declared.declared.Numbers.{Numbers}
pub use Rattle.name_tables.specs.declared.scope.Binding.{Binding}
pub use Rattle.script_names.proofs.Scopes.{names_of-parameters}
pub use Rattle.script_names.specs.Prelude.{Counts, Entities, Name, Scope, body_ends, channels_from, constants_from, counted, declared, declared_from, declares, first_of, is_among, meanings_of, names_of, number_of, or_else, parameters, same_name}
pub use Rattle.script_names.specs.declared.kinds.Entity.{Entity}
pub use Rattle.script_sizes.specs.Size.{declaration_size, size}
pub use Rattle.std.proofs.Common.{Bool, List, None, OnOk, Option, Some, [], ap, append_assoc, arith, cond, drop, false, get_or, if◌then◌else◌, is_some, length, map, nat_eq, refl, rules, subst, suc, sym, take, true, zero, ℕ, ◌++◌, ◌+◌, ◌<◌, ◌||◌, ◌∙◌, ◌∷◌, ◌≡◌, ◌≤◌}
pub use Rattle.std.proofs.lemmas.Bool.{and_from, eq-eqb, eqb-true}
pub use Rattle.std.proofs.lemmas.Cmp.{eq_by_cmp_equiv, nat_list_cmp_total}
pub use Rattle.std.proofs.lemmas.Result.{on_ok_weaker}
pub use Rattle.std.specs.BTreeMap.{BTreeMap}
pub use Rattle.std.specs.List.{flat_map}
pub use Rattle.std.specs.Option.{option_copied_mut}
