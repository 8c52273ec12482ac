-- What other libraries give, under one name for the files here.
pub use Rattle.dl_limits.specs.declared.TheConstants.{MOST_BYTES}
pub use Rattle.script_names.specs.Prelude.{Binding, Entities, Front, Name, Reading, Scope, event_of_layer, field_of_layer, first_of, gen_of_layer, is_network, names_of, number_of, part_of_layer, reading, reading_of_layer, sense_in, with}
pub use Rattle.script_sizes.specs.BindingTokens.{all_tokens, field_tokens, fields_tokens, gen_tokens, gens_tokens, pairs_tokens, part_tokens, parts_tokens, set_tokens, tokens}
pub use Rattle.std.specs.Prelude.{Bool, IfOk, List, OnOk, [], length, map, take, true, ℕ}
pub use Rattle.typed_trees.specs.Walked.{past, read_at, standing}
pub use Rattle.typed_trees.specs.Words.{after_field, after_fields, after_gen, after_gens, bound, exprs_at, fields_at, gens_at, pairs_at, parts_at, procs_at, set_at, sides_at, under_gens}
unfoldable pub use Rattle.typed_trees.specs.Words.{expr_at, field_at, gen_at, net_at, networked_at, part_at, proc_at}
