-- What other libraries give, under one name for the files here.
pub use Rattle.csp_atoms.specs.declared.atom.Atom.{Atom}
pub use Rattle.csp_base.specs.Lists.{EachOnce, StandsIn, greatest}
pub use Rattle.csp_base.specs.Standard.{is_member, list_any, lookup, option_map, pointwise}
pub use Rattle.csp_program.specs.Prelude.{Outcome, all_true, and_then, as_set, event_table, expr_depth_of_layer, gen_depth_of_layer, part_depth_of_layer, row_count, value_of}
pub use Rattle.csp_program.specs.declared.expressions.EventPart.{EventPart}
pub use Rattle.csp_program.specs.declared.expressions.Expr.{Expr, fold-Expr}
pub use Rattle.csp_program.specs.declared.expressions.Expr.TheViews.{roll-EventPart}
pub use Rattle.csp_program.specs.declared.expressions.Gen.{Gen}
pub use Rattle.csp_program.specs.declared.networks.Net.{Net}
pub use Rattle.csp_program.specs.declared.processes.Field.{Field}
pub use Rattle.csp_program.specs.declared.processes.Head.{Head}
pub use Rattle.csp_program.specs.declared.processes.Proc.{Proc}
pub use Rattle.csp_program.specs.declared.programs.Body.{Body}
pub use Rattle.csp_program.specs.declared.programs.Channel.{Channel}
pub use Rattle.csp_program.specs.declared.programs.Content.{Content}
pub use Rattle.csp_program.specs.declared.programs.Def.{Def}
pub use Rattle.csp_text.specs.declared.script.Decl.{Decl}
pub use Rattle.csp_text.specs.declared.script.Script.{Script}
pub use Rattle.csp_text.specs.declared.tree.FieldTree.TheFolds.{fold-Tree}
pub use Rattle.csp_text.specs.declared.tree.FieldTree.TheOpen.{EventTree-F, FieldTree-F, GenTree-F, PartTree-F, Tree-F}
pub use Rattle.csp_text.specs.declared.tree.Tree.{Tree}
pub use Rattle.dl_limits.specs.declared.TheConstants.{MOST_DATA_DEPTH, MOST_EVENTS}
pub use Rattle.script_names.specs.declared.fault.ResolveFault.{ResolveFault}
pub use Rattle.script_names.specs.declared.kinds.Class.{Class}
pub use Rattle.script_names.specs.declared.kinds.Entity.{Entity}
pub use Rattle.script_names.specs.declared.kinds.Kind.{Kind}
pub use Rattle.script_names.specs.declared.kinds.Need.{Need}
pub use Rattle.script_names.specs.declared.kinds.Place.{Place}
pub use Rattle.script_names.specs.declared.kinds.Sense.{Sense}
pub use Rattle.script_names.specs.declared.kinds.Use.{Use}
pub use Rattle.script_names.specs.declared.occurrence.Occurrence.{Occurrence}
pub use Rattle.script_names.specs.declared.occurrence.Occurrence.TheVariants.{Binds, Declares, Form, Notes, Parallel, Uses}
pub use Rattle.std.specs.List.{flat_map}
pub use Rattle.std.specs.Prelude.{Bool, Err, IsTrue, List, None, Ok, Option, Result, Some, [], false, length, map, max, min, nat_eq, nat_le, nat_lt, not, pos, replicate, slice_get, suc, sum, take, true, zero, ℕ}
