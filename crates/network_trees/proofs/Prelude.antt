-- What proofs of this crate cite of elsewhere, under one name.
pub use Rattle.csp_atoms.specs.Prelude.{event_numbers}
pub use Rattle.csp_atoms.specs.declared.atom.Atom.{Atom}
pub use Rattle.csp_atoms.specs.declared.value.Value.{Value}
pub use Rattle.csp_atoms.specs.declared.value.Value.TheVariants.{Many, One}
pub use Rattle.csp_base.proofs.Rising.{has-union_of}
pub use Rattle.csp_base.proofs.SetLaws.{has-diff_of}
pub use Rattle.csp_base.proofs.Standard.{eq-eqb, false≢true, length-append, lt-ltb, ltb-true, or_left}
pub use Rattle.csp_base.specs.Prelude.{diff_of, has}
pub use Rattle.csp_program.specs.Prelude.{Env, Outcome, and_then, as_set, as_truth, bound_to, given_by, proc_with, truth}
pub use Rattle.csp_program.specs.declared.expressions.Expr.{Expr}
pub use Rattle.csp_program.specs.declared.networks.Net.TheOpen.{Net-F}
pub use Rattle.csp_program.specs.declared.networks.Net.TheViews.{out-Net, out-roll-Net, roll-Net, roll-out-Net}
pub use Rattle.csp_program.specs.declared.networks.Net.{Net}
pub use Rattle.csp_program.specs.declared.processes.Proc.{Proc}
pub use Rattle.csp_program.specs.declared.programs.Body.{Body}
pub use Rattle.csp_program.specs.declared.programs.Content.{Content}
pub use Rattle.csp_program.specs.declared.programs.Def.{Def}
pub use Rattle.csp_tables.specs.Prelude.{Component, Operands, OperandsWellNested, Tree, WellNested, in_some_component, leaf, leaves, leaves_of_operands, none, operand, parallel}
pub use Rattle.dl_limits.specs.declared.TheConstants.{MOST_COMPONENTS}
pub use Rattle.network_trees.specs.Joint.{first_event, joint, lesser, odd_event}
pub use Rattle.network_trees.specs.NetworkOf.{Walked, agreed, all_events, each_operand, goes_on, nested, network_called, network_in, network_of, next_component, operand_first, side_by_side, some_components, two_operands, walked_leaf, walked_node, with_value}
unfoldable pub use Rattle.network_trees.specs.NetworkOf.{tree_within}
pub use Rattle.network_trees.specs.Spelled.{AreOperandsOf, IsSpelledBy, IsTreeOf, depth, greatest_depth}
pub use Rattle.process_steps.specs.Prelude.{arguments_under, events_under, needed_events, set_under, truth_under, value_under}
pub use Rattle.std.proofs.Common.{Bool, Err, List, None, Ok, Some, [], ap, arith, eqb, false, if◌then◌else◌, length, map, not, refl, subst, suc, sym, true, zero, ℕ, ◌&&◌, ◌++◌, ◌+◌, ◌-◌, ◌<◌, ◌||◌, ◌∙◌, ◌∷◌, ◌≡◌, ◌≤◌}
pub use Rattle.std.proofs.lemmas.Bool.Decides.{nat_tests}
pub use Rattle.std.proofs.lemmas.Grind.{common_steps}
pub use Rattle.std.specs.Prelude.{IfOk, Option, nat_lt, slice_get}
