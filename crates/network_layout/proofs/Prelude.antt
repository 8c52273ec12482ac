-- What the proofs of this crate cite of the crates below, and of its own definitions.
pub use Rattle.csp_atoms.specs.declared.value.Value.TheVariants.{One}
pub use Rattle.csp_atoms.specs.declared.atom.Atom.{Atom}
pub use Rattle.csp_base.proofs.Lists.{drop_read, map_push, take_read}
pub use Rattle.csp_base.proofs.Results.{pushed}
pub use Rattle.csp_base.proofs.Rising.{RisesFrom, has-union_of, has_below, rises_from_increasing}
pub use Rattle.csp_base.proofs.SetLaws.{increasing-set_of, increasing-union_of, same_set}
pub use Rattle.csp_base.specs.Events.{union_of, with_member}
pub use Rattle.csp_base.specs.Members.{has}
pub use Rattle.csp_base.specs.Prelude.{Tells}
pub use Rattle.csp_base.specs.declared.stop.Stop.{Stop}
pub use Rattle.csp_program.specs.Outcome.{Outcome}
pub use Rattle.csp_program.specs.Prelude.{Env, and_then, value_within, with_bound}
pub use Rattle.csp_program.specs.declared.networks.Net.TheOpen.{Net-F}
pub use Rattle.csp_program.specs.declared.networks.Net.TheViews.{out-Net, out-roll-Net}
pub use Rattle.csp_program.specs.Value.{bound_to}
pub use Rattle.csp_program.specs.declared.expressions.Expr.{Expr}
pub use Rattle.csp_program.specs.declared.networks.Net.{Net, the_lemmas}
pub use Rattle.csp_program.specs.declared.processes.Proc.{Proc}
pub use Rattle.csp_program.specs.declared.programs.Content.{Content}
pub use Rattle.csp_tables.specs.Network.Operands.{none, operand}
pub use Rattle.csp_tables.specs.Network.Tree.{leaf, parallel}
pub use Rattle.csp_tables.specs.Network.{Component, Operands, Tree, leaves, leaves_of_operands}
pub use Rattle.csp_tables.specs.Part.{TripleDisjoint, sharers}
unfoldable pub use Rattle.csp_values.specs.Worth.{worths}
pub use Rattle.dl_limits.specs.declared.TheConstants.{MOST_COMPONENTS}
pub use Rattle.network_layout.specs.Lays.{Fails, IsLaid, Lays, Place, component, names_of, pair_walked, place_of, seated, walked, with_name}
unfoldable pub use Rattle.network_layout.specs.Lays.{node, one_operand, operand_walked, operands_each}
pub use Rattle.network_layout.specs.Told.{IsUntold, noted_fault}
pub use Rattle.network_layout.specs.Triple.{AreCrowded, AreIn, IsCounted, SharesEvent, alphabets, holders}
pub use Rattle.network_layout.specs.declared.told.NotedFault.{NotedFault}
pub use Rattle.network_layout.specs.declared.triple.Counted.{Counted}
pub use Rattle.network_layout.specs.declared.walk.Operand.{Operand}
pub use Rattle.network_trees.specs.Joint.{joint}
pub use Rattle.network_trees.specs.NetworkOf.{Walked, each_operand, goes_on, operand_first, side_by_side, walked_node, with_value}
unfoldable pub use Rattle.network_trees.specs.NetworkOf.{tree_within}
pub use Rattle.network_trees.specs.declared.fault.LayoutFault.{LayoutFault}
pub use Rattle.process_steps.specs.Needed.{all_outcomes, events_under}
pub use Rattle.std.proofs.Common.{Bool, Err, List, None, Ok, Some, [], ap, append-nil, append_assoc, arith, drop, drop_of_length-le, false, get_or, if◌then◌else◌, length, refl, rules, subst, suc, sym, take, true, zero, ℕ, ◌&&◌, ◌*◌, ◌++◌, ◌+◌, ◌-◌, ◌<◌, ◌||◌, ◌∙◌, ◌∷◌, ◌≡◌, ◌≤◌}
pub use Rattle.std.proofs.lemmas.Bool.Decides.{nat_tests}
pub use Rattle.std.proofs.lemmas.Bool.{le-leb, leb-false, leb-true, lt-ltb}
pub use Rattle.std.proofs.lemmas.Grind.{common_steps}
pub use Rattle.std.proofs.lemmas.List.{length-append, take_all}
pub use Rattle.std.proofs.lemmas.Option.{slice_get_read}
pub use Rattle.std.specs.List.Sorted.{IsStrictlyIncreasing}
pub use Rattle.std.specs.List.{find, range_with_len}
pub use Rattle.std.specs.Prelude.{Result, nat_le}
pub use Rattle.std.specs.Result.{IsErrAnd}
pub use Rattle.value_operators.proofs.NameLaws.{with_bound-last}
pub use Rattle.value_operators.specs.Gives.{Gives}
pub use Rattle.value_operators.specs.Prelude.{EvalFault}
