-- What is defined here, under one name for those who import it.
pub use Rattle.term_pool.specs.Entries.{ArePartsOnce, Fits, HasParts, PartsStart, arguments_at, choice_at, entry_layer, expr_at, fields_at, gens_at, head_at, layers, pairs_at}
pub use Rattle.term_pool.specs.ExactEntry.{eq_entry}
pub use Rattle.term_pool.specs.First.{layer_with_first, node_with_first, other_first}
unfoldable pub use Rattle.term_pool.specs.First.{with_first}
pub use Rattle.term_pool.specs.Held.{AreKept, IsHeld, IsKept, Puts, entry_tree, processes, trees_in}
pub use Rattle.term_pool.specs.Layers.{Layer, layer_parts, shown}
pub use Rattle.term_pool.specs.Measured.{AreMeasured, IsLeastAt, IsNodeMeasure, Measures, deepest_at, measure_at, node_depth, node_size, own_depth, own_free, own_size, total_at}
pub use Rattle.term_pool.specs.Moved.{id_or, moved, with_parts}
pub use Rattle.term_pool.specs.Pooled.{AreDifferent, Has, IsFront, PartsStandBelow, StandBelow}
unfoldable pub use Rattle.term_pool.specs.Pooled.{parts}
pub use Rattle.term_pool.specs.Put.{Grows, HasAll, StandAt, StandsFor}
pub use Rattle.term_pool.specs.Substituted.{AreMade, IsLeft, IsMade, all_with, left_below, own_with}
pub use Rattle.term_pool.specs.Trees.{all_below, fall, grown, layer_below, layer_tree, places, places_below, tree_at, tree_of, trees_of}
pub use Rattle.term_pool.specs.Within.{AddsOne, AddsParts, IsIn, IsInOne}
pub use Rattle.term_pool.specs.contracts.entry.EntryEq.TheImpl.Laws.{laws-law}
