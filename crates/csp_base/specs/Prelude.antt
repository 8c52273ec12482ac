-- What is defined here, under one name for those who import it.
pub use Rattle.csp_base.specs.Blocks.{AreBlocks, AreBlocksFrom, blocks_of, events_of, has_bit, word_at}
unfoldable pub use Rattle.csp_base.specs.Blocks.{word_events}
pub use Rattle.csp_base.specs.Events.{diff_of, inter_of, is_subset_of, meets_of, set_of, union_of, with_member}
pub use Rattle.csp_base.specs.Lists.{EachOnce, StandsIn, greatest, natural, total}
pub use Rattle.csp_base.specs.Members.{has}
pub use Rattle.csp_base.specs.Operations.{combined_of, end_from, first_word, keeps, least_of, rest_after, with_word}
pub use Rattle.csp_base.specs.Orders.{word_order_at}
pub use Rattle.csp_base.specs.SetHash.{set_writes}
pub use Rattle.csp_base.specs.Stops.{Tells}
pub use Rattle.csp_base.specs.declared.operators.SetOp.{SetOp}
pub use Rattle.csp_base.specs.declared.operators.SetOp.TheVariants.{Diff, Inter, Union}
