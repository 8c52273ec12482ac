-- What is defined here, under one name for those who import it.
pub use Rattle.digraph.specs.Circle.{HasNoCircle, IsCircle, IsLeastCircle, Leads}
pub use Rattle.digraph.specs.Digraph.{Digraph, HasArc, InRange, has_arc, targets_of}
pub use Rattle.digraph.specs.FoundOrder.{found_after, found_over}
pub use Rattle.digraph.specs.Search.{AreMarks, IsMarked, IsOpen, IsSearch, IsStep, IsTrail, done_count, height_of, is_done, is_open, mark_at, mark_work, work_left}
pub use Rattle.digraph.specs.Turn.{IsTurnedFrom}
pub use Rattle.digraph.specs.Walk.{AreHeights, IsLongestWalk, Reaches, ReachesFrom, Walk}
pub use Rattle.digraph.specs.declared.walks.Mark.TheVariants.{Done, New, Open}
pub use Rattle.digraph.specs.declared.walks.Mark.{Mark}
pub use Rattle.digraph.specs.declared.walks.Search.{Search}
