-- What is defined here, under one name for those who import it.
pub use Rattle.pool_parts.specs.Counting.{capped}
pub use Rattle.pool_parts.specs.ExactId.{eq_id}
unfoldable pub use Rattle.pool_parts.specs.Low.{IsLow}
pub use Rattle.pool_parts.specs.Stored.{AreNoted, IsAbsent, IsMeasure, IsStart}
pub use Rattle.pool_parts.specs.declared.measure.Measure.{Measure}
