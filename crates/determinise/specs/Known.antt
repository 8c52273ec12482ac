-- Sets of terms that are known by the terms from which silent steps lead to them.
use Rattle.std.specs.Prelude.{◌≡◌, ◌<◌, ℕ, List, [], length, slice_index_or}
use Rattle.csp_tables.specs.RawTable.{RawTable}
use Rattle.term_sets.specs.Marks.{IsUnmarked}
use Rattle.term_sets.specs.TermSets.{IsSilentClosure}
use Rattle.determinise.specs.declared.known.Known.{Known}
use Rattle.determinise.specs.Progress.{set_at}

-- for each list of terms the number of the set to which silent steps lead from them
pub record AreKnown (raw : RawTable) (sets starts : List (List ℕ)) (numbers : List ℕ) : Type 0 where
  pub one_each : length numbers ≡ length starts
  pub within : (k : ℕ) → k < length starts → slice_index_or numbers k 0 < length sets
  pub are : (k : ℕ) → k < length starts → IsSilentClosure raw (slice_index_or starts k []) (set_at sets (slice_index_or numbers k 0))

-- Some sets are known, and no term is marked.
pub record IsReady (raw : RawTable) (sets : List (List ℕ)) (known : Known) : Type 0 where
  pub lists : AreKnown raw sets known.starts known.numbers.items
  pub unmarked : IsUnmarked raw.count known.marks.items
