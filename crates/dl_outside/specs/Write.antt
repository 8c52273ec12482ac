-- What a sink may answer when a piece is written.
use Rattle.std.specs.Prelude.{ℕ, ◌≡◌, ◌<◌, ◌≤◌, List, ◌++◌, take, length, Option, Result, Ok, Err}
use Rattle.std.specs.Option.{option_map}
use Rattle.dl_outside.specs.declared.sink.SinkFault.{SinkFault}
use Rattle.dl_outside.specs.declared.sink.SinkFault.TheVariants.{Failed, NoMemory}

-- What was sent, where it is told, has grown by these bytes and nothing else.
abbrev pub GrowsBy : Option (List ℕ) → Option (List ℕ) → List ℕ → Type 0
GrowsBy old new bytes = new ≡ option_map (λ sent. sent ++ bytes) old

-- An answer Ok(n) says that the first n bytes of the piece were appended: not more than it has, and at least one of a
-- piece that isn't empty. After an error nothing was, and a failure shows in the count of faults, which rose in the call.
abbrev pub WriteAnswers : Option (List ℕ) → Option (List ℕ) → List ℕ → Type 0 → Result ℕ SinkFault → Type 0
WriteAnswers old new piece rose (Ok n) = GrowsBy old new (take n piece) × (n ≤ length piece) × (0 < length piece → 0 < n)
WriteAnswers old new piece rose (Err Failed) = (new ≡ old) × rose
WriteAnswers old new piece rose (Err NoMemory) = new ≡ old
