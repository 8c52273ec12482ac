-- The sink of the standard output, by its count of faults alone, since no clause can say what a terminal shows.
use Rattle.std.specs.Prelude.{ℕ, ◌≡◌, ◌==◌, ◌<◌, ◌≤◌, List, length, if◌then◌else◌, Result, Ok, Err}
use Rattle.dl_outside.specs.Count.{one_more}
use Rattle.dl_outside.specs.declared.sink.SinkFault.{SinkFault}
use Rattle.dl_outside.specs.declared.sink.SinkFault.TheVariants.{Failed, NoMemory}

-- What a write answers, with the count of faults before and after it: a piece that wasn't printed whole is one fault
-- more, and a failure where nothing of it was. It needs no memory.
abbrev pub PrintAnswers : List ℕ → ℕ → ℕ → Result ℕ SinkFault → Type 0
PrintAnswers piece old new (Ok n) = (n ≤ length piece) × (0 < length piece → 0 < n) × (new ≡ (if n == length piece then old else one_more old))
PrintAnswers piece old new (Err Failed) = (0 < length piece) × (new ≡ one_more old)
PrintAnswers piece old new (Err NoMemory) = ⊥
