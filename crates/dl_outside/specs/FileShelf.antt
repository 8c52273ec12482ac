-- The shelf of the system's files, by its counts, since no clause can say what a file of the system holds. Each error of the
-- system is one fault more, and each byte that a read gives is one byte taken more.
use Rattle.std.specs.Prelude.{ℕ, ◌≡◌, ◌+◌, ◌<◌, ◌≤◌, IfSome, List, ◌++◌, length, Option, Result, Ok, Err}
use Rattle.csp_base.specs.Standard.{Consumes, IsAtEnd, IsUtf8}
use Rattle.dl_outside.specs.Count.{one_more}
use Rattle.dl_outside.specs.declared.count.Counts.{Counts}
use Rattle.dl_outside.specs.declared.shelf.LoadFault.{LoadFault}
use Rattle.dl_outside.specs.declared.shelf.LoadFault.TheVariants.{Missing, TooLong, Failed, NoMemory}

-- What the opening of a file answers, with the count of faults before and after it.
abbrev pub OpenAnswers : {F : Type 0} → ℕ → ℕ → Result F LoadFault → Type 0
OpenAnswers before now (Ok file) = now ≡ before
OpenAnswers before now (Err Missing) = now ≡ one_more before
OpenAnswers before now (Err TooLong) = ⊥
OpenAnswers before now (Err Failed) = now ≡ one_more before
OpenAnswers before now (Err NoMemory) = ⊥

-- What one read of a file answers that appends to a text, with the length of the text and the counts before and after it.
abbrev pub ReadAnswers : ℕ → ℕ → Counts → Counts → Result ℕ LoadFault → Type 0
ReadAnswers before now old new (Ok n) = (now ≡ before + n) × (new.taken ≡ old.taken + n) × (new.faults ≡ old.faults)
ReadAnswers before now old new (Err Missing) = ⊥
ReadAnswers before now old new (Err TooLong) = ⊥
ReadAnswers before now old new (Err Failed) = (new.faults ≡ one_more old.faults) × (new.taken ≡ old.taken)
ReadAnswers before now old new (Err NoMemory) = (new.faults ≡ old.faults) × (old.taken ≤ new.taken)

-- One read appends to a text the bytes that the reader loses, where it tells those that it has left; and it gives none only at the end.
pub record ReadsOn (left left_now : Option (List ℕ)) (before now : List ℕ) (count : ℕ) : Type 0 where
  pub bytes : List ℕ
  pub appended : now ≡ before ++ bytes
  pub lost : Consumes left left_now bytes
  pub end : count ≡ 0 → IsAtEnd left_now

-- What a load answers, with the counts before and after it.
abbrev pub FileAnswers : Counts → Counts → ℕ → Result (List ℕ) LoadFault → Type 0
FileAnswers old new limit (Ok bytes) = (length bytes ≤ limit) × (new.taken ≡ old.taken + length bytes) × (new.faults ≡ old.faults)
FileAnswers old new limit (Err Missing) = (new.faults ≡ one_more old.faults) × (new.taken ≡ old.taken)
FileAnswers old new limit (Err TooLong) = (old.taken + limit < new.taken) × (new.faults ≡ old.faults)
FileAnswers old new limit (Err Failed) = (new.faults ≡ one_more old.faults) × (old.taken ≤ new.taken)
FileAnswers old new limit (Err NoMemory) = (new.faults ≡ old.faults) × (old.taken ≤ new.taken)

-- What a load gave: there is a reader, and where it reports what its reads would give (`remaining`), the text is all of that. No contract of the
-- toolchain says which file an opened reader reads, so none ties this reader to the name. The counts rise by the bytes of the text and by no fault.
pub record GaveFile {F : Type 0} (remaining : F → Option (List ℕ)) (old new : Counts) (name text : List ℕ) : Type 0 where
  pub named : IsUtf8 name
  pub reader : F
  pub whole : IfSome (remaining reader) (λ bytes. text ≡ bytes)
  pub counted : new.taken ≡ old.taken + length text
  pub unfailed : new.faults ≡ old.faults
