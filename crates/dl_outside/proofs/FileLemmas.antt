-- What the shelf of files and the sink of the standard output answer is what a shelf and a sink may answer that tell nothing.
use Rattle.std.proofs.Common.{◌≡◌, ℕ, ◌+◌, ◌<◌, List, Option, IfOk, IfSome, length, refl, ap, ◌∙◌, arith}
use Rattle.std.specs.Prelude.{Result, Ok, Err, None}
use Rattle.dl_outside.specs.Prelude.{Counts, HasRisen, AnswersUntold, FileAnswers, GaveFile, PrintAnswers, WriteAnswers, LoadFault, Missing, TooLong, Failed, NoMemory, SinkFault}
use Rattle.dl_outside.specs.declared.sink.SinkFault.TheVariants.{Failed as PrintFailed, NoMemory as PrintNoMemory}
use Rattle.std.specs.Str.{IsUtf8}

pub file_answer : (old new : Counts) (limit : ℕ) (r : Result (List ℕ) LoadFault) → FileAnswers old new limit r → AnswersUntold limit (HasRisen old.faults new.faults) (old.taken + limit < new.taken) r
file_answer old new limit (Ok bytes) is = is.0
file_answer old new limit (Err Missing) is = omega arith
file_answer old new limit (Err TooLong) is = is.0
file_answer old new limit (Err Failed) is = omega arith
file_answer old new limit (Err NoMemory) is = tt

pub print_answer : (piece : List ℕ) (old new : ℕ) (r : Result ℕ SinkFault) → PrintAnswers piece old new r → WriteAnswers None None piece (HasRisen old new) r
print_answer piece old new (Ok n) is = (refl, is.0, is.1)
print_answer piece old new (Err PrintFailed) is = (refl, omega arith)
print_answer piece old new (Err PrintNoMemory) is = absurd is

-- ---- what a load gave

pub gave_file : {F : Type 0} (remaining : F → Option (List ℕ)) (old mid new : Counts) (name : List ℕ) (limit : ℕ) (reader : F) (r : Result (List ℕ) LoadFault) → IsUtf8 name → mid.faults ≡ old.faults
    → mid.taken ≡ old.taken → FileAnswers mid new limit r → IfOk r (λ text. IfSome (remaining reader) (λ bytes. text ≡ bytes)) → IfOk r (GaveFile remaining old new name)
gave_file remaining old mid new name limit reader (Err f) named faults taken answers whole = tt
gave_file remaining old mid new name limit reader (Ok text) named faults taken answers whole = record {
  named = named;
  reader = reader;
  whole = whole;
  counted = answers.1 ∙ ap (λ n. n + length text) taken;
  unfailed = answers.2 ∙ faults;
}
