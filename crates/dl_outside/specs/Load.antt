-- What a shelf may answer when a text is loaded by its name.
-- The answer is told apart by cases. Want of memory is free. The causes of the other answers exclude one another and
-- leave nothing out, so where texts are told each of them comes exactly where its cause holds, unless memory runs out.
use Rattle.std.specs.Prelude.{ℕ, ◌≡◌, ◌+◌, ◌<◌, ◌≤◌, List, length, Option, Some, None, Result, Ok, Err}
use Rattle.dl_outside.specs.declared.texts.NamedText.{NamedText}
use Rattle.dl_outside.specs.declared.shelf.LoadFault.{LoadFault}
use Rattle.dl_outside.specs.declared.shelf.LoadFault.TheVariants.{Missing, TooLong, Failed, NoMemory}
use Rattle.dl_outside.specs.Count.{HasRisen}
use Rattle.dl_outside.specs.declared.count.Counts.{Counts}
use Rattle.dl_outside.specs.Texts.{text_of}

-- Where the shelf holds these texts: the text of the name, where it has at most `limit` bytes and the count of faults
-- didn't rise (`rose`) in the call.
abbrev pub AnswersTold : List NamedText → List ℕ → ℕ → Type 0 → Result (List ℕ) LoadFault → Type 0
AnswersTold texts name limit rose (Ok bytes) = (text_of texts name ≡ Some bytes) × (length bytes ≤ limit) × ¬ rose
AnswersTold texts name limit rose (Err Missing) = (text_of texts name ≡ None) × ¬ rose
AnswersTold texts name limit rose (Err TooLong) = ((text : List ℕ) × (text_of texts name ≡ Some text) × (limit < length text)) × ¬ rose
AnswersTold texts name limit rose (Err Failed) = rose
AnswersTold texts name limit rose (Err NoMemory) = Unit {0}

-- Where the shelf tells no texts: at most `limit` bytes, and no fault without a sign of it. `took_more` says that more
-- than `limit` bytes were taken in the call.
abbrev pub AnswersUntold : ℕ → Type 0 → Type 0 → Result (List ℕ) LoadFault → Type 0
AnswersUntold limit rose took_more (Ok bytes) = length bytes ≤ limit
AnswersUntold limit rose took_more (Err Missing) = rose
AnswersUntold limit rose took_more (Err TooLong) = took_more
AnswersUntold limit rose took_more (Err Failed) = rose
AnswersUntold limit rose took_more (Err NoMemory) = Unit {0}

-- What `load` may answer for a name and a greatest number of bytes, with the counts before and after it.
abbrev pub LoadAnswers : Option (List NamedText) → Counts → Counts → List ℕ → ℕ → Result (List ℕ) LoadFault → Type 0
LoadAnswers (Some texts) old new name limit answer = AnswersTold texts name limit (HasRisen old.faults new.faults) answer
LoadAnswers None old new name limit answer = AnswersUntold limit (HasRisen old.faults new.faults) (old.taken + limit < new.taken) answer
