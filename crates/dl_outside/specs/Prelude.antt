-- What is defined here, under one name for those who import it.
pub use Rattle.dl_outside.specs.Count.{HasRisen, NeverFall, one_more}
pub use Rattle.dl_outside.specs.Texts.{IsTextOf, PutsText, has_name, text_of}
pub use Rattle.dl_outside.specs.Load.{AnswersTold, AnswersUntold, LoadAnswers}
pub use Rattle.dl_outside.specs.Write.{GrowsBy, WriteAnswers}
pub use Rattle.dl_outside.specs.FaultPlan.{after_call, fails_next, new_plan}
pub use Rattle.dl_outside.specs.FileShelf.{FileAnswers, GaveFile, OpenAnswers, ReadAnswers, ReadsOn}
pub use Rattle.dl_outside.specs.StdSink.{PrintAnswers}
pub use Rattle.dl_outside.specs.declared.count.Counts.{Counts}
pub use Rattle.dl_outside.specs.declared.shelf.LoadFault.{LoadFault}
pub use Rattle.dl_outside.specs.declared.shelf.LoadFault.TheVariants.{Failed, Missing, NoMemory, TooLong}
pub use Rattle.dl_outside.specs.declared.sink.SinkFault.{SinkFault}
pub use Rattle.dl_outside.specs.declared.texts.NamedText.{NamedText}
