-- What is defined here, under one name for those who import it.
pub use Rattle.command_words.specs.Named.{IsNamed}
pub use Rattle.command_words.specs.Request.{Asks, IsNoRequest, IsWithin, NamesNoScript, WordsAskOnce, names, trial_of, written}
pub use Rattle.command_words.specs.declared.request.Job.TheVariants.{Check, Livelock, Run, Table}
