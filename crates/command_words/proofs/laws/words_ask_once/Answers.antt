use Rattle.command_words.proofs.AskOnce.{words_ask_once}
use Rattle.command_words.proofs.laws.words_ask_once.Goals as goal

pub returns : goal.returns
returns c = words_ask_once
