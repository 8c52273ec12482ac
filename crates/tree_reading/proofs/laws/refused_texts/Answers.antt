use Rattle.tree_reading.proofs.Refused.{mixed, dot_behind_question, parallels, hiding, bracket, empty_set}
use Rattle.tree_reading.proofs.laws.refused_texts.Goals as goal

pub returns : goal.returns
returns c = record {
  mixed_choice = mixed;
  dot_behind_question = dot_behind_question;
  parallels = parallels;
  hiding = hiding;
  bracket = bracket;
  empty_set = empty_set;
}
