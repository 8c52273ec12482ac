use Rattle.csp_grammar.proofs.Examples.{choice, sequence, negative, sequences, hidings, differences, fields, open_forms, parentheses}
use Rattle.csp_grammar.proofs.worked_texts.Goals as goal

pub returns : goal.returns
returns c = record {
  choice = choice;
  sequence = sequence;
  negative = negative;
  sequences = sequences;
  hidings = hidings;
  differences = differences;
  fields = fields;
  open_forms = open_forms;
  parentheses = parentheses;
}
