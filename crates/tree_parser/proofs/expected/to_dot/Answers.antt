use Rattle.tree_parser.proofs.Prelude.{sym, ap, ◌∙◌, dot_field, dot_is}
use Rattle.tree_parser.proofs.expected.to_dot.Goals as goal

pub returns-in-Dot : goal.returns-in-Dot
returns-in-Dot c = sym (ap dot_field c.in-Dot.is ∙ dot_is c.in-Dot.tree)
