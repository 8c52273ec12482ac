use Rattle.print_laws.proofs.Scripts.{printed_text}
use Rattle.print_laws.proofs.printed_tokens_are_a_text.Goals as goal

pub returns : goal.returns
returns c = record { scripts = printed_text }
