use Rattle.csp_lexer.specs.Placed.{tokens_of}
use Rattle.csp_parser.proofs.Scripts.{is_none, is_only, is_spelled, nothing_read, settled}
use Rattle.csp_parser.proofs.parser.parse.Goals as goal

pub returns-in-Ok-clause-found : goal.returns-in-Ok-clause-found
returns-in-Ok-clause-found c = is_spelled (tokens_of c.args.tokens.now.placed) c.as_slice.ensures (settled c.in-Ok.ensures.reads)

pub returns-in-Ok-clause-only : goal.returns-in-Ok-clause-only
returns-in-Ok-clause-only c = is_only (tokens_of c.args.tokens.now.placed) c.as_slice.ensures (settled c.in-Ok.ensures.reads)

pub returns-in-Err-Told-clause-none : goal.returns-in-Err-Told-clause-none
returns-in-Err-Told-clause-none c = is_none (tokens_of c.args.tokens.now.placed) c.as_slice.ensures (nothing_read c.in-Err-Told.field-0 c.in-Err-Told.fault c.in-Err-Told.field-0-is c.in-Err-Told.ensures.reads)
