use Rattle.std.proofs.Common.{ap, ◌∙◌}
use Rattle.csp_lexer.proofs.PlacedLemmas.{tokens_there}
use Rattle.csp_lexer.proofs.tokens.Tokens.as_slice.Goals as goal

pub returns : goal.returns
returns c = c.as_slice.ensures ∙ tokens_there c.self.inside.tokens c.self.inside.places c.args.self.now c.self.invariant (ap (λ t. t.placed) c.self.view_is)
