use Rattle.std.proofs.Common.{ap}
use Rattle.csp_lexer.proofs.PlacedLemmas.{all_joined}
use Rattle.csp_lexer.proofs.tokens.Tokens.join.Goals as goal

pub returns : goal.returns
returns c =
    all_joined c.self.inside.tokens c.behind.inside.tokens c.self.inside.places c.behind.inside.places _ _ c.self.invariant
    (ap (λ t. t.placed) c.self.view_is) (ap (λ t. t.placed) c.behind.view_is) c.in_ok-tokens.ensures c.in_ok-places.ensures
