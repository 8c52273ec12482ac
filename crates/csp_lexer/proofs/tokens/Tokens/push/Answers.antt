use Rattle.std.proofs.Common.{[], ◌∷◌, ap, refl}
use Rattle.csp_lexer.proofs.PlacedLemmas.{all_joined}
use Rattle.csp_lexer.proofs.tokens.Tokens.push.Goals as goal

pub returns : goal.returns
returns c =
    all_joined c.self.inside.tokens (c.args.token ∷ []) c.self.inside.places (c.args.at ∷ []) _ _ c.self.invariant
    (ap (λ t. t.placed) c.self.view_is) refl c.in_ok-push.ensures.ok c.in_default.ensures.ok
