use Rattle.csp_lexer.proofs.PlacedLemmas.{place_there}
use Rattle.csp_lexer.proofs.tokens.Tokens.place.Goals as goal

pub returns-in-Some : goal.returns-in-Some
returns-in-Some c = place_there c.self.inside.tokens c.self.inside.places c.self.inside.end c.args.self.now c.args.number _ c.self.invariant c.self.view_is c.in-Some.ensures

pub returns-in-None : goal.returns-in-None
returns-in-None c = place_there c.self.inside.tokens c.self.inside.places c.self.inside.end c.args.self.now c.args.number _ c.self.invariant c.self.view_is c.in-None.ensures
