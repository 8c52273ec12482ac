use Rattle.local_tables.proofs.terms.Terms.new.Goals as goal

pub returns : goal.returns
returns c = λ p. c.new-2.ensures p c.new.result
