use Rattle.resource_rule.proofs.Offering.{absorbed}
use Rattle.resource_rule.proofs.Prelude.{is_subset_of, ◌∙◌, sym}
use Rattle.resource_rule.proofs.offers.with_set.Goals as goal

pub returns-then-is_subset : goal.returns-then-is_subset
returns-then-is_subset c e = absorbed c.args.set.now c.args.events (is_subset_of c.args.set.now c.args.vocabulary.now) e (sym c.is_subset-2.ensures ∙ c.if-is_subset.true)
