use Rattle.network_stages.proofs.Prelude.{length, sym, subst, AreRows}
use Rattle.network_stages.proofs.shapes.links_of_parts.Goals as goal

pub returns-clause-links : goal.returns-clause-links
returns-clause-links c = c.links_of_rows.ensures.links c.args.parts.now (subst (AreRows c.args.parts.now (length c.args.parts.now)) (sym c.deref.ensures.value) c.in_ok-rows.ensures)

pub returns-clause-vocabulary : goal.returns-clause-vocabulary
returns-clause-vocabulary c = c.links_of_rows.ensures.vocabulary c.args.parts.now (subst (AreRows c.args.parts.now (length c.args.parts.now)) (sym c.deref.ensures.value) c.in_ok-rows.ensures)
