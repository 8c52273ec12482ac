use Rattle.network_stages.proofs.Forming.{is_vocabulary}
use Rattle.network_stages.proofs.links.links_of_rows.Goals as goal

pub returns-clause-vocabulary : goal.returns-clause-vocabulary
returns-clause-vocabulary c parts are = is_vocabulary parts c.args.rows.now are c.in_ok-vocabulary.vocabulary c.in_ok-vocabulary.ensures
