use Rattle.livelock.proofs.Prelude.{rules, tests, is_data_named, YieldsList-from_slice, find_from_yields_List}
use Rattle.livelock.proofs.named.definition_named.Goals as goal

pub returns : goal.returns
returns c = find_from_yields_List (is_data_named c.args.name.now) _ _ _ c.find.ensures.ran (YieldsList-from_slice _ c.iter.ensures.rest) (λ x b q k. search (rules, tests))
