use Rattle.resource_rule.proofs.Prelude.{length, top_number, number_by}
use Rattle.resource_rule.proofs.rule.setting_ranking.Goals as goal

pub returns-clause-resource : goal.returns-clause-resource
returns-clause-resource c =
    record {
      keep_uses = c.in_ok-heights.ensures.keep;
      ordered = record { number = number_by c.in_ok-heights.heights; rise = c.in_ok-heights.ensures.rise };
    }

pub returns-clause-ranking : goal.returns-clause-ranking
returns-clause-ranking c =
    record {
      number = number_by c.in_ok-heights.heights;
      numbers = c.in_ok-heights.ensures.numbers;
      top = top_number c.args.setting.now.uses (number_by c.in_ok-heights.heights) (length c.args.setting.now.shape.parts);
      ranks = c.in_ok-ranking.ensures;
    }
