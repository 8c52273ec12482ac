use Rattle.std.proofs.Common.{OnOk, Ok, Err, Result}
use Rattle.client_server_rule.proofs.rule.checked_heights.Goals as goal

always : {A E P : Type 0} (r : Result A E) → P → OnOk r P
always (Ok a) p = p
always (Err e) p = tt

pub returns-clause-keep : goal.returns-clause-keep
returns-clause-keep c =
    always c.heights.result (record {
      parted = c.shape-linked.ensures.linked.parted;
      linked = c.shape-linked.ensures.linked.linked;
      turns = c.in_ok-check.ensures.keeps;
      serving = c.in_ok-check-2.ensures.keeps;
      answers = c.in_ok-check-3.ensures.keeps;
    })
