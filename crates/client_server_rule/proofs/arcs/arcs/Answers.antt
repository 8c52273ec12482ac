use Rattle.client_server_rule.proofs.Prelude.{◌∙◌, HasArc}
use Rattle.client_server_rule.proofs.Serving.{sound_more, complete_more}
use Rattle.client_server_rule.proofs.arcs.arcs.Goals as goal

pub loop-link-preserved : goal.loop-link-preserved
loop-link-preserved c =
    let network = c.args.network.now in
    let i = c.loop-link.invariant in
    let e = c.in_ok-arc.ensures in
    record {
      count = e.count ∙ i.count;
      sound = λ p q. sound_more network c.loop-link.link p q (HasArc c.loop-link.rows) (HasArc c.arc.new.rows) (i.sound p q) (e.sound p q);
      complete = λ p q. complete_more network c.loop-link.link p q (HasArc c.loop-link.rows) (HasArc c.arc.new.rows) (i.complete p q) (e.kept p q) (e.complete p q);
    }
