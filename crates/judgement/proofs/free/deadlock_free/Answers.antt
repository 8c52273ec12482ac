use Rattle.judgement.proofs.Prelude.{List, ◌<◌, subst, sym, ap, ◌∙◌, Part, node_count}
use Rattle.judgement.proofs.Counting.{few_nodes}
use Rattle.judgement.proofs.free.deadlock_free.Goals as goal

pub count_nodes-requires : goal.count_nodes-requires
count_nodes-requires c =
    let is = c.shape.ensures.apart.is in
    subst (λ (parts : List Part). node_count parts < 4294967296) (sym (c.parts.ensures.value ∙ ap (λ shape. shape.parts) c.shape.ensures.shape))
    (few_nodes c.args.shaped.now.shape.parts is.linked.most is.nodes)
