use Rattle.shape_links.proofs.Deciding.{pair_within}
use Rattle.shape_links.proofs.component.Component.odd_links.Goals as goal

pub odd_by_origins-requires : goal.odd_by_origins-requires
odd_by_origins-requires c k h = pair_within c.args.self.now c.shape-form.ensures.form (λ state _. state) 0 c.in_ok-explored.explored.pairs c.in_ok-explored.ensures.pairs k h
