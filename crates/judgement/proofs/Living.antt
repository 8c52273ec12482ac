-- The ranking that a rule gives is good: it has the numbers that the tables ask for, and falls.
use Rattle.judgement.proofs.Prelude.{Ranking, Shape, IsWellFormed, TripleDisjoint, alphabets_of, leaves, Fits, Falls, NotedRule, Ranks, IsApart, Network, ProcessStep, cyclic_ranks_fall, client_server_ranks_fall, resource_ranks_fall, parts_apart, shapes_are_well_formed}
use Rattle.design_rules.specs.Rules.{Meets}
use Rattle.design_rules.specs.declared.noted_rule.NotedRule.TheVariants.{ClientServer, Cyclic, Resource}

pub ranks_fit : (shape : Shape) (rule : NotedRule) (ranking : Ranking) → Ranks rule shape ranking → Fits shape.parts ranking
ranks_fit shape Cyclic ranking ranks = ranks.ranks.fits
ranks_fit shape (ClientServer roles) ranking ranks = ranks.fits
ranks_fit shape (Resource uses) ranking ranks = ranks.ranks.fits

fall_by : (shape : Shape) (rule : NotedRule) (ranking : Ranking) → IsWellFormed shape → TripleDisjoint (alphabets_of shape.parts) → Meets rule shape → Ranks rule shape ranking
    → Falls shape.parts ranking
fall_by shape Cyclic ranking form apart meets ranks = cyclic_ranks_fall shape ranking form meets ranks
fall_by shape (ClientServer roles) ranking form apart meets ranks = client_server_ranks_fall shape roles ranking form meets ranks
fall_by shape (Resource uses) ranking form apart meets ranks = resource_ranks_fall shape uses ranking form apart meets ranks

pub ranks_fall : (network : Network) (shape : Shape) → IsApart network shape → (rule : NotedRule) (ranking : Ranking) → Meets rule shape → Ranks rule shape ranking → Falls shape.parts ranking
ranks_fall network shape is rule ranking =
    fall_by shape rule ranking (shapes_are_well_formed (ProcessStep network.program) network.tree shape is.is)
    (parts_apart network.program (leaves network.tree) shape.parts is.is.parts is.apart)
