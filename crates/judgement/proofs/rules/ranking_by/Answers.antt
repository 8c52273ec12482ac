use Rattle.judgement.proofs.Prelude.{subst, sym, leaves, Fits, Falls, TripleDisjoint, alphabets_of, IsWellFormed, Shape, networks_meet, HasNotes, Ranks, shapes_are_well_formed, IsApart, ProcessStep, parts_apart}
use Rattle.judgement.proofs.Broken.{network_broken}
use Rattle.judgement.proofs.Living.{ranks_fall, ranks_fit}
use Rattle.judgement.proofs.rules.ranking_by.Goals as goal

pub decide-requires : goal.decide-requires
decide-requires c =
    let network = c.args.shaped.now.network in
    let apart = c.shape-shape.ensures.apart in
    record {
      form = subst IsWellFormed (sym c.shape-shape.ensures.shape) (shapes_are_well_formed (ProcessStep network.program) network.tree c.args.shaped.now.shape apart.is);
      apart =
          subst (λ (shape : Shape). TripleDisjoint (alphabets_of shape.parts)) (sym c.shape-shape.ensures.shape)
          (parts_apart network.program (leaves network.tree) c.args.shaped.now.shape.parts apart.is.parts apart.apart);
      notes = subst (HasNotes c.args.rule.now) (sym c.shape-shape.ensures.shape) c.requires;
    }

pub returns-in-Ok-clause-met : goal.returns-in-Ok-clause-met
returns-in-Ok-clause-met c =
    let network = c.args.shaped.now.network in
    let apart : IsApart network c.shape-shape.result.now = subst (IsApart network) (sym c.shape-shape.ensures.shape) c.shape-shape.ensures.apart in
    (networks_meet (ProcessStep network.program) network.tree c.shape-shape.result.now apart.is c.args.rule.now).0 c.in-Ok.ensures.met

pub returns-in-Ok-clause-ranks : goal.returns-in-Ok-clause-ranks
returns-in-Ok-clause-ranks c = subst (λ (shape : Shape). Ranks c.args.rule.now shape c.in-Ok.ranking) c.shape-shape.ensures.shape c.in-Ok.ensures.ranking

pub returns-in-Ok-clause-fits : goal.returns-in-Ok-clause-fits
returns-in-Ok-clause-fits c =
    subst (λ (shape : Shape). Fits shape.parts c.in-Ok.ranking) c.shape-shape.ensures.shape (ranks_fit c.shape-shape.result.now c.args.rule.now c.in-Ok.ranking c.in-Ok.ensures.ranking)

pub returns-in-Ok-clause-falls : goal.returns-in-Ok-clause-falls
returns-in-Ok-clause-falls c =
    let network = c.args.shaped.now.network in
    let apart : IsApart network c.shape-shape.result.now = subst (IsApart network) (sym c.shape-shape.ensures.shape) c.shape-shape.ensures.apart in
    subst (λ (shape : Shape). Falls shape.parts c.in-Ok.ranking) c.shape-shape.ensures.shape
    (ranks_fall network c.shape-shape.result.now apart c.args.rule.now c.in-Ok.ranking c.in-Ok.ensures.met c.in-Ok.ensures.ranking)

pub returns-in-Err-Told-clause-told : goal.returns-in-Err-Told-clause-told
returns-in-Err-Told-clause-told c =
    let network = c.args.shaped.now.network in
    let apart : IsApart network c.shape-shape.result.now = subst (IsApart network) (sym c.shape-shape.ensures.shape) c.shape-shape.ensures.apart in
    network_broken network c.shape-shape.result.now apart.is c.args.rule.now c.in-Err-Told.fault (rw c.in-Err-Told.field-0-is at c.in-Err-Told.ensures.fault)
