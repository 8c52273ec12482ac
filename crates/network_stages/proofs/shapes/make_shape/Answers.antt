use Rattle.network_stages.proofs.Prelude.{◌≤◌, List, length, sym, subst, ◌∙◌, leaves, Part, TripleDisjoint, alphabets_of, IsSpelled, Network, IsApart, MOST_COMPONENTS}
use Rattle.network_stages.proofs.Shaping.{few_parts, is_apart, no_three, parts_apart, some_parts}
use Rattle.network_stages.proofs.shapes.make_shape.Goals as goal

pub shape_of-requires-in-Ok-clause-least : goal.shape_of-requires-in-Ok-clause-least
shape_of-requires-in-Ok-clause-least c =
    subst (λ (ps : List Part). 1 ≤ length ps) (sym c.into_parts.ensures.parts) (some_parts c.args.parted.network _ (subst IsSpelled c.network-network.ensures c.layout.ensures.spelled) c.into_parts.ensures.are)

pub shape_of-requires-in-Ok-clause-most : goal.shape_of-requires-in-Ok-clause-most
shape_of-requires-in-Ok-clause-most c =
    subst (λ (ps : List Part). length ps ≤ MOST_COMPONENTS) (sym c.into_parts.ensures.parts) (few_parts c.args.parted.network _ (subst IsSpelled c.network-network.ensures c.layout.ensures.spelled) c.into_parts.ensures.are)

pub shape_of-requires-in-Ok-clause-apart : goal.shape_of-requires-in-Ok-clause-apart
shape_of-requires-in-Ok-clause-apart c =
    let network = c.args.parted.network in
    subst (λ (ps : List Part). TripleDisjoint (alphabets_of ps)) (sym c.into_parts.ensures.parts) (parts_apart network.program (leaves network.tree) _ c.into_parts.ensures.are.are
    (no_three c.args.parted.network c.network-network.result.now c.layout.result.now c.network-network.ensures c.layout.ensures.layout c.in-Ok.ensures.ok))

pub returns-in-Ok-clause-apart : goal.returns-in-Ok-clause-apart
returns-in-Ok-clause-apart c =
    is_apart c.args.parted.network _ c.in_ok-shape-in-Ok.shape c.into_parts.ensures.are c.into_parts.ensures.form
    (no_three c.args.parted.network c.network-network.result.now c.layout.result.now c.network-network.ensures c.layout.ensures.layout c.in-Ok.ensures.ok)
    (c.in_ok-shape-in-Ok.ensures.parts ∙ c.into_parts.ensures.parts) c.in_ok-shape-in-Ok.ensures.linked

pub invariant_of-result : goal.invariant_of-result
invariant_of-result c =
    subst (λ (n : Network). IsApart n c.in_ok-shape-in-Ok.shape) (sym c.network-network.ensures)
    (is_apart c.args.parted.network _ c.in_ok-shape-in-Ok.shape c.into_parts.ensures.are c.into_parts.ensures.form
    (no_three c.args.parted.network c.network-network.result.now c.layout.result.now c.network-network.ensures c.layout.ensures.layout c.in-Ok.ensures.ok)
    (c.in_ok-shape-in-Ok.ensures.parts ∙ c.into_parts.ensures.parts) c.in_ok-shape-in-Ok.ensures.linked)
