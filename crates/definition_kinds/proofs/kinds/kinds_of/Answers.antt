use Rattle.definition_kinds.proofs.Prelude.{◌≡◌, ◌≤◌, List, length, ap, ◌∙◌, subst, arith, AreKindsOf, body_ends, first_of, End, size, rows, flat_map}
use Rattle.definition_kinds.proofs.FoundLaws.{rows-length, same_ends}
use Rattle.definition_kinds.proofs.SizeLaws.{few_definitions}
use Rattle.definition_kinds.proofs.kinds.kinds_of.Goals as goal

pub kinds_among-requires : goal.kinds_among-requires
kinds_among-requires c =
    let bodies = flat_map (body_ends (first_of c.args.names.now)) c.args.decls.now in
    let one_each : length (rows c.as_slice.result.now) ≡ length bodies = ap length (ap rows c.as_slice.ensures.value ∙ c.in_ok-all.ensures) in
    let shown : length (rows c.as_slice.result.now) ≡ length c.as_slice.result.now = rows-length c.as_slice.result.now in
    let few : length bodies ≤ size c.args.decls.now = few_definitions (first_of c.args.names.now) c.args.decls.now in
    omega (arith, c.requires.few)

pub returns : goal.returns
returns c =
    subst (λ (es : List (List End)). AreKindsOf es c.in_ok-kinds.kinds.items)
    (ap rows c.as_slice.ensures.value ∙ c.in_ok-all.ensures ∙ same_ends c.args.names.now c.args.decls.now c.requires.names) c.in_ok-kinds.ensures
