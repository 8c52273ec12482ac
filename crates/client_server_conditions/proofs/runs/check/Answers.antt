use Rattle.client_server_conditions.proofs.Prelude.{◌≡◌, ◌∙◌, ◌≤◌, ℕ, List, Option, Some, ap, sym, subst, length, arith, Part, Shape, BreaksRoles, IsDecided, Keeps}
use Rattle.client_server_conditions.proofs.Deciding.{all_parts, breaks_condition}
use Rattle.client_server_conditions.proofs.runs.check.Goals as goal

pub returns-clause-keeps : goal.returns-clause-keeps
returns-clause-keeps c =
    let parts : length c.parts-part-end.result.now ≡ length c.args.network.now.shape.parts = ap (length {A = Part}) c.parts-part-end.ensures.value ∙ ap (λ (s : Shape). length s.parts) c.shape.ensures.value in
    let end : length c.parts-part-end.result.now ≤ c.loop-part.part = c.loop-part-test.false in
    all_parts c.args.network.now c.args.condition c.loop-part.part (omega arith) c.loop-part.invariant

pub returns-in-Some-clause-fault : goal.returns-in-Some-clause-fault
returns-in-Some-clause-fault c =
    let network = c.args.network.now in
    let d : IsDecided c.args.network.now.shape c.loop-part.part (Keeps c.args.network.now c.args.condition c.loop-part.part) (Some c.in-Some.trace) = subst (λ (run : Option (List ℕ)). IsDecided c.args.network.now.shape c.loop-part.part (Keeps c.args.network.now c.args.condition c.loop-part.part) run) c.in-Some.is c.in_ok-run.ensures in
    subst (λ k. BreaksRoles network.shape network.roles k c.loop-part.part c.in-Some.trace) (sym c.condition.ensures)
    (breaks_condition network c.args.condition c.loop-part.part c.in-Some.trace c.shape.ensures.linked c.requires.lesser d.0 d.1 c.loop-part.invariant)
