-- The sets that a program tells of a component. They are told of a component whose process is a call of an annotated process, and are taken with the
-- values of the arguments of that call. Of any other component, as one whose process is an `if` or calls an annotated one later, nothing is told.
use Rattle.std.specs.Prelude.{◌≡◌, ℕ, true, false, nat_eq, Option, Some, None, Ok, Err, List, [], slice_get, take}
use Rattle.std.specs.List.{find}
use Rattle.csp_program.specs.Prelude.{Outcome, and_then}
use Rattle.csp_program.specs.declared.expressions.Expr.{Expr}
use Rattle.csp_program.specs.declared.kinds.ValueKind.{ValueKind}
use Rattle.csp_program.specs.declared.processes.Proc.{Proc}
use Rattle.csp_program.specs.declared.processes.Proc.TheOpen.{Proc-F}
use Rattle.csp_program.specs.declared.processes.Proc.TheViews.{out-Proc}
use Rattle.csp_program.specs.declared.programs.Content.{Content}
use Rattle.csp_program.specs.declared.programs.ResourceNote.{ResourceNote}
use Rattle.csp_program.specs.declared.programs.RolesNote.{RolesNote}
use Rattle.csp_tables.specs.Prelude.{Component, RoleSets, UseSets}
use Rattle.process_steps.specs.Needed.{all_outcomes, events_in}
use Rattle.csp_program.specs.declared.expressions.Expr.TheVariants as expr

-- what is told of the process with this number
abbrev pub roles_note : List RolesNote → ℕ → Option RolesNote
roles_note notes d = find (λ note. nat_eq note.process d) notes

abbrev pub resource_note : List ResourceNote → ℕ → Option ResourceNote
resource_note notes d = find (λ note. nat_eq note.process d) notes

-- the set that the definition with the number d is, with these arguments
abbrev pub told_set : Content → List Expr → ℕ → Outcome (List ℕ)
told_set p args d = events_in p (expr.Call d args)

-- the sets in the order of the annotation
abbrev pub told_roles : Content → List Expr → Option RolesNote → Outcome RoleSets
told_roles p args None = Ok (record { creq = []; cack = []; sreq = []; sack = [] })
told_roles p args (Some note) =
    and_then (told_set p args note.creq) (λ creq. and_then (told_set p args note.cack) (λ cack.
    and_then (told_set p args note.sreq) (λ sreq. and_then (told_set p args note.sack) (λ sack.
    Ok (record { creq = creq; cack = cack; sreq = sreq; sack = sack })))))

abbrev pub told_uses : Content → List Expr → Option ResourceNote → Outcome UseSets
told_uses p args None = Ok (record { resource = false; acquire = []; release = [] })
told_uses p args (Some note) =
    and_then (told_set p args note.acquire) (λ acquire. and_then (told_set p args note.release) (λ release.
    Ok (record { resource = true; acquire = acquire; release = release })))

-- a process that is a call, with its arguments
abbrev pub call_of_layer : Proc-F Proc → Option (ℕ × List Expr)
call_of_layer (Proc-F.Call d args) = Some (d, args)
call_of_layer _ = None

abbrev pub call_of : Proc → Option (ℕ × List Expr)
call_of q = call_of_layer (out-Proc q)

abbrev pub roles_of_call : Content → Option (ℕ × List Expr) → Outcome RoleSets
roles_of_call p None = told_roles p [] None
roles_of_call p (Some call) = told_roles p call.1 (roles_note p.roles call.0)

abbrev pub uses_of_call : Content → Option (ℕ × List Expr) → Outcome UseSets
uses_of_call p None = told_uses p [] None
uses_of_call p (Some call) = told_uses p call.1 (resource_note p.resources call.0)

-- what is told of a component
abbrev pub component_roles : Content → Component Proc → Outcome RoleSets
component_roles p c = roles_of_call p (call_of c.term)

abbrev pub component_uses : Content → Component Proc → Outcome UseSets
component_uses p c = uses_of_call p (call_of c.term)

-- Of the component in this place something is told that has no value, for this reason; what is told of those before it has values.
pub record IsFirstWithout {A : Type 0} (told : Component Proc → Outcome A) (components : List (Component Proc)) (part : ℕ) (why : ValueKind) : Type 0 where
  pub component : Component Proc
  pub stands : slice_get components part ≡ Some component
  pub lacks : told component ≡ Err why
  pub before : (told_before : List A) × (all_outcomes told (take part components) ≡ Ok told_before)
