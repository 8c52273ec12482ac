-- The body of a definition, with values in place of its parameters.
use Rattle.csp_steps.proofs.Prelude.{◌≡◌, ℕ, Option, Some, List, slice_get, ap, sym, ◌∙◌, subst, Value, Outcome, given_by, proc_with, bound_to, Proc, Content, called, process_of, at, tree_at, ProcId, IsPlaceOf, body_of, process_body, Body, Def}
use Rattle.csp_program.specs.declared.programs.Body.TheVariants as body
use Rattle.csp_steps.proofs.Places.{found}

-- the body of a definition
pub body_is : (p : Content) (d : ℕ) (def : Def) (q : Proc) → slice_get p.defs d ≡ Some def → def.body ≡ body.Process q → body_of (slice_get p.defs d) ≡ Some q
body_is p d def q e f = ap body_of e ∙ ap process_body f

pub entered : (p : Content) (mid new : List Proc) (d : ℕ) (def : Def) (q : Proc) (params : List ℕ) (vs : List Value) (id made : ProcId) → slice_get p.defs d ≡ Some def → def.body ≡ body.Process q → params ≡ def.params
    → slice_get mid id.0 ≡ Some q → slice_get new made.0 ≡ Some (proc_with (given_by (bound_to params vs)) (tree_at mid id)) → IsPlaceOf new made (called (slice_get p.defs d) vs)
entered p mid new d def q params vs id made e f same g h =
    subst (λ (o : Outcome Proc). IsPlaceOf new made o) (sym (ap (λ (o : Option Def). called o vs) e ∙ ap (λ (b : Body). process_of def.params b vs) f))
    (found new made (proc_with (given_by (bound_to def.params vs)) q) (h ∙ (λ i. Some (proc_with (given_by (bound_to (same i) vs)) (at mid id q g i)))))
