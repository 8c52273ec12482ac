use Rattle.csp_resolve.proofs.Prelude.{◌≤◌, List, refl, sym, subst, AreKinds, Kind, Decl, MOST_BYTES, size}
use Rattle.csp_resolve.proofs.AnswerLaws.{program_is, refused, resolves_at}
use Rattle.csp_resolve.proofs.Few.{has_few}
use Rattle.csp_resolve.proofs.resolution.content_of.Goals as goal

pub returns-clause-resolves : goal.returns-clause-resolves
returns-clause-resolves c =
    program_is c.args.script.now c.as_slice-decls.result.now c.as_slice.result.now c.in_ok-content.content c.in_ok-content.content c.as_slice-decls.ensures
    (subst (λ (ks : List Kind). AreKinds c.as_slice-decls.result.now ks) (sym c.as_slice.ensures.value) c.in_ok-kinds.ensures) c.in_ok-content.ensures refl

pub returns-clause-in_order : goal.returns-clause-in_order
returns-clause-in_order c =
    c.programs_are_in_order.ensures.resolved c.as_slice-decls.result.now c.as_slice.result.now c.in_ok-content.content
    (subst (λ (ks : List Kind). AreKinds c.as_slice-decls.result.now ks) (sym c.as_slice.ensures.value) c.in_ok-kinds.ensures) c.in_ok-content.ensures
    (has_few c.as_slice-decls.result.now c.as_slice.result.now (subst (λ (ds : List Decl). size ds ≤ MOST_BYTES) (sym c.as_slice-decls.ensures) c.requires.small.few))

pub returns-in_err-content-clause-resolves : goal.returns-in_err-content-clause-resolves
returns-in_err-content-clause-resolves c =
    resolves_at c.args.script.now c.from_residual-in_err-content.result c.in_err-content.field-0.0 c.from_residual-in_err-content.ensures.1
    (refused c.args.script.now c.as_slice-decls.result.now c.as_slice.result.now c.in_err-content.field-0.0 c.as_slice-decls.ensures
    (subst (λ (ks : List Kind). AreKinds c.as_slice-decls.result.now ks) (sym c.as_slice.ensures.value) c.in_ok-kinds.ensures) c.in_err-content.ensures)
