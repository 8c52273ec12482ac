use Rattle.csp_resolve.proofs.Prelude.{sym, subst, ◌∙◌, Content, IsProgram}
use Rattle.csp_resolve.proofs.AnswerLaws.{resolves_at}
use Rattle.csp_resolve.proofs.resolution.resolve.Goals as goal

pub new-requires : goal.new-requires
new-requires c = record { in_order = c.in_ok-content.ensures.in_order }

pub returns : goal.returns
returns c = subst (λ (p : Content). IsProgram c.args.script.now p) (sym (c.in_ok-program.ensures ∙ c.new.ensures)) c.in_ok-content.ensures.resolves

pub returns-in_err-content : goal.returns-in_err-content
returns-in_err-content c =
    resolves_at c.args.script.now c.from_residual-in_err-content.result c.in_err-content.field-0.0 c.from_residual-in_err-content.ensures.1 c.in_err-content.ensures.resolves
