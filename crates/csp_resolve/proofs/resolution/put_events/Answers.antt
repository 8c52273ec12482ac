use Rattle.csp_resolve.proofs.Prelude.{ap, Vec, Global, types_read, SharedSets, spread, first_of, Answer, and_next}
use Rattle.csp_resolve.proofs.AnswerLaws.{passed}
use Rattle.csp_resolve.proofs.SetsLaws.{Sets}
use Rattle.script_names.specs.Resolved as meant
use Rattle.csp_resolve.proofs.resolution.put_events.Goals as goal

pub returns-in_err-shared : goal.returns-in_err-shared
returns-in_err-shared c =
    let sets = meant.channel_sets c.args.content.now (types_read (first_of c.args.meanings.now.names.now) c.args.meanings.now.kinds.now) 0 c.args.decls.now in
    passed c.from_residual.result c.in_err-shared.field-0.0 (λ (shared : Vec SharedSets Global). spread shared.items) (λ (done : Unit {0}). c.args.content.now)
    sets (and_next sets (λ all. meant.with_table c.args.content.now all)) c.from_residual.ensures.1 c.in_err-shared.ensures
    (λ g none. ap (λ (o : Answer Sets). and_next o (λ all. meant.with_table c.args.content.now all)) none)
