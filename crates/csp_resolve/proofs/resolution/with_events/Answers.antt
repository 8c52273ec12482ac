use Rattle.csp_resolve.proofs.Prelude.{Content, types_read, first_of, and_next}
use Rattle.csp_resolve.proofs.AnswerLaws.{err_from}
use Rattle.script_names.specs.Resolved as meant
use Rattle.csp_resolve.proofs.resolution.with_events.Goals as goal

pub returns-in-Err : goal.returns-in-Err
returns-in-Err c =
    let whole = and_next (meant.channel_sets c.args.content (types_read (first_of c.args.meanings.now.names.now) c.args.meanings.now.kinds.now) 0 c.args.decls.now) (λ all. meant.with_table c.args.content all) in
    err_from (λ (done : Unit {0}). c.put_events.new.content) (λ (p : Content). p) c.in-Err.fault whole whole (λ g none. none) c.in-Err.ensures
