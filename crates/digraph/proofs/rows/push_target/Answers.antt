use Rattle.std.proofs.lemmas.Result.{err_from_is_err_and}
use Rattle.digraph.proofs.Arcs.{same_rows}
use Rattle.digraph.proofs.rows.push_target.Goals as goal

pub returns-in_err-push-clause-err : goal.returns-in_err-push-clause-err
returns-in_err-push-clause-err c =
    let p = err_from_is_err_and c.from_residual.result c.from_residual.ensures.1 in
    rw p.1 (same_rows c.args.rows.now.items c.args.from c.index_mut.result.now c.push.new.self c.requires c.index_mut.ensures.value c.in_err-push.ensures.err)
