use Rattle.definition_kinds.proofs.Prelude.{length, sym, rows}
use Rattle.definition_kinds.proofs.FoundLaws.{are_kinds, rows-length}
use Rattle.definition_kinds.proofs.kinds.kinds_among.Goals as goal

pub returns : goal.returns
returns c =
    are_kinds (rows c.args.all.now) c.in_ok-found.found c.in_ok-kinds.kinds.items (length c.args.all.now) (sym (rows-length c.args.all.now)) c.in_ok-found.ensures c.in_ok-kinds.ensures
