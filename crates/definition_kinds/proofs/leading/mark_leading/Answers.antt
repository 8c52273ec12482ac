use Rattle.definition_kinds.proofs.Prelude.{◌≡◌, length, arith, rows}
use Rattle.definition_kinds.proofs.FoundLaws.{leading_from, rows-length}
use Rattle.definition_kinds.proofs.leading.mark_leading.Goals as goal

pub returns : goal.returns
returns c =
    let shown : length (rows c.args.all.now) ≡ length c.args.all.now = rows-length c.args.all.now in
    leading_from c.args.target (rows c.args.all.now) c.in_ok-found.found c.in_ok-marks.marks.items c.in_ok-found.ensures (λ d below. c.in_ok-marks.ensures d (omega arith))
