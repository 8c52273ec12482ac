use Rattle.definition_kinds.proofs.Prelude.{sym, ◌∙◌, rows}
use Rattle.definition_kinds.proofs.FoundLaws.{rows-length}
use Rattle.definition_kinds.proofs.LeadingLaws.{are_leading}
use Rattle.definition_kinds.proofs.leading.vertices_from.Goals as goal

pub returns : goal.returns
returns c =
    are_leading c.in_ok-rows.rows c.args.target (rows c.args.all.now) c.args.count (sym c.requires.count ∙ sym (rows-length c.args.all.now)) c.requires.last c.in_ok-rows.ensures.arcs
    c.in_ok-found.found c.in_ok-found.ensures.members
