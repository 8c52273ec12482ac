-- What is noted at the place is noted of the part there.
use Rattle.pool_parts.proofs.Prelude.{ap, sym, ◌∙◌, option_copied}
use Rattle.pool_parts.proofs.StoreLemmas.{noted_at}
use Rattle.pool_parts.proofs.store.note_at.Goals as goal

pub returns-in-Some : goal.returns-in-Some
returns-in-Some g c =
    λ other. noted_at g.T.Part.depth g.T.Part.size g.T.Part.free c.args.notes.now c.args.parts.now c.args.place c.in-Some.note.now other c.requires.noted (sym c.get.ensures ∙ ap option_copied c.in-Some.is)
