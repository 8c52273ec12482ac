use Rattle.event_tables.proofs.Prelude.{List, ap, ◌∙◌, Bor, option_copied, Atom}
use Rattle.event_tables.proofs.SetLaws.{got_at, lent_at}
use Rattle.event_tables.proofs.sets.sets_at.Goals as goal

pub returns : goal.returns
returns c =
    ap option_copied (c.copied.ensures ∙ got_at {X = Bor (List (List Atom))} c.get.result c.args.all.now c.args.c c.get.ensures.lookup)
    ∙ lent_at c.args.all.now c.args.c
