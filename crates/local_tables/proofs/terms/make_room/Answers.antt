use Rattle.local_tables.proofs.terms.make_room.Goals as goal

pub returns-then-len-gt-MOST_KEPT : goal.returns-then-len-gt-MOST_KEPT
returns-then-len-gt-MOST_KEPT c = c.new.ensures c.args.program.now
