use Rattle.name_tables.proofs.Prelude.{◌∙◌, nat_eq, first_of, pointwise, insert_entry-new}
use Rattle.name_tables.proofs.NameLemmas.{none_there}
use Rattle.name_tables.proofs.dictionary.put_new.Goals as goal

pub returns : goal.returns
returns c =
    c.in_ok-insert.ensures.entries
    ∙ insert_entry-new (pointwise nat_eq) c.args.entities.now c.args.name c.args.entity (none_there (first_of c.args.entities.now.entries c.args.name) c.requires)
