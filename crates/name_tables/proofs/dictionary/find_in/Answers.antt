use Rattle.std.proofs.Common.{◌∙◌}
use Rattle.name_tables.proofs.dictionary.find_in.Goals as goal

pub returns : goal.returns
returns c = c.copied.ensures ∙ c.get.ensures.value
