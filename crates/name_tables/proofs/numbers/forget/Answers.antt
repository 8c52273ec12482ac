use Rattle.name_tables.proofs.Prelude.{None, subst, Writes}
use Rattle.name_tables.proofs.SpellingLemmas.{updates_at}
use Rattle.name_tables.proofs.numbers.forget.Goals as goal

pub returns : goal.returns
returns c =
    subst (λ x. Writes c.args.last.now c.remove.new.self x None) c.as_slice.ensures
    (updates_at c.as_slice.result.now c.args.last.now c.remove.new.self None c.remove.ensures.updates)
