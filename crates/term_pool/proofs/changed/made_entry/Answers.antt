-- Own parts first, and then places.
use Rattle.term_pool.proofs.Prelude.{ap, ◌∙◌, Layer, moved, IfOk-weaker}
use Rattle.term_pool.proofs.EntryLemmas.{starts_both}
use Rattle.term_pool.proofs.changed.made_entry.Goals as goal

pub returns-clause-start : goal.returns-clause-start
returns-clause-start c = starts_both c.args.parts.now c.put_own.new.parts c.with_places.new.parts c.in_ok-entry.ensures.start c.with_places.ensures.start

pub returns-clause-layer : goal.returns-clause-layer
returns-clause-layer c = IfOk-weaker c.with_places.result _ _ (λ made h. h ∙ ap (λ (n : Layer). moved n c.args.ids.now) c.in_ok-entry.ensures.layer) c.with_places.ensures.layer
