-- The processes of a pool are those of its entries.
use Rattle.term_pool.proofs.Prelude.{List, length, sym, ap, ◌∙◌, subst, Proc, layers, AreDifferent, PartsStandBelow}
use Rattle.term_pool.proofs.HeldLemmas.{are_different, parts_stand}
use Rattle.term_pool.proofs.KeptLemmas.{processes_length}
use Rattle.term_pool.proofs.pool.Pool.len.Goals as goal

pub returns-clause-value : goal.returns-clause-value
returns-clause-value c = c.len.ensures ∙ (sym (processes_length c.self.inside.nodes.parts c.self.inside.nodes.entries) ∙ ap (λ (ts : List Proc). length ts) c.self.view_is)

pub returns-clause-different : goal.returns-clause-different
returns-clause-different c = subst AreDifferent c.self.view_is (are_different (layers c.self.inside.nodes.parts c.self.inside.nodes.entries) c.self.invariant.held.smaller c.self.invariant.held.distinct)

pub returns-clause-parts : goal.returns-clause-parts
returns-clause-parts c = subst PartsStandBelow c.self.view_is (parts_stand (layers c.self.inside.nodes.parts c.self.inside.nodes.entries) c.self.invariant.held.smaller)
