-- The node of the entry at a place stands for the process there.
use Rattle.term_pool.proofs.Prelude.{◌≡◌, ◌<◌, List, length, sym, ap, ◌∙◌, subst, Proc, processes, layer_below, layer_tree, tree_at, tree_of}
use Rattle.term_pool.proofs.pool.Pool.node.Goals as goal

pub entry_at-entry-requires-clause-within : goal.entry_at-entry-requires-clause-within
entry_at-entry-requires-clause-within c = subst (λ (ts : List Proc). c.args.id.0 < length ts) (sym c.self.view_is) c.requires

pub returns-clause-process : goal.returns-clause-process
returns-clause-process c =
    subst (λ (ts : List Proc). tree_of ts c.node_at.result ≡ tree_at ts c.args.id) c.self.view_is
    (ap (layer_tree (processes c.self.inside.nodes.parts c.self.inside.nodes.entries)) c.node_at.ensures ∙ c.entry_at-entry.ensures.process)

pub returns-clause-places : goal.returns-clause-places
returns-clause-places c = ap (layer_below c.args.id.0) c.node_at.ensures ∙ c.entry_at-entry.ensures.below
