use Rattle.observed_runs.proofs.Prelude.{◌≡◌, ◌∙◌, ℕ, List, ap, sym, IsRun, end_of, pair_at, IfOk-weaker}
use Rattle.observed_runs.proofs.nodes.run_to_node.Goals as goal

pub returns-clause-follows : goal.returns-clause-follows
returns-clause-follows c =
    IfOk-weaker c.run_to.result _ (λ (run : List ℕ). IsRun c.args.part.now.table run) (λ run l. l.follows) (c.run_to.ensures c.args.part.now.table _ _ c.in_ok-explored.ensures.found)

pub returns-clause-leads : goal.returns-clause-leads
returns-clause-leads c =
    IfOk-weaker c.run_to.result _ (λ (run : List ℕ). end_of c.args.part.now.table 0 run ≡ c.args.node)
    (λ run l. l.node ∙ ap (λ (ps : List (ℕ × ℕ)). (pair_at ps c.node_place-place.result).0) (sym c.pairs.ensures) ∙ c.node_place-place.ensures.found)
    (c.run_to.ensures c.args.part.now.table _ _ c.in_ok-explored.ensures.found)
