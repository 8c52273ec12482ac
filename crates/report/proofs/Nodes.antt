-- The nodes of a table one after another.
use Rattle.report.proofs.Prelude.{◌≡◌, ℕ, ◌+◌, ◌<◌, List, [], ◌∷◌, ◌++◌, length, take, get_or, sym, ap, ◌∙◌, append_assoc, add-one, arith, append-nil, take-suc, length-take-le, node_text, nodes_text}
use Rattle.csp_program.specs.declared.programs.Content.{Content}
use Rattle.csp_tables.specs.Table.{Node}

module _ (p : Content) where
  pub one_more_node : (n : ℕ) (nodes : List Node) (node : Node) → nodes_text p n (nodes ++ node ∷ []) ≡ nodes_text p n nodes ++ node_text p (n + length nodes) node
  one_more_node n [] node =
      let same : n ≡ n + 0 = omega arith in
      append-nil (node_text p n node) ∙ ap (λ k. node_text p k node) same
  one_more_node n (m ∷ nodes) node =
      let moved : n + 1 + length nodes ≡ n + length (m ∷ nodes) = omega arith in
      ap (λ text. node_text p n m ++ text) (one_more_node (n + 1) nodes node ∙ ap (λ k. nodes_text p (n + 1) nodes ++ node_text p k node) moved)
      ∙ sym (append_assoc (node_text p n m) (nodes_text p (n + 1) nodes) (node_text p (n + length (m ∷ nodes)) node))

  -- one more node is written
  pub nodes_step : (before report new : List ℕ) (nodes : List Node) (i number : ℕ) (node : Node) → i < length nodes → node ≡ get_or nodes i node
      → number ≡ i → report ≡ before ++ nodes_text p 0 (take i nodes) → new ≡ report ++ node_text p number node → new ≡ before ++ nodes_text p 0 (take (i + 1) nodes)
  nodes_step before report new nodes i number node within is at so_far now =
      let count : length (take i nodes) ≡ i = length-take-le i nodes (omega arith) in
      let grown : take (i + 1) nodes ≡ take i nodes ++ node ∷ [] = rw (add-one) (take-suc nodes i node within ∙ ap (λ x. take i nodes ++ x ∷ []) (sym is)) in
      let written : nodes_text p 0 (take (i + 1) nodes) ≡ nodes_text p 0 (take i nodes) ++ node_text p number node =
      ap (nodes_text p 0) grown ∙ one_more_node 0 (take i nodes) node ∙ ap (λ k. nodes_text p 0 (take i nodes) ++ node_text p k node) (let z : 0 + length (take i nodes) ≡ number = omega arith in z) in
      now ∙ ap (λ t. t ++ node_text p number node) so_far ∙ append_assoc before (nodes_text p 0 (take i nodes)) (node_text p number node)
      ∙ ap (λ t. before ++ t) (sym written)
