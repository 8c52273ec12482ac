use Rattle.resource_rule.proofs.Prelude.{◌≡◌, ◌<◌, ℕ, List, [], true, get_or, length, inl, inr, sym, subst, arith, cases_lt, get_or_read, is_possible, part_form, node_of, IsInTurn}
use Rattle.resource_rule.proofs.user.User.all_in_turn.Goals as goal

pub overflow_cast-node : goal.overflow_cast-node
overflow_cast-node c =
    let most = (part_form c.args.self.now.setting.now.shape.parts c.args.self.now.part c.args.self.now.within c.shape-form.ensures.form.form).most in
    let below : c.loop-node.node < length c.args.held.now = c.loop-node-test.true in
    omega (arith, most, c.requires)

pub loop-node-preserved : goal.loop-node-preserved
loop-node-preserved c n e less possible = elim (cases_lt n c.loop-node.node) as (λ _. IsInTurn c.args.self.now.setting.now c.args.self.now.part (get_or c.args.held.now n []) e) [
  | inl old ↦ c.loop-node.invariant n e old possible
  | inr now ↦
      let same : c.loop-node.node ≡ n = omega arith in
      let at = get_or_read c.args.held.now c.loop-node.node c.index-held-node.result c.loop-node-test.true c.index-held-node.is [] in
      let there = subst (λ (k : ℕ). is_possible (node_of c.args.self.now.setting.now c.args.self.now.part k).next e ≡ true) (sym same) possible in
      subst (λ (k : ℕ). IsInTurn c.args.self.now.setting.now c.args.self.now.part (get_or c.args.held.now k []) e) same (subst (λ (xs : List ℕ). IsInTurn c.args.self.now.setting.now c.args.self.now.part xs e) at (c.node_in_turn.ensures c.if-not-node_in_turn.false e there))
]
