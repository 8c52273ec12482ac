use Rattle.resource_rule.proofs.Prelude.{◌≡◌, ◌∙◌, sym, subst, true, is_subset_of}
use Rattle.resource_rule.proofs.Adding.{kept_row}
use Rattle.resource_rule.proofs.link_sets.add_members.Goals as goal

pub returns-then-is_subset-clause-arcs : goal.returns-then-is_subset-clause-arcs
returns-then-is_subset-clause-arcs c = kept_row c.args.sets.now c.args.place c.index-sets-place.result c.args.more.now c.requires c.index-sets-place.is (subst (λ xs. is_subset_of c.args.more.now xs ≡ true) (sym c.index-sets-place.is) (sym c.is_subset.ensures ∙ c.if-is_subset.true))
