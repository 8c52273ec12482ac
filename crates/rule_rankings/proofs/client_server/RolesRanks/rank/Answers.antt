use Rattle.rule_rankings.proofs.Prelude.{◌≡◌, ◌∙◌, ℕ, pos, length, ap, sym, arith, to_z, of_z, w64, both_ways, ints, is_subset_of, meets_of, Part, IsRank, serving_rank}
use Rattle.rule_rankings.proofs.ClientServerRanking.{serving_is, asking_is}
use Rattle.rule_rankings.proofs.RowsBelow.{outside}
use Rattle.rule_rankings.proofs.client_server.RolesRanks.rank.Goals as goal

pub returns-then-not-is_subset : goal.returns-then-not-is_subset
returns-then-not-is_subset c = outside c.args.self.now.shape.now.vocabulary (IsRank c.args.self.now.shape.now c.args.self.now.roles.now c.args.self.now.heights.now c.args.part) c.args.set.now (sym (ap (is_subset_of c.args.set.now) c.vocabulary.ensures) ∙ sym c.is_subset.ensures ∙ c.if-not-is_subset.true)

pub returns-then-meets : goal.returns-then-meets
returns-then-meets c =
    let same : to_z w64 (of_z w64 c.serving_rank.result) ≡ c.serving_rank.result = omega (arith, ints) in
    serving_is c.args.self.now.shape.now c.args.self.now.roles.now c.args.self.now.heights.now c.args.part c.args.set.now (to_z w64 (of_z w64 c.serving_rank.result)) (sym (ap (is_subset_of c.args.set.now) c.vocabulary.ensures) ∙ sym c.is_subset.ensures ∙ c.if-not-is_subset.false) (sym (ap (meets_of c.args.set.now) c.requests_of.ensures) ∙ sym c.meets.ensures ∙ c.if-meets.true)
    (same ∙ c.serving_rank.ensures ∙ ap (λ (n : ℕ). serving_rank n c.of-height.result) (ap (length {A = Part}) c.parts.ensures.value) ∙ ap (serving_rank (length c.args.self.now.shape.now.parts)) c.of-height.ensures)

pub returns : goal.returns
returns c =
    let same : to_z w64 (of_z w64 c.from.result) ≡ c.from.result = omega (arith, ints) in
    asking_is c.args.self.now.shape.now c.args.self.now.roles.now c.args.self.now.heights.now c.args.part c.args.set.now (to_z w64 (of_z w64 c.from.result)) (sym (ap (is_subset_of c.args.set.now) c.vocabulary.ensures) ∙ sym c.is_subset.ensures ∙ c.if-not-is_subset.false) (sym (ap (meets_of c.args.set.now) c.requests_of.ensures) ∙ sym c.meets.ensures ∙ c.if-meets.false)
    (λ none. both_ways c.is_empty.result c.if-is_empty.false (c.is_empty.ensures.1 none)) (same ∙ c.from.ensures ∙ ap pos c.of-height.ensures)
