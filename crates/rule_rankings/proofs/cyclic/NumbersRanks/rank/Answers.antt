use Rattle.rule_rankings.proofs.Prelude.{◌≡◌, ◌∙◌, ◌<◌, ℕ, pos, nat_le, ap, sym, subst, refl, arith, to_z, of_z, w64, ints, none-some, slice_index, is_subset_of, Shape, vocabulary_owner, find_has, none_found}
use Rattle.rule_rankings.specs.CyclicRanks.{IsRank}
use Rattle.rule_rankings.proofs.RowsBelow.{at_vertex, no_vertex, outside}
use Rattle.rule_rankings.proofs.cyclic.NumbersRanks.rank.Goals as goal

pub returns-then-not-is_subset : goal.returns-then-not-is_subset
returns-then-not-is_subset c = outside c.args.self.now.sorted.now.vocabulary (IsRank c.args.self.now.sorted.now (slice_index c.args.self.now.numbers.now)) c.args.set.now (sym (c.is_subset.ensures ∙ ap (is_subset_of c.args.set.now) (c.vocabulary.ensures ∙ ap (λ (x : Shape). x.vocabulary) c.shape.ensures.value)) ∙ c.if-not-is_subset.true)

pub returns-in_default : goal.returns-in_default
returns-in_default c = no_vertex c.args.self.now.sorted.now.vocabulary (IsRank c.args.self.now.sorted.now (slice_index c.args.self.now.numbers.now)) c.args.set.now (λ _ some. none_found c.args.set.now some.0 (sym c.in_default.ensures.least) some.1)

pub returns-in_default-owner : goal.returns-in_default-owner
returns-in_default-owner c = no_vertex c.args.self.now.sorted.now.vocabulary (IsRank c.args.self.now.sorted.now (slice_index c.args.self.now.numbers.now)) c.args.set.now (λ within _.
    let o = vocabulary_owner c.args.self.now.sorted.now c.in-Some.event c.shape.ensures.form (within c.in-Some.event (find_has (nat_le 0) c.args.set.now c.in-Some.event (sym c.in-Some.ensures.least))) in
    none-some o.0 (c.in_default-owner.ensures.owned o.0 o.1))

pub of-requires : goal.of-requires
of-requires c = subst (λ (n : ℕ). c.in-Some-owner.link < n) (sym c.requires.0) (c.in-Some-owner.ensures.found c.in-Some-owner.link refl).within

pub returns : goal.returns
returns c =
    let o = c.in-Some-owner.ensures.found c.in-Some-owner.link refl in
    let e = c.in-Some.event in
    let member = find_has (nat_le 0) c.args.set.now c.in-Some.event (sym c.in-Some.ensures.least) in
    let subset = sym (c.is_subset.ensures ∙ ap (is_subset_of c.args.set.now) (c.vocabulary.ensures ∙ ap (λ (x : Shape). x.vocabulary) c.shape.ensures.value)) ∙ c.if-not-is_subset.false in
    let same : to_z w64 (of_z w64 c.from.result) ≡ c.from.result = omega (arith, ints) in
    let rank : to_z w64 (of_z w64 c.from.result) ≡ pos (slice_index c.args.self.now.numbers.now c.in-Some-owner.link) = same ∙ c.from.ensures ∙ ap pos c.of.ensures in
    at_vertex c.args.self.now.sorted.now.vocabulary (IsRank c.args.self.now.sorted.now (slice_index c.args.self.now.numbers.now)) c.args.set.now (to_z w64 (of_z w64 c.from.result)) subset (c.in-Some.event, member)
    (λ l one h m. rank ∙ ap (λ (k : ℕ). pos (slice_index c.args.self.now.numbers.now k)) (one c.in-Some-owner.link l c.in-Some.event m.event o.within h member m.first o.event m.second))
