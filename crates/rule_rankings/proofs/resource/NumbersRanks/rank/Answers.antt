use Rattle.rule_rankings.proofs.Prelude.{◌≡◌, ◌∙◌, ◌+◌, ◌-◌, ◌*◌, List, ℕ, pos, nat_le, ap, sym, arith, to_z, of_z, w64, ints, has, is_subset_of, Shape, UseSets, number_by, find_has, none_found}
use Rattle.rule_rankings.proofs.ResourceRanking.{user_is, free_is, held_is}
use Rattle.rule_rankings.proofs.RowsBelow.{at_vertex, no_vertex, outside}
use Rattle.rule_rankings.specs.ResourceRanks.{IsRank}
use Rattle.rule_rankings.proofs.resource.NumbersRanks.rank.Goals as goal

pub returns-then-not-is_subset : goal.returns-then-not-is_subset
returns-then-not-is_subset c = outside c.args.self.now.setting.now.shape.vocabulary (IsRank c.args.self.now.setting.now (number_by c.args.self.now.heights.now) c.args.self.now.top c.args.part) c.args.set.now (sym (c.is_subset.ensures ∙ ap (is_subset_of c.args.set.now) (c.vocabulary.ensures ∙ ap (λ (x : Shape). x.vocabulary) c.shape.ensures.value)) ∙ c.if-not-is_subset.true)

pub returns-in_default : goal.returns-in_default
returns-in_default c = no_vertex c.args.self.now.setting.now.shape.vocabulary (IsRank c.args.self.now.setting.now (number_by c.args.self.now.heights.now) c.args.self.now.top c.args.part) c.args.set.now (λ _ some. none_found c.args.set.now some.0 (sym c.in_default.ensures.least) some.1)

pub returns-then-not-is_resource : goal.returns-then-not-is_resource
returns-then-not-is_resource c =
    let g = c.args.self.now.setting.now in
    let number = number_by c.args.self.now.heights.now in
    let top = c.requires.top_is in
    let subset = sym (c.is_subset.ensures ∙ ap (is_subset_of c.args.set.now) (c.vocabulary.ensures ∙ ap (λ (x : Shape). x.vocabulary) c.shape.ensures.value)) ∙ c.if-not-is_subset.false in
    let user = sym (c.is_resource.ensures ∙ ap (λ (u : UseSets). u.resource) c.uses-uses.ensures) ∙ c.if-not-is_resource.true in
    let same : to_z w64 (of_z w64 c.user_rank.result) ≡ c.user_rank.result = omega (arith, ints) in
    at_vertex c.args.self.now.setting.now.shape.vocabulary (IsRank c.args.self.now.setting.now (number_by c.args.self.now.heights.now) c.args.self.now.top c.args.part) c.args.set.now (to_z w64 (of_z w64 c.user_rank.result)) subset (c.in-Some.event, find_has (nat_le 0) c.args.set.now c.in-Some.event (sym c.in-Some.ensures.least))
    (user_is g number c.args.self.now.top c.args.part c.least_acquired.result c.args.set.now (to_z w64 (of_z w64 c.user_rank.result)) user c.least_acquired.ensures top.above
    (λ low. same ∙ c.user_rank.ensures.some low) (λ high. same ∙ c.user_rank.ensures.none high))

pub returns-then-contains : goal.returns-then-contains
returns-then-contains c =
    let g = c.args.self.now.setting.now in
    let number = number_by c.args.self.now.heights.now in
    let subset = sym (c.is_subset.ensures ∙ ap (is_subset_of c.args.set.now) (c.vocabulary.ensures ∙ ap (λ (x : Shape). x.vocabulary) c.shape.ensures.value)) ∙ c.if-not-is_subset.false in
    let resource = sym (c.is_resource.ensures ∙ ap (λ (u : UseSets). u.resource) c.uses-uses.ensures) ∙ c.if-not-is_resource.false in
    let acquire = sym (c.contains.ensures.member ∙ ap (λ (xs : List ℕ). has xs c.in-Some.event) (c.acquire.ensures ∙ ap (λ (u : UseSets). u.acquire) c.uses-uses.ensures)) ∙ c.if-contains.true in
    let same : to_z w64 (of_z w64 c.rank.result) ≡ c.rank.result = omega (arith, ints) in
    at_vertex c.args.self.now.setting.now.shape.vocabulary (IsRank c.args.self.now.setting.now (number_by c.args.self.now.heights.now) c.args.self.now.top c.args.part) c.args.set.now (to_z w64 (of_z w64 c.rank.result)) subset (c.in-Some.event, find_has (nat_le 0) c.args.set.now c.in-Some.event (sym c.in-Some.ensures.least))
    (free_is g number c.args.self.now.top c.args.part c.in-Some.event c.args.set.now (to_z w64 (of_z w64 c.rank.result)) resource (find_has (nat_le 0) c.args.set.now c.in-Some.event (sym c.in-Some.ensures.least)) acquire (same ∙ c.rank.ensures))

pub returns : goal.returns
returns c =
    let g = c.args.self.now.setting.now in
    let number = number_by c.args.self.now.heights.now in
    let subset = sym (c.is_subset.ensures ∙ ap (is_subset_of c.args.set.now) (c.vocabulary.ensures ∙ ap (λ (x : Shape). x.vocabulary) c.shape.ensures.value)) ∙ c.if-not-is_subset.false in
    let resource = sym (c.is_resource.ensures ∙ ap (λ (u : UseSets). u.resource) c.uses-uses.ensures) ∙ c.if-not-is_resource.false in
    let acquire = sym (c.contains.ensures.member ∙ ap (λ (xs : List ℕ). has xs c.in-Some.event) (c.acquire.ensures ∙ ap (λ (u : UseSets). u.acquire) c.uses-uses.ensures)) ∙ c.if-contains.false in
    let same : to_z w64 (of_z w64 c.rank-2.result) ≡ c.rank-2.result = omega (arith, ints) in
    at_vertex c.args.self.now.setting.now.shape.vocabulary (IsRank c.args.self.now.setting.now (number_by c.args.self.now.heights.now) c.args.self.now.top c.args.part) c.args.set.now (to_z w64 (of_z w64 c.rank-2.result)) subset (c.in-Some.event, find_has (nat_le 0) c.args.set.now c.in-Some.event (sym c.in-Some.ensures.least))
    (held_is g number c.args.self.now.top c.args.part c.in-Some.event c.args.set.now (to_z w64 (of_z w64 c.rank-2.result)) resource (find_has (nat_le 0) c.args.set.now c.in-Some.event (sym c.in-Some.ensures.least)) acquire
    (same ∙ (c.rank-2.ensures ∙ ap (λ (n : ℕ). pos (2 * (c.args.self.now.top - n) + 1)) c.number.ensures)))
