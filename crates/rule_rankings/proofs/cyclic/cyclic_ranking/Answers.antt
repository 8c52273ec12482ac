use Rattle.rule_rankings.proofs.Prelude.{◌≡◌, ◌∙◌, ℕ, List, pos, length, ap, sym, subst, arith, to_z, of_z, w64, slice_index, ints, Part, Shape, AreCyclicRanks, above_all, IsLap, AreAllRanked, IsRanked}
use Rattle.rule_rankings.specs.CyclicRanks.{IsRank}
use Rattle.rule_rankings.proofs.CyclicRanking.{cyclic_ranks}
use Rattle.rule_rankings.proofs.cyclic.cyclic_ranking.Goals as goal

pub returns : goal.returns
returns c =
    let shape = c.args.sorted.now in
    let number = slice_index c.args.numbers.now in
    let tops = c.in_ok-tops.tops.items in
    let made = c.in_ok-parts.parts.items in
    let lap = λ (ts : List ℕ) (i : ℕ). IsLap shape number (slice_index ts i) in
    let all = subst (λ (ts : List ℕ). AreAllRanked (λ _. IsRanked shape.vocabulary (IsRank shape number)) (lap ts) shape.parts made) c.as_slice.ensures.value
    (subst (λ (ps : List Part). AreAllRanked (λ _. IsRanked shape.vocabulary (IsRank shape number)) (lap c.as_slice.result.now) ps made) (c.parts.ensures.value ∙ ap (λ (s : Shape). s.parts) c.shape.ensures.value) c.in_ok-parts.ensures) in
    let same : to_z w64 (of_z w64 c.scale.result) ≡ c.scale.result = omega (arith, ints) in
    let scale = same ∙ c.scale.ensures ∙ ap (λ (ns : List ℕ). pos (above_all (slice_index ns) (length ns))) c.as_slice-2.ensures ∙ ap (λ (n : ℕ). pos (above_all (slice_index c.args.numbers.now) n)) c.requires.count in
    subst (AreCyclicRanks shape number) (sym c.new.ensures)
    (cyclic_ranks shape number tops (record { scale = to_z w64 (of_z w64 c.scale.result); parts = made }) c.shape.ensures.form c.shape.ensures.apart c.requires.keep c.requires.rise c.in_ok-tops.ensures all scale)
