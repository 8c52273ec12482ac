use Rattle.rule_rankings.proofs.Prelude.{◌∙◌, List, pos, ap, sym, subst, refl, Part, Shape, AreResourceRanks, number_by, AreAllRanked, IsRanked, NoLap}
use Rattle.rule_rankings.specs.ResourceRanks.{IsRank}
use Rattle.rule_rankings.proofs.ResourceRanking.{resource_ranks}
use Rattle.rule_rankings.proofs.resource.resource_ranking.Goals as goal

pub returns : goal.returns
returns c =
    let g = c.args.setting.now in
    let number = number_by c.args.heights.now in
    let made = c.in_ok-parts.parts.items in
    let all = subst (λ (ps : List Part). AreAllRanked (λ i. IsRanked g.shape.vocabulary (IsRank g number c.top.result i)) NoLap ps made) (c.parts.ensures.value ∙ ap (λ (s : Shape). s.parts) c.shape.ensures.value) c.in_ok-parts.ensures in
    subst (λ top. AreResourceRanks g.shape g.uses number top c.new.result) c.top.ensures.is
    (subst (AreResourceRanks g.shape g.uses number c.top.result) (sym c.new.ensures)
    (resource_ranks g number c.top.result (record { scale = pos 0; parts = made }) c.shape.ensures.form c.requires.keep all c.top.ensures.is refl))
