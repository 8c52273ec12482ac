use Rattle.rule_rankings.proofs.Prelude.{ℕ, List, pos, sym, subst, refl, Part, Shape, IsClientServerRanking, IsRank, AreAllRanked, IsRanked, NoLap}
use Rattle.rule_rankings.proofs.ClientServerRanking.{role_ranking}
use Rattle.rule_rankings.proofs.client_server.client_server_ranking.Goals as goal

pub returns : goal.returns
returns c =
    let made = c.in_ok-parts.parts.items in
    let rank = λ (s : Shape) (i : ℕ). IsRanked s.vocabulary (IsRank s c.args.roles.now c.args.heights.now i) in
    let all = subst (λ (s : Shape). AreAllRanked (rank s) NoLap s.parts made) c.shape-shape.ensures.value (subst (λ (ps : List Part). AreAllRanked (rank c.shape-shape.result.now) NoLap ps made) c.parts.ensures.value c.in_ok-parts.ensures) in
    subst (IsClientServerRanking c.args.sorted.now c.args.roles.now) (sym c.new.ensures)
    (role_ranking c.args.sorted.now c.args.roles.now c.args.heights.now (record { scale = pos 0; parts = made }) c.requires.heights all refl)
