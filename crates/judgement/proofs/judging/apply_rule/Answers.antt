use Rattle.judgement.proofs.Prelude.{◌∙◌, ap, pos, subst, Network, ProcessStep, at_refusal, at_shortfall, goes_on, greatest_rank, node_count, RuleDecides, HasUntold, Notes, rankings_have_greatest_rank, passed, Tells}
use Rattle.report.specs.declared.answer.Done.TheVariants as done
use Rattle.report.specs.declared.answer.Side.TheVariants as side
use Rattle.report.specs.declared.answer.Verdict.TheVariants as verdict
use Rattle.judgement.proofs.Notes.{has_notes}
use Rattle.judgement.proofs.judging.apply_rule.Goals as goal

pub ranking_by-requires : goal.ranking_by-requires
ranking_by-requires c =
    let network = c.args.shaped.now.network in
    has_notes network c.args.rule c.in_ok-notes.notes c.args.shaped.now.shape
    (subst (λ (n : Network). Notes n c.args.rule c.in_ok-notes.notes) c.network-network.ensures c.in_ok-notes.ensures.ok) c.shape-shape.ensures.apart.is.parts

pub returns-in_err-notes : goal.returns-in_err-notes
unfolding RuleDecides
returns-in_err-notes c =
    at_refusal c.from_residual.result side.Script _ _ _ _ c.from_residual.ensures.1
    (subst (λ (n : Network). Tells (HasUntold n c.args.rule) c.in_err-notes.field-0.0) c.network-network.ensures c.in_err-notes.ensures.told)

pub returns-in_err-ranking : goal.returns-in_err-ranking
unfolding RuleDecides
returns-in_err-ranking c =
    goes_on _ _ _ _ c.in_ok-notes.notes (subst (λ (n : Network). Notes n c.args.rule c.in_ok-notes.notes) c.network-network.ensures c.in_ok-notes.ensures.ok) _
    (at_shortfall c.from_residual-in_err-ranking.result _ _ _ _ c.from_residual-in_err-ranking.ensures.1 c.in_err-ranking.ensures.told)

pub returns : goal.returns
unfolding RuleDecides
returns c =
    let network = c.args.shaped.now.network in
    let apart = c.shape-shape.ensures.apart in
    let notes = c.in_ok-notes.notes in
    let ranking = c.in_ok-ranking.ranking in
    let proved = c.conclude_stages-proved in
    passed notes (subst (λ (n : Network). Notes n c.args.rule notes) c.network-network.ensures c.in_ok-notes.ensures.ok) (passed tt c.in_ok-ranking.ensures.met (record {
      bound = proved.result.bound;
      exact = proved.ensures.exact;
      live = proved.ensures.live;
      rank = greatest_rank ranking;
      greatest = rankings_have_greatest_rank (ProcessStep network.program) network.tree c.args.shaped.now.shape apart.is notes ranking c.in_ok-ranking.ensures.ranks;
      is =
          ap verdict.Done (
          c.deadlock_free.ensures
          ∙ ap (λ n. done.DeadlockFree c.args.rule n (node_count c.args.shaped.now.shape.parts) proved.result.bound (pos (greatest_rank ranking))) proved.ensures.count);
    }))
