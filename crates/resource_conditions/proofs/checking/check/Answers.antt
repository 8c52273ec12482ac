use Rattle.resource_conditions.proofs.Prelude.{◌≡◌, ℕ, inl, inr, subst, arith, cases_lt, FindsRun}
use Rattle.resource_conditions.proofs.checking.check.Goals as goal

pub loop-part-preserved : goal.loop-part-preserved
loop-part-preserved g c j t less =
    let keeps = g.D.Decider.keeps c.args.decider.now in
    let run = subst (FindsRun (g.D.Decider.shape c.args.decider.now) c.loop-part.part (keeps c.loop-part.part)) c.in_default.is c.in_ok-trace.ensures in
    elim (cases_lt j c.loop-part.part) as (λ _. g.D.Decider.keeps c.args.decider.now j t) [
      | inl old ↦ c.loop-part.invariant j t old
      | inr now ↦ let same : c.loop-part.part ≡ j = omega arith in subst (λ (x : ℕ). g.D.Decider.keeps c.args.decider.now x t) same (run t)
    ]

pub returns-clause-keeps : goal.returns-clause-keeps
returns-clause-keeps g c i s = elim (cases_lt i c.args.count) [
  | inl below ↦ c.loop-part.invariant i s (omega arith)
  | inr past ↦ c.requires.past i s past
]
