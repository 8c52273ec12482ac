use Rattle.resource_rule.proofs.Prelude.{◌≡◌, ◌<◌, ◌≤◌, ℕ, Some, length, get_or, inl, inr, ap, sym, subst, arith, slice_get, cases_lt, Joins, FindsRun, UsesLink, ends_of, end_here, end_place, same_end}
use Rattle.resource_rule.proofs.user.User.broken_use.Goals as goal

pub broken_on-requires-clause-link : goal.broken_on-requires-clause-link
broken_on-requires-clause-link c = (end_here c.args.self.now.setting.now.shape c.args.self.now.part c.links-link-items.result.now c.loop-link.link-index c.links-link-items.ensures c.loop-link-test.true).0

pub broken_on-requires-clause-end : goal.broken_on-requires-clause-end
broken_on-requires-clause-end c = (end_here c.args.self.now.setting.now.shape c.args.self.now.part c.links-link-items.result.now c.loop-link.link-index c.links-link-items.ensures c.loop-link-test.true).1

pub loop-link-preserved : goal.loop-link-preserved
loop-link-preserved c k n j s less at joins =
    let g = c.args.self.now.setting.now in
    let i = c.args.self.now.part in
    let link = get_or c.links-link-items.result.now c.loop-link.link-index 0 in
    let run = subst (FindsRun g.shape i (λ s. (j : ℕ) → Joins c.args.self.now.setting.now.shape c.args.self.now.part j link → UsesLink c.args.self.now.setting.now c.args.self.now.part link j s)) c.in_default.is c.in_ok-run.ensures in
    elim (cases_lt k c.loop-link.link-index) as (λ _. UsesLink g i n j s) [
      | inl old ↦ c.loop-link.invariant k n j s old at joins
      | inr now ↦
          let same : k ≡ c.loop-link.link-index = omega arith in
          let is = same_end g.shape i c.links-link-items.result.now c.loop-link.link-index n c.links-link-items.ensures (subst (λ (x : ℕ). slice_get (ends_of c.args.self.now.setting.now.shape c.args.self.now.part) x ≡ Some n) same at) in
          subst (λ (x : ℕ). UsesLink c.args.self.now.setting.now c.args.self.now.part x j s) is (run s j (subst (λ (x : ℕ). Joins c.args.self.now.setting.now.shape c.args.self.now.part j x) (sym is) joins))
    ]

pub returns : goal.returns
returns c s j n e joins possible on =
    let x = end_place c.args.self.now.setting.now.shape c.args.self.now.part j n joins in
    let inside : x.0 < length (ends_of c.args.self.now.setting.now.shape c.args.self.now.part) = x.1 in
    let items : length c.links-link-items.result.now ≡ length (ends_of c.args.self.now.setting.now.shape c.args.self.now.part) = ap (length {A = ℕ}) c.links-link-items.ensures in
    let all : length c.links-link-items.result.now ≤ c.loop-link.link-index = c.loop-link-test.false in
    c.loop-link.invariant x.0 n j s (omega arith) x.2 joins e possible on

pub returns-in-Some : goal.returns-in-Some
returns-in-Some c =
    let link = get_or c.links-link-items.result.now c.loop-link.link-index 0 in
    let found = subst (FindsRun c.args.self.now.setting.now.shape c.args.self.now.part (λ s. (j : ℕ) → Joins c.args.self.now.setting.now.shape c.args.self.now.part j link → UsesLink c.args.self.now.setting.now c.args.self.now.part link j s)) c.in-Some.is c.in_ok-run.ensures in
    (found.0, λ used. found.1 (λ j joins e possible on. used j link e joins possible on))
