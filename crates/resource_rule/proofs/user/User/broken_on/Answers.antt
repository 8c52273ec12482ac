use Rattle.resource_rule.proofs.Prelude.{◌≡◌, ◌∙◌, ℕ, List, Option, true, ap, sym, subst, IfOk-weaker, Link, Shape, end_of, link_at, part_at, SeesOnly, observed, parity_step, IsDecided, parity_only, are_uses}
use Rattle.resource_rule.proofs.Using.{decided_use}
use Rattle.resource_rule.proofs.user.User.broken_on.Goals as goal

pub failing_run-requires-clause-only : goal.failing_run-requires-clause-only
failing_run-requires-clause-only c =
    let g = c.args.self.now.setting.now in
    let shared : c.new.result.events.now ≡ (link_at c.args.self.now.setting.now.shape c.args.link).shared = c.new.ensures ∙ c.shared.ensures ∙ ap (λ (k : Link). k.shared) c.link.ensures in
    subst (λ (s : Shape). SeesOnly s.vocabulary (parity_step c.new.result.events.now)) (sym c.component-component.ensures.shape)
    (subst (λ (S : List ℕ). SeesOnly c.args.self.now.setting.now.shape.vocabulary (parity_step S)) (sym shared) (parity_only g.shape c.args.link c.shape-form.ensures.form c.requires.link))

pub returns : goal.returns
returns c =
    let g = c.args.self.now.setting.now in
    let i = c.args.self.now.part in
    let l = c.args.link in
    let j = c.other_end.result in
    let component = c.component-component.result in
    let shared : c.new.result.events.now ≡ (link_at c.args.self.now.setting.now.shape c.args.link).shared = c.new.ensures ∙ c.shared.ensures ∙ ap (λ (k : Link). k.shared) c.link.ensures in
    let at = λ (run : Option (List ℕ)) (s : Shape) (n : ℕ) (S : List ℕ). IsDecided s n (λ t. are_uses g i l j (end_of (part_at s.parts n).table 0 t, observed (parity_step S) 0 t) ≡ true) run in
    IfOk-weaker c.failing_run.result _ _ (λ (run : Option (List ℕ)) d.
    decided_use g i l j c.args.self.now.within (c.other_end.ensures.joins c.requires.end) c.other_end.ensures.only run
    (subst (λ (s : Shape). at run s i (link_at g.shape l).shared) c.component-component.ensures.shape
    (subst (λ (n : ℕ). at run component.shape.now n (link_at g.shape l).shared) c.component-component.ensures.number
    (subst (λ (S : List ℕ). at run component.shape.now component.number S) shared d)))) c.failing_run.ensures
