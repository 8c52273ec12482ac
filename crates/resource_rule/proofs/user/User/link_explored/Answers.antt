use Rattle.resource_rule.proofs.Prelude.{◌≡◌, ◌∙◌, ℕ, List, ap, sym, subst, part_at, Link, Shape, link_at, SeesOnly, Found, IsExploration, parity_step, parity_only, IfOk-weaker}
use Rattle.resource_rule.proofs.user.User.link_explored.Goals as goal

pub explore-requires : goal.explore-requires
explore-requires c =
    let shared : c.new-parity.result.events.now ≡ (link_at c.args.self.now.setting.now.shape c.args.link).shared = c.new-parity.ensures ∙ c.shared.ensures ∙ ap (λ (k : Link). k.shared) c.link.ensures in
    subst (λ (s : Shape). SeesOnly s.vocabulary (parity_step c.new-parity.result.events.now)) (sym c.component.ensures.shape)
    (subst (λ (S : List ℕ). SeesOnly c.args.self.now.setting.now.shape.vocabulary (parity_step S)) (sym shared) (parity_only c.args.self.now.setting.now.shape c.args.link c.shape-form.ensures.form c.requires.link))

pub returns : goal.returns
returns c =
    let shared : c.new-parity.result.events.now ≡ (link_at c.args.self.now.setting.now.shape c.args.link).shared = c.new-parity.ensures ∙ c.shared.ensures ∙ ap (λ (k : Link). k.shared) c.link.ensures in
    let at = λ (made : Found) (s : Shape) (n : ℕ) (S : List ℕ). IsExploration (part_at s.parts n).table (parity_step S) 0 made.pairs in
    let S = c.new-parity.result.events.now in
    let i = c.args.self.now.part in
    IfOk-weaker c.explore.result _ _ (λ (made : Found) p.
    subst (λ (S : List ℕ). at made c.args.self.now.setting.now.shape i S) shared (subst (λ (s : Shape). at made s i S) c.component.ensures.shape (subst (λ (n : ℕ). at made c.component.result.shape.now n S) c.component.ensures.number p))) c.explore.ensures.pairs
