use Rattle.shape_links.proofs.Prelude.{◌≡◌, ◌∙◌, Some, true, false, ap, sym, subst, refl, none-some, Link, is_acquired_by}
use Rattle.shape_links.proofs.Acquiring.{acquired_link, at_left, at_right, at_none}
use Rattle.shape_links.proofs.acquisition.acquired_resource.Goals as goal

pub returns-in_err-link-clause-owned : goal.returns-in_err-link-clause-owned
returns-in_err-link-clause-owned c j a =
    let x = acquired_link c.args.setting.now c.shape-form.ensures.form c.shape-form.ensures.apart c.shape-form.ensures.uses c.requires j c.args.event a in
    absurd (none-some x.0 (c.in_err-link.ensures.owned x.0 x.1))

pub link-ends-requires : goal.link-ends-requires
link-ends-requires c = (c.in_ok-link.ensures.found c.in_ok-link.link refl).within

pub returns-then-is_acquired-clause-owned : goal.returns-then-is_acquired-clause-owned
returns-then-is_acquired-clause-owned c j a =
    let g = c.args.setting.now in
    let o = c.in_ok-link.ensures.found c.in_ok-link.link refl in
    let is = c.left-left.ensures.value ∙ ap (λ (k : Link). k.left) c.link-ends.ensures in
    let mine = subst (λ n. is_acquired_by c.args.setting.now n c.args.event ≡ true) is (sym c.is_acquired.ensures ∙ c.if-is_acquired.true) in
    ap Some (is ∙ at_left g c.shape-form.ensures.form c.shape-form.ensures.apart c.shape-form.ensures.uses c.requires c.args.event c.in_ok-link.link j o mine a)

pub returns-then-is_acquired-2-clause-owned : goal.returns-then-is_acquired-2-clause-owned
returns-then-is_acquired-2-clause-owned c j a =
    let g = c.args.setting.now in
    let o = c.in_ok-link.ensures.found c.in_ok-link.link refl in
    let is = c.right-right.ensures.value ∙ ap (λ (k : Link). k.right) c.link-ends.ensures in
    let mine = subst (λ n. is_acquired_by c.args.setting.now n c.args.event ≡ true) is (sym c.is_acquired-2.ensures ∙ c.if-is_acquired-2.true) in
    ap Some (is ∙ at_right g c.shape-form.ensures.form c.shape-form.ensures.apart c.shape-form.ensures.uses c.requires c.args.event c.in_ok-link.link j o mine a)

pub returns-clause-owned : goal.returns-clause-owned
returns-clause-owned c j a =
    let g = c.args.setting.now in
    let o = c.in_ok-link.ensures.found c.in_ok-link.link refl in
    let left = c.left-left.ensures.value ∙ ap (λ (k : Link). k.left) c.link-ends.ensures in
    let right = c.right-right.ensures.value ∙ ap (λ (k : Link). k.right) c.link-ends.ensures in
    absurd (at_none g c.shape-form.ensures.form c.shape-form.ensures.apart c.shape-form.ensures.uses c.requires c.args.event c.in_ok-link.link j o
    (subst (λ n. is_acquired_by c.args.setting.now n c.args.event ≡ false) left (sym c.is_acquired.ensures ∙ c.if-is_acquired.false))
    (subst (λ n. is_acquired_by c.args.setting.now n c.args.event ≡ false) right (sym c.is_acquired-2.ensures ∙ c.if-is_acquired-2.false)) a)
