use Rattle.conformance.proofs.Prelude.{◌≡◌, ℕ, get_or, rules, subst, IsNonDecreasingBy, IsPartitionPoint, nat_cmp, ordering_index, Less, Equal, Greater, always_returns_same}
use Rattle.conformance.proofs.Searching.{found_none, found_target}
use Rattle.conformance.proofs.steps.target_of.Goals as goal

pub returns-in-Ok : goal.returns-in-Ok
returns-in-Ok c =
    let form = c.requires in
    let x = c.index-steps-place.result in
    let equal = c.in-Ok.ensures.position (λ (p : ℕ × ℕ). p.0) (always_returns_same _ _ _ (λ a r q k. search rules)) x in
    found_target form.0 form.1 c.args.steps.now c.args.event c.in-Ok.place x form.2 c.in-Ok.ensures.bound
    (subst (λ (e : ℕ). nat_cmp (get_or c.args.steps.now c.in-Ok.place x).0 e ≡ Equal) c.event.view_is equal)

pub returns-in-Err : goal.returns-in-Err
returns-in-Err c =
    let form = c.requires in
    let steps = c.args.steps.now in
    let k = c.in-Err.field-0 in
    found_none form.0 form.1 steps c.args.event k form.2
    (subst (λ (e : ℕ). IsNonDecreasingBy (λ (p : ℕ × ℕ). ordering_index (nat_cmp p.0 e)) steps → IsPartitionPoint (λ (p : ℕ × ℕ). nat_cmp p.0 e ≡ Less) (λ (p : ℕ × ℕ). nat_cmp p.0 e ≡ Greater) steps k)
    c.event.view_is (c.in-Err.ensures.position (λ (p : ℕ × ℕ). p.0) (always_returns_same _ _ _ (λ a r q k. search rules))))
