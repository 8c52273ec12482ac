use Rattle.cyclic_conditions.proofs.Prelude.{◌≡◌, ◌∙◌, ℕ, List, Some, nat_le, ap, sym, subst, refl, false≢true, none-some, same_Some, is_subset_of, Link, Shape, link_at, IsShort, vocabulary_owner, find_has, none_found}
use Rattle.cyclic_conditions.proofs.Shortness.{short_set, short_subset, short_owner, short_lacks}
use Rattle.cyclic_conditions.proofs.shorts.short_link.Goals as goal

pub returns-then-not-is_subset-clause-all : goal.returns-then-not-is_subset-clause-all
returns-then-not-is_subset-clause-all c l one s =
    absurd (false≢true (sym c.if-not-is_subset.true ∙ (c.is_subset.ensures ∙ ap (is_subset_of c.args.set.now) (c.vocabulary.ensures ∙ ap (λ (x : Shape). x.vocabulary) c.shape-shape.ensures.value) ∙ short_subset c.args.sorted.now l c.args.set.now s)))

pub returns-in_err-event-clause-all : goal.returns-in_err-event-clause-all
returns-in_err-event-clause-all c l one s = absurd (none_found c.args.set.now s.meets.event (sym c.in_err-event.ensures.least) s.meets.first)

pub returns-in_err-link-clause-all : goal.returns-in_err-link-clause-all
returns-in_err-link-clause-all c l one s =
    let e = c.in_ok-event.event in
    let o = vocabulary_owner c.args.sorted.now e c.shape-shape.ensures.form (s.shared e (find_has (nat_le 0) c.args.set.now e (sym c.in_ok-event.ensures.least))) in
    absurd (none-some o.0 (c.in_err-link.ensures.owned o.0 o.1))

pub link-requires : goal.link-requires
link-requires c = (c.in_ok-link.ensures.found c.in_ok-link.link refl).within

pub returns-then-is_subset-clause-all : goal.returns-then-is_subset-clause-all
returns-then-is_subset-clause-all c l one s =
    let shape = c.args.sorted.now in
    let o = c.in_ok-link.ensures.found c.in_ok-link.link refl in
    let shared : c.shared.result.now ≡ (link_at c.args.sorted.now c.in_ok-link.link).shared = c.shared.ensures ∙ ap (λ (k : Link). k.shared) c.link.ensures in
    let same = short_owner shape l c.in_ok-link.link c.in_ok-event.event c.args.set.now one s (sym c.in_ok-event.ensures.least) o in
    absurd (short_lacks shape c.in_ok-link.link c.args.set.now (subst (λ (k : ℕ). IsShort shape k c.args.set.now) same s) (sym (c.is_subset-2.ensures ∙ ap (λ (xs : List ℕ). is_subset_of xs c.args.set.now) shared) ∙ c.if-is_subset.true))

pub returns-clause-short : goal.returns-clause-short
returns-clause-short c l h =
    let shape = c.args.sorted.now in
    let o = c.in_ok-link.ensures.found c.in_ok-link.link refl in
    let shared : c.shared.result.now ≡ (link_at c.args.sorted.now c.in_ok-link.link).shared = c.shared.ensures ∙ ap (λ (k : Link). k.shared) c.link.ensures in
    let subset = sym (c.is_subset.ensures ∙ ap (is_subset_of c.args.set.now) (c.vocabulary.ensures ∙ ap (λ (x : Shape). x.vocabulary) c.shape-shape.ensures.value)) ∙ c.if-not-is_subset.false in
    subst (λ (k : ℕ). IsShort shape k c.args.set.now) (same_Some c.in_ok-link.link l h)
    (short_set shape c.in_ok-link.link c.in_ok-event.event c.args.set.now subset (sym c.in_ok-event.ensures.least) o (sym (c.is_subset-2.ensures ∙ ap (λ (xs : List ℕ). is_subset_of xs c.args.set.now) shared) ∙ c.if-is_subset.false))

pub returns-clause-all : goal.returns-clause-all
returns-clause-all c l one s =
    let o = c.in_ok-link.ensures.found c.in_ok-link.link refl in
    ap Some (sym (short_owner c.args.sorted.now l c.in_ok-link.link c.in_ok-event.event c.args.set.now one s (sym c.in_ok-event.ensures.least) o))
