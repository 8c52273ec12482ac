use Rattle.cyclic_rule.proofs.Prelude.{◌≡◌, ◌≤◌, ◌∙◌, ℕ, Some, length, get_or, false, refl, sym, subst, arith, inl, inr, slice_get, cases_lt, get_or_from_slice_get, slice_get_within, has, HasArc, place_in}
use Rattle.cyclic_rule.proofs.Chaining.{rest_is, rest_last}
use Rattle.cyclic_rule.proofs.numbers.chain_rest.Goals as goal

pub loop-link-preserved : goal.loop-link-preserved
loop-link-preserved c =
    let order = c.args.order.now in
    let ends = c.args.ends.now in
    let j = c.loop-link.link-index in
    let i = c.loop-link.invariant in
    let b = c.in_ok-rest_arc.ensures in
    record {
      count = b.count ∙ i.count;
      sound = λ m k arc. elim (b.arcs.sound m k arc) [
        | inl old ↦ i.sound m k old
        | inr new ↦ inr (rest_is order ends j c.in-Some.last.now m k c.in-Some.ensures.value c.loop-link-test.true new)
      ];
      kept = λ m k arc. b.arcs.kept m k (i.kept m k arc);
      complete = λ k m h at absent. elim (cases_lt k j) [
        | inl old ↦ b.arcs.kept m c.in-Some.last.now (i.complete k m old at absent)
        | inr now ↦
            let same : k ≡ j = omega arith in
            let is : get_or ends j 0 ≡ m = get_or_from_slice_get ends j m 0 (subst (λ (x : ℕ). slice_get ends x ≡ Some m) same at) in
            subst (λ (x : ℕ). HasArc c.rest_arc.new.rows x c.in-Some.last.now) is (b.arcs.complete (get_or ends j 0) c.in-Some.last.now (refl, refl, subst (λ (x : ℕ). has order x ≡ false) (sym is) absent))
      ];
    }

pub returns-clause-arcs : goal.returns-clause-arcs
returns-clause-arcs c = record {
  sound = c.loop-link.invariant.sound;
  kept = c.loop-link.invariant.kept;
  complete = λ m l r.
      let last = rest_last c.args.order.now c.args.ends.now c.in-Some.last.now l m c.in-Some.ensures.value r in
      let x = place_in c.args.ends.now m r.link in
      let within = slice_get_within c.args.ends.now x.0 m x.1 in
      let all : length c.args.ends.now ≤ c.loop-link.link-index = c.loop-link-test.false in
      subst (λ (k : ℕ). HasArc c.loop-link.rows m k) last (c.loop-link.invariant.complete x.0 m (omega arith) x.1 r.absent);
}
