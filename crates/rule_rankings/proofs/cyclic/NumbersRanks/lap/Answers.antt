use Rattle.rule_rankings.proofs.Prelude.{◌≡◌, ◌∙◌, ◌<◌, ◌≤◌, ℕ, Bool, true, false, cond, nat_eq, ap, sym, subst, refl, arith, slice_index, one_owner}
use mir.Val.{bool_byte}
use Rattle.rule_rankings.proofs.cyclic.NumbersRanks.lap.Goals as goal

one_or_none : (b : Bool) → bool_byte b ≤ 1
one_or_none true = omega arith
one_or_none false = omega arith

byte_is : (b : Bool) → bool_byte b ≡ cond b 1 0
byte_is true = refl
byte_is false = refl

pub of-requires : goal.of-requires
of-requires c = subst (λ (n : ℕ). c.in-Some.link < n) (sym c.requires.0) (c.in-Some.ensures.found c.in-Some.link refl).within

pub returns-in-Some : goal.returns-in-Some
returns-in-Some c =
    let o = c.in-Some.ensures.found c.in-Some.link refl in
    record {
      on_link = λ l x. c.from.ensures ∙ ap (λ (n : ℕ). bool_byte (nat_eq n (slice_index c.args.self.now.tops.now c.args.part))) (c.of.ensures ∙ ap (slice_index c.args.self.now.numbers.now) (one_owner c.args.self.now.sorted.now c.in-Some.link l c.args.event c.shape-form.ensures.form c.shape-form.ensures.apart o x)) ∙ byte_is (nat_eq (slice_index c.args.self.now.numbers.now l) (slice_index c.args.self.now.tops.now c.args.part));
      other = λ none. absurd (none c.in-Some.link o);
      at_most = subst (λ (n : ℕ). n ≤ 1) (sym c.from.ensures) (one_or_none (nat_eq c.of.result (slice_index c.args.self.now.tops.now c.args.part)));
    }
