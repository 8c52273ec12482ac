use Rattle.csp_atoms.proofs.Prelude.{◌≡◌, ◌-◌, ◌+◌, ◌<◌, ◌/◌, ℕ, length, get_or, true, false, arith, sym, ◌∙◌, ap, less, count_before}
use Rattle.csp_atoms.proofs.SearchLaws.{count_le_length, counted, not_counted}
use Rattle.csp_atoms.proofs.sorted.lower_bound.Goals as goal

pub loop-low-init : goal.loop-low-init
loop-low-init c = record { low_enough = omega arith; high_enough = count_le_length _ _; within = omega arith }

pub loop-low-preserved-then-precedes : goal.loop-low-preserved-then-precedes
loop-low-preserved-then-precedes c =
    let middle : ℕ = c.loop-low.low + (c.loop-low.high - c.loop-low.low) / 2 in
    let inside : middle < length c.args.atoms.now = omega arith in
    let is : less (get_or c.args.atoms.now middle c.index-atoms-middle.result) c.args.atom.now ≡ true =
    ap (λ z. less z c.args.atom.now) (sym c.index-atoms-middle.is) ∙ sym c.precedes.ensures ∙ c.if-precedes.true in
    let more : middle < count_before c.args.atoms.now c.args.atom.now = counted c.args.atoms.now c.args.atom.now middle c.index-atoms-middle.result c.requires inside is in
    record { low_enough = omega arith; high_enough = c.loop-low.invariant.high_enough; within = c.loop-low.invariant.within }

pub loop-low-preserved : goal.loop-low-preserved
loop-low-preserved c =
    let middle : ℕ = c.loop-low.low + (c.loop-low.high - c.loop-low.low) / 2 in
    let inside : middle < length c.args.atoms.now = omega arith in
    let is : less (get_or c.args.atoms.now middle c.index-atoms-middle.result) c.args.atom.now ≡ false =
    ap (λ z. less z c.args.atom.now) (sym c.index-atoms-middle.is) ∙ sym c.precedes.ensures ∙ c.if-precedes.false in
    record {
      low_enough = c.loop-low.invariant.low_enough;
      high_enough = not_counted c.args.atoms.now c.args.atom.now middle c.index-atoms-middle.result inside is;
      within = omega arith;
    }
