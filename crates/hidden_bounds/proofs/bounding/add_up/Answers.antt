use Rattle.hidden_bounds.proofs.Prelude.{◌≡◌, length, ap, sym, arith, hidden_bound}
use Rattle.hidden_bounds.proofs.Taken.{none_taken}
use Rattle.hidden_bounds.proofs.bounding.add_up.Goals as goal

pub loop-place-init : goal.loop-place-init
loop-place-init c =
    let none = c.new-bounds.ensures.items in
    record {
      as_many = ap length none;
      bounds = λ k p below at. absurd (let few : length c.new-bounds.result.items ≡ 0 = ap length none in omega (arith, few, below));
      total = ap (hidden_bound c.args.scope.now.hidden.now) (sym (none_taken c.args.scope.now.seats.now));
    }
