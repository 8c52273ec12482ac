use Rattle.conformance.proofs.Prelude.{◌≡◌, ◌+◌, ◌++◌, ◌∷◌, [], length, ap, subst, sym, ◌∙◌, rules, length-append, AreAlike, IsAlike}
use Rattle.conformance.proofs.Standing.{one_more_alike}
use Rattle.conformance.proofs.alike.alike_nodes.Goals as goal

pub loop-number-preserved : goal.loop-number-preserved
loop-number-preserved c =
    let table = c.args.part.now.table in
    let firsts = c.loop-number.firsts.items in
    let first = c.in_ok-first.first in
    let pushed : c.push.new.self.items ≡ c.loop-number.firsts.items ++ c.in_ok-first.first ∷ [] = search rules in
    record {
      count = ap length pushed ∙ length-append firsts (first ∷ []) ∙ ap (λ n. n + 1) c.loop-number.invariant.count;
      alike = subst (AreAlike table) (sym pushed) (one_more_alike table firsts first c.loop-number.invariant.alike (subst (IsAlike table first) (sym c.loop-number.invariant.count) c.in_ok-first.ensures));
    }
