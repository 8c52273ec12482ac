use Rattle.std.proofs.Common.{sym, ◌∙◌}
use Rattle.csp_atoms.proofs.MergeLaws.{loop_step, loop_end, shorter, IsRising-rest_after}
use Rattle.csp_atoms.proofs.sorted.merge.Goals as goal

pub loop-atom-preserved : goal.loop-atom-preserved
loop-atom-preserved c = record {
  first_rises = rw c.past_front-first.ensures (IsRising-rest_after _ _ c.loop-atom.invariant.first_rises);
  second_rises = rw c.past_front-second.ensures (IsRising-rest_after _ _ c.loop-atom.invariant.second_rises);
  so_far = rw (
    c.in_ok-push_if.ensures.ok,
    c.past_front-first.ensures,
    c.past_front-second.ensures,
    c.is_kept-kept.ensures,
    c.starts_with.ensures,
    c.starts_with-in-Some.ensures,
  ) (loop_step _ _ _ _ _ _ c.loop-atom.invariant.first_rises c.loop-atom.invariant.second_rises (sym c.in-Some.ensures) c.loop-atom.invariant.so_far);
}

pub loop-atom-smaller : goal.loop-atom-smaller
loop-atom-smaller c = rw (c.past_front-first.ensures, c.past_front-second.ensures) (shorter _ _ _ (sym c.in-Some.ensures))

pub returns : goal.returns
returns c = c.from_vec.ensures ∙ loop_end _ _ _ _ _ (sym c.least.ensures ∙ c.in_default.is) c.loop-atom.invariant.so_far
