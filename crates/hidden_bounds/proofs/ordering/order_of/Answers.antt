use Rattle.hidden_bounds.proofs.Prelude.{◌≡◌, ◌≤◌, List, length, ap, subst, sym, ◌∙◌, left_from, Standing, MOST_COMPONENTS}
use Rattle.hidden_bounds.proofs.Finish.{all_taken_far}
use Rattle.hidden_bounds.proofs.ordering.order_of.Goals as goal

pub left_over-requires : goal.left_over-requires
left_over-requires c =
    subst (λ (ss : List Standing). length ss ≤ MOST_COMPONENTS) (sym c.as_slice.ensures.value)
    (subst (λ n. n ≤ MOST_COMPONENTS) (sym c.in_ok-take_all.ensures.so_far.one_each) c.requires.few)

pub returns : goal.returns
returns c =
    all_taken_far _ _ _ _ _ _ _ c.in_ok-take_all.ensures.so_far c.in_ok-take_all.ensures.known (c.in_ok-parts.ensures ∙ ap (left_from 0) c.as_slice.ensures.value)
