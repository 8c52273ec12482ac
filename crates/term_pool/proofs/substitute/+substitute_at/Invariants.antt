use Rattle.term_pool.proofs.Prelude.{◌+◌, ◌*◌, take, given_by, Grows, StandAt, all_with, AreMade}
use Rattle.term_pool.proofs.substitute.+substitute_at.Given as goal

-- each call goes to a smaller place, or to a later function at the same one
abbrev pub decreases-substitute_at : goal.decreases-substitute_at
decreases-substitute_at l = l.id.now.0 * 6 + 5

abbrev pub decreases-put_layer : goal.decreases-put_layer
decreases-put_layer l = l.id.0 * 6 + 4

abbrev pub decreases-put_below : goal.decreases-put_below
decreases-put_below l = l.id.0 * 6 + 3

abbrev pub decreases-put_anew : goal.decreases-put_anew
decreases-put_anew l = l.id.0 * 6 + 1

abbrev pub decreases-put_all : goal.decreases-put_all
decreases-put_all l = l.id.0 * 6

-- the places so far are made
abbrev pub invariant-put_all-loop-p : goal.invariant-put_all-loop-p
invariant-put_all-loop-p l = record {
  places : StandAt l.pool l.made (all_with (given_by l.values) l.initial.pool (take l.p-index l.ids));
  grows : Grows l.initial.pool l.pool (all_with (given_by l.values) l.initial.pool (take l.p-index l.ids));
  visited : AreMade (given_by l.values) l.pool l.visited;
}
