use Rattle.network_layout.proofs.Prelude.{◌<◌, ◌≡◌, ◌∷◌, ap, ◌∙◌, arith, rules, subst, with_bound, bound_to, the_lemmas, Lays, node, one_operand, place_of, One, with_bound-last}
use Rattle.network_layout.proofs.EachSteps.{each_begin, each_end, each_fault, each_next}
use Rattle.network_layout.proofs.Equations.{layer-Each, layer-Pair, walked_at}
use Rattle.network_layout.proofs.Laid.{pair_laid, passes}
use Rattle.network_layout.proofs.walk.+walk.Goals as goal

pub walk-returns-in-Leaf : goal.walk-returns-in-Leaf
unfolding node
walk-returns-in-Leaf t c = let h : 0 < c.args.scope.now.levels = omega arith in rw (walked_at (place_of c.args.scope.now) c.args.alphabet.now c.args.net.now h) (search (rules, the_lemmas))

pub walk-returns-in-Call : goal.walk-returns-in-Call
unfolding node
walk-returns-in-Call t c = let h : 0 < c.args.scope.now.levels = omega arith in rw (walked_at (place_of c.args.scope.now) c.args.alphabet.now c.args.net.now h) (search (rules, the_lemmas))

pub walk-returns-in-If : goal.walk-returns-in-If
unfolding node
walk-returns-in-If t c = let h : 0 < c.args.scope.now.levels = omega arith in rw (walked_at (place_of c.args.scope.now) c.args.alphabet.now c.args.net.now h) (search (rules, the_lemmas))

pub walk-returns-in-Pair : goal.walk-returns-in-Pair
unfolding node
walk-returns-in-Pair t c =
    let h : 0 < c.args.scope.now.levels = omega arith in
    rw (walked_at (place_of c.args.scope.now) c.args.alphabet.now c.args.net.now h, c.in-Pair.is, layer-Pair, ← c.get-in-Pair.ensures, ← c.get-in-Pair-2.ensures) c.walk_pair.ensures

pub walk-returns-in-Each : goal.walk-returns-in-Each
unfolding node
walk-returns-in-Each t c =
    let h : 0 < c.args.scope.now.levels = omega arith in
    rw (walked_at (place_of c.args.scope.now) c.args.alphabet.now c.args.net.now h, c.in-Each.is, layer-Each, ← c.get-in-Each.ensures) c.walk_set.ensures

pub walk_pair-returns : goal.walk_pair-returns
walk_pair-returns t c =
    pair_laid (place_of c.args.scope.now) c.args.left.now c.args.right.now c.in_ok-left_alphabet.left_alphabet c.in_ok-right_alphabet.right_alphabet
    c.in_ok-left_alphabet.ensures c.in_ok-right_alphabet.ensures c.args.seats.now c.walk_operand.new.seats c.walk_operand-2.new.seats c.in_ok-first.first c.in_ok-second.second
    c.in_ok-union.field-0 c.in_ok-first.ensures c.in_ok-second.ensures c.in_ok-union.ensures.value

pub walk_each-loop-atom-init : goal.walk_each-loop-atom-init
walk_each-loop-atom-init t c =
    each_begin (place_of c.args.scope.now) c.args.name c.args.operand.now c.args.atoms.now c.args.seats.now c.new-joint.result c.new-joint.ensures

pub walk_each-returns-in_err-next : goal.walk_each-returns-in_err-next
walk_each-returns-in_err-next t c =
    passes _ _ _ _ _ _ c.from_residual.ensures.1 c.in_err-next.ensures
    (each_fault (place_of c.args.scope.now) c.args.name c.args.operand.now c.args.atoms.now c.loop-atom.atom-index c.atom-item.result c.args.seats.now c.loop-atom.seats c.loop-atom.joint
    c.loop-atom.invariant (omega arith) c.atom-item.is)

pub walk_each-loop-atom-preserved : goal.walk_each-loop-atom-preserved
walk_each-loop-atom-preserved t c =
    each_next (place_of c.args.scope.now) c.args.name c.args.operand.now c.args.atoms.now c.loop-atom.atom-index c.atom-item.result c.args.seats.now c.loop-atom.seats c.loop-atom.joint
    c.loop-atom.invariant (omega arith) c.atom-item.is c.walk_at.new.seats c.in_ok-next.next c.in_ok-joint.joint c.in_ok-next.ensures c.in_ok-joint.ensures.value

pub walk_each-returns : goal.walk_each-returns
walk_each-returns t c =
    each_end (place_of c.args.scope.now) c.args.name c.args.operand.now c.args.atoms.now c.loop-atom.atom-index c.args.seats.now c.loop-atom.seats c.loop-atom.joint
    c.loop-atom.invariant (omega arith)

pub walk_at-returns : goal.walk_at-returns
walk_at-returns t c =
    let s = place_of c.args.scope.now in
    let parameters = bound_to c.args.scope.now.params.now c.args.scope.now.args.now in
    let inner : with_bound c.as_slice.result.now parameters ≡ (c.args.name, One c.args.atom) ∷ s.env =
    ap (λ bs. with_bound bs parameters) (c.as_slice.ensures ∙ c.in_ok-bound.ensures) ∙ with_bound-last c.args.scope.now.bound.now (c.args.name, c.args.atom) parameters in
    subst (λ env. Lays c.walk_one.result (one_operand (record { program = s.program; env = env; levels = s.levels }) c.args.operand.now) c.args.seats.now c.walk_one.new.seats) inner c.walk_one.ensures
