use Rattle.value_operators.proofs.Prelude.{ap, sym, ◌∙◌, subst, union_of, IsParted}
use Rattle.value_operators.proofs.GrowingLaws.{parted_settled, parted_waiting, put_already, put_settled, put_waiting}
use Rattle.value_operators.proofs.growing.put.Goals as goal

pub invariant_of-result : goal.invariant_of-result
invariant_of-result c =
    subst (λ xs. IsParted xs c.args.waiting) (sym c.in_ok-settled.ensures) (parted_settled _ _ c.args.one c.requires.parted c.requires.settled_takes c.requires.waiting_takes)

pub returns-then-goes_last : goal.returns-then-goes_last
returns-then-goes_last c =
    ap (λ xs. union_of xs c.args.waiting) c.in_ok-settled.ensures ∙ put_settled c.args.settled c.args.waiting c.args.one c.requires.parted.waiting_rises

pub returns-then-contains : goal.returns-then-contains
returns-then-contains c = put_already c.args.settled c.args.waiting c.args.one c.requires.parted.waiting_rises (sym c.contains.ensures ∙ c.if-contains.true)

pub invariant_of-result-2 : goal.invariant_of-result-2
invariant_of-result-2 c =
    subst (λ ys. IsParted c.args.settled ys) (sym c.in_ok-waiting.ensures) (parted_waiting _ _ c.args.one c.requires.parted c.requires.settled_takes c.requires.waiting_takes)

pub returns : goal.returns
returns c =
    ap (λ ys. union_of c.args.settled ys) c.in_ok-waiting.ensures ∙ put_waiting c.args.settled c.args.waiting c.args.one c.requires.parted.waiting_rises
