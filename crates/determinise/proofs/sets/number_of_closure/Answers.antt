use Rattle.determinise.proofs.Prelude.{[], sym, subst, slice_get_within, get_or_from_slice_get, IsSilentClosure}
use Rattle.determinise.proofs.MoreSets.{numbered_more, numbered_in_order}
use Rattle.determinise.proofs.sets.number_of_closure.Goals as goal

pub returns-then-len-gt-MOST_SETS-clause-more : goal.returns-then-len-gt-MOST_SETS-clause-more
returns-then-len-gt-MOST_SETS-clause-more c = numbered_more (IsSilentClosure c.args.table.now c.args.starts.now) c.args.sets.now c.number.new.self c.in_ok-set.set (record { members = c.in_ok-set.ensures.members; form = c.in_ok-set.ensures.form }) c.in_ok-number.ensures.list

pub returns-clause-number : goal.returns-clause-number
returns-clause-number c = slice_get_within c.number.new.self c.in_ok-number.number c.in_ok-set.set c.in_ok-number.ensures.place

pub returns-clause-set : goal.returns-clause-set
returns-clause-set c =
    subst (IsSilentClosure c.args.table.now c.args.starts.now) (sym (get_or_from_slice_get c.number.new.self c.in_ok-number.number c.in_ok-set.set [] c.in_ok-number.ensures.place)) (record { members = c.in_ok-set.ensures.members; form = c.in_ok-set.ensures.form })

pub returns-clause-order : goal.returns-clause-order
returns-clause-order c = numbered_in_order c.args.sets.now c.number.new.self c.in_ok-set.set c.in_ok-number.number c.in_ok-number.ensures.list c.in_ok-number.ensures.place

pub returns-clause-more : goal.returns-clause-more
returns-clause-more c = numbered_more (IsSilentClosure c.args.table.now c.args.starts.now) c.args.sets.now c.number.new.self c.in_ok-set.set (record { members = c.in_ok-set.ensures.members; form = c.in_ok-set.ensures.form }) c.in_ok-number.ensures.list
