use Rattle.equal_futures.proofs.Prelude.{ℕ, List, sym, subst, rules, AreFrom, IsSplitByEvents, state_of, count_of, IsNonDecreasingBy, IsNonDecreasingBy-from_sort_by_key}
use Rattle.equal_futures.proofs.Grouping.{in_any_order, from_any_order}
use Rattle.equal_futures.proofs.splitters.split_by_events.Goals as goal

pub split_by_groups-requires-clause-sources : goal.split_by_groups-requires-clause-sources
split_by_groups-requires-clause-sources c =
    subst (λ (xs : List (ℕ × ℕ)). AreFrom (count_of c.args.partition.now) xs) (sym c.as_slice.ensures.value)
    (from_any_order (count_of c.args.partition.now) c.args.steps.now.items c.sort_unstable_by_key.new.self.items c.sort_unstable_by_key.ensures.permutation c.requires.sources)

pub split_by_groups-requires-clause-sorted : goal.split_by_groups-requires-clause-sorted
split_by_groups-requires-clause-sorted c =
    subst (λ (xs : List (ℕ × ℕ)). IsNonDecreasingBy (λ step. step.0) xs) (sym c.as_slice.ensures.value)
    (IsNonDecreasingBy-from_sort_by_key (λ (step : ℕ × ℕ). step.0) _ c.sort_unstable_by_key.ensures.sorted (λ a r q k. search rules))

pub returns : goal.returns
returns c =
    in_any_order (count_of c.args.partition.now) (state_of c.args.partition.now) (state_of c.split_by_groups.new.partition) c.args.steps.now.items c.sort_unstable_by_key.new.self.items c.sort_unstable_by_key.ensures.permutation
    (subst (λ (xs : List (ℕ × ℕ)). IsSplitByEvents (count_of c.args.partition.now) (state_of c.args.partition.now) (state_of c.split_by_groups.new.partition) xs) c.as_slice.ensures.value c.in_ok-split_by_groups.ensures)
