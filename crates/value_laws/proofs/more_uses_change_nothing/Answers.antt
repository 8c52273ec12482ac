use Rattle.value_laws.proofs.Nests.{definitions_are_enough, more_uses_change_nothing, uses_nest_within_definitions}
use Rattle.value_laws.proofs.Unbounded.{unbounded_is_worth, worth_is_unbounded}
use Rattle.value_laws.proofs.more_uses_change_nothing.Goals as goal

pub returns : goal.returns
returns c = record {
  nesting = more_uses_change_nothing;
  nest = uses_nest_within_definitions;
  enough = definitions_are_enough;
  unbounded = worth_is_unbounded;
  unique = unbounded_is_worth;
}
