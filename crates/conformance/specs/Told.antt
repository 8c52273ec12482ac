-- What is told of a table that does not conform to its specification.
use Rattle.std.specs.Prelude.{List}
use Rattle.csp_tables.specs.Table.{Node}
use Rattle.conformance.specs.Conforming.{RefusesAfter, RunsOutside}
use Rattle.conformance.specs.declared.fault.ConformFault.{ConformFault}
use Rattle.conformance.specs.declared.fault.ConformFault.TheVariants as fault

abbrev pub Fails : List Node → List Node → ConformFault → Type 0
Fails table specified (fault.Outside s) = RunsOutside table specified s
Fails table specified (fault.Refuses s) = RefusesAfter table specified s
