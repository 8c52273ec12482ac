use Rattle.local_tables.specs.Component.{AreTermsOf}
use Rattle.network_stages.proofs.Tabling.{AreMade}
use Rattle.network_stages.proofs.component_tables.tables_from.Given as goal

abbrev pub invariant-loop-part : goal.invariant-loop-part
invariant-loop-part l = record {
  made : AreMade l.program l.seats l.made.items l.part l.room;
  terms : AreTermsOf l.program l.terms;
}
