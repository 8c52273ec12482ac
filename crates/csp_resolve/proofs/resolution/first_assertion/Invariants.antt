use Rattle.std.proofs.Common.{◌≡◌, drop}
use Rattle.script_names.specs.Contents as contents
use Rattle.csp_resolve.proofs.resolution.first_assertion.Given as goal

abbrev pub invariant-loop-decl : goal.invariant-loop-decl
invariant-loop-decl l = contents.first_assertion l.decls ≡ contents.first_assertion (drop l.decl-index l.decls)
