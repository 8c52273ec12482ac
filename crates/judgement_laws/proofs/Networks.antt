-- A script that has a network has no reason why it should have none.
use Rattle.judgement_laws.proofs.Prelude.{◌≡◌, Result, Ok, Err, inl, inr, sym, ap, ◌∙◌, one_program, resolved, network_of, spelled_is_walked, kinds_are_unique, FaultsExcludeNetworks, program_resolves}

apart : {A E : Type 0} (r s : Result A E) (a : A) (e : E) → r ≡ s → r ≡ Ok a → s ≡ Err e → ⊥
apart r s a e same ok err = let no : Ok a ≡ Err e = sym ok ∙ same ∙ err in cc

pub faults_exclude_networks : FaultsExcludeNetworks
faults_exclude_networks side script network a is (inl (f, refused, tells)) =
    apart (resolved script.decls is.program.kinds) (resolved script.decls refused.kinds) network.program f
    (ap (resolved script.decls) (kinds_are_unique script.decls is.program.kinds refused.kinds is.program.are refused.are))
    (program_resolves script network.program is.program) refused.is
faults_exclude_networks side script network a is (inr (p, program, (f, fails, tells))) =
    apart (network_of network.program) (network_of p) network.tree f (ap network_of (one_program script network.program p is.program program))
    (spelled_is_walked network.program network.tree is.tree) fails
