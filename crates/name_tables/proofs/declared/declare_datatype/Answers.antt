use Rattle.name_tables.proofs.Prelude.{◌++◌, subst, constants_from, Numbers, SameFirsts}
use Rattle.name_tables.proofs.DeclaredLemmas.{datatype_names}
use Rattle.name_tables.proofs.declared.declare_datatype.Goals as goal

pub returns-clause-names : goal.returns-clause-names
returns-clause-names c =
    let new = c.declare_constants.new.names in
    let between = c.declare_set.new.names in
    let rest : SameFirsts new (between ++ constants_from c.args.numbers.now.constants c.args.ks.now) =
    subst (λ (n : Numbers). SameFirsts new (between ++ constants_from n.constants c.args.ks.now)) c.in_ok-declare_set.ensures.numbers c.in_ok-declare_constants.ensures.names in
    datatype_names new between c.args.names.now c.args.x.now c.args.numbers.now.definitions (constants_from c.args.numbers.now.constants c.args.ks.now) c.in_ok-declare_set.ensures.names rest
