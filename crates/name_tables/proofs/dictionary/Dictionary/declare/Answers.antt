use Rattle.name_tables.proofs.Prelude.{[], ◌∷◌, ◌++◌, subst, OnOk, Entities, SameFirsts}
use Rattle.name_tables.proofs.dictionary.Dictionary.declare.Goals as goal

pub returns : goal.returns
returns c =
    let with_one : Entities → Type 0 = λ es. OnOk c.declare_in.result (SameFirsts c.declare_in.new.entities.entries (es ++ (c.args.name.now, c.args.entity) ∷ [])) in
    subst with_one c.self.view_is c.declare_in.ensures
