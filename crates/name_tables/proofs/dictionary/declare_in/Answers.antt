use Rattle.name_tables.proofs.Prelude.{◌∙◌, [], ◌∷◌, ◌++◌, is_some, sym, ap, Name, first_of, on_ok_weaker}
use Rattle.name_tables.proofs.NameLemmas.{same_firsts_known}
use Rattle.name_tables.proofs.dictionary.declare_in.Goals as goal

pub returns-then-is_some : goal.returns-then-is_some
returns-then-is_some c =
    same_firsts_known c.args.entities.now.entries c.args.name.now c.args.entity
    (ap is_some (sym c.find_in.ensures) ∙ sym c.is_some.ensures ∙ c.if-is_some.true)

pub put_new-requires : goal.put_new-requires
put_new-requires c =
    ap (λ x. is_some (first_of c.args.entities.now.entries x)) c.in_ok-name.ensures
    ∙ ap is_some (sym c.find_in.ensures) ∙ sym c.is_some.ensures ∙ c.if-is_some.false

pub returns : goal.returns
returns c =
    on_ok_weaker c.put_new.result (λ longer y.
    ap (λ es. first_of es y) (longer ∙ ap (λ (x : Name). c.args.entities.now.entries ++ (x, c.args.entity) ∷ []) c.in_ok-name.ensures))
    c.put_new.ensures
