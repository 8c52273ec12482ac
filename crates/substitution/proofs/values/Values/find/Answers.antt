use Rattle.substitution.proofs.Prelude.{sym, ◌∙◌, rules, bound_to}
use Rattle.substitution.proofs.NamesFound.{when_hidden, when_open}
use Rattle.substitution.proofs.values.Values.find.Goals as goal

pub returns-then-contains : goal.returns-then-contains
returns-then-contains c =
    sym (when_hidden c.self.inside.hidden _ _ c.args.self.now c.self.view_is c.as_slice.ensures c.args.name c.contains.result c.contains.ensures.value c.if-contains.true)

pub returns-in-Some : goal.returns-in-Some
returns-in-Some c =
    sym (when_open c.self.inside.hidden _ _ c.args.self.now c.self.view_is c.as_slice.ensures c.args.name c.contains.result c.contains.ensures.value c.if-contains.false ∙
    c.in-Some.ensures (bound_to c.self.inside.names.now c.self.inside.values.now))

pub returns-in-Some-find_listed : goal.returns-in-Some-find_listed
returns-in-Some-find_listed c =
    rw (
      when_open c.self.inside.hidden _ _ c.args.self.now c.self.view_is c.as_slice.ensures c.args.name c.contains.result c.contains.ensures.value c.if-contains.false,
      c.in_default.ensures (bound_to c.self.inside.names.now c.self.inside.values.now),
      sym c.in-Some-find_listed.ensures,
    ) (search rules)

pub returns-in-None : goal.returns-in-None
returns-in-None c =
    sym (when_open c.self.inside.hidden _ _ c.args.self.now c.self.view_is c.as_slice.ensures c.args.name c.contains.result c.contains.ensures.value c.if-contains.false ∙
    (c.in_default.ensures (bound_to c.self.inside.names.now c.self.inside.values.now) ∙ sym c.in-None.ensures))
