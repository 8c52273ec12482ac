use Rattle.substitution.proofs.Prelude.{ap, sym, ◌∙◌, is_some, bound_to}
use Rattle.substitution.proofs.NamesFound.{has_atom, has_listed, when_hidden, when_open}
use Rattle.substitution.proofs.values.Values.has.Goals as goal

pub returns-then-contains : goal.returns-then-contains
returns-then-contains c =
    sym (ap is_some (when_hidden c.self.inside.hidden _ _ c.args.self.now c.self.view_is c.as_slice.ensures c.args.name c.contains.result c.contains.ensures.value c.if-contains.true))

pub returns-then-is_some : goal.returns-then-is_some
returns-then-is_some c =
    has_atom _ _ c.find_bound.result _
    (when_open c.self.inside.hidden _ _ c.args.self.now c.self.view_is c.as_slice.ensures c.args.name c.contains.result c.contains.ensures.value c.if-contains.false)
    (c.find_bound.ensures (bound_to c.self.inside.names.now c.self.inside.values.now)) (sym c.is_some.ensures ∙ c.if-is_some.true)

pub returns : goal.returns
returns c =
    has_listed _ _ c.find_bound.result c.find_listed.result _ c.is_some-2.result
    (when_open c.self.inside.hidden _ _ c.args.self.now c.self.view_is c.as_slice.ensures c.args.name c.contains.result c.contains.ensures.value c.if-contains.false)
    (c.find_bound.ensures (bound_to c.self.inside.names.now c.self.inside.values.now)) (sym c.is_some.ensures ∙ c.if-is_some.false)
    c.find_listed.ensures c.is_some-2.ensures
