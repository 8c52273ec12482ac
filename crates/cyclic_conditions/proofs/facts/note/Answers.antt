use Rattle.cyclic_conditions.proofs.Prelude.{◌≡◌, ◌∙◌, Some, None, inl, inr, sym, refl, get_or_default, first_at}
use Rattle.cyclic_conditions.proofs.facts.note.Goals as goal

pub returns-in-Some-clause-clash : goal.returns-in-Some-clause-clash
returns-in-Some-clause-clash c =
    let at : first_at c.args.firsts.now c.args.place ≡ Some c.in-Some.first = get_or_default c.args.firsts.now c.args.place None _ c.requires ∙ c.in-Some.is in
    (refl, (c.args.place, at, inl (refl, λ e. c.if-first-fact.false (sym e))))

pub returns-clause-noted : goal.returns-clause-noted
returns-clause-noted c =
    let at : first_at c.args.firsts.now c.args.place ≡ None = get_or_default c.args.firsts.now c.args.place None _ c.requires ∙ c.in_default.is in
    inr (at, (λ r x. c.fact_of.ensures.none c.in_default-fact_of.is r x), refl)
