use Rattle.name_tables.proofs.Prelude.{◌∙◌, Some, ap, subst, sym, rules, Writes, at_name, option_copied_mut}
use Rattle.name_tables.proofs.SpellingLemmas.{never_absent, updates_at}
use Rattle.name_tables.proofs.numbers.rewrite.Goals as goal

pub returns-in-Some : goal.returns-in-Some
returns-in-Some c =
    subst (λ x. Writes c.args.last.now (c.get_mut.follows.lender c.args.number) x (Some c.args.number)) c.as_slice.ensures
    (updates_at c.as_slice.result.now c.args.last.now (c.get_mut.follows.lender c.args.number) (Some c.args.number) ((c.get_mut.follows.holds c.args.number).3 (search rules)))

pub returns-in_default : goal.returns-in_default
returns-in_default c = λ y.
    never_absent (at_name c.args.last.now c.args.name.now) _ _ c.requires
    (ap (at_name c.args.last.now) (sym c.as_slice.ensures) ∙ sym c.get_mut.ensures.value ∙ ap option_copied_mut c.in_default.is)
