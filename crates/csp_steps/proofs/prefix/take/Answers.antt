use Rattle.csp_steps.proofs.Prelude.{ℕ, List, [], ◌∷◌, ◌++◌, refl, ap, sym, ◌∙◌, arith, slice_get_within, FieldValue}
use Rattle.csp_steps.proofs.Walking.{taken_none, taken_one}
use Rattle.csp_steps.proofs.prefix.take.Goals as goal

pub returns-in_default : goal.returns-in_default
returns-in_default c = taken_none c.args.walk.now _ c.args.input c.args.place c.requires (sym c.in_default.ensures) refl refl refl c.truncate.ensures.items

pub overflow_add-frame : goal.overflow_add-frame
overflow_add-frame c = let within = slice_get_within c.args.input.set.now c.args.place c.in-Some.atom (sym c.in-Some.ensures) in omega (arith, within, c.len-count.ensures)

pub returns : goal.returns
returns c =
    let value : FieldValue = record { place = c.args.place; count = c.len-count.result } in
    taken_one c.args.walk.now _ c.args.input c.args.place c.requires c.in-Some.atom c.turn_after-walk.result value (sym c.in-Some.ensures) (ap (λ (n : ℕ). record { place = c.args.place; count = n }) c.len-count.ensures)
    c.in_ok-bind.ensures c.in_ok-push.ensures.ok refl (c.in_ok-add_value.ensures ∙ ap (λ (vs : List FieldValue). vs ++ value ∷ []) c.truncate.ensures.items)
    (λ p env n j. c.turn_after-walk.ensures.ways p env n j) c.turn_after-walk.ensures.less
