use Rattle.csp_steps.proofs.Prelude.{◌≡◌, ◌<◌, Bool, false, List, [], ◌∷◌, length, map, ap, sym, ◌∙◌, arith, eqb-true, nil_from_length, nat_eq, Atom, Silent, tree_at, ProcId, StepTo}
use Rattle.csp_steps.proofs.Forms.{each_internal, each_internal_none}
use Rattle.csp_steps.proofs.look.look_each_internal.Goals as goal

some_there : (atoms : List Atom) (b : Bool) → b ≡ nat_eq (length atoms) 0 → b ≡ false → 0 < length atoms
some_there [] b h e = cc
some_there (a ∷ atoms) b h e = omega arith

to_id : ProcId → StepTo
to_id id = record { label = Silent; to = id }

pub returns-then-is_empty-clause-look : goal.returns-then-is_empty-clause-look
returns-then-is_empty-clause-look c =
    λ p s h. each_internal_none p c.args.name s (tree_at c.args.pool.now c.args.id) c.args.atoms.now h
    (nil_from_length c.args.atoms.now (eqb-true (length c.args.atoms.now) 0 (sym c.is_empty.ensures ∙ c.if-is_empty.true)))

pub returns-clause-look : goal.returns-clause-look
unfolding to_id
returns-clause-look c =
    λ p s h. each_internal p c.each_put.new.pool c.in_ok-ids.ids c.in_ok-steps.steps c.args.name s (tree_at c.args.pool.now c.args.id) c.args.atoms.now h
    (some_there c.args.atoms.now c.is_empty.result c.is_empty.ensures c.if-is_empty.false) c.in_ok-ids.ensures.places (c.in_ok-steps.ensures ∙ ap (map to_id) c.as_slice.ensures)
