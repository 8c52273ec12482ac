use Rattle.csp_steps.proofs.Prelude.{slice_get, Some, ap, sym, ◌∙◌, given_by, proc_with, Content, tree_at, slice_get_within, option_copied}
use Rattle.csp_steps.proofs.Entering.{body_is, entered}
use Rattle.csp_steps.proofs.Noting.{fits_bodies}
use Rattle.csp_steps.proofs.entered.enter.Goals as goal

pub put_all_in-requires : goal.put_all_in-requires
put_all_in-requires c =
    let there = ap (λ (p : Content). slice_get p.defs c.args.def) (sym c.content.ensures.content) ∙ (sym c.get.ensures ∙ ap option_copied c.in-Some.is) in
    slice_get_within _ _ _ (c.in_ok-id-in-Process.ensures.process c.args.program.now c.requires.fits.bodies (body_is c.args.program.now c.args.def c.in-Some.found.now c.in-Process.body there c.in-Process.is))

pub returns-in_ok-made-in-Process-clause-process : goal.returns-in_ok-made-in-Process-clause-process
returns-in_ok-made-in-Process-clause-process c =
    let there = ap (λ (p : Content). slice_get p.defs c.args.def) (sym c.content.ensures.content) ∙ (sym c.get.ensures ∙ ap option_copied c.in-Some.is) in
    entered c.args.program.now c.body_place.new.pool c.put_all_in.new.self c.args.def c.in-Some.found.now c.in-Process.body c.as_slice.result.now c.args.values.now c.in_ok-id-in-Process.id c.in_ok-made-in-Process.made there c.in-Process.is c.as_slice.ensures
    (c.in_ok-id-in-Process.ensures.process c.args.program.now c.requires.fits.bodies (body_is c.args.program.now c.args.def c.in-Some.found.now c.in-Process.body there c.in-Process.is)) (c.in_ok-made-in-Process.ensures.process ∙ ap (λ env. Some (proc_with (given_by env) (tree_at c.body_place.new.pool c.in_ok-id-in-Process.id))) c.new-values.ensures)

pub returns-in_ok-made-in-Process-clause-fits : goal.returns-in_ok-made-in-Process-clause-fits
returns-in_ok-made-in-Process-clause-fits c =
    let there = ap (λ (p : Content). slice_get p.defs c.args.def) (sym c.content.ensures.content) ∙ (sym c.get.ensures ∙ ap option_copied c.in-Some.is) in
    fits_bodies c.args.program.now c.args.pool.now c.body_place.new.pool c.put_all_in.new.self c.args.evaluated.now c.body_place.new.bodies c.in_ok-id-in-Process.ensures.front c.in_ok-made-in-Process.ensures.front c.requires.fits
    (c.in_ok-id-in-Process.ensures.bodies c.args.program.now c.requires.fits.bodies (body_is c.args.program.now c.args.def c.in-Some.found.now c.in-Process.body there c.in-Process.is))
