use Rattle.csp_steps.proofs.Prelude.{◌≡◌, Ok, List, length, map, refl, ap, ◌∙◌, subst, IfOk, Expr, Field, Gives, arguments_in, all_below, tree_at, ProcId, GivesLook}
use Rattle.csp_program.specs.declared.processes.Proc.TheVariants as proc
use Rattle.csp_steps.specs.declared.look.Look.TheVariants as look
use Rattle.csp_steps.proofs.Computing.{passed, start_passed}
use Rattle.csp_steps.proofs.Forms.{each_external_steps, each_internal_steps, ended, every_place, first_place, head_fault, hide, look_at, rename, second_place, sequence, stop}
use Rattle.csp_steps.proofs.Looking.{none_listed}
use Rattle.csp_steps.proofs.Noting.{fits_then}
use Rattle.csp_steps.proofs.SetLemmas.{fits_given, fits_sets, worth_atoms}
use Rattle.csp_steps.proofs.look.look_at.Goals as goal

pub returns-in-Stop-clause-look : goal.returns-in-Stop-clause-look
returns-in-Stop-clause-look c =
    look_at c.args.program.now c.args.pool.now c.args.pool.now (Ok (look.Steps c.new-none.result)) c.node.result _ (tree_at c.args.pool.now c.args.id) c.node.ensures.process c.in-Stop.is
    (none_listed c.args.pool.now c.new-none.result _ c.new-none.ensures (stop c.args.program.now c.args.pool.now).same)

pub returns-in-Ended-clause-look : goal.returns-in-Ended-clause-look
returns-in-Ended-clause-look c =
    look_at c.args.program.now c.args.pool.now c.args.pool.now (Ok (look.Steps c.new-none-in-Ended.result)) c.node.result _ (tree_at c.args.pool.now c.args.id) c.node.ensures.process c.in-Ended.is
    (none_listed c.args.pool.now c.new-none-in-Ended.result _ c.new-none-in-Ended.ensures (ended c.args.program.now c.args.pool.now).same)

pub returns-in-Skip-clause-look : goal.returns-in-Skip-clause-look
returns-in-Skip-clause-look c =
    look_at c.args.program.now c.args.pool.now c.look_skip.new.pool c.look_skip.result c.node.result _ (tree_at c.args.pool.now c.args.id) c.node.ensures.process c.in-Skip.is
    (c.look_skip.ensures.look c.args.program.now)

pub returns-in-Guard-clause-look : goal.returns-in-Guard-clause-look
returns-in-Guard-clause-look c =
    look_at c.args.program.now c.args.pool.now c.args.pool.now c.look_guard.result c.node.result _ (tree_at c.args.pool.now c.args.id) c.node.ensures.process c.in-Guard.is
    (c.look_guard.ensures c.args.pool.now (first_place c.args.id.0 (length c.args.pool.now) c.node.result _ c.in-Guard.below _ c.node.ensures.places c.requires.within c.in-Guard.is refl))

pub returns-in-If-clause-look : goal.returns-in-If-clause-look
returns-in-If-clause-look c =
    look_at c.args.program.now c.args.pool.now c.args.pool.now c.look_if.result c.node.result _ (tree_at c.args.pool.now c.args.id) c.node.ensures.process c.in-If.is
    (c.look_if.ensures c.args.pool.now (first_place c.args.id.0 (length c.args.pool.now) c.node.result _ c.in-If.first _ c.node.ensures.places c.requires.within c.in-If.is refl)
    (second_place c.args.id.0 (length c.args.pool.now) c.node.result _ c.in-If.first c.in-If.second c.node.ensures.places c.requires.within c.in-If.is refl))

pub returns-in-Internal-clause-look : goal.returns-in-Internal-clause-look
returns-in-Internal-clause-look c =
    look_at c.args.program.now c.args.pool.now c.args.pool.now c.look_internal.result c.node.result _ (tree_at c.args.pool.now c.args.id) c.node.ensures.process c.in-Internal.is
    (subst (λ (ids : List ProcId). GivesLook c.args.program.now c.args.pool.now c.look_internal.result (proc.Internal (map (tree_at c.args.pool.now) ids))) c.as_slice.ensures
    (c.look_internal.ensures c.args.pool.now c.args.program.now (ap (all_below (length c.args.pool.now)) c.as_slice.ensures ∙ every_place c.args.id.0 (length c.args.pool.now) c.node.result _ c.in-Internal.ids.now c.node.ensures.places c.requires.within c.in-Internal.is refl)))

pub returns-in-External-clause-look : goal.returns-in-External-clause-look
returns-in-External-clause-look c =
    look_at c.args.program.now c.args.pool.now c.args.pool.now c.look_external.result c.node.result _ (tree_at c.args.pool.now c.args.id) c.node.ensures.process c.in-External.is
    (subst (λ (ids : List ProcId). GivesLook c.args.program.now c.args.pool.now c.look_external.result (proc.External (map (tree_at c.args.pool.now) ids))) c.as_slice-in-External.ensures
    (c.look_external.ensures c.args.pool.now c.args.program.now (ap (all_below (length c.args.pool.now)) c.as_slice-in-External.ensures ∙ every_place c.args.id.0 (length c.args.pool.now) c.node.result _ c.in-External.ids.now c.node.ensures.places c.requires.within c.in-External.is refl)))

pub returns-in-Hide-clause-look : goal.returns-in-Hide-clause-look
returns-in-Hide-clause-look c =
    look_at c.args.program.now c.args.pool.now c.args.pool.now (Ok (look.Around c.in-Hide.below)) c.node.result _ (tree_at c.args.pool.now c.args.id) c.node.ensures.process c.in-Hide.is
    (hide c.args.program.now c.args.pool.now c.in-Hide.below c.in-Hide.field-1.now (first_place c.args.id.0 (length c.args.pool.now) c.node.result _ c.in-Hide.below _ c.node.ensures.places c.requires.within c.in-Hide.is refl))

pub returns-in-Rename-clause-look : goal.returns-in-Rename-clause-look
returns-in-Rename-clause-look c =
    look_at c.args.program.now c.args.pool.now c.args.pool.now (Ok (look.Around c.in-Rename.below)) c.node.result _ (tree_at c.args.pool.now c.args.id) c.node.ensures.process c.in-Rename.is
    (rename c.args.program.now c.args.pool.now c.in-Rename.below c.in-Rename.field-1.now c.in-Rename.field-2.now (first_place c.args.id.0 (length c.args.pool.now) c.node.result _ c.in-Rename.below _ c.node.ensures.places c.requires.within c.in-Rename.is refl))

pub returns-in-Seq-clause-look : goal.returns-in-Seq-clause-look
returns-in-Seq-clause-look c =
    look_at c.args.program.now c.args.pool.now c.args.pool.now (Ok (look.Around c.in-Seq.first)) c.node.result _ (tree_at c.args.pool.now c.args.id) c.node.ensures.process c.in-Seq.is
    (sequence c.args.program.now c.args.pool.now c.in-Seq.first (tree_at c.args.pool.now c.in-Seq.field-1) (first_place c.args.id.0 (length c.args.pool.now) c.node.result _ c.in-Seq.first _ c.node.ensures.places c.requires.within c.in-Seq.is refl))

pub returns-in_err-start-in-Prefix-clause-look : goal.returns-in_err-start-in-Prefix-clause-look
returns-in_err-start-in-Prefix-clause-look c =
    look_at c.args.program.now c.args.pool.now c.args.pool.now _ c.node.result _ (tree_at c.args.pool.now c.args.id) c.node.ensures.process c.in-Prefix.is
    (start_passed c.args.program.now _ _ _ _ _ c.from_residual.ensures.1 c.in_err-start-in-Prefix.ensures
    (λ k e. head_fault c.args.program.now c.in-Prefix.head.now c.in-Prefix.fields.now (tree_at c.args.pool.now c.in-Prefix.to) k e))

pub returns-in_ok-start-in-Prefix-clause-look : goal.returns-in_ok-start-in-Prefix-clause-look
returns-in_ok-start-in-Prefix-clause-look c =
    look_at c.args.program.now c.args.pool.now c.look_prefix.new.pool c.look_prefix.result c.node.result _ (tree_at c.args.pool.now c.args.id) c.node.ensures.process c.in-Prefix.is
    (c.look_prefix.ensures.look c.in-Prefix.head.now c.in-Prefix.fields.now
    (subst (λ (written : List Field). IfOk c.copy_fields-fields.result (λ fs. fs ≡ written)) c.as_slice-in-Prefix.ensures c.copy_fields-fields.ensures) c.in_ok-start-in-Prefix.ensures.0 c.in_ok-start-in-Prefix.ensures.1 c.in_ok-start-in-Prefix.ensures.2)

pub returns-in_err-number-in-EachExternal-clause-look : goal.returns-in_err-number-in-EachExternal-clause-look
returns-in_err-number-in-EachExternal-clause-look c =
    look_at c.args.program.now c.args.pool.now c.args.pool.now _ c.node.result _ (tree_at c.args.pool.now c.args.id) c.node.ensures.process c.in-EachExternal.is
    (passed _ _ _ _ _ c.from_residual-in_err-number-in-EachExternal.ensures.1 c.in_err-number-in-EachExternal.ensures
    (λ k e. each_external_steps c.args.program.now c.in-EachExternal.name c.in-EachExternal.set.now (tree_at c.args.pool.now c.in-EachExternal.below) e))

pub returns-in_ok-number-in-EachExternal-clause-look : goal.returns-in_ok-number-in-EachExternal-clause-look
returns-in_ok-number-in-EachExternal-clause-look c =
    look_at c.args.program.now c.args.pool.now c.look_each_external.new.pool c.look_each_external.result c.node.result _ (tree_at c.args.pool.now c.args.id) c.node.ensures.process c.in-EachExternal.is
    (c.look_each_external.ensures.look c.args.program.now c.in-EachExternal.set.now
    (worth_atoms c.args.program.now c.set_of.new.sets c.in_ok-number-in-EachExternal.number c.in-EachExternal.set.now c.atoms_of-atoms.result.now c.in_ok-number-in-EachExternal.ensures c.atoms_of-atoms.ensures))

pub returns-in_err-number-in-EachInternal-clause-look : goal.returns-in_err-number-in-EachInternal-clause-look
returns-in_err-number-in-EachInternal-clause-look c =
    look_at c.args.program.now c.args.pool.now c.args.pool.now _ c.node.result _ (tree_at c.args.pool.now c.args.id) c.node.ensures.process c.in-EachInternal.is
    (passed _ _ _ _ _ c.from_residual-in_err-number-in-EachInternal.ensures.1 c.in_err-number-in-EachInternal.ensures
    (λ k e. each_internal_steps c.args.program.now c.in-EachInternal.name c.in-EachInternal.set.now (tree_at c.args.pool.now c.in-EachInternal.below) e))

pub returns-in_ok-number-in-EachInternal-clause-look : goal.returns-in_ok-number-in-EachInternal-clause-look
returns-in_ok-number-in-EachInternal-clause-look c =
    look_at c.args.program.now c.args.pool.now c.look_each_internal.new.pool c.look_each_internal.result c.node.result _ (tree_at c.args.pool.now c.args.id) c.node.ensures.process c.in-EachInternal.is
    (c.look_each_internal.ensures.look c.args.program.now c.in-EachInternal.set.now
    (worth_atoms c.args.program.now c.set_of-in-EachInternal.new.sets c.in_ok-number-in-EachInternal.number c.in-EachInternal.set.now c.atoms_of-atoms-in-EachInternal.result.now c.in_ok-number-in-EachInternal.ensures c.atoms_of-atoms-in-EachInternal.ensures))

pub returns-in-Call-clause-look : goal.returns-in-Call-clause-look
returns-in-Call-clause-look c =
    look_at c.args.program.now c.args.pool.now c.look_call.new.pool c.look_call.result c.node.result _ (tree_at c.args.pool.now c.args.id) c.node.ensures.process c.in-Call.is
    (c.look_call.ensures.look c.in-Call.args.now (subst (λ (es : List Expr). Gives c.arguments_in-values.result (arguments_in c.args.program.now es)) c.as_slice-in-Call.ensures c.arguments_in-values.ensures))

pub returns-in-Skip-clause-fits : goal.returns-in-Skip-clause-fits
returns-in-Skip-clause-fits c = fits_then c.args.program.now c.args.pool.now c.look_skip.new.pool c.args.evaluated.now c.look_skip.result c.look_skip.ensures.front c.requires.fits

pub returns-in_ok-start-in-Prefix-clause-fits : goal.returns-in_ok-start-in-Prefix-clause-fits
returns-in_ok-start-in-Prefix-clause-fits c =
    fits_given c.args.program.now c.args.pool.now c.look_prefix.new.pool c.args.evaluated.now c.look_prefix.new.sets c.look_prefix.result c.look_prefix.ensures.front c.requires.fits c.look_prefix.ensures.sets

pub returns-in_ok-number-in-EachExternal-clause-fits : goal.returns-in_ok-number-in-EachExternal-clause-fits
returns-in_ok-number-in-EachExternal-clause-fits c =
    fits_sets c.args.program.now c.args.pool.now c.look_each_external.new.pool c.args.evaluated.now c.set_of.new.sets c.look_each_external.result c.look_each_external.ensures.front c.requires.fits
    c.in_ok-number-in-EachExternal.ensures.sound

pub returns-in_ok-number-in-EachInternal-clause-fits : goal.returns-in_ok-number-in-EachInternal-clause-fits
returns-in_ok-number-in-EachInternal-clause-fits c =
    fits_sets c.args.program.now c.args.pool.now c.look_each_internal.new.pool c.args.evaluated.now c.set_of-in-EachInternal.new.sets c.look_each_internal.result c.look_each_internal.ensures.front c.requires.fits
    c.in_ok-number-in-EachInternal.ensures.sound
