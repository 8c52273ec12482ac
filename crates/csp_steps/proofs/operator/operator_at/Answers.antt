use Rattle.std.proofs.Common.{length, refl}
use Rattle.csp_steps.proofs.Computing.{passed, value_passed}
use Rattle.csp_steps.proofs.Effects.{does_hide, does_rename, does_sequence, hide_fault, no_effect, rename_fault}
use Rattle.csp_steps.proofs.Forms.{second_place}
use Rattle.csp_steps.proofs.operator.operator_at.Goals as goal

pub returns-in_err-hidden-in-Hide : goal.returns-in_err-hidden-in-Hide
returns-in_err-hidden-in-Hide c =
    value_passed _ _ _ _ _ c.from_residual.ensures.1 c.in_err-hidden-in-Hide.ensures
    (λ k e. hide_fault c.args.program.now c.args.pool.now c.node.result _ c.node.ensures.process _ _ k c.in-Hide.is e)

pub returns-in_err-images-in-Rename : goal.returns-in_err-images-in-Rename
returns-in_err-images-in-Rename c =
    passed _ _ _ _ _ c.from_residual-in_err-images-in-Rename.ensures.1 c.in_err-images-in-Rename.ensures
    (λ k e. rename_fault c.args.program.now c.args.pool.now c.node.result _ c.node.ensures.process _ _ _ _ _ k c.in-Rename.is c.as_slice.ensures c.as_slice-in-Rename.ensures e)

pub returns-in_ok-hidden-in-Hide : goal.returns-in_ok-hidden-in-Hide
returns-in_ok-hidden-in-Hide c = does_hide c.args.program.now c.args.pool.now c.node.result _ c.node.ensures.process _ _ c.in_ok-hidden-in-Hide.hidden c.in-Hide.is c.in_ok-hidden-in-Hide.ensures

pub returns-in_ok-images-in-Rename : goal.returns-in_ok-images-in-Rename
returns-in_ok-images-in-Rename c =
    does_rename c.args.program.now c.args.pool.now c.node.result _ c.node.ensures.process _ _ _ _ _ c.in_ok-images-in-Rename.images c.in-Rename.is c.as_slice.ensures c.as_slice-in-Rename.ensures
    c.in_ok-images-in-Rename.ensures

pub returns-in-Seq : goal.returns-in-Seq
returns-in-Seq c =
    does_sequence c.args.program.now c.args.pool.now c.node.result _ c.node.ensures.process _ c.in-Seq.second c.in-Seq.is
    (second_place c.args.id.0 (length c.args.pool.now) c.node.result _ c.in-Seq.field-0 c.in-Seq.second c.node.ensures.places c.requires c.in-Seq.is refl)

pub returns-in_default : goal.returns-in_default
returns-in_default c = no_effect c.args.program.now c.args.pool.now c.node.result _ c.node.ensures.process c.in_default.not-Hide c.in_default.not-Rename c.in_default.not-Seq
