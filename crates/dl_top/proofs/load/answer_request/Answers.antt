use Rattle.dl_top.proofs.Prelude.{refl, sym, ap, ap₂, ◌∙◌, IsLoad}
use Rattle.command_words.specs.declared.request.Request.TheVariants as request
use Rattle.dl_top.proofs.Loading.{names_none, same_request}
use Rattle.dl_top.proofs.Walks.{ends_weaker}
use Rattle.dl_top.proofs.load.answer_request.Goals as goal

pub returns-in-Show-clause-calls : goal.returns-in-Show-clause-calls
returns-in-Show-clause-calls g c =
    let shelf = g.S.Shelf in
    same_request (IsLoad shelf.texts shelf.counts shelf.gives) c.args.shelf.now c.answer_show.new.shelf c.args.request.now _ c.answer_show.result (c.in-Show.is ∙ ap request.Show (sym c.as_slice.ensures)) c.answer_show.ensures.calls

pub returns-in-Show-clause-untouched : goal.returns-in-Show-clause-untouched
returns-in-Show-clause-untouched g c none = absurd (names_none c.args.request.now _ c.in-Show.is (λ no. cc) none)

pub returns-in-Script-clause-calls : goal.returns-in-Script-clause-calls
returns-in-Script-clause-calls g c =
    let shelf = g.S.Shelf in
    same_request (IsLoad shelf.texts shelf.counts shelf.gives) c.args.shelf.now c.answer_script.new.shelf c.args.request.now _ c.answer_script.result
    (c.in-Script.is ∙ ap (request.Script c.in-Script.job) (sym c.as_slice-in-Script.ensures)) c.answer_script.ensures.calls

pub returns-in-Script-clause-untouched : goal.returns-in-Script-clause-untouched
returns-in-Script-clause-untouched g c none = absurd (names_none c.args.request.now _ c.in-Script.is (λ no. cc) none)

pub returns-in-Trial-clause-calls : goal.returns-in-Trial-clause-calls
returns-in-Trial-clause-calls g c =
    let shelf = g.S.Shelf in
    same_request (IsLoad shelf.texts shelf.counts shelf.gives) c.args.shelf.now c.args.shelf.now c.args.request.now (request.Trial c.in-Trial.trial) c.answer_trial.result c.in-Trial.is
    (ends_weaker _ _ (λ a calls. (refl, calls)) c.answer_trial.result c.answer_trial.ensures)

pub returns-in-Conform-clause-calls : goal.returns-in-Conform-clause-calls
returns-in-Conform-clause-calls g c =
    let shelf = g.S.Shelf in
    same_request (IsLoad shelf.texts shelf.counts shelf.gives) c.args.shelf.now c.answer_conform.new.shelf c.args.request.now _ c.answer_conform.result
    (c.in-Conform.is ∙ ap₂ request.Conform (sym c.as_slice-in-Conform.ensures) (sym c.as_slice-in-Conform-2.ensures)) c.answer_conform.ensures.calls

pub returns-in-Conform-clause-untouched : goal.returns-in-Conform-clause-untouched
returns-in-Conform-clause-untouched g c none = absurd (names_none c.args.request.now _ c.in-Conform.is (λ no. cc) none)
