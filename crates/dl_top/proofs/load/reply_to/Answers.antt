use Rattle.dl_top.proofs.Loading.{gives, gives_usage}
use Rattle.dl_top.specs.Cause.{IsLoad}
use Rattle.dl_top.proofs.load.reply_to.Goals as goal

pub returns-in_default-clause-cause : goal.returns-in_default-clause-cause
returns-in_default-clause-cause g c =
    let shelf = g.S.Shelf in
    gives_usage (IsLoad shelf.texts shelf.counts shelf.gives) c.args.words.now c.in_ok-found.found c.args.shelf.now c.args.shelf.now c.in_default.is c.in_ok-found.ensures.none

pub returns-in-Ok-clause-cause : goal.returns-in-Ok-clause-cause
returns-in-Ok-clause-cause g c =
    let shelf = g.S.Shelf in
    gives (IsLoad shelf.texts shelf.counts shelf.gives) c.args.words.now c.in_ok-found.found c.in-Some.request c.args.shelf.now c.answer_request.new.shelf c.trial-trial.result c.answer_request.result c.in-Ok.answer
    c.in-Some.is c.in_ok-found.ensures.asks c.trial-trial.ensures c.answer_request.ensures.calls c.in-Ok.ensures
