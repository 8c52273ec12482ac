use Rattle.dl_top.specs.Cause.{IsLoad}
use Rattle.dl_top.proofs.Loading.{load_is_short, unloaded}
use Rattle.dl_top.proofs.load.load.Goals as goal

pub returns-in-Ok-clause-ok : goal.returns-in-Ok-clause-ok
returns-in-Ok-clause-ok g c = record {
  answers = c.in-Ok.ensures.answer;
  given = c.in-Ok.ensures.given;
  texts_stay = c.load.ensures.texts_stay;
  never_fall = c.load.ensures.never_fall;
}

pub returns-in-Ok-clause-short : goal.returns-in-Ok-clause-short
returns-in-Ok-clause-short g c =
    let shelf = g.S.Shelf in
    load_is_short (shelf.texts c.args.shelf.now) (shelf.counts c.args.shelf.now) (shelf.counts c.load.new.self) c.args.name.now c.in-Ok.text c.in-Ok.ensures.answer

pub returns-in-Err-clause-told : goal.returns-in-Err-clause-told
returns-in-Err-clause-told g c =
    let shelf = g.S.Shelf in
    unloaded (IsLoad shelf.texts shelf.counts shelf.gives c.args.shelf.now c.load.new.self c.args.name.now) c.args.side c.in-Err.fault c.load_fault.result (record {
      answers = c.in-Err.ensures.answer;
      given = tt;
      texts_stay = c.load.ensures.texts_stay;
      never_fall = c.load.ensures.never_fall;
    }) c.load_fault.ensures
