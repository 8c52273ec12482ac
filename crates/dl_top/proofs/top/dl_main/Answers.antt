use Rattle.dl_top.proofs.Prelude.{◌≡◌, ◌≤◌, arith, Check, Run, Passing, Running, sink_signs, IsStuckRun, Promised, IsFree}
use Rattle.command_words.specs.declared.request.Request.TheVariants as request
use Rattle.dl_top.proofs.Printing.{in_shelf_fault, kept, kept_all, settled, settled_as}
use Rattle.dl_top.proofs.Promising.{completes, keeps, keeps_free, keeps_stuck, keeps_tried, runs}
use Rattle.dl_top.proofs.top.dl_main.Goals as goal

pub returns-clause-proved : goal.returns-clause-proved
returns-clause-proved g c (rule, name, asks) zero =
    kept g.S.Shelf.texts g.S.Shelf.counts g.S.Shelf.gives c.args.shelf.now c.report_to.new.shelf c.args.words.now _ c.report_to.result c.report_to.ensures.ends
    IsFree 0 (omega arith) (request.Script (Check rule) name) (keeps_free rule name) asks zero

pub returns-clause-tried : goal.returns-clause-tried
returns-clause-tried g c (trial, asks) zero =
    kept g.S.Shelf.texts g.S.Shelf.counts g.S.Shelf.gives c.args.shelf.now c.report_to.new.shelf c.args.words.now _ c.report_to.result c.report_to.ensures.ends
    IsFree 0 (omega arith) (request.Trial trial) (keeps_tried trial) asks zero

pub returns-clause-promised : goal.returns-clause-promised
returns-clause-promised g c zero =
    kept_all g.S.Shelf.texts g.S.Shelf.counts g.S.Shelf.gives c.args.shelf.now c.report_to.new.shelf c.args.words.now _ c.report_to.result c.report_to.ensures.ends
    Promised 0 (omega arith) keeps zero

pub returns-clause-stuck : goal.returns-clause-stuck
returns-clause-stuck g c (seed, steps, name, asks) one =
    kept g.S.Shelf.texts g.S.Shelf.counts g.S.Shelf.gives c.args.shelf.now c.report_to.new.shelf c.args.words.now _ c.report_to.result c.report_to.ensures.ends
    IsStuckRun 1 (omega arith) (request.Script (Run seed steps) name) (keeps_stuck seed steps name) asks one

pub returns-clause-complete : goal.returns-clause-complete
returns-clause-complete g c memory shelf_still sink_still =
    settled_as Passing (λ n. n ≡ 0) completes (g.S.Shelf.texts c.args.shelf.now) c.args.words.now
    (sink_signs (g.O.Sink.sent c.args.out.now) (g.O.Sink.sent c.report_to.new.out) (g.O.Sink.faults c.args.out.now) (g.O.Sink.faults c.report_to.new.out)) c.report_to.result
    (settled g.S.Shelf.texts g.S.Shelf.counts g.S.Shelf.gives c.args.shelf.now c.report_to.new.shelf c.args.words.now _ c.report_to.result c.report_to.ensures.ends memory shelf_still sink_still)

pub returns-clause-runs : goal.returns-clause-runs
returns-clause-runs g c memory shelf_still sink_still =
    settled_as Running (λ n. n ≤ 1) runs (g.S.Shelf.texts c.args.shelf.now) c.args.words.now
    (sink_signs (g.O.Sink.sent c.args.out.now) (g.O.Sink.sent c.report_to.new.out) (g.O.Sink.faults c.args.out.now) (g.O.Sink.faults c.report_to.new.out)) c.report_to.result
    (settled g.S.Shelf.texts g.S.Shelf.counts g.S.Shelf.gives c.args.shelf.now c.report_to.new.shelf c.args.words.now _ c.report_to.result c.report_to.ensures.ends memory shelf_still sink_still)

pub returns-clause-shelf_fault : goal.returns-clause-shelf_fault
returns-clause-shelf_fault g c four still = in_shelf_fault g.S.Shelf.texts g.S.Shelf.counts g.S.Shelf.gives c.args.shelf.now c.report_to.new.shelf c.args.words.now _ c.report_to.result c.report_to.ensures.ends four still

pub returns-clause-settled : goal.returns-clause-settled
returns-clause-settled g c memory shelf_still sink_still = settled g.S.Shelf.texts g.S.Shelf.counts g.S.Shelf.gives c.args.shelf.now c.report_to.new.shelf c.args.words.now _ c.report_to.result c.report_to.ensures.ends memory shelf_still sink_still
