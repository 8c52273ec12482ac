use Rattle.dl_top.proofs.Prelude.{Err, ap, ◌∙◌, IsLoad, MayGive, sink_signs}
use Rattle.dl_top.proofs.Printing.{ends_broken, ends_short, ends_whole}
use Rattle.dl_top.proofs.top.report_to.Goals as goal

pub returns-in-Ok-send-clause-ends : goal.returns-in-Ok-send-clause-ends
returns-in-Ok-send-clause-ends g c =
    let shelf = g.S.Shelf in
    let sink = g.O.Sink in
    ends_whole (MayGive (IsLoad shelf.texts shelf.counts shelf.gives) c.args.words.now c.args.shelf.now c.print_reply.new.shelf)
    (sink_signs (sink.sent c.args.out.now) (sink.sent c.send.new.out) (sink.faults c.args.out.now) (sink.faults c.send.new.out))
    c.in-Ok.printed c.in-Ok.ensures.prints c.as_slice.result.now c.as_slice.ensures c.in-Ok-send.ensures.ok

pub returns-in-Err-Failed-clause-ends : goal.returns-in-Err-Failed-clause-ends
returns-in-Err-Failed-clause-ends g c =
    let shelf = g.S.Shelf in
    let sink = g.O.Sink in
    ends_broken (MayGive (IsLoad shelf.texts shelf.counts shelf.gives) c.args.words.now c.args.shelf.now c.print_reply.new.shelf)
    (sink_signs (sink.sent c.args.out.now) (sink.sent c.send.new.out) (sink.faults c.args.out.now) (sink.faults c.send.new.out))
    c.in-Ok.printed c.in-Ok.ensures.prints c.as_slice.result.now c.as_slice.ensures (c.send.ensures.failed (c.in-Err-Failed.is ∙ ap Err c.in-Err-Failed.field-0-is)) c.in-Err-Failed.ensures.err

pub returns-clause-ends : goal.returns-clause-ends
returns-clause-ends g c =
    let shelf = g.S.Shelf in
    let sink = g.O.Sink in
    ends_short (MayGive (IsLoad shelf.texts shelf.counts shelf.gives) c.args.words.now c.args.shelf.now c.print_reply.new.shelf)
    (sink_signs (sink.sent c.args.out.now) (sink.sent c.send.new.out) (sink.faults c.args.out.now) (sink.faults c.send.new.out))
    c.in-Ok.printed c.in-Ok.ensures.prints c.as_slice.result.now c.as_slice.ensures c.in-Err-NoMemory.ensures.err
