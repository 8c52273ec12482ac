-- One part more has its note, unless memory failed.
use Rattle.std.proofs.Common.{◌<◌, length, arith}
use Rattle.pool_parts.proofs.StoreLemmas.{next_part, noted_pushed}
use Rattle.pool_parts.proofs.store.note_next.Goals as goal

pub returns-then-place-len : goal.returns-then-place-len
returns-then-place-len g c =
    let count = c.len.ensures in
    let test = c.if-place-len.true in
    let within : c.len-place.result < length c.args.parts.now = omega (arith, count, test) in
    record {
      noted = noted_pushed g.T.Part.depth g.T.Part.size g.T.Part.free c.args.notes.now c.push.new.self c.args.parts.now c.measure-note.result c.index-as_slice-place.result c.push.result c.push.ensures.ok c.push.ensures.err c.requires.noted
          (next_part c.args.parts.now c.as_slice.result.now c.len-place.result (length c.args.notes.now) c.index-as_slice-place.result c.as_slice.ensures.value c.len-place.ensures within c.index-as_slice-place.is) (record { depth = c.measure-note.ensures.depth; size = c.measure-note.ensures.size; low = c.measure-note.ensures.low });
    }
