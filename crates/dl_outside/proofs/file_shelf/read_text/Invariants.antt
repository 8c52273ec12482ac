use Rattle.std.proofs.Common.{◌≡◌, ◌+◌, ◌-◌, length}
use Rattle.std.specs.Io.KnownBytes.{Consumes}
use Rattle.dl_outside.proofs.file_shelf.read_text.Given as goal

abbrev pub invariant-loop-reader : goal.invariant-loop-reader
invariant-loop-reader g l = record {
  counted : l.counts.taken ≡ l.initial.counts.taken + length l.text;
  faults : l.counts.faults ≡ l.initial.counts.faults;
  lost : Consumes (g.R.Read.remaining l.fn.reader) (g.R.Read.remaining l.reader) l.text;
}

abbrev pub decreases-loop-reader : goal.decreases-loop-reader
decreases-loop-reader g l = (l.limit + 1) - length l.text
