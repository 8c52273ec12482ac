use Rattle.std.proofs.Common.{◌≡◌, ap, ◌∙◌}
use Rattle.dl_outside.specs.declared.count.Counts.{Counts}
use Rattle.dl_outside.proofs.FileLemmas.{gave_file}
use Rattle.dl_outside.proofs.file_shelf.FileShelfShelf.load.Goals as goal

pub returns-clause-given : goal.returns-clause-given
returns-clause-given g c =
    let old = c.args.self.now in
    let opened : Counts = record { faults = c.open_file.new.faults; taken = c.self.inside.counts.taken } in
    let faults : opened.faults ≡ old.faults = c.in_ok-file.ensures.answer ∙ ap (λ (s : Counts). s.faults) c.self.view_is in
    let taken : opened.taken ≡ old.taken = ap (λ (s : Counts). s.taken) c.self.view_is in
    gave_file g.R.File.Read.remaining old opened c.read_text.new.counts c.args.name.now c.args.limit c.in_ok-file.file c.read_text.result c.in_ok-file.ensures.text faults taken c.read_text.ensures.answer c.read_text.ensures.whole
