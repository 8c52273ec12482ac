use Rattle.std.proofs.Common.{refl}
use Rattle.dl_outside.proofs.FileLemmas.{file_answer}
use Rattle.dl_outside.proofs.file_shelf.FileShelfShelf.TheImpl.Goals as goal

pub load-tells : goal.load-tells
load-tells g c = record {
  given = c.ensures.given;
  answer = file_answer c.args.self.now c.new.self.now c.args.limit c.result c.ensures.answer;
  texts_stay = refl;
  never_fall = record { faults = c.ensures.faults_never_fall; taken = c.ensures.taken_never_falls };
}
