use Rattle.dl_outside.proofs.FileLemmas.{print_answer}
use Rattle.dl_outside.proofs.std_sink.StdSinkSink.TheImpl.Goals as goal

pub write-tells : goal.write-tells
write-tells g c = record {
  answer = print_answer c.args.piece.now c.args.self.now c.new.self.now c.result c.ensures.answer;
  faults_never_fall = c.ensures.faults_never_fall;
}
