use Rattle.csp_values.proofs.Courses.{popped_under}
use Rattle.csp_values.proofs.walk.Walk.pop.Goals as goal

pub returns : goal.returns
returns c = (c.in_ok-frame.ensures, λ around under. popped_under around _ _ c.args.self.now.frames c.pop.new.self c.in_ok-frame.frame c.pop-2.result c.pop-2.ensures c.in_ok-frame.ensures under)
