use Rattle.std.proofs.Common.{◌+◌, refl, arith}
use Rattle.script_names.specs.Contents as meant
use Rattle.script_contents.proofs.ContentLaws.{numbers_end, numbers_step}
use Rattle.script_contents.proofs.definitions.numbers_from.Goals as goal

pub loop-place-preserved : goal.loop-place-preserved
loop-place-preserved c = record {
  made = numbers_step c.loop-place.made c.push.new.self (meant.numbers_from c.args.first c.args.count) c.loop-place.number (c.loop-place.number + 1) c.args.count c.loop-place._place
      c.loop-place-test.true refl c.in_ok-push.ensures.ok c.loop-place.invariant.made;
  number = omega arith;
}

pub returns : goal.returns
returns c =
    numbers_end c.loop-place.made (meant.numbers_from c.args.first c.args.count) c.loop-place.number c.args.count c.loop-place._place (omega arith) c.loop-place.invariant.made
