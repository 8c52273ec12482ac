use Rattle.conformance.proofs.Prelude.{nat_eq, rules, pointwise}
use Rattle.conformance.proofs.Decoding.{one_more_key, part_conforms}
use Rattle.conformance.proofs.known.ConformingParts.check.Goals as goal

pub returns-in-Some-clause-conforms : goal.returns-in-Some-clause-conforms
returns-in-Some-clause-conforms c =
    part_conforms c.args.part.now c.args.specified.now c.in_ok-key.key c.requires c.in_ok-key.ensures (c.self.invariant c.in-Some._place c.in_ok-key.key (search rules))

pub invariant_of-self-2 : goal.invariant_of-self-2
invariant_of-self-2 c =
    one_more_key (pointwise nat_eq) c.self.inside.known c.number.new.self c.in_ok-key.key c.in_ok-number.ensures.list c.self.invariant (record {
      part = c.args.part.now;
      specified = c.args.specified.now;
      are = c.requires;
      is = c.in_ok-key.ensures;
      conforms = c.in_ok-conform.ensures.conforms;
    })
