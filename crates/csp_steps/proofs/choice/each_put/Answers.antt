use Rattle.csp_steps.proofs.Prelude.{List, [], refl, sym, subst, arith, tree_at, ProcId, AreAt, made_then}
use Rattle.csp_steps.proofs.Choosing.{all_put, next_put}
use Rattle.csp_steps.proofs.Places.{front_both, front_same, still_within}
use Rattle.csp_steps.proofs.choice.each_put.Goals as goal

pub loop-atom-init : goal.loop-atom-init
loop-atom-init c = record {
  front = front_same c.args.pool.now;
  places = subst (λ (qs : List ProcId). AreAt c.args.pool.now qs []) (sym c.new-ids.ensures) (record { same = refl; within = refl });
}

pub put_atom-requires : goal.put_atom-requires
put_atom-requires c = record { within = still_within c.args.pool.now c.loop-atom.pool c.loop-atom.invariant.front c.args.id c.requires.within }

pub loop-atom-preserved : goal.loop-atom-preserved
loop-atom-preserved c = record {
  front = front_both c.args.pool.now c.loop-atom.pool c.put_atom.new.pool c.loop-atom.invariant.front c.put_atom.ensures.front;
  places = made_then c.put_atom.result _ _ _ c.put_atom.ensures.process c.in_ok-push_made.ensures.ok (λ x p q. next_put c.args.pool.now c.loop-atom.pool c.put_atom.new.pool c.loop-atom.invariant.front c.put_atom.ensures.front c.args.id c.requires.within c.args.name c.args.atoms.now
      c.loop-atom.atom-index c.atom-item.result (omega arith) c.atom-item.is c.loop-atom.ids c.push_made.new.self x c.loop-atom.invariant.places p q);
}

pub returns-clause-places : goal.returns-clause-places
returns-clause-places c =
    all_put c.loop-atom.pool c.args.name c.args.atoms.now (tree_at c.args.pool.now c.args.id) c.loop-atom.ids c.loop-atom.atom-index (omega arith) c.loop-atom.invariant.places
