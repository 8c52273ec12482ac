use Rattle.client_server_conditions.proofs.Prelude.{◌≡◌, ◌≤◌, ℕ, List, true, ap, get_or, length, subst, sym, arith, has, ends_of, end_here, IsAsked, is_acknowledged}
use Rattle.client_server_conditions.proofs.OpenLinks.{one_more}
use Rattle.client_server_conditions.proofs.Reading.{end_listed}
use Rattle.client_server_conditions.proofs.duty.Duty.watched_links.Goals as goal

pub watches-watches-requires-clause-link : goal.watches-watches-requires-clause-link
watches-watches-requires-clause-link c = (end_here c.args.self.now.network.now.shape c.args.self.now.part c.links-link-items.result.now c.loop-link.link-index c.links-link-items.ensures c.loop-link-test.true).0

pub watches-watches-requires-clause-end : goal.watches-watches-requires-clause-end
watches-watches-requires-clause-end c = (end_here c.args.self.now.network.now.shape c.args.self.now.part c.links-link-items.result.now c.loop-link.link-index c.links-link-items.ensures c.loop-link-test.true).1

pub loop-link-preserved : goal.loop-link-preserved
loop-link-preserved c =
    let d = c.args.self.now in
    one_more (IsAsked d) (is_acknowledged d) (λ k. get_or (ends_of c.args.self.now.network.now.shape c.args.self.now.part) k 0) c.loop-link.link-index (get_or c.links-link-items.result.now c.loop-link.link-index 0) c.loop-link.watched c.insert_if.new.set c.watches-watches.result
    (ap (λ (xs : List ℕ). get_or xs c.loop-link.link-index 0) c.links-link-items.ensures) c.watches-watches.ensures c.in_ok-insert_if.ensures c.loop-link.invariant

pub returns : goal.returns
returns c =
    let d = c.args.self.now in
    record {
      sound = c.loop-link.invariant.sound;
      complete = λ l h end asked passes.
          let p = end_listed c.args.self.now.network.now.shape c.args.self.now.part l c.links-link-items.result.now c.links-link-items.ensures h end in
          let last : length c.links-link-items.result.now ≤ c.loop-link.link-index = c.loop-link-test.false in
          subst (λ (m : ℕ). has c.loop-link.watched m ≡ true) p.2
          (c.loop-link.invariant.complete p.0 (omega (arith, p.1)) (subst (IsAsked d) (sym p.2) asked) (subst (λ (m : ℕ). is_acknowledged d m ≡ true) (sym p.2) passes));
    }
