use Rattle.numbered_walks.proofs.Prelude.{ℕ, List, ◌++◌, [], get_or, ap, ◌∙◌, has}
use Rattle.numbered_walks.proofs.Owning.{owned, owners_more}
use Rattle.numbered_walks.proofs.owners.owner_rows.Goals as goal

pub loop-place-preserved : goal.loop-place-preserved
loop-place-preserved c = record {
  rows =
      owners_more c.args.movers.now c.loop-place.place c.index-movers-place.result c.loop-place.rows.items c.add_owner.new.rows.items c.loop-place-test.true c.index-movers-place.is c.loop-place.invariant.rows
      (λ e. c.in_ok-add_owner.ensures.rows e ∙ ap (λ (xs : List ℕ). get_or c.loop-place.rows.items e [] ++ owned (has xs e) c.loop-place.place) c.alphabet.ensures.value);
  small = c.in_ok-add_owner.ensures.small;
}
