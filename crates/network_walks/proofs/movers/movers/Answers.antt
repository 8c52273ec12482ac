use Rattle.network_walks.proofs.Prelude.{◌++◌, List, ap, placed, still_within, Numbered, numbered}
use Rattle.network_walks.proofs.Made.{all_made, one_made}
use Rattle.network_walks.proofs.movers.movers.Goals as goal

pub loop-place-init : goal.loop-place-init
loop-place-init c = ap (λ (ns : List Numbered). ns ++ numbered c.args.seats.now c.args.tables.now) c.new-made.ensures.items

pub bounds-tables-place : goal.bounds-tables-place
bounds-tables-place c = still_within c.args.program.now c.args.seats.now c.args.tables.now c.requires.tables _ c.loop-place-test.true

pub mover_of-requires : goal.mover_of-requires
mover_of-requires c = placed c.args.program.now c.args.seats.now c.args.tables.now c.requires.tables _ _ _ c.loop-place-test.true c.index-seats-place.is c.index-tables-place.is

pub loop-place-preserved : goal.loop-place-preserved
loop-place-preserved c =
    one_made c.args.program.now c.args.seats.now c.args.tables.now c.requires.tables _ _ _ _ _ _ c.loop-place.invariant c.loop-place-test.true c.index-seats-place.is c.index-tables-place.is
    c.in_ok-mover.ensures c.in_ok-add.ensures

pub returns : goal.returns
returns c = all_made c.args.program.now c.args.seats.now c.args.tables.now c.requires.tables _ _ c.loop-place.invariant c.loop-place-test.false
