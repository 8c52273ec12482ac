use Rattle.cyclic_conditions.proofs.Prelude.{◌≤◌, length, refl, arith, table_of, next_place}
use Rattle.cyclic_conditions.proofs.LapPlaces.{breaks_first, breaks_second}
use Rattle.cyclic_conditions.proofs.orders.no_order.Goals as goal

pub returns-then-len : goal.returns-then-len
returns-then-len c =
    let laps = c.args.laps.now in
    let short : length c.in_ok-second.second ≤ length c.in_ok-first.first = omega (arith, c.len.ensures, c.len-2.ensures) in (
      refl,
      breaks_first laps c.requires.laps c.args.clash.here c.args.clash.there c.in_ok-first.first c.in_ok-second.second c.requires.clash
          (c.in_ok-first.ensures (table_of laps.component) (next_place laps) 0 c.requires.laps.origins) (c.in_ok-second.ensures (table_of laps.component) (next_place laps) 0 c.requires.laps.origins) short,
    )

pub returns : goal.returns
returns c =
    let laps = c.args.laps.now in
    let short : length c.in_ok-first.first ≤ length c.in_ok-second.second = omega (arith, c.len.ensures, c.len-2.ensures) in (
      refl,
      breaks_second laps c.requires.laps c.args.clash.here c.args.clash.there c.in_ok-first.first c.in_ok-second.second c.requires.clash
          (c.in_ok-first.ensures (table_of laps.component) (next_place laps) 0 c.requires.laps.origins) (c.in_ok-second.ensures (table_of laps.component) (next_place laps) 0 c.requires.laps.origins) short,
    )
