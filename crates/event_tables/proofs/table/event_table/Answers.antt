use Rattle.std.proofs.Common.{arith}
use Rattle.csp_program.specs.EventTable as meant
use Rattle.event_tables.proofs.SetLaws.{table_end, table_step}
use Rattle.event_tables.proofs.table.event_table.Goals as goal

pub loop-channel-preserved : goal.loop-channel-preserved
loop-channel-preserved c = record {
  so_far = table_step c.add_channel.new.events c.loop-channel.events (meant.event_table c.args.channels.now) c.loop-channel.c c.loop-channel.channel-index c.args.channels.now
      c.channel-item.result c.loop-channel-test.true c.channel-item.is c.in_ok-add_channel.ensures c.loop-channel.invariant.so_far;
  counted = omega (arith, c.loop-channel.invariant.counted);
}

pub returns : goal.returns
returns c =
    table_end c.loop-channel.events (meant.event_table c.args.channels.now) c.loop-channel.c c.loop-channel.channel-index c.args.channels.now (omega arith) c.loop-channel.invariant.so_far
