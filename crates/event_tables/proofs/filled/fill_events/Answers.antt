use Rattle.event_tables.proofs.Prelude.{◌∙◌, spread, MOST_BYTES}
use Rattle.event_tables.proofs.SetLaws.{filled_few}
use Rattle.event_tables.proofs.filled.fill_events.Goals as goal

pub event_table-requires : goal.event_table-requires
event_table-requires c =
    filled_few MOST_BYTES c.args.content.now.channels c.replace-channels.result c.as_slice.result.now (spread c.args.shared.now) c.requires.channels c.replace-channels.ensures.value
    (c.as_slice.ensures ∙ c.in_ok-content.ensures)
