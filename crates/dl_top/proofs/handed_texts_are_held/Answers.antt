use Rattle.dl_top.proofs.Held.{held_before}
use Rattle.dl_top.proofs.handed_texts_are_held.Goals as goal

pub returns : goal.returns
returns g c = held_before g.S.Shelf.texts g.S.Shelf.gives
