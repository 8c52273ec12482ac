-- Past the end of the list the place is 0.
use Rattle.term_pool.proofs.Prelude.{Option, unwrap_or, sym, ap, ◌∙◌, unwrap_or-slice_get, ProcId, option_copied}
use Rattle.term_pool.proofs.changed.at.Goals as goal

pub returns-in-None : goal.returns-in-None
returns-in-None c =
    ap (λ (found : Option ProcId). unwrap_or found (record { 0 = 0 })) (ap option_copied (sym c.in-None.is) ∙ c.get.ensures) ∙
    unwrap_or-slice_get c.args.ids.now c.args.index (record { 0 = 0 })
