use Rattle.observed_runs.proofs.Prelude.{◌≡◌, ◌+◌, ◌-◌, ◌<◌, ◌∙◌, length, ap, arith, get_or_read, Found, pair_at}
use Rattle.observed_runs.proofs.Leading.{found_from}
use Rattle.observed_runs.proofs.explored.Explored.origin.Goals as goal

pub returns-clause-leads : goal.returns-clause-leads
returns-clause-leads c table step start found =
    let f = c.args.self.now in
    let view = c.self.view_is in
    let count : length c.self.inside.pairs ≡ length c.self.inside.origins.items + 1 = c.self.invariant.count in
    let pairs : length c.self.inside.pairs ≡ length c.args.self.now.pairs = ap (λ (f : Found). length f.pairs) view in
    let origins : length c.self.inside.origins.items ≡ length c.args.self.now.origins = ap (λ (f : Found). length f.origins) view in
    let within : c.args.place < length c.args.self.now.pairs = c.requires.within in
    let at : c.args.place - 1 < length c.self.inside.origins.items = omega (arith, c.requires.later) in
    found_from table step start f.pairs f.origins c.args.place c.index.result.now found c.requires.later (omega arith)
    (get_or_read c.self.inside.origins.items (c.args.place - 1) c.index.result.now at c.index.ensures (0, 0) ∙ ap (λ (f : Found). pair_at f.origins (c.args.place - 1)) view)
