use Rattle.judgement.proofs.Prelude.{◌≡◌, ◌∙◌, ap, subst, sym, Shape, Fits, Falls, HasSilentBound, HasTables, IsApart, IsProved, Network, StaysBusy, ProcessStep, leaves, network_at, bound_of}
use Rattle.judgement.proofs.Heart.{exact, is_network_at, one_bound, seats_of}
use Rattle.judgement.proofs.conclusion.conclude_stages.Goals as goal

pub conclude-requires : goal.conclude-requires
conclude-requires c =
    let network = c.args.shaped.now.network in
    let spelled = c.program.ensures.spelled in
    let here : network ≡ network_at c.program.result.now = sym c.network-network.ensures ∙ sym (is_network_at _ spelled) ∙ ap network_at (sym c.program.ensures.program) in
    let tabled : c.args.tabled.now.network ≡ network_at c.program.result.now = c.requires.network ∙ here in
    let tables : HasTables (network_at c.program.result.now) c.tables.result.now =
    subst (λ (n : Network). HasTables n c.tables.result.now) tabled (subst (HasTables c.args.tabled.now.network) (sym c.tables.ensures.tables) c.tables.ensures.are) in
    let seats = seats_of c.program.result.now c.layout.result.now _ c.program.ensures.program c.layout.ensures.layout spelled in
    record {
      layout = seats;
      tables = tables;
      bound =
          one_bound (ProcessStep c.program.result.now) (leaves (network_at c.program.result.now).tree) c.silent_bound.result (bound_of c.tables.result.now)
          (subst (λ (n : Network). HasSilentBound n c.silent_bound.result) tabled c.silent_bound.ensures) (exact (network_at c.program.result.now) c.tables.result.now seats.spelled tables);
      shape = subst (λ (n : Network). IsApart n c.shape.result.now) here (subst (IsApart network) (sym c.shape.ensures.shape) c.shape.ensures.apart);
      busy = subst StaysBusy here c.requires.busy;
      fits = subst (λ (s : Shape). Fits s.parts c.args.ranking.now) (sym c.shape.ensures.shape) c.requires.fits;
      falls = subst (λ (s : Shape). Falls s.parts c.args.ranking.now) (sym c.shape.ensures.shape) c.requires.falls;
    }

pub returns : goal.returns
returns c =
    let here = is_network_at _ c.program.ensures.spelled in
    let there = ap network_at c.program.ensures.program ∙ here ∙ c.network-network.ensures in
    subst (λ (n : Network). IsProved n c.conclude.result) there c.conclude.ensures
