use Rattle.judgement.proofs.Prelude.{◌∙◌, ap, subst, sym, length, HasSilentBound, IsLive, network_at}
use Rattle.judgement.proofs.Heart.{exact, rankings_mean_live}
use Rattle.judgement.proofs.conclusion.conclude.Goals as goal

pub returns : goal.returns
returns c =
    let network = network_at c.args.program.now in
    let spelled = c.requires.layout.spelled in
    record {
      count = ap length (c.seats.ensures.seats ∙ c.requires.layout.are);
      exact = subst (HasSilentBound network) (sym c.requires.bound) (exact network c.args.tables.now spelled c.requires.tables);
      live =
          subst (IsLive network) (sym c.requires.bound)
          (rankings_mean_live network c.args.tables.now spelled c.requires.tables c.args.shape.now c.args.ranking.now c.requires.shape c.requires.busy c.requires.fits c.requires.falls);
    }
