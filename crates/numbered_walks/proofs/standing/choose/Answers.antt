use Rattle.numbered_walks.proofs.Prelude.{◌≡◌, ℕ, List, Bool, Some, length, slice_get, ap, subst, ◌∙◌, arith, eq-eqb, mark_count, place_among, options}
use Rattle.numbered_walks.proofs.Optioning.{option_count}
use Rattle.numbered_walks.proofs.Stepping.{is_stuck, option_has, standing_options}
use Rattle.numbered_walks.proofs.standing.choose.Goals as goal

pub returns-then-count-eq0-clause-none : goal.returns-then-count-eq0-clause-none
returns-then-count-eq0-clause-none c =
    (is_stuck c.args.movers.now c.args.standing.now c.requires.form c.option_count-count.result c.option_count-count.ensures).0 (eq-eqb c.option_count-count.result 0 c.if-count-eq0.true)

pub option_at-requires-clause-place : goal.option_at-requires-clause-place
option_at-requires-clause-place c =
    let s = c.args.standing.now in
    let all = option_count s.restless s.agreement.agreed in
    let count = c.option_count-count.ensures in
    let within = c.place_among.ensures.within in
    let same : mark_count c.agreed_events-agreed.result.now ≡ mark_count s.agreement.agreed = ap mark_count c.agreed_events-agreed.ensures in
    omega (arith, all, count, within, same)

pub returns-clause-chosen : goal.returns-clause-chosen
returns-clause-chosen c =
    let s = c.args.standing.now in
    let place : c.place_among.result ≡ place_among c.args.number (length (options s.restless s.agreement.agreed)) = c.place_among.ensures.place ∙ ap (place_among c.args.number) c.option_count-count.ensures in
    record {
      options = options s.restless s.agreement.agreed;
      are = standing_options c.args.movers.now s c.requires.form;
      chosen =
          subst (λ (n : ℕ). slice_get (options s.restless s.agreement.agreed) n ≡ Some c.option_at.result) place
          (subst (λ (ms : List Bool). slice_get (options s.restless ms) c.place_among.result ≡ Some c.option_at.result) c.agreed_events-agreed.ensures c.option_at.ensures);
    }

pub returns-clause-has : goal.returns-clause-has
returns-clause-has c =
    let s = c.args.standing.now in
    option_has c.args.movers.now s c.requires.form c.option_at.result c.place_among.result
    (subst (λ (ms : List Bool). slice_get (options s.restless ms) c.place_among.result ≡ Some c.option_at.result) c.agreed_events-agreed.ensures c.option_at.ensures)
