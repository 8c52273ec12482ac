use Rattle.numbered_walks.proofs.Prelude.{◌≤◌, Bool, get_or, set, refl, sym, ap, subst, ◌∙◌, arith, can_do, is_unstable, bit, component_at, Numbered, MOST_COMPONENTS}
use Rattle.numbered_walks.proofs.Stepping.{component_read, offered, offers_read, offers_within, put_there, room_there, term_read}
use Rattle.numbered_walks.proofs.standing.go_to.Goals as goal

pub exchange-requires : goal.exchange-requires
exchange-requires c =
    let cs = c.args.movers.now in
    let s = c.args.standing.now in
    let place = c.args.place in
    let form = c.requires.form in
    let here = c.requires.place in
    let term = term_read cs s form place here c.index-from.result.now c.index-from.ensures in
    let old = offers_read cs s form place here c.index-movers-place.result c.index-from.result.now c.offers.result.now c.index-movers-place.is c.offers.ensures.offers in
    let new = offers_read cs s form place here c.index-movers-place.result c.args.drawn.to c.offers-2.result.now c.index-movers-place.is c.offers-2.ensures.offers in
    record {
      form = form.agreement;
      within = λ e h. offers_within cs s form place here c.args.drawn.to e (sym (new e) ∙ h);
      some = λ e. subst (λ (b : Bool). bit b ≤ get_or s.agreement.offering.items e 0) (sym (old e ∙ ap (λ n. can_do (component_at cs place).table n e) term)) (offered cs s form place here e);
      room = λ e.
          let room = room_there cs s form place here c.args.drawn.to e MOST_COMPONENTS c.requires.few in
          let old_bit = ap bit (old e ∙ ap (λ n. can_do (component_at cs place).table n e) term) in
          let new_bit = ap bit (new e) in
          omega (arith, room, old_bit, new_bit);
    }

pub returns-clause-form : goal.returns-clause-form
returns-clause-form c =
    let cs = c.args.movers.now in
    let s = c.args.standing.now in
    let place = c.args.place in
    let form = c.requires.form in
    let here = c.requires.place in
    let term = term_read cs s form place here c.index-from.result.now c.index-from.ensures in
    let old = offers_read cs s form place here c.index-movers-place.result c.index-from.result.now c.offers.result.now c.index-movers-place.is c.offers.ensures.offers in
    let new = offers_read cs s form place here c.index-movers-place.result c.args.drawn.to c.offers-2.result.now c.index-movers-place.is c.offers-2.ensures.offers in
    let same = component_read cs place c.index-movers-place.result here c.index-movers-place.is in
    put_there cs s form place here _ c.args.drawn.to c.requires.to refl
    (c.set.ensures ∙ ap (set s.restless place) (c.is_restless.ensures ∙ ap (λ (d : Numbered). is_unstable d.table c.args.drawn.to) (sym same))) c.in_ok-exchange.ensures.form c.in_ok-exchange.ensures.owners
    (λ e.
    let all = c.in_ok-exchange.ensures.offering e in
    let old_bit = ap bit (old e ∙ ap (λ n. can_do (component_at cs place).table n e) term) in
    let new_bit = ap bit (new e) in
    omega (arith, all, old_bit, new_bit))
