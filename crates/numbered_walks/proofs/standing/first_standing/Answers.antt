use Rattle.numbered_walks.proofs.Prelude.{◌≡◌, ◌≤◌, ℕ, List, length, get_or, sym, ap, subst, ◌∙◌, length-map, owner_count, Standing}
use Rattle.numbered_walks.proofs.Owning.{owner_counts_are}
use Rattle.numbered_walks.proofs.Stepping.{first_form, terms_are_first}
use Rattle.numbered_walks.proofs.standing.first_standing.Goals as goal

pub enter_all-requires-clause-owners : goal.enter_all-requires-clause-owners
enter_all-requires-clause-owners c = owner_counts_are c.args.movers.now c.args.owners.now c.in_ok-agreement.agreement.owners.items c.requires.owners c.in_ok-agreement.ensures.owners

pub returns-clause-form : goal.returns-clause-form
returns-clause-form c =
    let made : Standing = record { terms = c.in_ok-terms.terms; drawn = c.args.drawn; restless = c.enter_all.new.restless; agreement = c.enter_all.new.agreement } in
    let counts : (e : ℕ) → get_or c.enter_all.new.agreement.owners.items e 0 ≡ owner_count e c.args.movers.now =
    λ e.
    ap (λ (ns : List ℕ). get_or ns e 0) c.enter_all.ensures.owners
    ∙ owner_counts_are c.args.movers.now c.args.owners.now c.in_ok-agreement.agreement.owners.items c.requires.owners c.in_ok-agreement.ensures.owners e in
    let count : length c.args.owners.now ≡ length c.enter_all.new.agreement.owners.items =
    sym (ap length c.enter_all.ensures.owners ∙ ap length c.in_ok-agreement.ensures.owners ∙ length-map c.args.owners.now length) in
    first_form c.args.movers.now made (c.in_ok-terms.ensures.items_if_clones_equal (λ y e. e)) c.enter_all.ensures.marks c.enter_all.ensures.restless c.enter_all.ensures.within c.enter_all.ensures.own
    c.enter_all.ensures.form counts c.enter_all.ensures.offering (subst (λ n. n ≤ 4294967296) count c.requires.small)

pub returns-clause-first : goal.returns-clause-first
returns-clause-first c = terms_are_first c.args.movers.now c.in_ok-terms.terms.items (c.in_ok-terms.ensures.items_if_clones_equal (λ y e. e))
