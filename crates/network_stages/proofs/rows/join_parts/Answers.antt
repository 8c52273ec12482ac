use Rattle.network_stages.proofs.Prelude.{ℕ, List, Option, Some, cond, refl, sym, ap, ◌∙◌, has, Part, owner_of}
use Rattle.network_stages.proofs.Joining.{owner_rows, owners_more}
use Rattle.network_stages.proofs.Reading.{part_read, rows_read}
use Rattle.network_stages.proofs.rows.join_parts.Goals as goal

pub join_all-requires : goal.join_all-requires
join_all-requires c e i own =
    owner_rows c.args.parts.now c.loop-place.place c.loop-place.owners.items c.loop-place.rows.items c.loop-place.invariant.1 c.loop-place-test.true c.loop-place.invariant.0 e i
    (sym (ap (λ (os : List (Option ℕ)). owner_of os e) c.deref.ensures.value) ∙ own)

pub loop-place-preserved : goal.loop-place-preserved
loop-place-preserved c =
    let parts = c.args.parts.now in
    let n = c.loop-place.place in
    let read = part_read parts parts n c.index-parts-place.result refl c.loop-place-test.true c.index-parts-place.is in (
      rows_read parts n c.loop-place.owners.items c.deref.result.now c.loop-place.rows.items c.join_all.new.rows.items c.index-parts-place.result c.alphabet.result.now c.deref.ensures.value c.loop-place-test.true c.index-parts-place.is c.alphabet.ensures
          c.loop-place.invariant.1 c.loop-place.invariant.0 c.in_ok-join_all.ensures.count c.in_ok-join_all.ensures.joined,
      owners_more parts n c.loop-place.owners.items c.own_all.new.owners.items c.requires.apart c.loop-place-test.true c.loop-place.invariant.1
          (λ e. c.in_ok-own_all.ensures e ∙ ap (λ (xs : List ℕ). cond (has xs e) (Some n) (owner_of c.loop-place.owners.items e)) (c.alphabet-in-loop-place.ensures ∙ ap (λ (p : Part). p.alphabet) (sym read))),
    )
