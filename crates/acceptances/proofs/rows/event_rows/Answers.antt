use Rattle.acceptances.proofs.Prelude.{◌≡◌, ◌<◌, ◌∙◌, ℕ, List, [], length, get_or, subst, get_or_default, IsRowFor}
use Rattle.acceptances.proofs.RowLists.{rows_more}
use Rattle.acceptances.proofs.rows.event_rows.Goals as goal

pub loop-place-preserved : goal.loop-place-preserved
loop-place-preserved c =
    let sets = c.args.sets.now in
    let place = c.loop-place.place in
    let rows = c.loop-place.rows.items in
    let below : place < length sets = c.loop-place-test.true in
    let read : c.index-sets-place.result ≡ get_or sets place [] = c.index-sets-place.is ∙ get_or_default sets place c.index-sets-place.result [] below in
    let within : c.shortest_row-row.result < length rows = subst (λ (rs : List (List ℕ)). c.shortest_row-row.result < length rs) c.deref.ensures.value c.shortest_row-row.ensures.within in
    let fits : IsRowFor (length rows) (get_or sets place []) c.shortest_row-row.result = subst (λ (rs : List (List ℕ)). IsRowFor (length rs) (get_or sets place []) c.shortest_row-row.result) c.deref.ensures.value (subst (λ (set : List ℕ). IsRowFor (length c.deref.result.now) set c.shortest_row-row.result) read c.shortest_row-row.ensures.row) in
    rows_more sets place c.shortest_row-row.result rows c.push_at.new.rows.items below within fits c.in_ok-push_at.ensures c.loop-place.invariant
