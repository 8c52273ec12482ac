use Rattle.local_tables.proofs.Prelude.{◌≡◌, ◌<◌, List, Some, length, sym, subst, arith, slice_get, slice_index_or, slice_get-get_or, ProcId, tree_at, terms_at}
use Rattle.local_tables.proofs.Following.{begin_at, end_at, map_at}
use Rattle.local_tables.proofs.Walking.{reached}
use Rattle.local_tables.proofs.exploring.follow.Goals as goal

-- the place of the term
there : (read terms : List ProcId) (at : _) → read ≡ terms → at < length terms → slice_get terms at ≡ Some (slice_index_or read at (record { 0 = 0 }))
there read terms at same inside =
    subst (λ (ids : List ProcId). slice_get terms at ≡ Some (slice_index_or ids at (record { 0 = 0 }))) (sym same) (slice_get-get_or terms at (record { 0 = 0 }) inside)

pub returns-in-Err-Told-clause-fault : goal.returns-in-Err-Told-clause-fault
returns-in-Err-Told-clause-fault c =
    let task = c.args.task.now in
    let found = c.args.found.now in
    let trees = c.args.terms.now.pool in
    let id : ProcId = slice_index_or c.as_slice.result.now c.args.at (record { 0 = 0 }) in
    let here = map_at (tree_at trees) found.terms c.args.at id (there c.as_slice.result.now found.terms c.args.at c.as_slice.ensures.value c.requires.here) in
    record {
      term = tree_at trees id;
      reached = reached task (terms_at trees found.terms) found.origins c.requires.up_to.found.led c.args.at (tree_at trees id) here;
      none = rw c.in-Err-Told.kind-is (rw c.in-Err-Told.field-0-is at c.in-Err-Told.ensures.fault);
    }

pub loop-place-init : goal.loop-place-init
loop-place-init c =
    let found = c.args.found.now in
    begin_at c.args.task.now c.args.terms.now.pool c.steps_in.new.pool found c.args.at c.in-Ok.steps (slice_index_or c.as_slice.result.now c.args.at (record { 0 = 0 })) c.requires.up_to
    c.in-Ok.ensures.front (there c.as_slice.result.now found.terms c.args.at c.as_slice.ensures.value c.requires.here) c.in-Ok.ensures.steps

pub returns-clause-up_to : goal.returns-clause-up_to
returns-clause-up_to c =
    end_at c.args.task.now c.steps_in.new.pool c.loop-place.found c.args.at c.in-Ok.steps c.loop-place.place c.loop-place.invariant
    (omega (arith, c.len-place-end.ensures, c.loop-place-test.false))
