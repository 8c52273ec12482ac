use Rattle.csp_base.proofs.Prelude.{◌<◌, length, subst, sym, arith, take_rest, AreBlocks}
use Rattle.csp_base.proofs.Includes.{included_set, included_insert, has-included, is_within_lem}
use Rattle.csp_base.proofs.blocks.include.Goals as goal

pub index_mut-requires : goal.index_mut-requires
index_mut-requires c =
    let word = rw (c.deref-2.ensures.value, take_rest) at c.word_at_front-word.ensures in
    let within : c.place_of-place.result < length c.args.blocks.now.items = is_within_lem _ _ _ _ word c.if-word-ne0.true in
    let len = rw c.deref.ensures.value at c.deref.ensures.len in
    omega arith

pub returns-then-word-ne0-clause-blocks : goal.returns-then-word-ne0-clause-blocks
returns-then-word-ne0-clause-blocks c =
    let before = rw c.deref.ensures.value at c.place_of-place.ensures.before in
    let after = rw c.deref.ensures.value at c.place_of-place.ensures.after in
    let word = rw (c.deref-2.ensures.value, take_rest) at c.word_at_front-word.ensures in
    (included_set _ _ c.args.event _ c.requires before after word c.if-word-ne0.true).blocks

pub returns-then-word-ne0-clause-members : goal.returns-then-word-ne0-clause-members
returns-then-word-ne0-clause-members c =
    let before = rw c.deref.ensures.value at c.place_of-place.ensures.before in
    let after = rw c.deref.ensures.value at c.place_of-place.ensures.after in
    let word = rw (c.deref-2.ensures.value, take_rest) at c.word_at_front-word.ensures in
    has-included _ _ c.args.event c.requires (included_set _ _ c.args.event _ c.requires before after word c.if-word-ne0.true)

pub returns-in_ok-insert-clause-blocks : goal.returns-in_ok-insert-clause-blocks
returns-in_ok-insert-clause-blocks c =
    let before = rw c.deref.ensures.value at c.place_of-place.ensures.before in
    let after = rw c.deref.ensures.value at c.place_of-place.ensures.after in
    let word = rw (c.deref-2.ensures.value, take_rest) at c.word_at_front-word.ensures in
    subst AreBlocks (sym c.in_ok-insert.ensures.items) (included_insert _ _ c.args.event _ c.requires c.ranges.event.fits before after word c.if-word-ne0.false).blocks

pub returns-in_ok-insert-clause-members : goal.returns-in_ok-insert-clause-members
returns-in_ok-insert-clause-members c =
    let before = rw c.deref.ensures.value at c.place_of-place.ensures.before in
    let after = rw c.deref.ensures.value at c.place_of-place.ensures.after in
    let word = rw (c.deref-2.ensures.value, take_rest) at c.word_at_front-word.ensures in
    rw c.in_ok-insert.ensures.items
    (has-included _ _ c.args.event c.requires (included_insert _ _ c.args.event _ c.requires c.ranges.event.fits before after word c.if-word-ne0.false))
