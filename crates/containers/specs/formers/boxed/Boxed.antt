-- `Boxed` inside the type of its own value: it keeps the value in a `Box` and shows just that value.
use mathlib.Core.Path.{refl}
use mathlib.Core.Former.{Former, this, const, pair, via}
use base.Stored.{gnil}
use base.Fml.{ftrue}
use denote.RattleType.{RattleType}
use denote.Memory.{part_of}
use denote.RawPtr.{Ptr}
use denote.Sharing.{nothing}
use denote.HoleLaws.{Alike}
use denote.HolePlaces.{Alikes, Recodes, struct_places, laid, one_value}
use denote.Hole.Fix.{over}
use denote.Param.Weighed.{Weighed}
use Rattle.std.specs.declared.boxed.Box.{Box}
use Rattle.std.specs.contracts.boxed.Box as box
use Rattle.std.specs.declared.alloc.Global.{Global}
use Rattle.std.specs.contracts.alloc.Global as heap
use Rattle.std.specs.contracts.impls.GlobalAllocator.TheImpl.{ghosts}
use Rattle.containers.specs.declared.boxed.Boxed.TheInside.{Inside}
use Rattle.containers.specs.declared.boxed.Boxed.TheView.{view}
use Rattle.containers.specs.contracts.boxed.Boxed as as_seen
use Rattle.containers.specs.contracts.boxed.Boxed.TheInside as as_kept
use Rattle.containers.specs.Shown.{shown_places}

-- as it is seen: the value
abbrev pub the_former : Former {0} → Former {0}
the_former value = value

abbrev pub the_weighed : {value : Former {0}} → Weighed value → Weighed (the_former value)
the_weighed measure = measure

-- as it is kept: the value, with where its box lies and the allocator that it came from
abbrev kept : Former {0}
kept = via (pair this (const (Ptr × Global))) Inside
    (λ _ boxed. (boxed.inner.value, (boxed.inner.ptr, boxed.inner.alloc)))
    (λ _ parts. record { inner = record { value = parts.0; ptr = parts.1.0; alloc = parts.1.1 } })
    (λ _ _. refl) (λ _ _. refl)

-- the same box with another value
abbrev holding : {X Y : Type 0} → Box X Global → Y → Box Y Global
holding b value = record { value = value; ptr = b.ptr; alloc = b.alloc }

module _ (R S : RattleType) (h : R.Denot → S.Denot) where
  abbrev sent : Box R.Denot Global → Box S.Denot Global
  sent b = holding b (h b.value)

  -- A box follows its value: the three things that are said of a box speak of the row of its value at that one value alone.
  box_follows : Alike R S h → Alike (box.the_row R heap.the_row ghosts) (box.the_row S heap.the_row ghosts) sent
  unfolding part_of
  box_follows value = record {
    mir_same = λ i. (box.the_row (one_value R (value.mir_same i) (λ _. ftrue) (λ _ _. nothing) gnil) heap.the_row ghosts).mir;
    own_same = λ b i. (box.the_row (one_value R (value.mir_same i) (value.own_same b.value i) (value.shr_same b.value i) gnil) heap.the_row ghosts).own_val (holding b tt);
    shr_same = λ b i. (box.the_row (one_value R (value.mir_same i) (value.own_same b.value i) (value.shr_same b.value i) gnil) heap.the_row ghosts).shr_at (holding b tt);
  }

  field_follows : Alike R S h → Alikes (as_kept.the_type R).parts (as_kept.the_type S).parts (sent, tt)
  field_follows value = (laid _ _ _ (box_follows value), tt)

  pub the_places : Alike R S h → Alike (as_seen.the_row R) (as_seen.the_row S) ((the_former this).map R.Denot S.Denot h)
  the_places value = shown_places kept (the_former this) view (λ _ _ _ _. refl) (λ _ _. refl) R.Denot S.Denot h
      (over (as_kept.the_row R)) (over (as_kept.the_row S)) (as_seen.the_row R).coded (as_seen.the_row S).coded
      (struct_places (as_kept.the_type R) (as_kept.the_type S) (sent, tt) _ (λ _. refl) refl (field_follows value))

  pub the_codes_placed : Recodes R S h → Recodes (as_seen.the_row R) (as_seen.the_row S) ((the_former this).map R.Denot S.Denot h)
  the_codes_placed codes value = codes value
