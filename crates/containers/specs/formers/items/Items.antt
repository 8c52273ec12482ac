-- `Items` inside the type of its own items: it keeps them in a `Vec` and shows all of them, in their order.
use mathlib.Core.Path.{◌≡◌, refl, sym}
use mathlib.Core.List.{List, []}
use mathlib.Core.Former.{Former, this, list, via, children}
use base.Stored.{code_map}
use denote.RattleType.{RattleType}
use denote.HoleLaws.{Alike}
use denote.HolePlaces.{Alikes, Recodes, struct_places, laid}
use denote.Hole.Carrier.{listed, list-listed}
use denote.Hole.Fix.{over}
use denote.Param.Weighed.{Weighed, w_list}
use Rattle.std.specs.formers.vec.Vec as vec
use Rattle.std.specs.declared.alloc.Global.{Global}
use Rattle.std.specs.contracts.alloc.Global as heap
use Rattle.std.specs.contracts.impls.GlobalAllocator.TheImpl.{ghosts}
use Rattle.containers.specs.declared.items.Items.TheInside.{Inside}
use Rattle.containers.specs.declared.items.Items.TheView.{view}
use Rattle.containers.specs.contracts.items.Items as as_seen
use Rattle.containers.specs.contracts.items.Items.TheInside as as_kept
use Rattle.containers.specs.Shown.{shown_places}

-- as it is seen: a list
abbrev pub the_former : Former {0} → Former {0}
the_former item = list item

abbrev pub the_weighed : {item : Former {0}} → Weighed item → Weighed (the_former item)
the_weighed measure = w_list measure

pub the_empty : List ⊥
the_empty = []

abbrev pub the_items : (X : Type 0) → List X → List X
the_items X xs = xs

pub the_items_listed : (X : Type 0) (xs : List X) → listed _ (children (the_former this) X xs) ≡ the_items X xs
the_items_listed X xs = list-listed X xs

-- as it is kept: one field, a vector on the global heap
abbrev kept : Former {0}
kept = via (vec.the_former this Global) Inside (λ _ items. items.items) (λ _ field. record { items = field }) (λ _ _. refl) (λ _ _. refl)

module _ (R S : RattleType) (h : R.Denot → S.Denot) where
  -- the field follows its items
  vector_places : Alike R S h → Alikes (as_kept.the_type R).parts (as_kept.the_type S).parts (vec.mapped h, tt)
  vector_places items = (laid _ _ _ (vec.the_places heap.the_row ghosts R S h items), tt)

  pub the_places : Alike R S h → Alike (as_seen.the_row R) (as_seen.the_row S) ((the_former this).map R.Denot S.Denot h)
  the_places items = shown_places kept (the_former this) view (λ _ _ _ _. refl) (λ _ _. refl) R.Denot S.Denot h
      (over (as_kept.the_row R)) (over (as_kept.the_row S)) (as_seen.the_row R).coded (as_seen.the_row S).coded
      (struct_places (as_kept.the_type R) (as_kept.the_type S) (vec.mapped h, tt) _ (λ _. refl) refl (vector_places items))

  pub the_codes_placed : Recodes R S h → Recodes (as_seen.the_row R) (as_seen.the_row S) ((the_former this).map R.Denot S.Denot h)
  the_codes_placed codes xs = sym (code_map R.coded.code S.coded.code h (λ x. sym (codes x)) xs)
