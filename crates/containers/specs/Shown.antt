-- A type that contracts see as what it holds, and that keeps no condition on it: where its fields are placed alike at two
-- element types, so is what is seen of them. Both owners of this crate are such types.
use mathlib.Core.Path.{◌≡◌, refl}
use mathlib.Core.Former.{Former}
use base.Stored.{Coded}
use denote.RattleType.{RattleType}
use denote.Model.{View}
use denote.Model.Placed.{held, view_places}
use denote.Hole.Fix.{Over, whole}
use denote.HoleLaws.{Alike}

-- what every value meets
abbrev pub always : {F : Type 0} → F → Type 0
always _ = Unit {0}

-- the fields seen through their view
abbrev pub seen : {F V : Type 0} → Over F → Coded V → (F → V) → RattleType
seen {F} {V} fields code view = View (whole F fields) V code view always

module _ (kept shown : Former {0}) (view : (X : Type 0) → kept.Of X → shown.Of X)
    (each_shown : (X Y : Type 0) (h : X → Y) (a : kept.Of X) → view Y (kept.map X Y h a) ≡ shown.map X Y h (view X a))
    (all_shown : (X : Type 0) (a : kept.Of X) → held shown X (view X a) ≡ held kept X a) where
  pub shown_places : (X Y : Type 0) (h : X → Y) (F : Over (kept.Of X)) (G : Over (kept.Of Y)) (c : Coded (shown.Of X)) (d : Coded (shown.Of Y))
      → Alike (whole (kept.Of X) F) (whole (kept.Of Y) G) (kept.map X Y h) → Alike (seen F c (view X)) (seen G d (view Y)) (shown.map X Y h)
  shown_places X Y h F G c d = view_places kept shown view each_shown all_shown X Y h c d always always (λ _ _ _. refl) (λ _ _ _. refl) (λ _ _. tt) (λ _ _. tt) F G
