-- The parts of a network and its components, place by place.
use Rattle.net_sound.proofs.Prelude.{◌≡◌, ℕ, zero, suc, ◌<◌, List, [], ◌∷◌, Some, slice_get, length, refl, sym, subst, ◌∙◌, arith, same_Some, slice_get_within, Label, Component, Part, part_at, IsPartOf, ArePartsOf}

pub one_part_each : {T : Type 0} (Step : T → Label → T → Type 0) (cs : List (Component T)) (ps : List Part) → ArePartsOf Step cs ps → length cs ≡ length ps
one_part_each Step [] [] parts = refl
one_part_each Step (c ∷ cs) (p ∷ ps) parts = let rest = one_part_each Step cs ps parts.1 in omega (arith, rest)
one_part_each Step _ _ parts = absurd parts

-- the component of a part
pub record ComponentOf {T : Type 0} (Step : T → Label → T → Type 0) (cs : List (Component T)) (ps : List Part) (i : ℕ) : Type 0 where
  pub component : Component T
  pub listed : slice_get cs i ≡ Some component
  pub part : IsPartOf Step component (part_at ps i)

pub component_of : {T : Type 0} (Step : T → Label → T → Type 0) (cs : List (Component T)) (ps : List Part) → ArePartsOf Step cs ps → (i : ℕ) → i < length ps → ComponentOf Step cs ps i
component_of Step [] [] parts i below = absurd (omega arith)
component_of Step (c ∷ cs) (p ∷ ps) parts zero below = record { component = c; listed = refl; part = parts.0 }
component_of Step (c ∷ cs) (p ∷ ps) parts (suc i) below = let r = component_of Step cs ps parts.1 i (omega arith) in record { component = r.component; listed = r.listed; part = r.part }
component_of Step _ _ parts i below = absurd parts

-- the part of a component
pub part_within : {T : Type 0} (Step : T → Label → T → Type 0) (cs : List (Component T)) (ps : List Part) → ArePartsOf Step cs ps → (i : ℕ) (c : Component T) → slice_get cs i ≡ Some c → i < length ps
part_within Step cs ps parts i c at =
    let many = one_part_each Step cs ps parts in
    let within = slice_get_within cs i c at in
    omega (arith, many, within)

pub part_of : {T : Type 0} (Step : T → Label → T → Type 0) (cs : List (Component T)) (ps : List Part) → ArePartsOf Step cs ps → (i : ℕ) (c : Component T) → slice_get cs i ≡ Some c → IsPartOf Step c (part_at ps i)
part_of Step cs ps parts i c at =
    let r = component_of Step cs ps parts i (part_within Step cs ps parts i c at) in
    subst (λ (x : Component _). IsPartOf Step x (part_at ps i)) (same_Some r.component c (sym r.listed ∙ at)) r.part
