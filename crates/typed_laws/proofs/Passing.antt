-- Occurrences of which no fault is told.
use Rattle.typed_laws.proofs.Sources.{◌≡◌, ℕ, zero, suc, Bool, false, None, Some, List, [], ◌∷◌, ◌++◌, refl, sym, subst, slice_get, clashes, is_inside, is_wrong_kind, repeated_name, unknown_name, wrong_count, Meanings, Name, Class, Form, Kind, Occurrence, Place, Sense, Use, Uses, Every, Need}

abbrev pub data_at : Bool → ℕ → Place
data_at network level = record { need = Need.Data; network = network; level = level }

abbrev pub process_at : Bool → ℕ → Place
process_at network level = record { need = Need.Process; network = network; level = level }

-- an occurrence of which no fault is told
pub record Passes (m : Meanings) (ks : List Kind) (o : Occurrence Name) : Type 0 where
  pub known : unknown_name o ≡ None
  pub once : repeated_name m o ≡ None
  pub kind : is_wrong_kind ks o ≡ false
  pub count : wrong_count o ≡ None
  pub inside : is_inside ks o ≡ false

-- what holds of each element of lists that stand behind one another, together and apart
module _ {A : Type 0} (P : A → Type 0) where
  pub join : (os ps : List A) → Every P os → Every P ps → Every P (os ++ ps)
  join [] ps h g = g
  join (o ∷ os) ps h g = (h.0, join os ps h.1 g)

  pub join_three : (os ps qs : List A) → Every P os → Every P ps → Every P qs → Every P (os ++ (ps ++ qs))
  join_three os ps qs h g k = join os (ps ++ qs) h (join ps qs g k)

  pub join_four : (os ps qs rs : List A) → Every P os → Every P ps → Every P qs → Every P rs → Every P (os ++ (ps ++ (qs ++ rs)))
  join_four os ps qs rs h g k j = join os (ps ++ (qs ++ rs)) h (join_three ps qs rs g k j)

  pub two_parts : (os ps : List A) → Every P (os ++ ps) → Every P os × Every P ps
  two_parts [] ps h = (tt, h)
  two_parts (o ∷ os) ps h = let w = two_parts os ps h.1 in ((h.0, w.0), w.1)

  pub element_at : (os : List A) (k : ℕ) (o : A) → Every P os → slice_get os k ≡ Some o → P o
  element_at [] k o h g = absurd (cc)
  element_at (p ∷ os) zero o h g = let is : p ≡ o = cc in subst P is h.0
  element_at (p ∷ os) (suc k) o h g = element_at os k o h.1 g

  pub three_parts : (os ps qs : List A) → Every P (os ++ (ps ++ qs)) → Every P os × Every P ps × Every P qs
  three_parts os ps qs h = let w = two_parts os (ps ++ qs) h in let v = two_parts ps qs w.1 in (w.0, v.0, v.1)

  pub four_parts : (os ps qs rs : List A) → Every P (os ++ (ps ++ (qs ++ rs))) → Every P os × Every P ps × Every P qs × Every P rs
  four_parts os ps qs rs h = let w = two_parts os (ps ++ (qs ++ rs)) h in let v = three_parts ps qs rs w.1 in (w.0, v.0, v.1, v.2)

module _ (m : Meanings) (ks : List Kind) where
  abbrev pub AllPass : List (Occurrence Name) → Type 0
  AllPass os = Every (Passes m ks) os

  pub form_passes : (c : Class) (place : Place) → clashes c place.need ≡ false → Passes m ks (Form c place)
  form_passes c place h = record { known = refl; once = refl; kind = h; count = refl; inside = refl }

  pub use_passes : (x : Name) (s z : Sense) (how : Use) → s ≡ z → Passes m ks (Uses x z how) → Passes m ks (Uses x s how)
  use_passes x s z how is h = subst (λ y. Passes m ks (Uses x y how)) (sym is) h
