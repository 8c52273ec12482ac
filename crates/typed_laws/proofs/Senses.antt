-- What names stand for where rules of typing hold of them, and that their uses pass.
use Rattle.typed_laws.proofs.Sources.{◌≡◌, ℕ, false, not, ◌&&◌, nat_eq, Option, Some, None, List, refl, sym, ◌∙◌, ap, slice_get, clashes, is_constant, kind_class, kind_network, when, Meanings, Name, sense_in, sense_of, Scope, names_of, number_of, MayBind, Means, Binds, Entity, Kind, Place, Sense, Uses, Use}
use Rattle.std.proofs.lemmas.Bool.{eq-eqb}
use Rattle.typed_laws.proofs.Passing.{Passes}
use Rattle.typed_laws.proofs.ScopeNames.{NameIs, is_bound, is_free, name_is}

bound_sense : {m : Meanings} {x : Name} {o : Option ℕ} {s : Sense} → NameIs m x o s → (b : ℕ) → o ≡ Some b → s ≡ Sense.Bound
bound_sense (is_bound k) b h = refl
bound_sense is_free b h = absurd (cc)

free_sense : {m : Meanings} {x : Name} {o : Option ℕ} {s : Sense} → NameIs m x o s → o ≡ None → s ≡ sense_of (m x)
free_sense (is_bound k) h = absurd (cc)
free_sense is_free h = refl

pub none_of_count : (n k : ℕ) (x : Name) → k ≡ n → when (not (nat_eq n k)) x ≡ None
none_of_count n k x h = ap (λ b. when (not b) x) (eq-eqb n k (sym h))

pub no_constant : (e : Option Entity) → ((k : ℕ) → e ≡ Some (Entity.Constant k) → ⊥) → is_constant e ≡ false
no_constant (Some (Entity.Constant k)) h = absurd (h k refl)
no_constant (Some (Entity.Channel c n)) h = refl
no_constant (Some (Entity.Definition d n)) h = refl
no_constant (Some (Entity.Set d)) h = refl
no_constant None h = refl

module _ (m : Meanings) (ks : List Kind) where
  pub bound_is : (scope : Scope) (x : Name) (b : ℕ) → number_of scope x ≡ Some b → sense_in m (names_of scope) x ≡ Sense.Bound
  bound_is scope x b h = bound_sense (name_is m scope x) b h

  pub means_is : (scope : Scope) (x : Name) (e : Entity) → Means m ks scope x e → sense_in m (names_of scope) x ≡ Sense.Declared e
  means_is scope x e h = free_sense (name_is m scope x) h.0 ∙ ap sense_of h.1

  pub bind_passes : (x : Name) → MayBind m ks x → Passes m ks (Binds x false)
  bind_passes x h =
      record { known = refl; once = ap (λ b. when b x) (no_constant (m x) h); kind = refl; count = refl; inside = refl }

  -- the use of a definition of this kind
  pub definition_passes : (x : Name) (d : ℕ) (kind : Kind) (place : Place) → slice_get ks d ≡ Some kind → clashes kind.class place.need ≡ false
      → (kind.network && not place.network) ≡ false → Passes m ks (Uses x (Sense.Declared (Entity.Definition d 0)) (Use.Alone place))
  definition_passes x d kind place is fits inside = record {
    known = refl;
    kind = ap (λ o. clashes (kind_class o) place.need) is ∙ fits;
    count = refl;
    inside = ap (λ o. kind_network o && not place.network) is ∙ inside;
    once = refl;
  }

  pub call_passes : (x : Name) (d n k : ℕ) (kind : Kind) (place : Place) → slice_get ks d ≡ Some kind → clashes kind.class place.need ≡ false
      → (kind.network && not place.network) ≡ false → k ≡ n → Passes m ks (Uses x (Sense.Declared (Entity.Definition d n)) (Use.Called k place))
  call_passes x d n k kind place is fits inside same = record {
    known = refl;
    kind = ap (λ o. clashes (kind_class o) place.need) is ∙ fits;
    count = none_of_count n k x same;
    inside = ap (λ o. kind_network o && not place.network) is ∙ inside;
    once = refl;
  }

  pub dotted_passes : (x : Name) (c n k : ℕ) → k ≡ n → Passes m ks (Uses x (Sense.Declared (Entity.Channel c n)) (Use.Dotted k))
  dotted_passes x c n k same = record { known = refl; once = refl; kind = refl; count = none_of_count n k x same; inside = refl }
