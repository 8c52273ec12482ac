-- In a faultless script the ends of a body fit its place: none is without a meaning, and a body of data has none of a process.
use Rattle.typed_laws.proofs.Sources.{◌≡◌, ℕ, false, Bool, List, [], ◌∷◌, ◌++◌, map, sym, subst, slice_get, Every, clashes, kind_class, end_of_call, end_of_name, ends, Meanings, Name, part_in, tree_says, Class, End, EventTree, FieldTree, Form, GenTree, Kind, Parallel, PartTree, Place, Sense, Tree, Tree-F, Uses, ind-Tree, map-Tree, roll-Tree, Entity, Use, Need}
use Rattle.typed_laws.proofs.Passing.{AllPass, Passes, join, three_parts}
use Rattle.typed_laws.proofs.Trees.{TreeLayer, ending, saying, tree_is, tree_layer}

abbrev place_of : Need → Bool → ℕ → Place
place_of n b l = record { need = n; network = b; level = l }

-- the end of a form of this class
abbrev end_of : Class → End
end_of Class.Process = End.Process
end_of _ = End.Data

module _ (ks : List Kind) where
  -- an end has a meaning; where data is needed, it is data, or the use of what is no process
  abbrev pub Fits : Need → End → Type 0
  Fits n End.Nothing = ⊥
  Fits Need.Data (End.Use d) = clashes (kind_class (slice_get ks d)) Need.Data ≡ false
  Fits Need.Data End.Process = ⊥
  Fits Need.Data End.Parallel = ⊥
  Fits _ _ = Unit {0}

  abbrev pub AllFit : Need → List End → Type 0
  AllFit n es = Every (Fits n) es

  -- an end that fits where anything is needed has a meaning
  one_known : (n : Need) (e : End) → Fits n e → Fits Need.Either e
  one_known n End.Nothing h = h
  one_known n _ h = tt

  pub all_known : (n : Need) (es : List End) → AllFit n es → AllFit Need.Either es
  all_known n [] h = tt
  all_known n (e ∷ es) h = (one_known n e h.0, all_known n es h.1)

  module _ (m : Meanings) where
    name_fits : (x : Name) (s : Sense) (n : Need) (b : Bool) (l : ℕ) → Passes m ks (Uses x s (Use.Alone (place_of n b l))) → Fits n (end_of_name s)
    name_fits x Sense.Unknown n b l h = absurd (let g = h.known in cc)
    name_fits x (Sense.Declared (Entity.Definition d k)) Need.Data b l h = h.kind
    name_fits x _ n b l h = tt

    call_fits : (x : Name) (s : Sense) (k : ℕ) (n : Need) (b : Bool) (l : ℕ) → Passes m ks (Uses x s (Use.Called k (place_of n b l))) → Fits n (end_of_call s)
    call_fits x Sense.Unknown k n b l h = absurd (let g = h.known in cc)
    call_fits x (Sense.Declared (Entity.Definition d j)) k Need.Data b l h = h.kind
    call_fits x (Sense.Declared (Entity.Definition d j)) k _ b l h = tt
    call_fits x _ k n b l h = absurd (let g = h.kind in cc)

    form_fits : (c : Class) (n : Need) (b : Bool) (l : ℕ) → Passes m ks (Form c (place_of n b l)) → Fits n (end_of c)
    form_fits Class.Process Need.Data b l h = absurd (let g = h.kind in cc)
    form_fits _ n b l h = tt

    parallel_fits : (n : Need) (b : Bool) (l : ℕ) → Passes m ks (Parallel (place_of n b l)) → Fits n End.Parallel
    parallel_fits Need.Data b l h = absurd (let g = h.kind in cc)
    parallel_fits _ b l h = tt

    abbrev EndsFit : Tree → Type 0
    EndsFit t = (place : Place) (names : List Name) → AllPass m ks (tree_says m t place names) → AllFit place.need (ends m names t)

    rolled : (d : TreeLayer)
        → ((place : Place) (names : List Name) → AllPass m ks (tree_layer (saying m ks) d place names) → AllFit place.need (tree_layer (ending m names) d))
        → EndsFit (roll-Tree d)
    rolled d h place names pass =
        subst (AllFit place.need) (sym (tree_is (ending m names) d)) (h place names (subst (λ s. AllPass m ks (s place names)) (tree_is (saying m ks) d) pass))

    abbrev Known : {A : Type 0} → (A → Type 0) → Type 0
    Known {A} P = (x : A) × P x

    abbrev Any : {A : Type 0} → A → Type 0
    Any x = Unit {0}

    abbrev bare : Tree-F (Known {A = FieldTree} Any) (Known {A = GenTree} Any) (Known EndsFit) (Known {A = EventTree} Any) (Known {A = PartTree} Any) → TreeLayer
    bare y = map-Tree (Known {A = FieldTree} Any) (Known {A = GenTree} Any) (Known EndsFit) (Known {A = EventTree} Any) (Known {A = PartTree} Any) FieldTree GenTree Tree EventTree PartTree
        (λ e. e.0) (λ e. e.0) (λ e. e.0) (λ e. e.0) (λ e. e.0) y

    layer_fits : (y : Tree-F (Known {A = FieldTree} Any) (Known {A = GenTree} Any) (Known EndsFit) (Known {A = EventTree} Any) (Known {A = PartTree} Any)) → EndsFit (roll-Tree (bare y))
    layer_fits (Tree-F.Name x) = rolled (Tree-F.Name x) (λ place names h. (name_fits x _ place.need place.network place.level h.0, tt))
    layer_fits (Tree-F.Call x items) = rolled (Tree-F.Call x (map (λ e. e.0) items)) (λ place names h. (call_fits x _ _ place.need place.network place.level h.0, tt))
    layer_fits (Tree-F.If c p q) = rolled (Tree-F.If c.0 p.0 q.0) (λ place names h.
        let w = three_parts (Passes m ks) _ _ _ h in
        join (Fits place.need) (ends m names p.0) (ends m names q.0) (p.1 (part_in place) names w.1) (q.1 (part_in place) names w.2))
    layer_fits (Tree-F.Parallel p a b q) =
        rolled (Tree-F.Parallel p.0 a.0 b.0 q.0) (λ place names h. (parallel_fits place.need place.network place.level h.0, tt))
    layer_fits (Tree-F.EachParallel x s a p) =
        rolled (Tree-F.EachParallel x s.0 a.0 p.0) (λ place names h. (parallel_fits place.need place.network place.level h.0, tt))
    layer_fits y = rolled (bare y) (λ place names h. (form_fits _ place.need place.network place.level h.0, tt))

    -- the ends of a tree that passes fit its place
    pub ends_fit : (t : Tree) → EndsFit t
    ends_fit = ind-Tree Any Any EndsFit Any Any (λ z y is. tt) (λ z y is. tt) (λ z y is. subst (λ t. EndsFit (roll-Tree t)) is (layer_fits y)) (λ z y is. tt)
        (λ z y is. tt)
