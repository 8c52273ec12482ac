-- What the definitions of a script are: the class of each, and which of them are network definitions.
use Rattle.std.specs.Prelude.{◌≡◌, ◌↔◌, ◌∷◌, ◌++◌}
use Rattle.script_names.specs.Sources.{Sense, ℕ, IsTrue, Option, Some, None, List, [], length, map, take, slice_get, flat_map, Decl, fold-Tree, Tree-F, Tree, Class, Kind, Entity}
use Rattle.script_names.specs.declared.kinds.End.{End}
use Rattle.script_names.specs.Names.{Name, Meanings, sense_in, meanings_of}

-- the end at a name alone
abbrev pub end_of_name : Sense → End
end_of_name (Sense.Declared (Entity.Definition d n)) = End.Use d
end_of_name Sense.Unknown = End.Nothing
end_of_name _ = End.Data

-- the end at a call: one that names no definition has no meaning
abbrev pub end_of_call : Sense → End
end_of_call (Sense.Declared (Entity.Definition d n)) = End.Use d
end_of_call _ = End.Nothing

module _ (meanings : Meanings) (names : List Name) where
  abbrev pub ends_of_layer : Tree-F (Unit {0}) (Unit {0}) (List End) (Unit {0}) (Unit {0}) → List End
  ends_of_layer (Tree-F.Name x) = end_of_name (sense_in meanings names x) ∷ []
  ends_of_layer (Tree-F.Call f args) = end_of_call (sense_in meanings names f) ∷ []
  ends_of_layer (Tree-F.If c p q) = p ++ q
  ends_of_layer (Tree-F.Parallel p a b q) = End.Parallel ∷ []
  ends_of_layer (Tree-F.EachParallel x s a p) = End.Parallel ∷ []
  ends_of_layer Tree-F.Stop = End.Process ∷ []
  ends_of_layer Tree-F.Skip = End.Process ∷ []
  ends_of_layer (Tree-F.Prefix event p) = End.Process ∷ []
  ends_of_layer (Tree-F.Guard c p) = End.Process ∷ []
  ends_of_layer (Tree-F.External ps) = End.Process ∷ []
  ends_of_layer (Tree-F.Internal ps) = End.Process ∷ []
  ends_of_layer (Tree-F.EachExternal x s p) = End.Process ∷ []
  ends_of_layer (Tree-F.EachInternal x s p) = End.Process ∷ []
  ends_of_layer (Tree-F.Seq p q) = End.Process ∷ []
  ends_of_layer (Tree-F.Hide p s) = End.Process ∷ []
  ends_of_layer (Tree-F.Rename p pairs gens) = End.Process ∷ []
  ends_of_layer _ = End.Data ∷ []

  -- the ends of a body through the parts of its `if`s, in their order, under these bound names
  abbrev pub ends : Tree → List End
  ends = fold-Tree (Unit {0}) (Unit {0}) (List End) (Unit {0}) (Unit {0}) (λ field. tt) (λ gen. tt) ends_of_layer (λ event. tt) (λ part. tt)

-- the ends of each definition's body; nametypes and datatypes are data
abbrev pub body_ends : Meanings → Decl → List (List End)
body_ends meanings (Decl.Define x params t) = ends meanings params t ∷ []
body_ends meanings (Decl.Nametype x t) = (End.Data ∷ []) ∷ []
body_ends meanings (Decl.Datatype x ks) = (End.Data ∷ []) ∷ []
body_ends _ _ = []

abbrev pub script_ends : List Decl → List (List End)
script_ends decls = flat_map (body_ends (meanings_of decls)) decls

abbrev pub ends_at : Option (List End) → List End
ends_at None = []
ends_at (Some es) = es

-- Following ends leads from the definition with the number d to this end: the least set that has each definition with this end, or with a use of one
-- that it has. `all` has the ends of each definition that are followed.
pub data LeadsTo (target : End) (all : List (List End)) : ℕ → Type 0 where
  here : (d k : ℕ) → slice_get (ends_at (slice_get all d)) k ≡ Some target → LeadsTo target all d
  beyond : (d k next : ℕ) → slice_get (ends_at (slice_get all d)) k ≡ Some (End.Use next) → LeadsTo target all next → LeadsTo target all d

-- the class follows the first end of each definition
abbrev pub first_ends : List (List End) → List (List End)
first_ends all = map (λ es. take 1 es) all

-- The class of a definition is data, or nothing, where following it comes to that. Else it ends at a form of a process or runs in a circle, and the
-- class is a process.
abbrev pub HasClass : List (List End) → ℕ → Class → Type 0
HasClass all d Class.Data = LeadsTo End.Data (first_ends all) d
HasClass all d Class.Unknown = LeadsTo End.Nothing (first_ends all) d
HasClass all d Class.Process = (LeadsTo End.Data (first_ends all) d → ⊥) × (LeadsTo End.Nothing (first_ends all) d → ⊥)

-- This is what the definition with the number d is. It is a network definition where some of its ends lead to a parallel.
pub record IsKind (all : List (List End)) (d : ℕ) (kind : Kind) : Type 0 where
  pub class : HasClass all d kind.class
  pub network : IsTrue kind.network ↔ LeadsTo End.Parallel all d

-- this is what definitions with these ends are, one after another
pub record AreKindsOf (all : List (List End)) (kinds : List Kind) : Type 0 where
  pub one_each : length kinds ≡ length all
  pub each : (d : ℕ) (kind : Kind) → slice_get kinds d ≡ Some kind → IsKind all d kind

-- this is what the definitions of the script are
abbrev pub AreKinds : List Decl → List Kind → Type 0
AreKinds decls kinds = AreKindsOf (script_ends decls) kinds
