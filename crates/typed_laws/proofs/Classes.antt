-- In a faultless script each definition has a class: no end is a name without a meaning, so none leads to one.
use Rattle.typed_laws.proofs.Sources.{◌≡◌, ℕ, zero, suc, Some, List, [], ◌∷◌, ◌++◌, slice_get, flat_map, Every, AreKindsOf, HasClass, LeadsTo, body_ends, ends_at, first_ends, kind_class, meanings_of, need_of, tree_says, body_place, declared_after, names_declared, next_definition, parameters_after, here, beyond, Class, Decl, End, Kind, Need}
use Rattle.typed_laws.proofs.Ends.{AllFit, Fits, all_known, ends_fit}
use Rattle.typed_laws.proofs.DeclPasses.{DeclPasses, EachPasses}
use Rattle.typed_laws.proofs.Passing.{Passes, element_at, join, three_parts}

-- a class that a body has
abbrev pub IsClass : Class → Type 0
IsClass Class.Unknown = ⊥
IsClass _ = Unit {0}

module _ (ks : List Kind) where
  -- each end has a meaning
  abbrev pub EachKnown : List (List End) → Type 0
  EachKnown all = Every (AllFit ks Need.Either) all

  first_known : (all : List (List End)) → EachKnown all → EachKnown (first_ends all)
  first_known [] h = tt
  first_known ([] ∷ all) h = (tt, first_known all h.1)
  first_known ((e ∷ es) ∷ all) h = ((h.0.0, tt), first_known all h.1)

  ends_known : (all : List (List End)) (d : ℕ) → EachKnown all → AllFit ks Need.Either (ends_at (slice_get all d))
  ends_known [] d h = tt
  ends_known (es ∷ all) zero h = h.0
  ends_known (es ∷ all) (suc d) h = ends_known all d h.1

  none_leads : (all : List (List End)) (d : ℕ) → EachKnown all → LeadsTo End.Nothing all d → ⊥
  none_leads all d h (here _ k g) = element_at (Fits ks Need.Either) (ends_at (slice_get all d)) k End.Nothing (ends_known all d h) g
  none_leads all d h (beyond _ k next g l) = none_leads all next h l

  class_of_kind : (all : List (List End)) (d : ℕ) (c : Class) → EachKnown all → HasClass all d c → IsClass c
  class_of_kind all d Class.Unknown h g = none_leads (first_ends all) d (first_known all h) g
  class_of_kind all d _ h g = tt

  -- each definition has a class
  pub has_class : (all : List (List End)) (d : ℕ) (kind : Kind) → EachKnown all → AreKindsOf all ks → slice_get ks d ≡ Some kind → IsClass kind.class
  has_class all d kind h are g = class_of_kind all d kind.class h (are.each d kind g).class

  module _ (script : List Decl) where
    decl_known : (earlier : List Decl) (d : Decl) → DeclPasses script ks earlier d → EachKnown (body_ends (meanings_of script) d)
    decl_known earlier (Decl.Define x params t) h =
        let kind = slice_get ks (next_definition earlier) in
        let w = three_parts (Passes (meanings_of script) ks) (declared_after (names_declared earlier) (x ∷ [])) (parameters_after [] params)
        (tree_says (meanings_of script) t (body_place kind) params) h.passes in
        (all_known ks (need_of (kind_class kind)) _ (ends_fit ks (meanings_of script) t (body_place kind) params w.2), tt)
    decl_known earlier (Decl.Nametype x t) h = ((tt, tt), tt)
    decl_known earlier (Decl.Datatype x cs) h = ((tt, tt), tt)
    decl_known earlier _ h = tt

    pub script_known : (earlier rest : List Decl) → EachPasses script ks earlier rest → EachKnown (flat_map (body_ends (meanings_of script)) rest)
    script_known earlier [] h = tt
    script_known earlier (d ∷ rest) h =
        join (AllFit ks Need.Either) (body_ends (meanings_of script) d) (flat_map (body_ends (meanings_of script)) rest) (decl_known earlier d h.0)
        (script_known (earlier ++ d ∷ []) rest h.1)
