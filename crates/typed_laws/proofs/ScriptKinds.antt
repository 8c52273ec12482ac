-- In a faultless script each definition is one of data, of a process that is no network, or of a network.
use Rattle.typed_laws.proofs.Sources.{◌≡◌, Every, ℕ, zero, suc, ◌+◌, ◌<◌, ◌≤◌, Bool, true, false, cond, Option, Some, None, List, [], ◌∷◌, ◌++◌, length, refl, sym, ◌∙◌, ap, subst, arith, slice_get, lookup, clashes, kind_class, kind_network, AreKinds, LeadsTo, body_ends, ends, ends_at, script_ends, Counts, Entities, Meanings, Name, channels_from, constants_from, counted, declared_from, meanings_of, none_yet, same_name, tree_says, body_place, counts_of, declared_after, name_fault, names_declared, need_of, next_definition, parameters_after, here, beyond, Class, Decl, End, Entity, Kind, Tree, Need, flat_map}
use Rattle.std.proofs.lemmas.Option.{slice_get_within}
use Rattle.typed_laws.proofs.Classes.{IsClass, has_class, script_known}
use Rattle.typed_laws.proofs.DeclPasses.{EachPasses, counted_on, each_passes}
use Rattle.typed_laws.proofs.Ends.{AllFit, Fits, ends_fit}
use Rattle.typed_laws.proofs.Passing.{AllPass, Passes, data_at, element_at, join, three_parts}
use Rattle.typed_laws.proofs.Declared.{none_more}
use Rattle.typed_laws.proofs.Typable.{no_end}
use Rattle.typed_laws.proofs.Uses.{HaveKinds, KindIs, of_data, of_network, of_process}

pub kind_at : (ks : List Kind) (d : ℕ) → d < length ks → (kind : Kind) × (slice_get ks d ≡ Some kind)
kind_at [] d h = absurd (omega arith)
kind_at (kind ∷ ks) zero h = (kind, refl)
kind_at (kind ∷ ks) (suc d) h = kind_at ks d (omega arith)

one_less : (a b k : ℕ) → a + suc b ≤ k → a + 1 + b ≤ k
one_less a b k h = omega arith

some_less : (a b k : ℕ) → a + suc b ≤ k → a < k
some_less a b k h = omega arith

one_on : (n i : ℕ) → n + 1 + i ≡ n + suc i
one_on n i = omega arith

none_on_le : (d : ℕ) → 0 + d ≤ d
none_on_le d = omega arith

ends_some : (all : List (List End)) (d k : ℕ) (e : End) (o : Option (List End)) → slice_get all d ≡ o → slice_get (ends_at o) k ≡ Some e → d < length all
ends_some all d k e None is h = absurd (cc)
ends_some all d k e (Some es) is h = slice_get_within all d es is

leads_within : {target : End} {all : List (List End)} {d : ℕ} → LeadsTo target all d → d < length all
leads_within {target} {all} (here d k g) = ends_some all d k target (slice_get all d) refl g
leads_within {target} {all} (beyond d k next g l) = ends_some all d k (End.Use next) (slice_get all d) refl g

data_class : (ks : List Kind) (c : Class) → IsClass c → clashes c Need.Data ≡ false → c ≡ Class.Data
data_class ks Class.Data h g = refl
data_class ks Class.Process h g = absurd (cc)
data_class ks Class.Unknown h g = absurd h

kind_cases : (ks : List Kind) (d : ℕ) (c : Class) (b : Bool) → slice_get ks d ≡ Some (record { class = c; network = b }) → IsClass c
    → (c ≡ Class.Data → b ≡ false) → KindIs ks d
kind_cases ks d Class.Data false at h g = of_data at
kind_cases ks d Class.Data true at h g = absurd (let e = g refl in cc)
kind_cases ks d Class.Process false at h g = of_process at
kind_cases ks d Class.Process true at h g = of_network at
kind_cases ks d Class.Unknown b at h g = absurd h

-- ---- numbers of definitions

module _ (bound : ℕ) where
  abbrev Below : Entity → Type 0
  Below (Entity.Definition d n) = d < bound
  Below _ = Unit {0}

  abbrev AllBelow : Entities → Type 0
  AllBelow es = Every (λ (e : Name × Entity). Below e.1) es

  abbrev FoundBelow : Option Entity → Type 0
  FoundBelow None = Unit {0}
  FoundBelow (Some e) = Below e

  channels_below : (n fields : ℕ) (xs : List Name) → AllBelow (channels_from n fields xs)
  channels_below n fields [] = tt
  channels_below n fields (x ∷ xs) = (tt, channels_below (n + 1) fields xs)

  constants_below : (n : ℕ) (xs : List Name) → AllBelow (constants_from n xs)
  constants_below n [] = tt
  constants_below n (x ∷ xs) = (tt, constants_below (n + 1) xs)

  declared_below : (m : Meanings) (n : Counts) (decls : List Decl) → n.definitions + length (flat_map (body_ends m) decls) ≤ bound → AllBelow (declared_from n decls)
  declared_below m n [] h = tt
  declared_below m n (Decl.Channel xs types ∷ decls) h =
      join (λ (e : Name × Entity). Below e.1) (channels_from n.channels (length types) xs) _ (channels_below n.channels (length types) xs) (declared_below m (counted n (Decl.Channel xs types)) decls h)
  declared_below m n (Decl.Datatype x cs ∷ decls) h = (
    tt,
    join (λ (e : Name × Entity). Below e.1) (constants_from n.constants cs) _ (constants_below n.constants cs)
        (declared_below m (counted n (Decl.Datatype x cs)) decls (one_less n.definitions (length (flat_map (body_ends m) decls)) bound h)),
  )
  declared_below m n (Decl.Nametype x t ∷ decls) h =
      (tt, declared_below m (counted n (Decl.Nametype x t)) decls (one_less n.definitions (length (flat_map (body_ends m) decls)) bound h))
  declared_below m n (Decl.Define x params t ∷ decls) h = (
    some_less n.definitions (length (flat_map (body_ends m) decls)) bound h,
    declared_below m (counted n (Decl.Define x params t)) decls (one_less n.definitions (length (flat_map (body_ends m) decls)) bound h),
  )
  declared_below m n (_ ∷ decls) h = declared_below m n decls h

  found_or : (b : Bool) (e : Entity) (rest : Option Entity) → Below e → FoundBelow rest → FoundBelow (cond b (Some e) rest)
  found_or true e rest h g = h
  found_or false e rest h g = g

  found_below : (test : Name → Bool) (es : Entities) → AllBelow es → FoundBelow (lookup test es)
  found_below test [] h = tt
  found_below test (e ∷ es) h = found_or (test e.0) e.1 (lookup test es) h.0 (found_below test es h.1)

-- ---- the ends of data

module _ (script : List Decl) (ks : List Kind) where
  abbrev m : Meanings
  m = meanings_of script

  body_data : (t : Tree) (params : List Name) (c : Class) (network : Bool) → c ≡ Class.Data
      → AllPass m ks (tree_says m t (record { need = need_of c; network = network; level = 1 }) params) → AllFit ks Need.Data (ends m params t)
  body_data t params Class.Data network is h = ends_fit ks m t (data_at network 1) params h
  body_data t params _ network is h = absurd (cc)

  one_less_far : (n i : ℕ) → kind_class (slice_get ks (n + suc i)) ≡ Class.Data → kind_class (slice_get ks (n + 1 + i)) ≡ Class.Data
  one_less_far n i c = ap (λ z. kind_class (slice_get ks z)) (one_on n i) ∙ c

  ends_from : (earlier rest : List Decl) (n : Counts) → counts_of none_yet earlier ≡ n → EachPasses script ks earlier rest → (i : ℕ)
      → kind_class (slice_get ks (n.definitions + i)) ≡ Class.Data → AllFit ks Need.Data (ends_at (slice_get (flat_map (body_ends m) rest) i))
  ends_from earlier [] n is h i c = tt
  ends_from earlier (Decl.Define x params t ∷ rest) n is h zero c =
      let w = three_parts (Passes m ks) (declared_after (names_declared earlier) (x ∷ [])) (parameters_after [] params)
      (tree_says m t (body_place (slice_get ks (next_definition earlier))) params) h.0.passes in
      let same : next_definition earlier ≡ n.definitions + 0 = ap (λ (z : Counts). z.definitions) is ∙ no_end n.definitions in
      body_data t params (kind_class (slice_get ks (next_definition earlier))) (kind_network (slice_get ks (next_definition earlier)))
      (ap (λ z. kind_class (slice_get ks z)) same ∙ c) w.2
  ends_from earlier (Decl.Nametype x t ∷ rest) n is h zero c = (tt, tt)
  ends_from earlier (Decl.Datatype x cs ∷ rest) n is h zero c = (tt, tt)
  ends_from earlier (Decl.Define x params t ∷ rest) n is h (suc i) c =
      ends_from (earlier ++ Decl.Define x params t ∷ []) rest _ (counted_on earlier (Decl.Define x params t) n is) h.1 i (one_less_far n.definitions i c)
  ends_from earlier (Decl.Nametype x t ∷ rest) n is h (suc i) c =
      ends_from (earlier ++ Decl.Nametype x t ∷ []) rest _ (counted_on earlier (Decl.Nametype x t) n is) h.1 i (one_less_far n.definitions i c)
  ends_from earlier (Decl.Datatype x cs ∷ rest) n is h (suc i) c =
      ends_from (earlier ++ Decl.Datatype x cs ∷ []) rest _ (counted_on earlier (Decl.Datatype x cs) n is) h.1 i (one_less_far n.definitions i c)
  ends_from earlier (d ∷ rest) n is h i c = ends_from (earlier ++ d ∷ []) rest (counted n d) (counted_on earlier d n is) h.1 i c

  -- ---- a definition of data is no network

  module _ (are : AreKinds script ks) (none : name_fault script ks ≡ None) where
    abbrev all : List (List End)
    all = script_ends script

    is_class : (d : ℕ) → d < length all → IsClass (kind_class (slice_get ks d))
    is_class d h =
        let one : length ks ≡ length all = are.one_each in
        let found = kind_at ks d (omega (arith, h, one)) in
        subst (λ o. IsClass (kind_class o)) (sym found.1) (has_class ks all d found.0 (script_known ks script [] script (each_passes script ks [] script none)) are found.1)

    ends_of_data : (d : ℕ) → kind_class (slice_get ks d) ≡ Class.Data → AllFit ks Need.Data (ends_at (slice_get all d))
    ends_of_data d c =
        ends_from [] script none_yet refl (each_passes script ks [] script none) d (ap (λ z. kind_class (slice_get ks z)) (none_more d) ∙ c)

    leads_nowhere : {d : ℕ} → LeadsTo End.Parallel all d → kind_class (slice_get ks d) ≡ Class.Data → ⊥
    leads_nowhere (here d k g) c = element_at (Fits ks Need.Data) (ends_at (slice_get all d)) k End.Parallel (ends_of_data d c) g
    leads_nowhere (beyond d k next g l) c =
        leads_nowhere l (data_class ks (kind_class (slice_get ks next)) (is_class next (leads_within l))
        (element_at (Fits ks Need.Data) (ends_at (slice_get all d)) k (End.Use next) (ends_of_data d c) g))

    no_network : (d : ℕ) (kind : Kind) → slice_get ks d ≡ Some kind → kind.class ≡ Class.Data → (b : Bool) → kind.network ≡ b → kind.network ≡ false
    no_network d kind at c true is = absurd (leads_nowhere ((are.each d kind at).network.0 is) (ap kind_class at ∙ c))
    no_network d kind at c false is = is

    pub kind_is : (d : ℕ) → d < length all → KindIs ks d
    kind_is d h =
        let one : length ks ≡ length all = are.one_each in
        let found = kind_at ks d (omega (arith, h, one)) in
        kind_cases ks d found.0.class found.0.network found.1 (subst (λ o. IsClass (kind_class o)) found.1 (is_class d h))
        (λ c. no_network d found.0 found.1 c found.0.network refl)

    pub have_kinds : HaveKinds m ks
    have_kinds = record {
      at = λ x d n h. kind_is d (subst (FoundBelow (length all)) h
          (found_below (length all) (λ y. same_name x y) (declared_from none_yet script) (declared_below (length all) m none_yet script (none_on_le (length all)))));
    }
