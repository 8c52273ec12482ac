-- No fault of declarations is told exactly where all that they say passes and no definition of data is too deep.
use Rattle.typed_laws.proofs.Sources.{◌≡◌, ℕ, Bool, true, false, ◌||◌, Option, Some, None, List, [], ◌∷◌, ◌++◌, length, map, refl, ◌∙◌, ap, option_map, list_any, or_first_false, or_second_false, ResolveFault, unknown_name, repeated_name, is_wrong_kind, wrong_count, is_inside, Counts, Meanings, Name, counted, meanings_of, none_yet, bodies_from, counts_of, decl_says, fault_in, fault_of, first_fault, first_name, first_there, next_definition, too_deep, when_any, Decl, Kind, Occurrence}
use Rattle.typed_laws.proofs.Passing.{AllPass, Passes}

-- the counts after one declaration more
counts_append : (n : Counts) (earlier : List Decl) (d : Decl) → counts_of n (earlier ++ d ∷ []) ≡ counted (counts_of n earlier) d
counts_append n [] d = refl
counts_append n (e ∷ earlier) d = counts_append (counted n e) earlier d

pub counted_on : (earlier : List Decl) (d : Decl) (n : Counts) → counts_of none_yet earlier ≡ n → counts_of none_yet (earlier ++ d ∷ []) ≡ counted n d
counted_on earlier d n is = counts_append none_yet earlier d ∙ ap (λ z. counted z d) is

-- ---- no fault is told where each of the tests fails, and only there

none_parts : {A : Type 0} (o : Option A) (os : List (Option A)) → first_there (o ∷ os) ≡ None → (o ≡ None) × (first_there os ≡ None)
none_parts None os h = (refl, h)
none_parts (Some a) os h = absurd (cc)

first_is : {A : Type 0} (o : Option A) (os : List (Option A)) → o ≡ None → first_there os ≡ None → first_there (o ∷ os) ≡ None
first_is None os h g = g
first_is (Some a) os h g = absurd (cc)

pub or_is : (a b : Bool) → a ≡ false → b ≡ false → (a || b) ≡ false
or_is false b h g = g
or_is true b h g = absurd (cc)

none_of_map : {A B : Type 0} (f : A → B) (o : Option A) → option_map f o ≡ None → o ≡ None
none_of_map f None h = refl
none_of_map f (Some a) h = absurd (cc)

none_of_when : (b : Bool) (f : ResolveFault) → when_any b f ≡ None → b ≡ false
none_of_when true f h = absurd (cc)
none_of_when false f h = refl

module _ (m : Meanings) (ks : List Kind) where
  no_name : (test : Occurrence Name → Option Name) → ((o : Occurrence Name) → Passes m ks o → test o ≡ None) → (os : List (Occurrence Name)) → AllPass m ks os
      → first_name test os ≡ None
  no_name test f [] h = refl
  no_name test f (o ∷ os) h = first_is (test o) (map test os) (f o h.0) (no_name test f os h.1)

  none_any : (test : Occurrence Name → Bool) → ((o : Occurrence Name) → Passes m ks o → test o ≡ false) → (os : List (Occurrence Name)) → AllPass m ks os
      → list_any test os ≡ false
  none_any test f [] h = refl
  none_any test f (o ∷ os) h = or_is (test o) (list_any test os) (f o h.0) (none_any test f os h.1)

  all_pass : (os : List (Occurrence Name)) → first_name unknown_name os ≡ None → first_name (repeated_name m) os ≡ None
      → list_any (is_wrong_kind ks) os ≡ false → first_name wrong_count os ≡ None → list_any (is_inside ks) os ≡ false → AllPass m ks os
  all_pass [] known once kind count inside = tt
  all_pass (o ∷ os) known once kind count inside =
      let u = none_parts (unknown_name o) (map unknown_name os) known in
      let r = none_parts (repeated_name m o) (map (repeated_name m) os) once in
      let c = none_parts (wrong_count o) (map wrong_count os) count in (
        record {
          known = u.0;
          once = r.0;
          kind = or_first_false (is_wrong_kind ks o) (list_any (is_wrong_kind ks) os) kind;
          count = c.0;
          inside = or_first_false (is_inside ks o) (list_any (is_inside ks) os) inside;
        },
        all_pass os u.1 r.1 (or_second_false (is_wrong_kind ks o) (list_any (is_wrong_kind ks) os) kind) c.1
            (or_second_false (is_inside ks o) (list_any (is_inside ks) os) inside),
      )

-- what is said of a declaration passes, and it is no definition of data that is too deep
pub record AreFaultless (m : Meanings) (ks : List Kind) (os : List (Occurrence Name)) (deep : Bool) : Type 0 where
  pub passes : AllPass m ks os
  pub shallow : deep ≡ false

module _ (script : List Decl) (ks : List Kind) where
  abbrev m : Meanings
  m = meanings_of script

  passes_none : (i : ℕ) (os : List (Occurrence Name)) (deep : Bool) → AllPass m ks os → deep ≡ false → fault_of m ks i os deep ≡ None
  passes_none i os deep h shallow j = first_there (
      option_map (λ x. ResolveFault.Unknown i x) (no_name m ks unknown_name (λ o p. p.known) os h j)
      ∷ option_map (λ x. ResolveFault.Twice i x) (no_name m ks (repeated_name m) (λ o p. p.once) os h j)
      ∷ when_any (none_any m ks (is_wrong_kind ks) (λ o p. p.kind) os h j) (ResolveFault.WrongKind i)
      ∷ option_map (λ x. ResolveFault.WrongCount i x) (no_name m ks wrong_count (λ o p. p.count) os h j)
      ∷ when_any (none_any m ks (is_inside ks) (λ o p. p.inside) os h j) (ResolveFault.ParallelInside i)
      ∷ when_any (shallow j) (ResolveFault.DataDepth i)
      ∷ [])

  -- the six cases of a declaration, one after another
  passes_of_none : (i : ℕ) (os : List (Occurrence Name)) (deep : Bool) → fault_of m ks i os deep ≡ None → AreFaultless m ks os deep
  passes_of_none i os deep h =
      let a = none_parts (option_map (λ x. ResolveFault.Unknown i x) (first_name unknown_name os)) _ h in
      let b = none_parts (option_map (λ x. ResolveFault.Twice i x) (first_name (repeated_name m) os)) _ a.1 in
      let c = none_parts (when_any (list_any (is_wrong_kind ks) os) (ResolveFault.WrongKind i)) _ b.1 in
      let d = none_parts (option_map (λ x. ResolveFault.WrongCount i x) (first_name wrong_count os)) _ c.1 in
      let e = none_parts (when_any (list_any (is_inside ks) os) (ResolveFault.ParallelInside i)) _ d.1 in
      let f = none_parts (when_any deep (ResolveFault.DataDepth i)) [] e.1 in
      record {
        passes = all_pass m ks os (none_of_map (λ x. ResolveFault.Unknown i x) (first_name unknown_name os) a.0)
            (none_of_map (λ x. ResolveFault.Twice i x) (first_name (repeated_name m) os) b.0)
            (none_of_when (list_any (is_wrong_kind ks) os) (ResolveFault.WrongKind i) c.0)
            (none_of_map (λ x. ResolveFault.WrongCount i x) (first_name wrong_count os) d.0)
            (none_of_when (list_any (is_inside ks) os) (ResolveFault.ParallelInside i) e.0);
        shallow = none_of_when deep (ResolveFault.DataDepth i) f.0;
      }

  -- what is known of a declaration that stands after these others, where no fault of it is told
  abbrev pub DeclPasses : List Decl → Decl → Type 0
  DeclPasses earlier d = AreFaultless m ks (decl_says m ks earlier d) (too_deep ks (bodies_from m ks 0 script) (next_definition earlier) d)

  -- each of these passes that stand after those others
  abbrev pub EachPasses : List Decl → List Decl → Type 0
  EachPasses earlier [] = Unit {0}
  EachPasses earlier (d ∷ rest) = DeclPasses earlier d × EachPasses (earlier ++ d ∷ []) rest

  pub each_passes : (earlier rest : List Decl) → first_fault script ks earlier rest ≡ None → EachPasses earlier rest
  each_passes earlier [] h = tt
  each_passes earlier (d ∷ rest) h =
      let w = none_parts (fault_in script ks earlier d) (first_fault script ks (earlier ++ d ∷ []) rest ∷ []) h in
      (passes_of_none (length earlier) (decl_says m ks earlier d) (too_deep ks (bodies_from m ks 0 script) (next_definition earlier) d) w.0, each_passes (earlier ++ d ∷ []) rest (none_parts (first_fault script ks (earlier ++ d ∷ []) rest) [] w.1).0)

  pub no_fault : (earlier rest : List Decl) → EachPasses earlier rest → first_fault script ks earlier rest ≡ None
  no_fault earlier [] h = refl
  no_fault earlier (d ∷ rest) h =
      first_is (fault_in script ks earlier d) (first_fault script ks (earlier ++ d ∷ []) rest ∷ [])
      (passes_none (length earlier) (decl_says m ks earlier d) (too_deep ks (bodies_from m ks 0 script) (next_definition earlier) d) h.0.passes h.0.shallow)
      (first_is (first_fault script ks (earlier ++ d ∷ []) rest) [] (no_fault (earlier ++ d ∷ []) rest h.1) refl)
