-- What is known of declarations, and what one says after them.
use Rattle.name_faults.proofs.Prelude.{◌≡◌, ℕ, ◌+◌, ◌<◌, ◌≤◌, Bool, ◌&&◌, Option, Some, None, List, [], ◌∷◌, ◌++◌, length, map, take, drop, get_or, slice_get, slice_index, nat_lt, refl, sym, ap, ◌∙◌, append_assoc, subst, arith, drop_of_length-le, append-nil, map-append, length_push, MOST_DATA_DEPTH, Decl, Tree, kind_class, Name, Meanings, Entities, Counts, channels_from, constants_from, counted, declared_from, is_among, meanings_of, none_yet, tree_says, annotation_says, bodies_from, body_place, counts_of, data_place, decl_says, declared_after, each_after, fault_in, fault_of, first_fault, first_there, is_data, is_deep, name_fault, names_declared, next_definition, parameters_after, too_deep, types_say, with_roles, with_uses, Occurrence, Declares, SameNames, same_names-append, Body, Known, body_of, AreWithin, IsKnown, IsNext, deep_at, defines, fault_after, names_in, nothing_known, says_after, Walked, after, drop_read, take_read, flat_map_push, flat_map, ResolveFault, Kind, fault_from}
use Rattle.script_names.specs.Names.{declares as declares_of}
use Rattle.name_faults.proofs.DepthLemmas.{over_depth}

-- what is said of names after the same ones, and of one more
module _ (says : Name → Bool → Occurrence Name) where
  pub each_same : (xs ys zs : List Name) → SameNames xs ys → each_after says xs zs ≡ each_after says ys zs
  each_same xs ys [] same = refl
  each_same xs ys (z ∷ zs) same = λ i. says z (same z i) ∷ each_same (xs ++ z ∷ []) (ys ++ z ∷ []) zs (same_names-append xs ys (z ∷ []) same) i

  each_push : (before xs : List Name) (x : Name) → each_after says before (xs ++ x ∷ []) ≡ each_after says before xs ++ says x (is_among (before ++ xs) x) ∷ []
  each_push before [] x = ap (λ ys. says x (is_among ys x) ∷ []) (sym (append-nil before))
  each_push before (y ∷ xs) x =
      ap (λ os. says y (is_among before y) ∷ os)
      (each_push (before ++ y ∷ []) xs x
      ∙ ap (λ ys. each_after says (before ++ y ∷ []) xs ++ says x (is_among ys x) ∷ []) (append_assoc before (y ∷ []) xs))

  pub each_step : (start w new : Walked) (before seen : List Name) (i : ℕ) (xs : List Name) (x : Name) → i < length xs → x ≡ get_or xs i x
      → SameNames seen (before ++ take i xs) → w ≡ after start (each_after says before (take i xs)) → new ≡ after w (says x (is_among seen x) ∷ [])
      → new ≡ after start (each_after says before (take (i + 1) xs))
  each_step start w new before seen i xs x within is same so_far now =
      now
      ∙ (λ j. after (so_far j) (says x (same x j) ∷ []))
      ∙ ap (λ os. record start { list = os })
      (append_assoc start.list (each_after says before (take i xs)) (says x (is_among (before ++ take i xs) x) ∷ [])
      ∙ ap (λ os. start.list ++ os) (sym (each_push before (take i xs) x) ∙ ap (each_after says before) (sym (take_read xs i x within is))))

module _ (m : Meanings) (kinds : List Kind) where
  says_is : (earlier : List Decl) (k : Known) (d : Decl) → IsKnown earlier k → says_after m kinds k d ≡ decl_says m kinds earlier d
  says_is earlier k (Decl.Channel xs types) known = ap (λ os. os ++ types_say m types) (each_same Declares k.declared (names_declared earlier) xs known.declared)
  says_is earlier k (Decl.Datatype x ks) known = each_same Declares k.declared (names_declared earlier) (x ∷ ks) known.declared
  says_is earlier k (Decl.Nametype x t) known =
      ap (λ os. os ++ tree_says m t data_place []) (each_same Declares k.declared (names_declared earlier) (x ∷ []) known.declared)
  says_is earlier k (Decl.Define x params t) known =
      ap (λ os. os ++ (parameters_after [] params ++ tree_says m t (body_place (slice_get kinds k.definitions)) params))
      (each_same Declares k.declared (names_declared earlier) (x ∷ []) known.declared)
      ∙ ap (λ n. declared_after (names_declared earlier) (x ∷ []) ++ (parameters_after [] params ++ tree_says m t (body_place (slice_get kinds n)) params)) known.definitions
  says_is earlier k (Decl.Assert t) known = refl
  says_is earlier k (Decl.Roles names) known =
      ap (λ b. annotation_says m b names.process (names.creq ∷ names.cack ∷ names.sreq ∷ names.sack ∷ [])) (known.roles names.process)
  says_is earlier k (Decl.Resource names) known =
      ap (λ b. annotation_says m b names.process (names.acquire ∷ names.release ∷ [])) (known.uses names.process)

-- types of a channel: one more
pub types_step : (m : Meanings) (start w new : Walked) (i : ℕ) (ts : List Tree) (t : Tree) → i < length ts → t ≡ get_or ts i t
    → w ≡ after start (types_say m (take i ts)) → new ≡ after w (tree_says m t data_place []) → new ≡ after start (types_say m (take (i + 1) ts))
types_step m start w new i ts t within is so_far now =
    now
    ∙ ap (λ v. after v (tree_says m t data_place [])) so_far
    ∙ ap (λ os. record start { list = os })
    (append_assoc start.list (types_say m (take i ts)) (tree_says m t data_place [])
    ∙ ap (λ os. start.list ++ os)
    (sym (flat_map_push (λ u. tree_says m u data_place []) (take i ts) t) ∙ ap (types_say m) (sym (take_read ts i t within is))))

-- one more declaration
names_of-append : (es fs : Entities) → map (λ e. e.0) (es ++ fs) ≡ map (λ e. e.0) es ++ map (λ e. e.0) fs
names_of-append = map-append (λ e. e.0)

channel_names : (n fields : ℕ) (xs : List Name) → map (λ e. e.0) (channels_from n fields xs) ≡ xs
channel_names n fields [] = refl
channel_names n fields (x ∷ xs) = ap (λ ys. x ∷ ys) (channel_names (n + 1) fields xs)

constant_names : (n : ℕ) (xs : List Name) → map (λ e. e.0) (constants_from n xs) ≡ xs
constant_names n [] = refl
constant_names n (x ∷ xs) = ap (λ ys. x ∷ ys) (constant_names (n + 1) xs)

names_in_are : (n : Counts) (d : Decl) → map (λ e. e.0) (declares_of n d) ≡ names_in d
names_in_are n (Decl.Channel xs types) = channel_names n.channels (length types) xs
names_in_are n (Decl.Datatype x ks) = ap (λ ys. x ∷ ys) (constant_names n.constants ks)
names_in_are n _ = refl

names_after : (n : Counts) (earlier : List Decl) (d : Decl) → map (λ e. e.0) (declared_from n (earlier ++ d ∷ [])) ≡ map (λ e. e.0) (declared_from n earlier) ++ names_in d
names_after n [] d = names_of-append (declares_of n d) [] ∙ append-nil (map (λ e. e.0) (declares_of n d)) ∙ names_in_are n d
names_after n (e ∷ earlier) d =
    names_of-append (declares_of n e) (declared_from (counted n e) (earlier ++ d ∷ []))
    ∙ ap (λ xs. map (λ e. e.0) (declares_of n e) ++ xs) (names_after (counted n e) earlier d)
    ∙ sym (append_assoc (map (λ e. e.0) (declares_of n e)) (map (λ e. e.0) (declared_from (counted n e) earlier)) (names_in d))
    ∙ ap (λ xs. xs ++ names_in d) (sym (names_of-append (declares_of n e) (declared_from (counted n e) earlier)))

defines_is : (n : Counts) (d : Decl) → (counted n d).definitions ≡ n.definitions + defines d
defines_is n (Decl.Channel xs types) = omega arith
defines_is n _ = omega arith

defined_after : (n : Counts) (earlier : List Decl) (d : Decl) → (counts_of n (earlier ++ d ∷ [])).definitions ≡ (counts_of n earlier).definitions + defines d
defined_after n [] d = defines_is n d
defined_after n (e ∷ earlier) d = defined_after (counted n e) earlier d

-- the same names, with more
more_names : (new old all here whole : List Name) → SameNames new (old ++ here) → SameNames old all → whole ≡ all ++ here → SameNames new whole
more_names new old all here whole now before is x =
    now x ∙ same_names-append old all here before x ∙ ap (λ xs. is_among xs x) (sym is)

pub next_known : (earlier : List Decl) (k new : Known) (d : Decl) (after : Known) → IsKnown earlier k → IsNext k d new
    → after ≡ record new { declarations = new.declarations + 1; definitions = new.definitions + defines d } → IsKnown (earlier ++ d ∷ []) after
next_known earlier k new d after known next is = record {
  declarations = ap (λ (a : Known). a.declarations) is ∙ ap (λ n. n + 1) (next.declarations ∙ known.declarations) ∙ sym (length_push earlier d);
  definitions = ap (λ (a : Known). a.definitions) is ∙ ap (λ n. n + defines d) (next.definitions ∙ known.definitions) ∙ sym (defined_after none_yet earlier d);
  declared = more_names after.declared k.declared (names_declared earlier) (names_in d) (names_declared (earlier ++ d ∷ []))
      (λ x. ap (λ (a : Known). is_among a.declared x) is ∙ next.declared x) known.declared (names_after none_yet earlier d);
  roles = more_names after.roles k.roles (flat_map with_roles earlier) (with_roles d) (flat_map with_roles (earlier ++ d ∷ []))
      (λ x. ap (λ (a : Known). is_among a.roles x) is ∙ next.roles x) known.roles (flat_map_push with_roles earlier d);
  uses = more_names after.uses k.uses (flat_map with_uses earlier) (with_uses d) (flat_map with_uses (earlier ++ d ∷ []))
      (λ x. ap (λ (a : Known). is_among a.uses x) is ∙ next.uses x) known.uses (flat_map_push with_uses earlier d);
}

pub nothing_is_known : (k : Known) → k ≡ nothing_known → IsKnown [] k
nothing_is_known k is = record {
  declarations = ap (λ (a : Known). a.declarations) is;
  definitions = ap (λ (a : Known). a.definitions) is;
  declared = λ x. ap (λ (a : Known). is_among a.declared x) is;
  roles = λ x. ap (λ (a : Known). is_among a.roles x) is;
  uses = λ x. ap (λ (a : Known). is_among a.uses x) is;
}

-- the fault of a declaration
module _ (kinds : List Kind) (bodies : List (List (Occurrence Name))) (depths : List ℕ) (same : (n : ℕ) → is_deep kinds bodies n ≡ nat_lt MOST_DATA_DEPTH (slice_index depths n)) where
  deep_is : (n : ℕ) (d : Decl) → too_deep kinds bodies n d ≡ deep_at kinds depths n d
  deep_is n (Decl.Nametype x t) = same n
  deep_is n (Decl.Define x params t) = ap (λ b. is_data (kind_class (slice_get kinds n)) && b) (same n)
  deep_is n _ = refl

found_first : (f : ResolveFault) (p q : Option ResolveFault) → Some f ≡ p → Some f ≡ first_there (p ∷ q ∷ [])
found_first f p q h = ap (λ o. first_there (o ∷ q ∷ [])) h

only_one : (q : Option ResolveFault) → first_there (q ∷ []) ≡ q
only_one None = refl
only_one (Some f) = refl

none_first : (p q : Option ResolveFault) → None ≡ p → first_there (p ∷ q ∷ []) ≡ q
none_first p q h = ap (λ o. first_there (o ∷ q ∷ [])) (sym h) ∙ only_one q

module _ (script : List Decl) (kinds : List Kind) (m : Meanings) (same : m ≡ meanings_of script) (depths : List ℕ)
    (deep : (n : ℕ) → is_deep kinds (bodies_from (meanings_of script) kinds 0 script) n ≡ nat_lt MOST_DATA_DEPTH (slice_index depths n)) where
  fault_is : (earlier : List Decl) (k : Known) (d : Decl) → IsKnown earlier k → fault_after m kinds depths k d ≡ fault_in script kinds earlier d
  fault_is earlier k d known =
      let says : List (Occurrence Name) = decl_says (meanings_of script) kinds earlier d in
      ap (λ (n : Meanings). fault_after n kinds depths k d) same
      ∙ ap (λ os. fault_of (meanings_of script) kinds k.declarations os (deep_at kinds depths k.definitions d)) (says_is (meanings_of script) kinds earlier k d known)
      ∙ ap (λ i. fault_of (meanings_of script) kinds i says (deep_at kinds depths k.definitions d)) known.declarations
      ∙ ap (λ n. fault_of (meanings_of script) kinds (length earlier) says (deep_at kinds depths n d)) known.definitions
      ∙ ap (fault_of (meanings_of script) kinds (length earlier) says)
      (sym (deep_is kinds (bodies_from (meanings_of script) kinds 0 script) depths deep (next_definition earlier) d))

  -- the declaration has a fault, and none before has
  pub told_here : (i : ℕ) (k : Known) (d : Decl) (o : Option ResolveFault) (f : ResolveFault) (whole : Option ResolveFault) → i < length script → d ≡ get_or script i d → IsKnown (take i script) k
      → fault_from script kinds (take i script) (drop i script) ≡ whole
      → o ≡ Some f → o ≡ fault_after m kinds depths k d → Some f ≡ whole
  unfolding fault_from
  told_here i k d o f whole within is known so_far some found =
      found_first f (fault_in script kinds (take i script) d) (first_fault script kinds (take i script ++ d ∷ []) (drop (i + 1) script))
      (sym some ∙ found ∙ fault_is (take i script) k d known)
      ∙ ap (λ ds. first_fault script kinds (take i script) ds) (sym (drop_read script i d within is))
      ∙ so_far

  -- it has none
  pub passed : (i : ℕ) (k : Known) (d : Decl) (o whole : Option ResolveFault) → i < length script → d ≡ get_or script i d → IsKnown (take i script) k
      → fault_from script kinds (take i script) (drop i script) ≡ whole
      → o ≡ None → o ≡ fault_after m kinds depths k d → fault_from script kinds (take (i + 1) script) (drop (i + 1) script) ≡ whole
  unfolding fault_from
  passed i k d o whole within is known so_far none found =
      ap (λ ds. first_fault script kinds ds (drop (i + 1) script)) (take_read script i d within is)
      ∙ sym (none_first (fault_in script kinds (take i script) d) (first_fault script kinds (take i script ++ d ∷ []) (drop (i + 1) script)) (sym none ∙ found ∙ fault_is (take i script) k d known))
      ∙ ap (λ ds. first_fault script kinds (take i script) ds) (sym (drop_read script i d within is))
      ∙ so_far

-- no declaration is left
pub none_told : (script : List Decl) (kinds : List Kind) (i : ℕ) (whole : Option ResolveFault) → length script ≤ i → fault_from script kinds (take i script) (drop i script) ≡ whole → None ≡ whole
unfolding fault_from
none_told script kinds i whole at_end so_far = ap (λ ds. first_fault script kinds (take i script) ds) (sym (drop_of_length-le script at_end)) ∙ so_far

pub whole_fault : (script : List Decl) (kinds : List Kind) → fault_from script kinds [] script ≡ name_fault script kinds
unfolding fault_from
whole_fault script kinds = refl

-- depths are over the most where those of the definition are
pub deep_so : (script : List Decl) (kinds : List Kind) (m : Meanings) (same : m ≡ meanings_of script) (depths : List ℕ)
    → AreWithin (MOST_DATA_DEPTH + 1) (MOST_DATA_DEPTH + 1) (map body_of (bodies_from m kinds 0 script)) depths
    → (n : ℕ) → is_deep kinds (bodies_from (meanings_of script) kinds 0 script) n ≡ nat_lt MOST_DATA_DEPTH (slice_index depths n)
deep_so script kinds m same depths are n =
    over_depth MOST_DATA_DEPTH (MOST_DATA_DEPTH + 1) (bodies_from (meanings_of script) kinds 0 script) depths n
    (subst (λ (k : Meanings). AreWithin (MOST_DATA_DEPTH + 1) (MOST_DATA_DEPTH + 1) (map body_of (bodies_from k kinds 0 script)) depths) same are)

-- the bodies of a declaration come before those of the declarations after it
one_first : (old : List Body) (b : Body) (after : ℕ → List Body) → (old ++ b ∷ []) ++ after (length (old ++ b ∷ [])) ≡ old ++ b ∷ after (length old + 1)
one_first old b after = append_assoc old (b ∷ []) (after (length (old ++ b ∷ []))) ∙ ap (λ n. old ++ b ∷ after n) (length_push old b)

no_first : (old : List Body) (after : ℕ → List Body) → (old ++ []) ++ after (length (old ++ [])) ≡ old ++ after (length old)
no_first old after = ap (λ bs. bs ++ after (length bs)) (append-nil old)

module _ (m : Meanings) (kinds : List Kind) (rest : List Decl) (old : List Body) where
  abbrev later : ℕ → List Body
  later n = map body_of (bodies_from m kinds n rest)

  abbrev so_far_with : Decl → List Body
  so_far_with d = old ++ map body_of (bodies_from m kinds (length old) (d ∷ []))

  pub bodies_on : (d : Decl) → so_far_with d ++ later (length (so_far_with d)) ≡ old ++ map body_of (bodies_from m kinds (length old) (d ∷ rest))
  bodies_on (Decl.Datatype x ks) = one_first old _ later
  bodies_on (Decl.Nametype x t) = one_first old _ later
  bodies_on (Decl.Define x params t) = one_first old _ later
  bodies_on _ = no_first old later

-- names are known besides: one more
pub names_step : (before seen after : List Name) (i : ℕ) (xs : List Name) (x : Name) → i < length xs → x ≡ get_or xs i x → SameNames after (seen ++ x ∷ [])
    → SameNames seen (before ++ take i xs) → SameNames after (before ++ take (i + 1) xs)
names_step before seen after i xs x within is now same =
    more_names after seen (before ++ take i xs) (x ∷ []) (before ++ take (i + 1) xs) now same
    (ap (λ ys. before ++ ys) (take_read xs i x within is) ∙ sym (append_assoc before (take i xs) (x ∷ [])))
