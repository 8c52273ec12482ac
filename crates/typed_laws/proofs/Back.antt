-- Declarations that pass put what the functions give into the program, by the rules of declarations.
use Rattle.typed_laws.proofs.Sources.{◌≡◌, ℕ, suc, ◌+◌, ◌<◌, false, not, ◌&&◌, nat_eq, Option, Some, None, Result, Ok, Err, List, [], ◌∷◌, ◌++◌, length, map, replicate, refl, sym, ◌∙◌, ap, subst, arith, slice_get, flat_map, Outcome, IsShallow, Declares, IsAnnotated, IsEventSet, kind_class, field_sets, body_ends, script_ends, Counts, Meanings, Name, counted, meanings_of, none_yet, sense_in, sense_of, Answer, and_next, channel_sets, told_in, tree_says, names_of, parameters, bodies_from, body_place, counts_of, data_place, declared_after, is_data, is_deep, names_declared, next_definition, parameters_after, types_say, all_say, definition_number, names_of-parameters, Atom, Content, Decl, Entity, Expr, Kind, Place, Tree, Uses, every, Sense, Use}
use Rattle.script_names.specs.Declaring as d
use Rattle.typed_laws.proofs.Declared.{defined_as, given, types_of}
use Rattle.typed_laws.proofs.DeclPasses.{EachPasses, counted_on}
use Rattle.typed_laws.proofs.OnceLaws.{are_parameters}
use Rattle.typed_laws.proofs.Passing.{AllPass, Passes, three_parts, two_parts}
use Rattle.typed_laws.proofs.Typable.{exprs_typed, net_of, typable}
use Rattle.typed_laws.proofs.Uses.{HaveKinds, KindIs, data_kind, process_kind, of_data, of_network, of_process, same_count, when_none}

one_less : (a b k : ℕ) → a + suc b ≡ k → a + 1 + b ≡ k
one_less a b k h = omega arith

some_less : (a b k : ℕ) → a + suc b ≡ k → a < k
some_less a b k h = omega arith

-- the field sets of the channels of declarations; `types_of` reads types
abbrev pub SetsFor : (List Expr → List (List Atom) → Type 0) → (List Tree → List Expr) → List Decl → List (List (List Atom)) → Type 0
SetsFor HasSets types_of [] all = [] ≡ all
SetsFor HasSets types_of (Decl.Channel xs types ∷ decls) all =
    (sets : List (List Atom)) × (others : List (List (List Atom))) × HasSets (types_of types) sets × SetsFor HasSets types_of decls others
    × (replicate (length xs) sets ++ others ≡ all)
SetsFor HasSets types_of (_ ∷ decls) all = SetsFor HasSets types_of decls all

pub ok_is : {A : Type 0} {E : Type 0} {x y : A} → ◌≡◌ {A = Result A E} (Ok x) (Ok y) → x ≡ y
ok_is h = cc

pub record SetsOf {A : Type 0} (k : ℕ) (o : Outcome A) (r : Answer (List A)) (all : List A) : Type 0 where
  pub sets : A
  pub rest : List A
  pub one : o ≡ Ok sets
  pub others : r ≡ Ok rest
  pub is : replicate k sets ++ rest ≡ all

sets_of : {A : Type 0} (i k : ℕ) (o : Outcome A) (r : Answer (List A)) (all : List A)
    → and_next (told_in i o) (λ sets. and_next r (λ rest. Ok (replicate k sets ++ rest))) ≡ Ok all → SetsOf k o r all
sets_of i k (Ok sets) (Ok rest) all h = record { sets = sets; rest = rest; one = refl; others = refl; is = ok_is h }
sets_of i k (Ok sets) (Err f) all h = absurd (cc)
sets_of i k (Err kind) r all h = absurd (cc)

-- the sets that are told
pub sets_for : (whole : Content) (types_of : List Tree → List Expr) (i : ℕ) (decls : List Decl) (all : List (List (List Atom)))
    → channel_sets whole types_of i decls ≡ Ok all → SetsFor (λ types sets. field_sets whole types ≡ Ok sets) types_of decls all
sets_for whole types_of i [] all h = ok_is h
sets_for whole types_of i (Decl.Channel xs types ∷ decls) all h =
    let s = sets_of i (length xs) (field_sets whole (types_of types)) (channel_sets whole types_of (i + 1) decls) all h in
    (s.sets, s.rest, s.one, sets_for whole types_of (i + 1) decls s.rest s.others, s.is)
sets_for whole types_of i (_ ∷ decls) all h = sets_for whole types_of (i + 1) decls all h

-- any sets, where none are asked for
abbrev pub any_sets : List Decl → List (List (List Atom))
any_sets [] = []
any_sets (Decl.Channel xs types ∷ decls) = replicate (length xs) [] ++ any_sets decls
any_sets (_ ∷ decls) = any_sets decls

pub sets_for_any : (types_of : List Tree → List Expr) (decls : List Decl) → SetsFor (λ types sets. Unit {0}) types_of decls (any_sets decls)
sets_for_any types_of [] = refl
sets_for_any types_of (Decl.Channel xs types ∷ decls) = ([], any_sets decls, tt, sets_for_any types_of decls, refl)
sets_for_any types_of (_ ∷ decls) = sets_for_any types_of decls

-- the types of a channel, as a list of trees
pub types_are : (m : Meanings) (types : List Tree) → types_say m types ≡ all_say (map (tree_says m) types) data_place []
types_are m [] = refl
types_are m (a ∷ types) = ap (λ os. tree_says m a data_place [] ++ os) (types_are m types)

-- ---- annotations

module _ (m : Meanings) (ks : List Kind) where
  pub record Annotated (x : Name) (e : Option Entity) : Type 0 where
    pub params : ℕ
    pub is : e ≡ Some (Entity.Definition (definition_number e) params)
    pub holds : IsAnnotated m ks x (definition_number e) params

  annotated : HaveKinds m ks → (x : Name) (e : Option Entity) → m x ≡ e → Passes m ks (Uses x (sense_of e) Use.Annotated) → Annotated x e
  annotated kinds x None is h = absurd (let g = h.known in cc)
  annotated kinds x (Some (Entity.Definition n k)) is h =
      let w = process_kind (kinds.at x n k is) h.kind in
      record { params = k; is = refl; holds = record { means = is; network = w.0; process = w.1 } }
  annotated kinds x _ is h = absurd (let g = h.kind in cc)

  event_set_entity : HaveKinds m ks → (y : Name) (e : Option Entity) (n k : ℕ) → m y ≡ e
      → Passes m ks (Uses y (sense_of e) (Use.Annotates (Sense.Declared (Entity.Definition n k)))) → IsEventSet m ks y (definition_number e) k
  event_set_entity kinds y None n k is h = absurd (let g = h.known in cc)
  event_set_entity kinds y (Some (Entity.Definition n' k')) n k is h =
      let same : k' ≡ k = same_count k' k (when_none (not (nat_eq k' k)) y h.count) in
      record { means = is ∙ ap (λ z. Some (Entity.Definition n' z)) same; set = data_kind (kinds.at y n' k' is) h.kind }
  event_set_entity kinds y _ n k is h = absurd (let g = h.kind in cc)

  event_set : HaveKinds m ks → (x y : Name) (a : Annotated x (m x)) → Passes m ks (Uses y (sense_in m [] y) (Use.Annotates (sense_in m [] x)))
      → IsEventSet m ks y (definition_number (m y)) a.params
  event_set kinds x y a h =
      event_set_entity kinds y (m y) (definition_number (m x)) a.params refl
      (subst (λ z. Passes m ks (Uses y (sense_of (m y)) (Use.Annotates (sense_of z)))) a.is h)

-- ---- one declaration after another

module _ (script : List Decl) (ks : List Kind) (kinds : HaveKinds (meanings_of script) ks)
    (known : (n : ℕ) → n < length (script_ends script) → KindIs ks n) (whole : Content)
    (HasSets : List Expr → List (List Atom) → Type 0)
    (shallow : (n : ℕ) → is_deep ks (bodies_from (meanings_of script) ks 0 script) n ≡ false → IsShallow whole n) where
  abbrev m : Meanings
  m = meanings_of script

  number_of_next : (earlier : List Decl) (n : Counts) → counts_of none_yet earlier ≡ n → next_definition earlier ≡ n.definitions
  number_of_next earlier n is = ap (λ (z : Counts). z.definitions) is

  -- what is declared from here on, where the next definition has this kind
  abbrev Defines : Counts → Name → List Name → Tree → List Decl → List (List (List Atom)) → Option Kind → Type 0
  Defines n x params a rest all o =
      AllPass m ks (tree_says m a (body_place o) params) → (is_data (kind_class o) && is_deep ks (bodies_from m ks 0 script) n.definitions) ≡ false
      → Declares m ks whole HasSets n (Decl.Define x params a ∷ rest) (defined_as m ks x params a (given m ks (counted n (Decl.Define x params a)) rest) o) all

  at_params : (a : Tree) (params : List Name) (place : Place) → AllPass m ks (tree_says m a place params)
      → AllPass m ks (tree_says m a place (names_of (parameters 0 params)))
  at_params a params place h = subst (λ z. AllPass m ks (tree_says m a place z)) (sym (names_of-parameters 0 params)) h

  defined : (n : Counts) (x : Name) (params : List Name) (a : Tree) (rest : List Decl) (all : List (List (List Atom))) → KindIs ks n.definitions
      → AllPass m ks (parameters_after [] params)
      → Declares m ks whole HasSets (counted n (Decl.Define x params a)) rest (given m ks (counted n (Decl.Define x params a)) rest) all
      → Defines n x params a rest all (slice_get ks n.definitions)
  defined n x params a rest all (of_data at) ps h = subst (Defines n x params a rest all) (sym at) (λ body deep.
      d.data_definition (are_parameters m ks params ps) at
      ((typable m ks kinds a).expr (parameters 0 params) (length params) false 1 (at_params a params _ body)) (shallow n.definitions deep) h)
  defined n x params a rest all (of_process at) ps h = subst (Defines n x params a rest all) (sym at) (λ body deep.
      d.process_definition (are_parameters m ks params ps) at
      ((typable m ks kinds a).proc (parameters 0 params) (length params) false 1 refl (at_params a params _ body)) h)
  defined n x params a rest all (of_network at) ps h = subst (Defines n x params a rest all) (sym at) (λ body deep.
      d.network_definition (are_parameters m ks params ps) at
      (net_of m ks kinds (typable m ks kinds a) (parameters 0 params) (length params) 1 (at_params a params _ body)) h)

  pub declares : (earlier rest : List Decl) (n : Counts) (all : List (List (List Atom))) → counts_of none_yet earlier ≡ n
      → n.definitions + length (flat_map (body_ends m) rest) ≡ length (script_ends script) → EachPasses script ks earlier rest
      → SetsFor HasSets (types_of m ks) rest all → Declares m ks whole HasSets n rest (given m ks n rest) all
  declares earlier [] n all is fits h found = subst (Declares m ks whole HasSets n [] (given m ks n [])) found d.nothing
  declares earlier (Decl.Channel xs types ∷ rest) n all is fits h found =
      let w = two_parts (Passes m ks) (declared_after (names_declared earlier) xs) (types_say m types) h.0.passes in
      subst (Declares m ks whole HasSets n (Decl.Channel xs types ∷ rest) (given m ks n (Decl.Channel xs types ∷ rest))) found.4
      (d.channels
      (exprs_typed m ks kinds types (every _ (typable m ks kinds) types) [] 0 false 1 (subst (AllPass m ks) (types_are m types) w.1)) found.2
      (declares (earlier ++ Decl.Channel xs types ∷ []) rest _ found.1 (counted_on earlier (Decl.Channel xs types) n is) fits h.1 found.3))
  declares earlier (Decl.Datatype x cs ∷ rest) n all is fits h found =
      d.datatype (declares (earlier ++ Decl.Datatype x cs ∷ []) rest _ all (counted_on earlier (Decl.Datatype x cs) n is) (one_less _ _ _ fits) h.1 found)
  declares earlier (Decl.Nametype x a ∷ rest) n all is fits h found =
      let w = two_parts (Passes m ks) (declared_after (names_declared earlier) (x ∷ [])) (tree_says m a data_place []) h.0.passes in
      d.nametype ((typable m ks kinds a).expr [] 0 false 1 w.1)
      (shallow n.definitions (subst (λ z. is_deep ks (bodies_from m ks 0 script) z ≡ false) (number_of_next earlier n is) h.0.shallow))
      (declares (earlier ++ Decl.Nametype x a ∷ []) rest _ all (counted_on earlier (Decl.Nametype x a) n is) (one_less _ _ _ fits) h.1 found)
  declares earlier (Decl.Define x params a ∷ rest) n all is fits h found =
      let w = three_parts (Passes m ks) (declared_after (names_declared earlier) (x ∷ [])) (parameters_after [] params)
      (tree_says m a (body_place (slice_get ks (next_definition earlier))) params) h.0.passes in
      let at = number_of_next earlier n is in
      defined n x params a rest all (known n.definitions (some_less _ _ _ fits)) w.1
      (declares (earlier ++ Decl.Define x params a ∷ []) rest _ all (counted_on earlier (Decl.Define x params a) n is) (one_less _ _ _ fits) h.1 found)
      (subst (λ z. AllPass m ks (tree_says m a (body_place (slice_get ks z)) params)) at w.2)
      (subst (λ z. (is_data (kind_class (slice_get ks z)) && is_deep ks (bodies_from m ks 0 script) z) ≡ false) at h.0.shallow)
  declares earlier (Decl.Assert a ∷ rest) n all is fits h found =
      d.assertion (net_of m ks kinds (typable m ks kinds a) [] 0 1 h.0.passes) (declares (earlier ++ Decl.Assert a ∷ []) rest n all (counted_on earlier (Decl.Assert a) n is) fits h.1 found)
  declares earlier (Decl.Roles names ∷ rest) n all is fits h found =
      let w = h.0.passes in
      let a = annotated m ks kinds names.process (m names.process) refl w.1.0 in
      d.roles a.holds (event_set m ks kinds names.process names.creq a w.1.1.0) (event_set m ks kinds names.process names.cack a w.1.1.1.0)
      (event_set m ks kinds names.process names.sreq a w.1.1.1.1.0) (event_set m ks kinds names.process names.sack a w.1.1.1.1.1.0)
      (declares (earlier ++ Decl.Roles names ∷ []) rest n all (counted_on earlier (Decl.Roles names) n is) fits h.1 found)
  declares earlier (Decl.Resource names ∷ rest) n all is fits h found =
      let w = h.0.passes in
      let a = annotated m ks kinds names.process (m names.process) refl w.1.0 in
      d.resource a.holds (event_set m ks kinds names.process names.acquire a w.1.1.0) (event_set m ks kinds names.process names.release a w.1.1.1.0)
      (declares (earlier ++ Decl.Resource names ∷ []) rest n all (counted_on earlier (Decl.Resource names) n is) fits h.1 found)
