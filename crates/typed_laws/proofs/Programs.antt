-- A script has a program by the rules of typing exactly where the functions give it.
use Rattle.typed_laws.proofs.Sources.{◌≡◌, ℕ, zero, suc, ◌+◌, ◌≤◌, Bool, true, false, nat_le, nat_lt, IsTrue, Option, Some, None, Ok, Err, List, [], ◌∷◌, ◌++◌, length, refl, sym, ◌∙◌, ap, subst, arith, if◌then◌else◌, slice_get, flat_map, StandsIn, first_assertion, plain_content, IsShallow, definition_depth, Declares, nothing_yet, depth_within, field_sets, AreKinds, script_ends, Meanings, Name, is_among, meanings_of, names_declared, none_yet, AreOnce, with_roles, with_uses, IsProgram, all_events, with_events, with_sets, Answer, and_next, channel_sets, resolved, types_of, with_names, with_root, with_table, bodies_from, declared_after, is_deep, name_fault, types_say, decl_says, Atom, Content, Decl, Expr, Kind, MOST_DATA_DEPTH, MOST_EVENTS, ResolveFault, Script, Tree}
use Rattle.typed_laws.proofs.Back.{SetsFor, any_sets, declares, sets_for, sets_for_any}
use Rattle.typed_laws.proofs.Declared.{bodies_are, content_is, depths_agree, none_more, sets_are}
use Rattle.typed_laws.proofs.DeclPasses.{EachPasses, each_passes, no_fault}
use Rattle.typed_laws.proofs.Forward.{passes_each}
use Rattle.typed_laws.proofs.Uses.{when_none}
use Rattle.typed_laws.proofs.OnceLaws.{AllFresh, FreshFrom, are_once, declared_fresh, names_are, names_of_decl, once_all}
use Rattle.typed_laws.proofs.Passing.{AllPass, Passes, two_parts}
use Rattle.typed_laws.proofs.ScriptKinds.{have_kinds, kind_is}

no_depth : (limit : ℕ) → 0 ≤ limit
no_depth limit = omega arith

at_most : (limit n : ℕ) → IsTrue (nat_le n limit) → n ≤ limit
at_most limit n h = grind arith

-- a depth that is not above the limit
not_above : (limit a b : ℕ) → a ≡ b → nat_lt limit a ≡ false → b ≤ limit
not_above limit a b e h = grind arith

module _ (script : List Decl) (ks : List Kind) where
  abbrev m : Meanings
  m = meanings_of script

  fresh_names : (earlier : List Decl) (xs : List Name) → AllPass m ks (declared_after (names_declared earlier) xs) → FreshFrom (flat_map names_of_decl earlier) xs
  fresh_names earlier xs h = subst (λ z. FreshFrom z xs) (names_are earlier) (declared_fresh m ks (names_declared earlier) xs h)

  decl_fresh : (earlier : List Decl) (d : Decl) → AllPass m ks (decl_says m ks earlier d)
      → FreshFrom (flat_map names_of_decl earlier) (names_of_decl d) × FreshFrom (flat_map with_roles earlier) (with_roles d) × FreshFrom (flat_map with_uses earlier) (with_uses d)
  decl_fresh earlier (Decl.Channel xs types) h = (fresh_names earlier xs (two_parts (Passes m ks) (declared_after (names_declared earlier) xs) (types_say m types) h).0, tt, tt)
  decl_fresh earlier (Decl.Datatype x cs) h = (fresh_names earlier (x ∷ cs) h, tt, tt)
  decl_fresh earlier (Decl.Nametype x a) h = (fresh_names earlier (x ∷ []) (two_parts (Passes m ks) (declared_after (names_declared earlier) (x ∷ [])) _ h).0, tt, tt)
  decl_fresh earlier (Decl.Define x params a) h = (fresh_names earlier (x ∷ []) (two_parts (Passes m ks) (declared_after (names_declared earlier) (x ∷ [])) _ h).0, tt, tt)
  decl_fresh earlier (Decl.Assert a) h = (tt, tt, tt)
  decl_fresh earlier (Decl.Roles names) h = (tt, (when_none (is_among (flat_map with_roles earlier) names.process) names.process h.0.once, tt), tt)
  decl_fresh earlier (Decl.Resource names) h = (tt, tt, (when_none (is_among (flat_map with_uses earlier) names.process) names.process h.0.once, tt))

  each_fresh : (earlier rest : List Decl) → EachPasses script ks earlier rest → AllFresh earlier rest
  each_fresh earlier [] h = record { names = tt; roles = tt; uses = tt }
  each_fresh earlier (d ∷ rest) h =
      let w = decl_fresh earlier d h.0.passes in
      let v = each_fresh (earlier ++ d ∷ []) rest h.1 in
      record { names = (w.0, v.names); roles = (w.1, v.roles); uses = (w.2, v.uses) }

  abbrev plain : Content
  plain = plain_content script ks

  module _ (are : AreKinds script ks) (none : name_fault script ks ≡ None) where
    abbrev passes : EachPasses script ks [] script
    passes = each_passes script ks [] script none

    pub once : AreOnce script
    once = are_once script (each_fresh [] script passes)

    -- what is put in where no definition is too deep, because none is there
    pub first : Declares m ks nothing_yet (λ types sets. Unit {0}) none_yet script plain (any_sets script)
    first = declares script ks (have_kinds script ks are none) (kind_is script ks are none) nothing_yet (λ types sets. Unit {0})
        (λ n deep. no_depth MOST_DATA_DEPTH) [] script none_yet (any_sets script) refl (none_more (length (script_ends script))) passes
        (sets_for_any (types_of script ks) script)

    pub shallow : (n : ℕ) → is_deep ks (bodies_from m ks 0 script) n ≡ false → IsShallow plain n
    shallow n h =
        not_above MOST_DATA_DEPTH (depth_within (MOST_DATA_DEPTH + 1) (bodies_from m ks 0 script) n) (definition_depth (MOST_DATA_DEPTH + 1) plain.defs n)
        (depths_agree (bodies_from m ks 0 script) plain.defs (bodies_are m ks first) (MOST_DATA_DEPTH + 1) n) h

    -- the declarations of a faultless script put the plain content into the program
    pub puts : (HasSets : List Expr → List (List Atom) → Type 0) (all : List (List (List Atom))) → SetsFor HasSets (types_of script ks) script all
        → Declares m ks plain HasSets none_yet script plain all
    puts HasSets all found =
        declares script ks (have_kinds script ks are none) (kind_is script ks are none) plain HasSets shallow [] script none_yet all refl
        (none_more (length (script_ends script))) passes found

-- ---- the answer

asserted : (decls : List Decl) (a : Tree) → first_assertion decls ≡ Some a → StandsIn decls (Decl.Assert a)
asserted [] a h = absurd (cc)
asserted (Decl.Assert b ∷ decls) a h = let e : b ≡ a = cc in (0, ap (λ z. Some (Decl.Assert z)) e)
asserted (_ ∷ decls) a h = let w = asserted decls a h in (suc w.0, w.1)

-- the parts of an answer that is a program
pub record Parts (script : List Decl) (ks : List Kind) (p : Content) : Type 0 where
  pub root : Tree
  pub asserted : first_assertion script ≡ Some root
  pub none : name_fault script ks ≡ None
  pub sets : List (List (List Atom))
  pub found : channel_sets (plain_content script ks) (types_of script ks) 0 script ≡ Ok sets
  pub few : all_events sets ≤ MOST_EVENTS
  pub is : p ≡ with_events (plain_content script ks) (with_sets 0 (plain_content script ks).channels sets)

if_few : (b : Bool) (q p : Content) (f : ResolveFault) → (if b then Ok q else Err f) ≡ Ok p → IsTrue b × (p ≡ q)
if_few true q p f h = (refl, cc)
if_few false q p f h = absurd (cc)

module _ (script : List Decl) (ks : List Kind) (p : Content) where
  tabled : (root : Tree) → first_assertion script ≡ Some root → name_fault script ks ≡ None → (o : Answer (List (List (List Atom))))
      → channel_sets (plain_content script ks) (types_of script ks) 0 script ≡ o → and_next o (λ all. with_table (plain_content script ks) all) ≡ Ok p
      → Parts script ks p
  tabled root at none (Ok sets) found h =
      let w = if_few (nat_le (all_events sets) MOST_EVENTS) (with_events (plain_content script ks) (with_sets 0 (plain_content script ks).channels sets)) p _ h in
      record { root = root; asserted = at; none = none; sets = sets; found = found; few = at_most MOST_EVENTS (all_events sets) w.0; is = w.1 }
  tabled root at none (Err f) found h = absurd (cc)

  named : (root : Tree) → first_assertion script ≡ Some root → (o : Option ResolveFault) → name_fault script ks ≡ o → with_names script ks o ≡ Ok p → Parts script ks p
  named root at (Some f) none h = absurd (cc)
  named root at None none h = tabled root at none (channel_sets (plain_content script ks) (types_of script ks) 0 script) refl h

  rooted : (o : Option Tree) → first_assertion script ≡ o → with_root script ks o ≡ Ok p → Parts script ks p
  rooted None at h = absurd (cc)
  rooted (Some root) at h = named root at (name_fault script ks) refl h

  pub parts : resolved script ks ≡ Ok p → Parts script ks p
  parts h = rooted (first_assertion script) refl h

pub faultless_is_program : (script : Script) (ks : List Kind) (p : Content) → AreKinds script.decls ks → resolved script.decls ks ≡ Ok p → IsProgram script p
faultless_is_program script ks p are h =
    let w = parts script.decls ks p h in
    record {
      kinds = ks;
      are = are;
      asserted = (w.root, asserted script.decls w.root w.asserted);
      once = once script.decls ks are w.none;
      plain = plain_content script.decls ks;
      sets = w.sets;
      declared = puts script.decls ks are w.none (λ types sets. field_sets (plain_content script.decls ks) types ≡ Ok sets) w.sets
          (sets_for (plain_content script.decls ks) (types_of script.decls ks) 0 script.decls w.sets w.found);
      few = w.few;
      is = w.is;
    }

-- ---- back

some_asserted : (decls : List Decl) (k : ℕ) (a : Tree) → slice_get decls k ≡ Some (Decl.Assert a) → (b : Tree) × (first_assertion decls ≡ Some b)
some_asserted [] k a h = absurd (cc)
some_asserted (Decl.Assert b ∷ decls) k a h = (b, refl)
some_asserted (_ ∷ decls) zero a h = absurd (cc)
some_asserted (_ ∷ decls) (suc k) a h = some_asserted decls k a h

if_true : (b : Bool) (x y : Answer Content) → b ≡ true → (if b then x else y) ≡ x
if_true b x y h = ap (λ z. if z then x else y) h

few_events : (limit n : ℕ) → n ≤ limit → nat_le n limit ≡ true
few_events limit n h = grind arith

not_deep : (limit a b : ℕ) → a ≡ b → b ≤ limit → nat_lt limit a ≡ false
not_deep limit a b e h = grind arith

module _ (script : Script) (p : Content) (h : IsProgram script p) where
  abbrev decls : List Decl
  decls = script.decls

  faultless : name_fault decls h.kinds ≡ None
  faultless = no_fault decls h.kinds [] decls (passes_each decls h.kinds h.declared [] refl (once_all decls h.once)
      (λ i low. not_deep MOST_DATA_DEPTH (depth_within (MOST_DATA_DEPTH + 1) (bodies_from (meanings_of decls) h.kinds 0 decls) i)
      (definition_depth (MOST_DATA_DEPTH + 1) h.plain.defs i)
      (depths_agree (bodies_from (meanings_of decls) h.kinds 0 decls) h.plain.defs (bodies_are (meanings_of decls) h.kinds h.declared) (MOST_DATA_DEPTH + 1) i) low))

  same_content : plain_content decls h.kinds ≡ h.plain
  same_content = content_is (meanings_of decls) h.kinds h.declared

  abbrev tail : Content → Answer Content
  tail q = and_next (channel_sets q (types_of decls h.kinds) 0 decls) (λ all. with_table q all)

  pub program_resolves : resolved decls h.kinds ≡ Ok p
  program_resolves =
      let root = some_asserted decls h.asserted.1.0 h.asserted.0 h.asserted.1.1 in
      ap (with_root decls h.kinds) root.1 ∙ ap (with_names decls h.kinds) faultless ∙ ap tail same_content
      ∙ ap (λ o. and_next o (λ all. with_table h.plain all)) (sets_are (meanings_of decls) h.kinds h.declared 0)
      ∙ if_true (nat_le (all_events h.sets) MOST_EVENTS) _ _ (few_events MOST_EVENTS (all_events h.sets) h.few)
      ∙ ap Ok (sym h.is)
