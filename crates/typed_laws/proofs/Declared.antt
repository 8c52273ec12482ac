-- What the rules of declarations put into a program is what the functions give: the content, the field sets, and how deep the bodies reach.
use Rattle.typed_laws.proofs.Sources.{◌≡◌, ℕ, zero, suc, ◌+◌, false, Option, Ok, List, [], ◌∷◌, ◌++◌, length, map, replicate, refl, sym, ◌∙◌, ap, arith, slice_get, flat_map, body_of, channels_of, constants_of, definitions_from, first_assertion, resources_of, roles_of, root_of, definition_depth, depth_at, Declares, channels_of_types, deepest, depth_within, said_by, kind_class, kind_network, field_sets, Counts, Meanings, Name, counted, and_next, channel_sets, told_in, numbers_from, parameters, bodies_from, body_place, expanded_body, definition_number, exprs, reading, tree_says, names_of-parameters, Atom, Content, Decl, Def, Expr, Kind, Occurrence, Tree, Body}
use Rattle.script_names.specs.Declaring as d
use Rattle.typed_laws.proofs.ExprsAre.{expr_is, exprs_are}
use Rattle.typed_laws.proofs.NetsAre.{net_is}
use Rattle.typed_laws.proofs.Passing.{data_at}
use Rattle.typed_laws.proofs.ProcsAre.{proc_is}

pub none_more : (n : ℕ) → 0 + n ≡ n
none_more n = omega arith

-- depths agree by uses where they agree in each body
pub depths_agree : (bodies : List (List (Occurrence Name))) (defs : List Def)
    → ((f : ℕ → ℕ) (i : ℕ) → deepest f (said_by (slice_get bodies i)) ≡ depth_at f (slice_get defs i))
    → (k i : ℕ) → depth_within k bodies i ≡ definition_depth k defs i
depths_agree bodies defs same zero i = refl
depths_agree bodies defs same (suc k) i =
    ap (λ f. deepest f (said_by (slice_get bodies i))) (λ j x. depths_agree bodies defs same k x j) ∙ same (definition_depth k defs) i

module _ (m : Meanings) (ks : List Kind) where
  abbrev pub types_of : List Tree → List Expr
  types_of types = exprs (map (reading m ks) types) [] 0

  -- what the functions give of declarations after so many of each kind
  abbrev pub given : Counts → List Decl → Content
  given n decls = record {
    events = [];
    channels = flat_map (channels_of m ks) decls;
    consts = flat_map (constants_of m ks) decls;
    defs = definitions_from m ks n decls;
    roles = flat_map (roles_of m ks) decls;
    resources = flat_map (resources_of m ks) decls;
    root = root_of m ks (first_assertion decls);
  }

  -- a definition whose kind is this, in front of others
  abbrev pub defined_as : Name → List Name → Tree → Content → Option Kind → Content
  defined_as x params t p kind = record p {
    defs = record {
      name = x;
      params = numbers_from 0 (length params);
      body = body_of m ks (kind_class kind) (kind_network kind) (reading m ks t) (length params) (parameters 0 params);
    } ∷ p.defs;
  }

  pub content_is : {whole : Content} {HasSets : List Expr → List (List Atom) → Type 0} {n : Counts} {decls : List Decl} {p : Content} {sets : List (List (List Atom))}
      → Declares m ks whole HasSets n decls p sets → given n decls ≡ p
  content_is d.nothing = refl
  content_is (d.channels {xs = xs} typed fits rest) =
      let w = (exprs_are m ks typed).value in let v = content_is rest in
      λ j. record (v j) { channels = channels_of_types xs (w j) ++ (v j).channels }
  content_is (d.datatype {n = n} {x = x} {cs = cs} rest) =
      let v = content_is rest in
      λ j. record (v j) {
        consts = cs ++ (v j).consts;
        defs = record { name = x; params = []; body = Body.Datatype (numbers_from n.constants (length cs)) } ∷ (v j).defs;
      }
  content_is (d.nametype {x = x} h deep rest) =
      let w = (expr_is m ks h).value in let v = content_is rest in
      λ j. record (v j) { defs = record { name = x; params = []; body = Body.Nametype (w j) } ∷ (v j).defs }
  content_is (d.data_definition {n = n} {x = x} {params = params} {t = t} {decls = decls} ps is h deep rest) =
      let w = (expr_is m ks h).value in let v = content_is rest in
      ap (defined_as x params t (given (counted n (Decl.Define x params t)) decls)) is
      ∙ (λ j. record (v j) { defs = record { name = x; params = numbers_from 0 (length params); body = Body.Datum (w j) } ∷ (v j).defs })
  content_is (d.process_definition {n = n} {x = x} {params = params} {t = t} {decls = decls} ps is h rest) =
      let w = (proc_is m ks h).value in let v = content_is rest in
      ap (defined_as x params t (given (counted n (Decl.Define x params t)) decls)) is
      ∙ (λ j. record (v j) { defs = record { name = x; params = numbers_from 0 (length params); body = Body.Process (w j) } ∷ (v j).defs })
  content_is (d.network_definition {n = n} {x = x} {params = params} {t = t} {decls = decls} ps is h rest) =
      let w = (net_is m ks h).value in let v = content_is rest in
      ap (defined_as x params t (given (counted n (Decl.Define x params t)) decls)) is
      ∙ (λ j. record (v j) { defs = record { name = x; params = numbers_from 0 (length params); body = Body.Network (w j) } ∷ (v j).defs })
  content_is (d.assertion h rest) = let v = content_is rest in λ j. record (v j) { root = (net_is m ks h).value j }
  content_is (d.roles process creq cack sreq sack rest) =
      let v = content_is rest in
      λ j. record (v j) {
        roles = record {
          process = definition_number (process.means j);
          creq = definition_number (creq.means j);
          cack = definition_number (cack.means j);
          sreq = definition_number (sreq.means j);
          sack = definition_number (sack.means j);
        } ∷ (v j).roles;
      }
  content_is (d.resource process acquire release rest) =
      let v = content_is rest in
      λ j. record (v j) {
        resources = record {
          process = definition_number (process.means j);
          acquire = definition_number (acquire.means j);
          release = definition_number (release.means j);
        } ∷ (v j).resources;
      }

  -- and these field sets
  pub sets_are : {whole : Content} {n : Counts} {decls : List Decl} {p : Content} {all : List (List (List Atom))}
      → Declares m ks whole (λ types sets. field_sets whole types ≡ Ok sets) n decls p all → (i : ℕ) → channel_sets whole types_of i decls ≡ Ok all
  sets_are d.nothing i = refl
  sets_are {whole} (d.channels {xs = xs} {sets = sets} {decls = decls} typed fits rest) i =
      let before = λ (s : List (List Atom)). and_next (channel_sets whole types_of (i + 1) decls) (λ all. Ok (replicate (length xs) s ++ all)) in
      ap (λ es. and_next (told_in i (field_sets whole es)) before) (exprs_are m ks typed).value ∙ ap (λ o. and_next (told_in i o) before) fits
      ∙ ap (λ o. and_next o (λ all. Ok (replicate (length xs) sets ++ all))) (sets_are rest (i + 1))
  sets_are (d.datatype rest) i = sets_are rest (i + 1)
  sets_are (d.nametype h deep rest) i = sets_are rest (i + 1)
  sets_are (d.data_definition ps is h deep rest) i = sets_are rest (i + 1)
  sets_are (d.process_definition ps is h rest) i = sets_are rest (i + 1)
  sets_are (d.network_definition ps is h rest) i = sets_are rest (i + 1)
  sets_are (d.assertion h rest) i = sets_are rest (i + 1)
  sets_are (d.roles process creq cack sreq sack rest) i = sets_are rest (i + 1)
  sets_are (d.resource process acquire release rest) i = sets_are rest (i + 1)

  -- what a body says that is expanded where it is used, by the kind of its definition
  abbrev body_says : List Name → Tree → Option Kind → List (Occurrence Name)
  body_says params t kind = expanded_body m ks (kind_class kind) (tree_says m t (body_place kind) params)

  -- what bodies say reaches as deep as the bodies are
  pub bodies_are : {whole : Content} {HasSets : List Expr → List (List Atom) → Type 0} {n : Counts} {decls : List Decl} {p : Content} {sets : List (List (List Atom))}
      → Declares m ks whole HasSets n decls p sets → (f : ℕ → ℕ) (i : ℕ)
      → deepest f (said_by (slice_get (bodies_from m ks n.definitions decls) i)) ≡ depth_at f (slice_get p.defs i)
  bodies_are d.nothing f i = refl
  bodies_are (d.channels typed fits rest) f i = bodies_are rest f i
  bodies_are (d.datatype rest) f zero = refl
  bodies_are (d.datatype rest) f (suc i) = bodies_are rest f i
  bodies_are (d.nametype h deep rest) f zero = (expr_is m ks h).deep f false 0 ∙ none_more _
  bodies_are (d.nametype h deep rest) f (suc i) = bodies_are rest f i
  bodies_are (d.data_definition {params = params} {t = t} ps is h deep rest) f zero =
      ap (λ o. deepest f (body_says params t o)) is ∙ ap (λ names. deepest f (tree_says m t (data_at false 1) names)) (sym (names_of-parameters 0 params))
      ∙ (expr_is m ks h).deep f false 0 ∙ none_more _
  bodies_are (d.data_definition ps is h deep rest) f (suc i) = bodies_are rest f i
  bodies_are (d.process_definition {params = params} {t = t} ps is h rest) f zero = ap (λ o. deepest f (body_says params t o)) is
  bodies_are (d.process_definition ps is h rest) f (suc i) = bodies_are rest f i
  bodies_are (d.network_definition {params = params} {t = t} ps is h rest) f zero = ap (λ o. deepest f (body_says params t o)) is
  bodies_are (d.network_definition ps is h rest) f (suc i) = bodies_are rest f i
  bodies_are (d.assertion h rest) f i = bodies_are rest f i
  bodies_are (d.roles process creq cack sreq sack rest) f i = bodies_are rest f i
  bodies_are (d.resource process acquire release rest) f i = bodies_are rest f i
