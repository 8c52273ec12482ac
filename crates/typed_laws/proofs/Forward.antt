-- Where declarations are put into a program by the rules, all that they say passes, and no definition of data is too deep.
use Rattle.typed_laws.proofs.Sources.{◌≡◌, ℕ, false, ◌&&◌, Some, List, [], ◌∷◌, refl, sym, ◌∙◌, ap, subst, slice_get, AreParameters, IsShallow, Declares, IsAnnotated, IsEventSet, clashes, kind_class, Counts, Meanings, Name, meanings_of, names_declared, none_yet, sense_in, sense_of, tree_says, names_of, parameters, body_place, bodies_from, counts_of, declared_after, is_data, is_deep, next_definition, types_say, AreExprs, names_of-parameters, Atom, Content, Decl, Expr, Kind, Occurrence, Tree, Uses, Entity, Need, Sense, Use}
use Rattle.script_names.specs.Declaring as d
use Rattle.typed_laws.proofs.Back.{types_are}
use Rattle.typed_laws.proofs.DeclPasses.{DeclPasses, EachPasses, counted_on}
use Rattle.typed_laws.proofs.ExprsAre.{expr_is, exprs_are}
use Rattle.typed_laws.proofs.NetsAre.{net_is}
use Rattle.typed_laws.proofs.OnceLaws.{AllFresh, later_fresh, names_said, note_passes, parameters_pass}
use Rattle.typed_laws.proofs.Passing.{AllPass, Passes, join, use_passes}
use Rattle.typed_laws.proofs.ProcsAre.{proc_is}
use Rattle.typed_laws.proofs.Senses.{none_of_count}

module _ (m : Meanings) (ks : List Kind) where
  -- ---- what declarations say beside what stands once

  types_pass : {k : ℕ} (types : List Tree) {es : List Expr} → AreExprs m ks [] 0 types es k → AllPass m ks (types_say m types)
  types_pass types h = subst (AllPass m ks) (sym (types_are m types)) ((exprs_are m ks h).passes false 1)

  -- the process of an annotation
  process_passes : (x : Name) (e k : ℕ) → IsAnnotated m ks x e k → Passes m ks (Uses x (sense_in m [] x) Use.Annotated)
  process_passes x e k h =
      use_passes m ks x (sense_of (m x)) (Sense.Declared (Entity.Definition e k)) Use.Annotated (ap sense_of h.means) (record {
        known = refl;
        kind = ap (λ o. clashes (kind_class o) Need.Process) h.process;
        count = refl;
        inside = refl;
        once = refl;
      })

  -- a set of an annotation
  set_passes : (x y : Name) (e a k : ℕ) → IsAnnotated m ks x e k → IsEventSet m ks y a k
      → Passes m ks (Uses y (sense_in m [] y) (Use.Annotates (sense_in m [] x)))
  set_passes x y e a k h g =
      subst (λ s. Passes m ks (Uses y (sense_in m [] y) (Use.Annotates s))) (sym (ap sense_of h.means))
      (use_passes m ks y (sense_of (m y)) (Sense.Declared (Entity.Definition a k)) (Use.Annotates (Sense.Declared (Entity.Definition e k))) (ap sense_of g.means)
      (record {
        known = refl;
        kind = ap (λ o. clashes (kind_class o) Need.Data) g.set;
        count = none_of_count k k y refl;
        inside = refl;
        once = refl;
      }))

module _ (script : List Decl) (ks : List Kind) where
  abbrev m : Meanings
  m = meanings_of script

  abbrev bodies : List (List (Occurrence Name))
  bodies = bodies_from m ks 0 script

  -- the body of a definition whose kind is this
  body_passes : (earlier : List Decl) (n : Counts) (params : List Name) (a : Tree) (kind : Kind) → counts_of none_yet earlier ≡ n
      → slice_get ks n.definitions ≡ Some kind → AllPass m ks (tree_says m a (body_place (Some kind)) (names_of (parameters 0 params)))
      → AllPass m ks (tree_says m a (body_place (slice_get ks (next_definition earlier))) params)
  body_passes earlier n params a kind at is h =
      subst (λ c. AllPass m ks (tree_says m a (body_place (slice_get ks c.definitions)) params)) (sym at)
      (subst (λ o. AllPass m ks (tree_says m a (body_place o) params)) (sym is)
      (subst (λ names. AllPass m ks (tree_says m a (body_place (Some kind)) names)) (names_of-parameters 0 params) h))

  definition_passes : (earlier : List Decl) (n : Counts) (x : Name) (params : List Name) (a : Tree) (kind : Kind) → counts_of none_yet earlier ≡ n
      → slice_get ks n.definitions ≡ Some kind → AllPass m ks (declared_after (names_declared earlier) (x ∷ [])) → AreParameters m ks params
      → AllPass m ks (tree_says m a (body_place (Some kind)) (names_of (parameters 0 params))) → (is_data kind.class && is_deep ks bodies n.definitions) ≡ false
      → DeclPasses script ks earlier (Decl.Define x params a)
  definition_passes earlier n x params a kind at is once ps body shallow = record {
    passes = join (Passes m ks) (declared_after (names_declared earlier) (x ∷ [])) _ once
        (join (Passes m ks) _ _ (parameters_pass m ks params ps) (body_passes earlier n params a kind at is body));
    shallow = ap (λ c. is_data (kind_class (slice_get ks c.definitions)) && is_deep ks bodies c.definitions) at
        ∙ ap (λ o. is_data (kind_class o) && is_deep ks bodies n.definitions) is ∙ shallow;
  }

  pub passes_each : {whole : Content} {HasSets : List Expr → List (List Atom) → Type 0} {n : Counts} {decls : List Decl} {p : Content} {sets : List (List (List Atom))}
      → Declares m ks whole HasSets n decls p sets → (earlier : List Decl) → counts_of none_yet earlier ≡ n → AllFresh earlier decls
      → ((i : ℕ) → IsShallow whole i → is_deep ks bodies i ≡ false) → EachPasses script ks earlier decls
  passes_each d.nothing earlier at once deep = tt
  passes_each {n = n} (d.channels {xs = xs} {types = types} typed fits rest) earlier at once deep =
      (record { passes = join (Passes m ks) _ _ (names_said m ks earlier xs once.names.0) (types_pass m ks types typed); shallow = refl }, passes_each rest _ (counted_on earlier _ n at) (later_fresh once) deep)
  passes_each {n = n} (d.datatype {x = x} {cs = cs} rest) earlier at once deep =
      (record { passes = names_said m ks earlier (x ∷ cs) once.names.0; shallow = refl }, passes_each rest _ (counted_on earlier _ n at) (later_fresh once) deep)
  passes_each {n = n} (d.nametype {x = x} h shallow rest) earlier at once deep = (
    record {
      passes = join (Passes m ks) (declared_after (names_declared earlier) (x ∷ [])) _ (names_said m ks earlier (x ∷ []) once.names.0) ((expr_is m ks h).passes false 1);
      shallow = ap (λ c. is_deep ks bodies c.definitions) at ∙ deep n.definitions shallow;
    },
    passes_each rest _ (counted_on earlier _ n at) (later_fresh once) deep,
  )
  passes_each {n = n} (d.data_definition {x = x} {params = params} {t = a} ps is h shallow rest) earlier at once deep = (
    definition_passes earlier n x params a _ at is (names_said m ks earlier (x ∷ []) once.names.0) ps ((expr_is m ks h).passes false 1) (deep n.definitions shallow),
    passes_each rest _ (counted_on earlier _ n at) (later_fresh once) deep,
  )
  passes_each {n = n} (d.process_definition {x = x} {params = params} {t = a} ps is h rest) earlier at once deep =
      (definition_passes earlier n x params a _ at is (names_said m ks earlier (x ∷ []) once.names.0) ps ((proc_is m ks h).passes false 1) refl, passes_each rest _ (counted_on earlier _ n at) (later_fresh once) deep)
  passes_each {n = n} (d.network_definition {x = x} {params = params} {t = a} ps is h rest) earlier at once deep =
      (definition_passes earlier n x params a _ at is (names_said m ks earlier (x ∷ []) once.names.0) ps ((net_is m ks h).passes 1) refl, passes_each rest _ (counted_on earlier _ n at) (later_fresh once) deep)
  passes_each {n = n} (d.assertion h rest) earlier at once deep =
      (record { passes = (net_is m ks h).passes 1; shallow = refl }, passes_each rest _ (counted_on earlier _ n at) (later_fresh once) deep)
  passes_each {n = n} (d.roles process creq cack sreq sack rest) earlier at once deep = (
    record {
      passes = (
        note_passes m ks _ _ once.roles.0.0,
        (
          process_passes m ks _ _ _ process,
          (
            set_passes m ks _ _ _ _ _ process creq,
            (
              set_passes m ks _ _ _ _ _ process cack,
              (set_passes m ks _ _ _ _ _ process sreq, (set_passes m ks _ _ _ _ _ process sack, tt)),
            ),
          ),
        ),
      );
      shallow = refl;
    },
    passes_each rest _ (counted_on earlier _ n at) (later_fresh once) deep,
  )
  passes_each {n = n} (d.resource process acquire release rest) earlier at once deep = (
    record {
      passes = (note_passes m ks _ _ once.uses.0.0, (process_passes m ks _ _ _ process, (set_passes m ks _ _ _ _ _ process acquire, (set_passes m ks _ _ _ _ _ process release, tt))));
      shallow = refl;
    },
    passes_each rest _ (counted_on earlier _ n at) (later_fresh once) deep,
  )
