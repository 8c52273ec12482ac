-- The names that a script declares fit a program that holds what its declarations put there, in the order of their numbers.
use Rattle.resolved_laws.proofs.Sources.{◌≡◌, Every, ℕ, zero, suc, ◌+◌, ◌<◌, Bool, true, false, cond, nat_eq, nat_lt, IsTrue, Option, Some, None, List, [], ◌∷◌, ◌++◌, length, refl, sym, ◌∙◌, ap, subst, arith, slice_get, lt-ltb, length-append, is_datum, is_process, is_set_name, takes, with_fields, Declares, channels_of_types, kind_class, kind_network, Counts, Entities, Meanings, Name, channels_from, constants_from, counted, declared_from, meanings_of, none_yet, same_name, numbers_from, IsData, IsNetwork, IsProcess, Atom, Body, Channel, Content, Decl, Def, Entity, Expr, Kind, Class}
use Rattle.std.specs.Map.{lookup}
use Rattle.csp_base.proofs.Standard.{eq-eqb}
use Rattle.csp_program.specs.InOrder as order
use Rattle.script_names.specs.Declaring as d
use Rattle.resolved_laws.proofs.Booleans.{and}
use Rattle.typed_laws.proofs.Passing.{join}
use Rattle.resolved_laws.proofs.Declared.{Fits}
use Rattle.resolved_laws.proofs.Sound.{count_exprs}

-- the rest of a list stands in it from the place n on
abbrev pub StandsFrom : {X : Type 0} → List X → ℕ → List X → Type 0
StandsFrom all n rest = (i : ℕ) → slice_get all (n + i) ≡ slice_get rest i

pub stands_here : {X : Type 0} (all : List X) (n : ℕ) (x : X) (rest : List X) → StandsFrom all n (x ∷ rest) → slice_get all n ≡ Some x
stands_here all n x rest h = let e : n ≡ n + 0 = omega arith in ap (slice_get all) e ∙ h 0

pub stands_on : {X : Type 0} (all : List X) (n : ℕ) (x : X) (rest : List X) → StandsFrom all n (x ∷ rest) → StandsFrom all (n + 1) rest
stands_on all n x rest h i = let e : n + 1 + i ≡ n + suc i = omega arith in ap (slice_get all) e ∙ h (suc i)

is_less : (n k : ℕ) → n < k → IsTrue (nat_lt n k)
is_less n k h = lt-ltb n k h

pub length_numbers : (n k : ℕ) → length (numbers_from n k) ≡ k
length_numbers n zero = refl
length_numbers n (suc k) = ap (λ i. suc i) (length_numbers (n + 1) k)

module _ (m : Meanings) (ks : List Kind) (p : Content) where
  -- the kinds of a definition that is there with n parameters
  pub record DefFits (d n : ℕ) : Type 0 where
    pub datum : IsData m ks d → IsTrue (takes is_datum n (slice_get p.defs d))
    pub process : IsProcess m ks d → IsTrue (takes is_process n (slice_get p.defs d))
    pub network : IsNetwork m ks d → IsTrue (takes order.is_network n (slice_get p.defs d))

  abbrev pub EntityFits : Entity → Type 0
  EntityFits (Entity.Channel c n) = IsTrue (with_fields (λ k. nat_eq k n) (slice_get p.channels c))
  EntityFits (Entity.Constant k) = IsTrue (nat_lt k (length p.consts))
  EntityFits (Entity.Definition d n) = DefFits d n
  EntityFits (Entity.Set d) = IsTrue (takes is_set_name 0 (slice_get p.defs d))

  abbrev pub AllFit : Entities → Type 0
  AllFit es = Every (λ (e : Name × Entity). EntityFits e.1) es

  -- the channels of p have the numbers of fields of those that stand here
  abbrev pub ChannelsFrom : ℕ → List Channel → Type 0
  ChannelsFrom n [] = Unit {0}
  ChannelsFrom n (c ∷ cs) = IsTrue (with_fields (λ k. nat_eq k (length c.types)) (slice_get p.channels n)) × ChannelsFrom (n + 1) cs

  channels_fit : (n count : ℕ) (xs : List Name) (es : List Expr) (rest : List Channel) → count ≡ length es → ChannelsFrom n (channels_of_types xs es ++ rest)
      → AllFit (channels_from n count xs) × ChannelsFrom (n + length xs) rest
  channels_fit n count [] es rest is h = let e : n ≡ n + 0 = omega arith in (tt, subst (λ k. ChannelsFrom k rest) e h)
  channels_fit n count (x ∷ xs) es rest is h =
      let w = channels_fit (n + 1) count xs es rest is h.1 in
      let e : n + 1 + length xs ≡ n + suc (length xs) = omega arith in
      ((subst (λ j. IsTrue (with_fields (λ k. nat_eq k j) (slice_get p.channels n))) (sym is) h.0, w.0), subst (λ k. ChannelsFrom k rest) e w.1)

  -- constants are fewer than the program has
  constants_fit : (n : ℕ) (xs : List Name) (rest : ℕ) → n + (length xs + rest) ≡ length p.consts → AllFit (constants_from n xs)
  constants_fit n [] rest h = tt
  constants_fit n (x ∷ xs) rest h = (is_less n (length p.consts) (omega (arith, h)), constants_fit (n + 1) xs rest (omega (arith, h)))

  takes_so : (of_class : Body → Bool) (d n : ℕ) (def : Def) → slice_get p.defs d ≡ Some def → IsTrue (of_class def.body) → length def.params ≡ n
      → IsTrue (takes of_class n (slice_get p.defs d))
  takes_so of_class d n def at is count =
      subst (λ o. IsTrue (takes of_class n o)) (sym at) (and is (eq-eqb (length def.params) n count))

  -- the program holds what these declarations put into it, in the order of their numbers
  pub record HoldsFrom (n : Counts) (q : Content) : Type 0 where
    pub channels : ChannelsFrom n.channels q.channels
    pub consts : n.constants + length q.consts ≡ length p.consts
    pub defs : StandsFrom p.defs n.definitions q.defs

  not_both : (o : Option Kind) → kind_class o ≡ Class.Data → kind_class o ≡ Class.Process → ⊥
  not_both o h g = absurd (cc)

  not_network : (o : Option Kind) → kind_network o ≡ false → kind_network o ≡ true → ⊥
  not_network o h g = absurd (cc)

  -- a definition of its class, and of no other
  datum_fits : (d n : ℕ) → IsData m ks d → IsTrue (takes is_datum n (slice_get p.defs d)) → DefFits d n
  datum_fits d n is h = record {
    datum = λ g. h;
    process = λ g. absurd (not_both (slice_get ks d) (ap kind_class is) (ap kind_class g));
    network = λ g. absurd (not_both (slice_get ks d) (ap kind_class is) (ap kind_class g));
  }

  process_fits : (d n : ℕ) → IsProcess m ks d → IsTrue (takes is_process n (slice_get p.defs d)) → DefFits d n
  process_fits d n is h = record {
    datum = λ g. absurd (not_both (slice_get ks d) (ap kind_class g) (ap kind_class is));
    process = λ g. h;
    network = λ g. absurd (not_network (slice_get ks d) (ap kind_network is) (ap kind_network g));
  }

  network_fits : (d n : ℕ) → IsNetwork m ks d → IsTrue (takes order.is_network n (slice_get p.defs d)) → DefFits d n
  network_fits d n is h = record {
    datum = λ g. absurd (not_both (slice_get ks d) (ap kind_class g) (ap kind_class is));
    process = λ g. absurd (not_network (slice_get ks d) (ap kind_network g) (ap kind_network is));
    network = λ g. h;
  }

  module _ (whole : Content) (HasSets : List Expr → List (List Atom) → Type 0) where
    entities_fit : {n : Counts} {decls : List Decl} {q : Content} {all : List (List (List Atom))}
        → Declares m ks whole HasSets n decls q all → HoldsFrom n q → AllFit (declared_from n decls)
    entities_fit d.nothing h = tt
    entities_fit {n} (d.channels {xs = xs} {types = types} {es = es} {decls = decls} {p = q} g found l) h =
        let w = channels_fit n.channels (length types) xs es q.channels (count_exprs g) h.channels in
        join (λ (e : Name × Entity). EntityFits e.1) (channels_from n.channels (length types) xs) (declared_from (counted n (Decl.Channel xs types)) decls) w.0
        (entities_fit l (record { channels = w.1; consts = h.consts; defs = h.defs }))
    entities_fit {n} (d.datatype {x = x} {cs = cs} {decls = decls} {p = q} l) h =
        let def : Def = record { name = x; params = []; body = Body.Datatype (numbers_from n.constants (length cs)) } in
        let e : length (cs ++ q.consts) ≡ length cs + length q.consts = length-append cs q.consts in
        let e' : n.constants + (length cs + length q.consts) ≡ length p.consts = ap (λ i. n.constants + i) (sym e) ∙ h.consts in
        let e'' : n.constants + length cs + length q.consts ≡ length p.consts = omega (arith, e') in (
          takes_so is_set_name n.definitions 0 def (stands_here p.defs n.definitions def q.defs h.defs) refl refl,
          join (λ (e : Name × Entity). EntityFits e.1) (constants_from n.constants cs) (declared_from (counted n (Decl.Datatype x cs)) decls)
              (constants_fit n.constants cs (length q.consts) e')
              (entities_fit l (record { channels = h.channels; consts = e''; defs = stands_on p.defs n.definitions def q.defs h.defs })),
        )
    entities_fit {n} (d.nametype {x = x} {e = e} {p = q} g s l) h =
        let def : Def = record { name = x; params = []; body = Body.Nametype e } in (
          takes_so is_set_name n.definitions 0 def (stands_here p.defs n.definitions def q.defs h.defs) refl refl,
          entities_fit l (record { channels = h.channels; consts = h.consts; defs = stands_on p.defs n.definitions def q.defs h.defs }),
        )
    entities_fit {n} (d.data_definition {x = x} {params = params} {e = e} {p = q} ps is g s l) h =
        let def : Def = record { name = x; params = numbers_from 0 (length params); body = Body.Datum e } in (
          datum_fits n.definitions (length params) is (takes_so is_datum n.definitions (length params) def
              (stands_here p.defs n.definitions def q.defs h.defs) refl (length_numbers 0 (length params))),
          entities_fit l (record { channels = h.channels; consts = h.consts; defs = stands_on p.defs n.definitions def q.defs h.defs }),
        )
    entities_fit {n} (d.process_definition {x = x} {params = params} {q = r} {p = q} ps is g l) h =
        let def : Def = record { name = x; params = numbers_from 0 (length params); body = Body.Process r } in (
          process_fits n.definitions (length params) is (takes_so is_process n.definitions (length params) def
              (stands_here p.defs n.definitions def q.defs h.defs) refl (length_numbers 0 (length params))),
          entities_fit l (record { channels = h.channels; consts = h.consts; defs = stands_on p.defs n.definitions def q.defs h.defs }),
        )
    entities_fit {n} (d.network_definition {x = x} {params = params} {w = r} {p = q} ps is g l) h =
        let def : Def = record { name = x; params = numbers_from 0 (length params); body = Body.Network r } in (
          network_fits n.definitions (length params) is (takes_so order.is_network n.definitions (length params) def
              (stands_here p.defs n.definitions def q.defs h.defs) refl (length_numbers 0 (length params))),
          entities_fit l (record { channels = h.channels; consts = h.consts; defs = stands_on p.defs n.definitions def q.defs h.defs }),
        )
    entities_fit (d.assertion g l) h = entities_fit l (record { channels = h.channels; consts = h.consts; defs = h.defs })
    entities_fit (d.roles a b c e f l) h = entities_fit l (record { channels = h.channels; consts = h.consts; defs = h.defs })
    entities_fit (d.resource a b c l) h = entities_fit l (record { channels = h.channels; consts = h.consts; defs = h.defs })

  abbrev Found : Option Entity → Type 0
  Found None = Unit {0}
  Found (Some e) = EntityFits e

  found_or : (b : Bool) (e : Entity) (rest : Option Entity) → EntityFits e → Found rest → Found (cond b (Some e) rest)
  found_or true e rest h g = h
  found_or false e rest h g = g

  found : (test : Name → Bool) (es : Entities) → AllFit es → Found (lookup test es)
  found test [] h = tt
  found test (e ∷ es) h = found_or (test e.0) e.1 (lookup test es) h.0 (found test es h.1)

pub names_fit : (decls : List Decl) (ks : List Kind) (whole : Content) (HasSets : List Expr → List (List Atom) → Type 0) (p q : Content)
    (sets : List (List (List Atom)))
    → Declares (meanings_of decls) ks whole HasSets none_yet decls q sets
    → HoldsFrom (meanings_of decls) ks p none_yet q → Fits (meanings_of decls) ks p
names_fit decls ks whole HasSets p q sets l h =
    let m = meanings_of decls in
    let all = entities_fit m ks p whole HasSets l h in
    let at : (x : Name) (e : Entity) → m x ≡ Some e → EntityFits m ks p e =
    λ x e is. subst (Found m ks p) is (found m ks p (λ y. same_name x y) (declared_from none_yet decls) all) in record {
      channel = λ x c n is. at x (Entity.Channel c n) is;
      constant = λ x k is. at x (Entity.Constant k) is;
      set = λ x d is. at x (Entity.Set d) is;
      datum = λ x d n is g. (at x (Entity.Definition d n) is).datum g;
      process = λ x d n is g. (at x (Entity.Definition d n) is).process g;
      network = λ x d n is g. (at x (Entity.Definition d n) is).network g;
    }
