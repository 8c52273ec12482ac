-- What typed declarations put into a program is in order, closed, and binds each number once.
use Rattle.resolved_laws.proofs.Sources.{◌≡◌, ℕ, zero, suc, ◌+◌, ◌≤◌, Bool, true, false, nat_eq, nat_lt, IsTrue, Option, Some, None, List, [], ◌∷◌, ◌++◌, length, map, refl, sym, ◌∙◌, ap, subst, arith, slice_get, false_from_ne_true, lt-ltb, length-append, is_or_first, is_or_second, Every, body_bound, def_bound, exprs_bound, Names, IsClosed, any_of, expr_free, AllClosed, IsClosedBody, body_free, body_in_order, def_in_order, expr_in_order, is_component, is_datum, is_process, note_fits, param_count, resource_in_order, roles_in_order, set_fits, takes, all_true, body_uses, IsShallow, Declares, IsAnnotated, IsEventSet, channels_of_types, Counts, Meanings, Name, numbers_from, parameters, Atom, Body, Channel, Content, Decl, Def, Expr, Kind, Class, Entity}
use Rattle.csp_base.proofs.Standard.{false≢true, eqb-true}
use Rattle.csp_base.specs.Prelude.{EachOnce, has}
use Rattle.csp_program.specs.InOrder as order
use Rattle.script_names.specs.Declaring as d
use Rattle.resolved_laws.proofs.Booleans.{and, two}
use Rattle.resolved_laws.proofs.Declared.{Fits}
use Rattle.resolved_laws.proofs.InTurn.{InTurn, Rises, each_once, joins, none}
use Rattle.resolved_laws.proofs.TypedExprs.{expr_sound, exprs_sound}
use Rattle.resolved_laws.proofs.TypedProcs.{NetSound, net_sound, proc_sound, stop_sound}
use Rattle.resolved_laws.proofs.Within.{IsWithin, numbers_of}

pub nothing_free : (free : Names) → IsWithin free [] → IsClosed free
nothing_free free h x = false_from_ne_true (free x) (λ t. false≢true (h.at x t))

pub all_closed : (es : List Expr) → IsWithin (any_of (map expr_free es)) [] → AllClosed es
all_closed [] h = tt
all_closed (e ∷ es) h = (
  nothing_free (expr_free e) (record { at = λ x t. h.at x (is_or_first (expr_free e x) (any_of (map expr_free es) x) t) }),
  all_closed es (record { at = λ x t. h.at x (is_or_second (expr_free e x) (any_of (map expr_free es) x) t) }),
)

parameters_numbers : (n : ℕ) (xs : List Name) → numbers_of (parameters n xs) ≡ numbers_from n (length xs)
parameters_numbers n [] = refl
parameters_numbers n (x ∷ xs) = ap (λ l. n ∷ l) (parameters_numbers (n + 1) xs)

numbers_rise : (n k : ℕ) → Rises n (numbers_from n k) (n + k)
numbers_rise n zero = omega arith
numbers_rise n (suc k) =
    let e : n + 1 + k ≡ n + suc k = omega arith in
    ((omega arith), subst (Rises (n + 1) (numbers_from (n + 1) k)) e (numbers_rise (n + 1) k))

params_rise : (k : ℕ) → InTurn 0 (numbers_from 0 k) k
params_rise k = let e : 0 + k ≡ k = omega arith in record { rises = subst (Rises 0 (numbers_from 0 k)) e (numbers_rise 0 k) }

numbers_below : (n k total : ℕ) → n + k ≤ total → IsTrue (all_true (map (λ i. nat_lt i total) (numbers_from n k)))
numbers_below n zero total h = refl
numbers_below n (suc k) total h = and (lt-ltb n total (omega arith)) (numbers_below (n + 1) k total (omega arith))

takes_count : (of_class : Body → Bool) (n : ℕ) (def : Option Def) → IsTrue (takes of_class n def) → n ≡ param_count def
takes_count of_class n None h = absurd (false≢true h)
takes_count of_class n (Some def) h = sym (eqb-true (length def.params) n (two (of_class def.body) (nat_eq (length def.params) n) h).1)

process_component : (b : Body) → IsTrue (is_process b) → IsTrue (is_component b)
process_component (Body.Process q) h = refl
process_component _ h = absurd (false≢true h)

network_component : (b : Body) → IsTrue (order.is_network b) → IsTrue (is_component b)
network_component (Body.Network q) h = refl
network_component _ h = absurd (false≢true h)

takes_component : (of_class : Body → Bool) → ((b : Body) → IsTrue (of_class b) → IsTrue (is_component b)) → (n : ℕ) (def : Option Def)
    → IsTrue (takes of_class n def) → IsTrue (takes is_component n def)
takes_component of_class f n None h = h
takes_component of_class f n (Some def) h = let w = two (of_class def.body) (nat_eq (length def.params) n) h in and (f def.body w.0) w.1

module _ (m : Meanings) (ks : List Kind) (p whole : Content) (fits : Fits m ks p) where
  pub record ChannelSound (channel : Channel) : Type 0 where
    pub order : IsTrue (all_true (map (expr_in_order p) channel.types))
    pub closed : AllClosed channel.types
    pub once : EachOnce (exprs_bound channel.types)

  pub record DefSound (d : ℕ) (def : Def) : Type 0 where
    pub order : IsTrue (def_in_order p def)
    pub closed : IsClosedBody def
    pub once : EachOnce (def_bound def)
    pub shallow : (j : ℕ) → IsTrue (body_uses def.body j) → IsShallow whole d

  abbrev pub DefsSound : ℕ → List Def → Type 0
  DefsSound d [] = Unit {0}
  DefsSound d (def ∷ defs) = DefSound d def × DefsSound (d + 1) defs

  -- a definition with these parameters
  def_sound : (d : ℕ) (x : Name) (xs : List Name) (b : Body) (k : ℕ) → IsTrue (body_in_order p (numbers_from 0 (length xs)) b)
      → IsWithin (body_free b) (parameters 0 xs) → InTurn (length xs) (body_bound b) k → ((j : ℕ) → IsTrue (body_uses b j) → IsShallow whole d)
      → DefSound d (record { name = x; params = numbers_from 0 (length xs); body = b })
  def_sound d x xs b k order free turn shallow = record {
    order = order;
    closed = λ y t. subst (λ l. IsTrue (has l y)) (parameters_numbers 0 xs) (free.at y t);
    once = each_once (joins (params_rise (length xs)) turn);
    shallow = shallow;
  }

  -- ---- annotations

  component_of : (x : Name) (d k : ℕ) (b : Bool) → m x ≡ Some (Entity.Definition d k)
      → slice_get ks d ≡ Some (record { class = Class.Process; network = b })
      → IsTrue (takes is_component k (slice_get p.defs d))
  component_of x d k true is kind = takes_component order.is_network network_component k (slice_get p.defs d) (fits.network x d k is kind)
  component_of x d k false is kind = takes_component is_process process_component k (slice_get p.defs d) (fits.process x d k is kind)

  -- the process of an annotation has as many parameters as it says
  note_count : {x : Name} {d k : ℕ} → IsAnnotated m ks x d k → k ≡ param_count (slice_get p.defs d)
  note_count {x} {d} {k} h = takes_count is_component k (slice_get p.defs d) (component_of x d k h.network h.means h.process)

  note_sound : {x : Name} {d k : ℕ} → IsAnnotated m ks x d k → IsTrue (note_fits p d)
  note_sound {x} {d} {k} h = subst (λ i. IsTrue (takes is_component i (slice_get p.defs d))) (note_count h) (component_of x d k h.network h.means h.process)

  set_sound : {x y : Name} {d a k : ℕ} → IsAnnotated m ks x d k → IsEventSet m ks y a k → IsTrue (set_fits p d a)
  set_sound {x} {y} {d} {a} {k} h g = subst (λ i. IsTrue (takes is_datum i (slice_get p.defs a))) (note_count h) (fits.datum y a k g.means g.set)

  -- ---- declarations

  pub record Sound (n : Counts) (q : Content) : Type 0 where
    pub channels : Every ChannelSound q.channels
    pub defs : DefsSound n.definitions q.defs
    pub roles : IsTrue (all_true (map (roles_in_order p) q.roles))
    pub resources : IsTrue (all_true (map (resource_in_order p) q.resources))
    pub last : ℕ
    pub root : NetSound m ks p fits [] 0 q.root last

  -- with one definition more in front
  with_def : {n next : Counts} {q : Content} {def : Def} → DefSound n.definitions def × DefsSound (n.definitions + 1) q.defs → Sound next q
      → Sound n (record q { defs = def ∷ q.defs })
  with_def w v = record { channels = v.channels; defs = w; roles = v.roles; resources = v.resources; last = v.last; root = v.root }

  channels_sound : (xs : List Name) (es : List Expr) (rest : List Channel) → ChannelSound (record { name = []; types = es; fields = None; first = 0 })
      → Every ChannelSound rest → Every ChannelSound (channels_of_types xs es ++ rest)
  channels_sound [] es rest h g = g
  channels_sound (x ∷ xs) es rest h g = (record { order = h.order; closed = h.closed; once = h.once }, channels_sound xs es rest h g)

  pub content_sound : {HasSets : List Expr → List (List Atom) → Type 0} {n : Counts} {decls : List Decl} {q : Content} {all : List (List (List Atom))}
      → Declares m ks whole HasSets n decls q all → n.constants + length q.consts ≡ length p.consts → Sound n q
  content_sound d.nothing h = record { channels = tt; defs = tt; roles = refl; resources = refl; last = 0; root = stop_sound m ks p fits }
  content_sound (d.channels {xs = xs} {es = es} {p = q} g found l) h =
      let w = exprs_sound m ks p fits g in let v = content_sound l h in
      let cs = channels_sound xs es q.channels (record { order = w.order; closed = all_closed es w.free; once = each_once w.turn }) v.channels in
      record { channels = cs; defs = v.defs; roles = v.roles; resources = v.resources; last = v.last; root = v.root }
  content_sound {n} (d.datatype {x = x} {cs = cs} {p = q} l) h =
      let e : length (cs ++ q.consts) ≡ length cs + length q.consts = length-append cs q.consts in
      let e' : n.constants + (length cs + length q.consts) ≡ length p.consts = ap (λ i. n.constants + i) (sym e) ∙ h in
      let v = content_sound l (omega (arith, e')) in record {
        channels = v.channels;
        defs = (
          record {
            order = and refl (numbers_below n.constants (length cs) (length p.consts) (omega (arith, e')));
            closed = λ y t. absurd (false≢true t);
            once = each_once {n = 0} {m = 0} none;
            shallow = λ j t. absurd (false≢true t);
          },
          v.defs,
        );
        roles = v.roles;
        resources = v.resources;
        last = v.last;
        root = v.root;
      }
  content_sound {n} (d.nametype {m = k} {x = x} {e = e} g s l) h =
      let w = expr_sound m ks p fits g in let v = content_sound l h in
      with_def (def_sound n.definitions x [] (Body.Nametype e) k (and refl w.order) w.free w.turn (λ j t. s), v.defs) v
  content_sound {n} (d.data_definition {m = k} {x = x} {params = xs} {e = e} ps is g s l) h =
      let w = expr_sound m ks p fits g in let v = content_sound l h in
      with_def (def_sound n.definitions x xs (Body.Datum e) k w.order w.free w.turn (λ j t. s), v.defs) v
  content_sound {n} (d.process_definition {m = k} {x = x} {params = xs} {q = r} ps is g l) h =
      let w = proc_sound m ks p fits g in let v = content_sound l h in
      with_def (def_sound n.definitions x xs (Body.Process r) k w.order w.free w.turn (λ j t. absurd (false≢true t)), v.defs) v
  content_sound {n} (d.network_definition {m = k} {x = x} {params = xs} {w = r} ps is g l) h =
      let w = net_sound m ks p fits g in let v = content_sound l h in
      with_def (def_sound n.definitions x xs (Body.Network r) k w.order w.free w.turn (λ j t. absurd (false≢true t)), v.defs) v
  content_sound (d.assertion {m = k} g l) h =
      let v = content_sound l h in
      record { channels = v.channels; defs = v.defs; roles = v.roles; resources = v.resources; last = k; root = net_sound m ks p fits g }
  content_sound (d.roles a b c e f l) h =
      let v = content_sound l h in
      let roles = and (and (note_sound a) (and (set_sound a b) (and (set_sound a c) (and (set_sound a e) (set_sound a f))))) v.roles in
      record { channels = v.channels; defs = v.defs; roles = roles; resources = v.resources; last = v.last; root = v.root }
  content_sound (d.resource a b c l) h =
      let v = content_sound l h in
      let resources = and (and (note_sound a) (and (set_sound a b) (set_sound a c))) v.resources in
      record { channels = v.channels; defs = v.defs; roles = v.roles; resources = resources; last = v.last; root = v.root }
