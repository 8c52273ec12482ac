-- A process or a network that a tree means is in order, reads only names of its scope, and binds its names in turn.
use Rattle.resolved_laws.proofs.Sources.{◌≡◌, ℕ, nat_eq, Bool, IsTrue, List, [], length, map, refl, sym, ◌∙◌, subst, slice_get, eq-eqb, Bound, field_bound, net_bound, net_bound_of_layer, pair_bound, proc_bound, proc_bound_of_layer, Names, any_of, before, net_free, net_free_of_layer, pair_free, proc_free, proc_free_of_layer, field_in_order, fields_left, is_process, net_in_order, net_in_order_of_layer, pair_in_order, proc_in_order, proc_in_order_of_layer, takes, with_fields, all_true, joined, Meanings, Scope, AreFields, ArePairs, AreProcs, IsComposition, IsNet, IsProc, Content, EventPart, Field, FieldTree, Kind, Net, Net-F, PartTree, Proc, Proc-F, Tree, fold-roll-Net, fold-roll-Proc, map-Net, map-Proc, roll-Net, roll-Proc}
use Rattle.csp_program.specs.InOrder as order
use Rattle.csp_program.specs.declared.networks.Net.TheVariants as net
use Rattle.csp_program.specs.declared.processes.Proc.TheVariants as proc
use Rattle.script_names.specs.Typing as t
use Rattle.resolved_laws.proofs.Booleans.{and}
use Rattle.resolved_laws.proofs.Declared.{Fits}
use Rattle.resolved_laws.proofs.InTurn.{InTurn, first, joins}
use Rattle.resolved_laws.proofs.Sound.{Binds, IsSound, behind_all, binds_behind, binds_none, binds_one, count_exprs, count_fields, fact, given, pair, triple, under_one}
use Rattle.resolved_laws.proofs.TypedExprs.{expr_sound, exprs_sound, front_sound, gens_sound}
use Rattle.resolved_laws.proofs.Within.{IsWithin, apart_within, either_within, one_within}

module _ (m : Meanings) (ks : List Kind) (p : Content) (fits : Fits m ks p) where
  abbrev FieldsSound : Scope → ℕ → List Field → Scope → ℕ → Type 0
  FieldsSound scope n fs inner k = Binds (all_true (map (field_in_order p) fs)) (before fs) (joined (map field_bound fs)) scope inner n k

  abbrev PairsSound : Scope → ℕ → List (EventPart × EventPart) → ℕ → Type 0
  PairsSound scope n fs k = IsSound (all_true (map (pair_in_order p) fs)) (any_of (map pair_free fs)) (joined (map pair_bound fs)) scope n k

  abbrev pub ProcSound : Scope → ℕ → Proc → ℕ → Type 0
  ProcSound scope n q k = IsSound (proc_in_order p q) (proc_free q) (proc_bound q) scope n k

  abbrev ProcsSound : Scope → ℕ → List Proc → ℕ → Type 0
  ProcsSound scope n qs k = IsSound (all_true (map (proc_in_order p) qs)) (any_of (map proc_free qs)) (joined (map proc_bound qs)) scope n k

  abbrev pub NetSound : Scope → ℕ → Net → ℕ → Type 0
  NetSound scope n w k = IsSound (net_in_order p w) (net_free w) (net_bound w) scope n k

  -- ---- one layer

  proc_form : {scope : Scope} {n k : ℕ} (d : Proc-F Proc) {q : Proc} → roll-Proc d ≡ q
      → IsSound (proc_in_order_of_layer p (map-Proc Proc Bool (proc_in_order p) d)) (proc_free_of_layer (map-Proc Proc Names proc_free d))
      (proc_bound_of_layer (map-Proc Proc Bound proc_bound d)) scope n k → ProcSound scope n q k
  proc_form {scope} {n} {k} d is h = subst (λ z. ProcSound scope n z k) is (record {
    order = subst IsTrue (sym (fold-roll-Proc Bool (proc_in_order_of_layer p) d)) h.order;
    free = subst (λ z. IsWithin z scope) (sym (fold-roll-Proc Names proc_free_of_layer d)) h.free;
    turn = subst (λ z. InTurn n z k) (sym (fold-roll-Proc Bound proc_bound_of_layer d)) h.turn;
  })

  net_form : {scope : Scope} {n k : ℕ} (d : Net-F Net) {w : Net} → roll-Net d ≡ w
      → IsSound (net_in_order_of_layer p (map-Net Net Bool (net_in_order p) d)) (net_free_of_layer (map-Net Net Names net_free d))
      (net_bound_of_layer (map-Net Net Bound net_bound d)) scope n k → NetSound scope n w k
  net_form {scope} {n} {k} d is h = subst (λ z. NetSound scope n z k) is (record {
    order = subst IsTrue (sym (fold-roll-Net Bool (net_in_order_of_layer p) d)) h.order;
    free = subst (λ z. IsWithin z scope) (sym (fold-roll-Net Names net_free_of_layer d)) h.free;
    turn = subst (λ z. InTurn n z k) (sym (fold-roll-Net Bound net_bound_of_layer d)) h.turn;
  })

  -- ---- fields and pairs

  fields_sound : {scope inner : Scope} {n k : ℕ} {ts : List FieldTree} {fs : List Field} → AreFields m ks scope n ts fs inner k → FieldsSound scope n fs inner k
  fields_sound t.no_fields = binds_none
  fields_sound (t.dot h g) = binds_behind (expr_sound m ks p fits h) (fields_sound g)
  fields_sound (t.output h g) = binds_behind (expr_sound m ks p fits h) (fields_sound g)
  fields_sound {n = n} (t.input {x = x} b g) =
      let v = fields_sound g in record { order = v.order; free = λ names l. apart_within x n (v.free names l); turn = first v.turn }
  fields_sound (t.input_from {x = x} b h g) = binds_one x (expr_sound m ks p fits h) (fields_sound g)

  pairs_sound : {scope : Scope} {n k : ℕ} {ts : List (PartTree × PartTree)} {fs : List (EventPart × EventPart)} → ArePairs m ks scope n ts fs k
      → PairsSound scope n fs k
  pairs_sound t.no_pairs = fact refl
  pairs_sound (t.more_pairs {f = f} {g = g} h l rest) =
      let w = front_sound m ks p fits h in let v = front_sound m ks p fits l in let u = pairs_sound rest in
      let alike = eq-eqb (fields_left p f) (fields_left p g) (w.leaves ∙ sym v.leaves) in
      record {
        order = and (and w.sound.order (and v.sound.order alike)) u.order;
        free = either_within (either_within w.sound.free v.sound.free) u.free;
        turn = joins (joins w.sound.turn v.sound.turn) u.turn;
      }

  -- ---- processes

  mutual
    pub proc_sound : {scope : Scope} {n k : ℕ} {a : Tree} {q : Proc} → IsProc m ks scope n a q k → ProcSound scope n q k
    proc_sound t.stop = proc_form _ proc.rolls-Stop (fact refl)
    proc_sound t.skip = proc_form _ proc.rolls-Skip (fact refl)
    proc_sound (t.process {d = d} {x = x} h is) = proc_form _ (proc.rolls-Call _ _) (given (fits.process x d 0 h.1 is) (fact refl))
    proc_sound (t.process_call {d = d} {f = x} {args = args} h is g) =
        proc_form _ (proc.rolls-Call _ _)
        (given (subst (λ i. IsTrue (takes is_process i (slice_get p.defs d))) (count_exprs g) (fits.process x d (length args) h.1 is)) (exprs_sound m ks p fits g))
    proc_sound (t.proc_if h g l) = proc_form _ (proc.rolls-If _ _ _) (triple (expr_sound m ks p fits h) (proc_sound g) (proc_sound l))
    proc_sound (t.prefix {c = c} {x = x} {ts = ts} h g l) =
        proc_form _ (proc.rolls-Prefix _ _ _)
        (given (subst (λ i. IsTrue (with_fields (λ j. nat_eq j i) (slice_get p.channels c))) (count_fields g) (fits.channel x c (length ts) h.1))
        (behind_all (fields_sound g) (proc_sound l)))
    proc_sound {scope} (t.bound_prefix {b = b} {x = x} h l) =
        let v = proc_sound l in
        proc_form _ (proc.rolls-Prefix _ _ _)
        (record { order = and refl (and refl v.order); free = either_within (one_within scope x b h) v.free; turn = v.turn })
    proc_sound (t.guard h l) = proc_form _ (proc.rolls-Guard _ _) (pair (expr_sound m ks p fits h) (proc_sound l))
    proc_sound (t.external h) = proc_form _ (proc.rolls-External _) (procs_sound h)
    proc_sound (t.internal h) = proc_form _ (proc.rolls-Internal _) (procs_sound h)
    proc_sound (t.each_external {x = x} b h l) = proc_form _ (proc.rolls-EachExternal _ _ _) (under_one x (expr_sound m ks p fits h) (proc_sound l))
    proc_sound (t.each_internal {x = x} b h l) = proc_form _ (proc.rolls-EachInternal _ _ _) (under_one x (expr_sound m ks p fits h) (proc_sound l))
    proc_sound (t.sequence h l) = proc_form _ (proc.rolls-Seq _ _) (pair (proc_sound h) (proc_sound l))
    proc_sound (t.hide h l) = proc_form _ (proc.rolls-Hide _ _) (pair (proc_sound h) (expr_sound m ks p fits l))
    proc_sound (t.rename h g l) =
        let w = proc_sound h in let v = pairs_sound g in let u = gens_sound m ks p fits l in
        proc_form _ (proc.rolls-Rename _ _ _) (record {
          order = and w.order (and v.order u.order);
          free = either_within w.free (u.free _ v.free);
          turn = joins (joins w.turn v.turn) u.turn;
        })

    procs_sound : {scope : Scope} {n k : ℕ} {ts : List Tree} {qs : List Proc} → AreProcs m ks scope n ts qs k → ProcsSound scope n qs k
    procs_sound t.no_procs = fact refl
    procs_sound (t.more_procs h g) = pair (proc_sound h) (procs_sound g)

  -- ---- networks

  leaf_sound : {scope : Scope} {n k : ℕ} (q : Proc) → ProcSound scope n q k → NetSound scope n (net.Leaf q) k
  leaf_sound q w = net_form _ (net.rolls-Leaf q) w

  pub stop_sound : NetSound [] 0 (net.Leaf proc.Stop) 0
  stop_sound = leaf_sound proc.Stop (proc_form _ proc.rolls-Stop (fact refl))

  mutual
    pub net_sound : {scope : Scope} {n k : ℕ} {a : Tree} {w : Net} → IsNet m ks scope n a w k → NetSound scope n w k
    net_sound (t.component {q = q} h) = leaf_sound q (proc_sound h)
    net_sound (t.composition h) = composition_sound h

    composition_sound : {scope : Scope} {n k : ℕ} {a : Tree} {w : Net} → IsComposition m ks scope n a w k → NetSound scope n w k
    composition_sound (t.network {d = d} {x = x} h is) = net_form _ (net.rolls-Call _ _) (given (fits.network x d 0 h.1 is) (fact refl))
    composition_sound (t.network_call {d = d} {f = x} {args = args} h is g) =
        net_form _ (net.rolls-Call _ _)
        (given (subst (λ i. IsTrue (takes order.is_network i (slice_get p.defs d))) (count_exprs g) (fits.network x d (length args) h.1 is))
        (exprs_sound m ks p fits g))
    composition_sound (t.if_first h g l) = net_form _ (net.rolls-If _ _ _) (triple (expr_sound m ks p fits h) (composition_sound g) (net_sound l))
    composition_sound (t.if_second {r = r} h g l) =
        net_form _ (net.rolls-If _ _ _) (triple (expr_sound m ks p fits h) (leaf_sound r (proc_sound g)) (composition_sound l))
    composition_sound (t.parallel h g l j) =
        let w = net_sound h in let v = expr_sound m ks p fits g in let u = expr_sound m ks p fits l in let r = net_sound j in
        net_form _ (net.rolls-Pair _ _ _ _) (record {
          order = and w.order (and v.order (and u.order r.order));
          free = either_within w.free (either_within v.free (either_within u.free r.free));
          turn = joins (joins (joins w.turn v.turn) u.turn) r.turn;
        })
    composition_sound {n = n} (t.each_parallel {x = x} b h g l) =
        let w = expr_sound m ks p fits h in let v = expr_sound m ks p fits g in let u = net_sound l in
        net_form _ (net.rolls-Each _ _ _ _) (record {
          order = and w.order (and v.order u.order);
          free = either_within w.free (apart_within x n (either_within v.free u.free));
          turn = first (joins (joins w.turn v.turn) u.turn);
        })
