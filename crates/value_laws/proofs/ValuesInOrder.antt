-- The value of an expression in order, over a program in order, is in order.
use Rattle.value_laws.proofs.Prelude.{◌≡◌, ℕ, zero, suc, Bool, true, false, cond, ◌&&◌, not, IsTrue, Option, Some, None, Ok, Err, List, [], ◌∷◌, map, length, refl, sym, ◌∙◌, subst, inl, inr, arith, ℤ, pos, negsuc, ◌+ℤ◌, ◌<ℤ◌, ◌-ℤ◌, ◌*ℤ◌, neg_ℤ, int_lt, int_le, nat_lt, nat_eq, slice_get, false≢true, lt-ltb, or_cases, ints, length-map, slice_get_within, same_kind, AllAbove, AllOfKind, IsAtomSet, IsRising, alike, diff_of, has_atom, inter_of, is_set, union_of, Atom, Value, One, Many, has-diff_of, has-inter_of, has-union_of, IsAtomSet-filter, IsAtomSet-union_of, IsAtomSet-from, is_set-when, all_added, limited, numbers_from, IsInOrder, atom_in_order, body_in_order, def_in_order, expr_in_order, expr_in_order_of_layer, gen_in_order, gen_in_order_of_layer, is_datum, part_in_order, part_in_order_of_layer, takes, value_in_order, with_fields, all_true, Outcome, and_then, Env, Front, Meaning, Turn, Uses, as_atom, as_number, as_set, as_truth, binary, body_value, bound_to, bound_value, def_value, divided, from, front, front_of_layer, in_range, items_added, lack_sets, many, meaning, meaning_of_layer, number, on_numbers, on_truths, on_atoms, quotient, remainder, set_binary, sets_of, truth, turn, turn_of_layer, uses_within, value_within, values_of, when, event_of, EventPart, Expr, fold-roll-Expr, fold-roll-Gen, map-Expr, map-Gen, Expr-F, Gen-F, roll-Expr, roll-Gen, Gen, ValueKind, Range, Division, Kind, Body, Content, Def, BeginsWithOne, IsBinding, IsItem, HasSets, StandsAt, first_of, EnvIsInOrder, ValuesAreInOrder, is_and, is_first, is_second, Every, ExprHas, GenHas, each_expr, came_through, less_number, natural, BinOp, SetOp, one_kind, items_by_loops, fronts_by_loops, set_with, set_with_items, set_with_atoms, items_in}
use Rattle.csp_program.specs.Value as meant
use Rattle.value_laws.proofs.AtExpressions.{with_sets}
use Rattle.value_laws.proofs.EventPlaces.{event_found}
use Rattle.value_laws.proofs.Fits.{program_fits}
use Rattle.value_laws.proofs.Fronts.{all_grow, events_held, has_sets}
use Rattle.value_laws.proofs.Lists.{same_outcome}
use Rattle.value_laws.proofs.Nests.{all_at}
use Rattle.value_laws.proofs.ProgramEvents.{as_many, stands_in, table_from_sets}
use Rattle.value_laws.proofs.TablePlaces.{numbers_are_places, of_table}
use Rattle.value_laws.proofs.Walks.{has_after, has_cases, has_here, held, items_grow, items_held, limit_back, passed}
use Rattle.csp_atoms.specs.declared.atom.Atom.TheVariants as atom
use Rattle.csp_base.specs.declared.operators.BinOp.TheVariants as op
use Rattle.csp_base.specs.declared.operators.SetOp.TheVariants as set_op
use Rattle.csp_program.specs.declared.programs.Body.TheVariants as body

-- ---- numbers in a row

above_numbers : (x m : ℤ) (k : ℕ) → x <ℤ m → AllAbove (atom.Num x) (numbers_from m k)
above_numbers x m zero h = tt
above_numbers x m (suc k) h = (less_number x m h, above_numbers x (m +ℤ pos 1) k (omega (arith, ints)))

rising_numbers : (m : ℤ) (k : ℕ) → IsRising (numbers_from m k)
rising_numbers m zero = tt
rising_numbers m (suc k) = (above_numbers m (m +ℤ pos 1) k (omega (arith, ints)), rising_numbers (m +ℤ pos 1) k)

kind_numbers : (m : ℤ) (k : ℕ) → AllOfKind 0 (numbers_from m k)
kind_numbers m zero = tt
kind_numbers m (suc k) = (refl, kind_numbers (m +ℤ pos 1) k)

module _ (p : Content) where
  -- ---- outcomes whose value is in order

  abbrev pub Fine : Outcome Value → Type 0
  Fine o = (v : Value) → o ≡ Ok v → IsTrue (value_in_order p v)

  fine_ok : (w : Value) → IsTrue (value_in_order p w) → Fine (Ok w)
  fine_ok w t v h = subst (λ (z : Value). IsTrue (value_in_order p z)) (same_outcome h) t

  fine_err : (k : ValueKind) → Fine (Err k)
  fine_err k v h = absurd (cc)

  fine_if : (t : Bool) (o o' : Outcome Value) → Fine o → Fine o' → Fine (cond t o o')
  fine_if true o o' f g = f
  fine_if false o o' f g = g

  fine_then : {A : Type 0} (o : Outcome A) (next : A → Outcome Value) → ((a : A) → o ≡ Ok a → Fine (next a)) → Fine (and_then o next)
  fine_then (Ok a) next f = f a refl
  fine_then (Err k) next f = fine_err k

  fine_number : (n : ℤ) → Fine (Ok (number n))
  fine_number n = fine_ok (number n) refl

  fine_truth : (b : Bool) → Fine (Ok (truth b))
  fine_truth b = fine_ok (truth b) refl

  fine_in_range : (n : ℤ) → Fine (in_range n)
  fine_in_range n = fine_if (int_le (neg_ℤ (pos 1000000)) n && int_le n (pos 1000000)) (Ok (number n)) (Err Range) (fine_number n) (fine_err Range)

  fine_divided : (f : ℤ → ℕ → ℤ) (m d : ℤ) → Fine (divided f m d)
  fine_divided f m (pos zero) = fine_err Division
  fine_divided f m (pos (suc d)) = fine_number (f m (suc d))
  fine_divided f m (negsuc d) = fine_err Division

  fine_on_numbers : (f : ℤ → ℤ → Outcome Value) (v : Value) (second : Outcome Value) → ((m n : ℤ) → Fine (f m n)) → Fine (on_numbers f v second)
  fine_on_numbers f v second g = fine_then (as_number v) _ (λ m e. fine_then second _ (λ w e'. fine_then (as_number w) _ (λ n e''. g m n)))

  fine_on_atoms : (f : Atom → Atom → Bool) (v : Value) (second : Outcome Value) → Fine (on_atoms f v second)
  fine_on_atoms f v second =
      fine_then (as_atom v) _ (λ a e. fine_then second _ (λ w e'. fine_then (as_atom w) _
      (λ b e''. fine_if (same_kind a b) (Ok (truth (f a b))) (Err Kind) (fine_truth (f a b)) (fine_err Kind))))

  fine_on_truths : (decides : Bool) (v : Value) (second : Outcome Value) → Fine (on_truths decides v second)
  fine_on_truths decides v second =
      fine_then (as_truth v) _ (λ b e. fine_if (cond decides b (not b)) (Ok (truth b)) (and_then second (λ w. and_then (as_truth w) (λ c. Ok (truth c)))) (fine_truth b)
      (fine_then second _ (λ w e'. fine_then (as_truth w) _ (λ c e''. fine_truth c))))

  fine_binary : (o : BinOp) (v : Value) (second : Outcome Value) → Fine (binary o v second)
  fine_binary op.Or v second = fine_on_truths true v second
  fine_binary op.And v second = fine_on_truths false v second
  fine_binary op.Eq v second = fine_on_atoms _ v second
  fine_binary op.Ne v second = fine_on_atoms _ v second
  fine_binary op.Lt v second = fine_on_numbers _ v second (λ m n. fine_truth (int_lt m n))
  fine_binary op.Le v second = fine_on_numbers _ v second (λ m n. fine_truth (int_le m n))
  fine_binary op.Gt v second = fine_on_numbers _ v second (λ m n. fine_truth (int_lt n m))
  fine_binary op.Ge v second = fine_on_numbers _ v second (λ m n. fine_truth (int_le n m))
  fine_binary op.Add v second = fine_on_numbers (λ m n. in_range (m +ℤ n)) v second (λ m n. fine_in_range (m +ℤ n))
  fine_binary op.Sub v second = fine_on_numbers (λ m n. in_range (m -ℤ n)) v second (λ m n. fine_in_range (m -ℤ n))
  fine_binary op.Mul v second = fine_on_numbers (λ m n. in_range (m *ℤ n)) v second (λ m n. fine_in_range (m *ℤ n))
  fine_binary op.Div v second = fine_on_numbers (divided quotient) v second (fine_divided quotient)
  fine_binary op.Rem v second = fine_on_numbers (divided remainder) v second (fine_divided remainder)

  -- ---- sets in order

  abbrev AllIn : List Atom → Type 0
  AllIn set = (z : Atom) → IsTrue (has_atom set z) → IsTrue (atom_in_order p z)

  all_in : (set : List Atom) → AllIn set → IsTrue (all_true (map (atom_in_order p) set))
  all_in [] f = refl
  all_in (a ∷ rest) f =
      is_and (atom_in_order p a) (all_true (map (atom_in_order p) rest)) (f a (has_here a rest a refl)) (all_in rest (λ z h. f z (has_after a rest z h)))

  in_all : (set : List Atom) → IsTrue (all_true (map (atom_in_order p) set)) → AllIn set
  in_all [] t z h = absurd (false≢true h)
  in_all (a ∷ rest) t z h =
      elim (has_cases a rest z h) [
        | inl e ↦ subst (λ (y : Atom). IsTrue (atom_in_order p y)) e (is_first (atom_in_order p a) (all_true (map (atom_in_order p) rest)) t)
        | inr r ↦ in_all rest (is_second (atom_in_order p a) (all_true (map (atom_in_order p) rest)) t) z r
      ]

  abbrev SetFine : List Atom → Type 0
  SetFine set = AllIn set × IsAtomSet set

  set_value : (set : List Atom) → SetFine set → IsTrue (value_in_order p (Many set))
  set_value set s = is_and (all_true (map (atom_in_order p) set)) (is_set set) (all_in set s.0) (is_set-when set s.1)

  value_set : (set : List Atom) → IsTrue (value_in_order p (Many set)) → SetFine set
  value_set set t =
      (in_all set (is_first (all_true (map (atom_in_order p) set)) (is_set set) t), IsAtomSet-from set (is_second (all_true (map (atom_in_order p) set)) (is_set set) t))

  abbrev FineSet : Outcome (List Atom) → Type 0
  FineSet o = (set : List Atom) → o ≡ Ok set → SetFine set

  fine_many : (o : Outcome (List Atom)) → FineSet o → Fine (many o)
  fine_many o f = fine_then o _ (λ set e. fine_ok (Many set) (set_value set (f set e)))

  fine_limited : (xs : List Atom) → SetFine xs → FineSet (limited xs)
  fine_limited xs s set h = subst SetFine (limit_back xs set h) s

  fine_set_binary : (o : SetOp) (xs ys : List Atom) → SetFine xs → SetFine ys → FineSet (set_binary o xs ys)
  fine_set_binary set_op.Union xs ys s r set h =
      fine_limited (union_of xs ys) (
        λ z m. elim (or_cases (has_atom xs z) (has_atom ys z) (sym (has-union_of xs ys z) ∙ m)) [ inl a ↦ s.0 z a | inr b ↦ r.0 z b ],
        IsAtomSet-union_of xs ys s.1 r.1 (held (alike xs ys) (limited (union_of xs ys)) Kind set h),
      )
      set (passed (alike xs ys) (limited (union_of xs ys)) Kind set h)
  fine_set_binary set_op.Inter xs ys s r set h =
      fine_limited (inter_of xs ys)
      (λ z m. s.0 z (is_first (has_atom xs z) (has_atom ys z) (sym (has-inter_of xs ys z) ∙ m)), IsAtomSet-filter (has_atom ys) xs s.1) set h
  fine_set_binary set_op.Diff xs ys s r set h =
      fine_limited (diff_of xs ys)
      (λ z m. s.0 z (is_first (has_atom xs z) (not (has_atom ys z)) (sym (has-diff_of xs ys z) ∙ m)), IsAtomSet-filter (λ a. not (has_atom ys a)) xs s.1) set h

  all_numbers : (m : ℤ) (k : ℕ) → AllIn (numbers_from m k)
  all_numbers m zero z h = absurd (false≢true h)
  all_numbers m (suc k) z h =
      elim (has_cases (atom.Num m) (numbers_from (m +ℤ pos 1) k) z h) [
        | inl e ↦ subst (λ (y : Atom). IsTrue (atom_in_order p y)) e refl
        | inr r ↦ all_numbers (m +ℤ pos 1) k z r
      ]

  fine_range : (m n : ℤ) → FineSet (meant.range m n)
  fine_range m n =
      let k = natural (n -ℤ m +ℤ pos 1) in
      fine_limited (numbers_from m k) (all_numbers m k, (rising_numbers m k, one_kind 0 (numbers_from m k) (kind_numbers m k)))

  fine_as_set : (v : Value) → IsTrue (value_in_order p v) → FineSet (as_set v)
  fine_as_set (One a) t set h = absurd (cc)
  fine_as_set (Many atoms) t set h = subst SetFine (same_outcome h) (value_set atoms t)

  -- ---- values of names and of arguments

  bound_fine : (env : Env) → EnvIsInOrder p env → (x : ℕ) → Fine (bound_value env x)
  bound_fine [] o x = fine_err Kind
  bound_fine (b ∷ env) o x = fine_if (nat_eq b.0 x) (Ok b.1) (bound_value env x) (fine_ok b.1 o.0) (bound_fine env o.1 x)

  abbrev AllOrdered : List Value → Type 0
  AllOrdered [] = Unit {0}
  AllOrdered (v ∷ vs) = IsTrue (value_in_order p v) × AllOrdered vs

  bound_to_fine : (params : List ℕ) (args : List Value) → AllOrdered args → EnvIsInOrder p (bound_to params args)
  bound_to_fine (x ∷ xs) (v ∷ vs) o = (o.0, bound_to_fine xs vs o.1)
  bound_to_fine _ _ o = tt

  const_fine : (ks : List ℕ) → IsTrue (all_true (map (λ k. nat_lt k (length p.consts)) ks)) → AllIn (map (λ k. atom.Const k) ks)
  const_fine [] o z h = absurd (false≢true h)
  const_fine (k ∷ ks) o z h =
      elim (has_cases (atom.Const k) (map (λ k. atom.Const k) ks) z h) [
        | inl e ↦ subst (λ (y : Atom). IsTrue (atom_in_order p y)) e (is_first (nat_lt k (length p.consts)) (all_true (map (λ k. nat_lt k (length p.consts)) ks)) o)
        | inr r ↦ const_fine ks (is_second (nat_lt k (length p.consts)) (all_true (map (λ k. nat_lt k (length p.consts)) ks)) o) z r
      ]

  module _ (ordered : IsInOrder p) where
    -- an event that stands in the table of the channels is one of the program
    event_there : (c place : ℕ) (row : List Atom) (sets : List (List Atom)) → HasSets p.channels c sets → StandsAt p.channels place c row → IsTrue (atom_in_order p (atom.Event place))
    event_there c place row sets has stands =
        let at = stands_in p c place row (table_from_sets p ordered.table c sets has) stands in
        lt-ltb place (length p.events) (slice_get_within p.events place (event_of c row) at)

    begun_there : (fronts : List Front) (env : Env) (place : ℕ) → BeginsWithOne p.channels fronts env place → IsTrue (atom_in_order p (atom.Event place))
    begun_there [] env place n = absurd n
    begun_there (f ∷ fronts) env place (inl b) =
        let t = of_table p.channels f.channel place _ b.3 in
        event_there f.channel place _ t.sets t.has b.3
    begun_there (f ∷ fronts) env place (inr r) = begun_there fronts env place r

    module _ (u : Uses) (uses_fine : (d : ℕ) (args : List Value) → AllOrdered args → Fine (u d args)) where
      abbrev M : Expr → Meaning
      M = meaning u p.channels

      abbrev T : Gen → Turn
      T = turn u p.channels

      abbrev F : EventPart → Front
      F = front u p.channels

      abbrev pub FineMeaning : Meaning → Type 0
      FineMeaning m = (env : Env) → EnvIsInOrder p env → Fine (m env)

      abbrev pub FineExpr : Expr → Type 0
      FineExpr e = IsTrue (expr_in_order p e) → FineMeaning (M e)

      abbrev FineTurn : Turn → Type 0
      FineTurn (from x s) = FineMeaning s
      FineTurn (when c) = Unit {0}

      abbrev pub FineGen : Gen → Type 0
      FineGen g = IsTrue (gen_in_order p g) → FineTurn (T g)

      abbrev pub AnyPart : EventPart → Type 0
      AnyPart part = Unit {0}

      abbrev all_exprs : List Expr → Bool
      all_exprs es = all_true (map (expr_in_order p) es)

      abbrev all_gens : List Gen → Bool
      all_gens gs = all_true (map (gen_in_order p) gs)

      values_fine : (es : List Expr) → Every FineExpr es → IsTrue (all_exprs es) → (env : Env) → EnvIsInOrder p env → (vs : List Value) → values_of (map M es) env ≡ Ok vs → AllOrdered vs
      values_fine [] fine o env r vs h = subst AllOrdered (same_outcome h) tt
      values_fine (e ∷ es) fine o env r vs h =
          let first = came_through (M e env) (λ w. and_then (values_of (map M es) env) (λ ws. Ok (w ∷ ws))) vs h in
          let second = came_through (values_of (map M es) env) (λ ws. Ok (first.0 ∷ ws)) vs first.2 in
          let all : AllOrdered (first.0 ∷ second.0) = (
            fine.0 (is_first (expr_in_order p e) (all_exprs es) o) env r first.0 first.1,
            values_fine es fine.1 (is_second (expr_in_order p e) (all_exprs es) o) env r second.0 second.1,
          ) in
          subst AllOrdered (same_outcome second.2) all

      item_fine : (es : List Expr) → Every FineExpr es → IsTrue (all_exprs es) → (env : Env) → EnvIsInOrder p env → (a : Atom) → IsItem (map M es) env a → IsTrue (atom_in_order p a)
      item_fine [] fine o env r a n = absurd n
      item_fine (e ∷ es) fine o env r a (inl h) = fine.0 (is_first (expr_in_order p e) (all_exprs es) o) env r (One a) h
      item_fine (e ∷ es) fine o env r a (inr n) = item_fine es fine.1 (is_second (expr_in_order p e) (all_exprs es) o) env r a n

      one_turn : (t : Turn) (turns : List Turn) → FineTurn t → ((env bound : Env) → EnvIsInOrder p env → IsBinding turns env bound → EnvIsInOrder p bound)
          → (env bound : Env) → EnvIsInOrder p env → IsBinding (t ∷ turns) env bound → EnvIsInOrder p bound
      one_turn (from x s) turns fine rest env bound r n =
          rest ((x, One n.1) ∷ env) bound ((value_set n.0 (fine env r (Many n.0) n.2)).0 n.1 n.3, r) n.4
      one_turn (when c) turns fine rest env bound r n = rest env bound r n.1

      binding_fine : (gs : List Gen) → Every FineGen gs → IsTrue (all_gens gs) → (env bound : Env) → EnvIsInOrder p env → IsBinding (map T gs) env bound → EnvIsInOrder p bound
      binding_fine [] fine o env bound r n = subst (EnvIsInOrder p) n r
      binding_fine (g ∷ gs) fine o env bound r n =
          one_turn (T g) (map T gs) (fine.0 (is_first (gen_in_order p g) (all_gens gs) o))
          (binding_fine gs fine.1 (is_second (gen_in_order p g) (all_gens gs) o)) env bound r n

      abbrev form_order : Expr-F Expr Gen EventPart → Bool
      form_order d = expr_in_order_of_layer p (map-Expr Expr Gen EventPart Bool Bool Bool (expr_in_order p) (gen_in_order p) (part_in_order p) d)

      abbrev of_form : Expr-F Expr Gen EventPart → Meaning
      of_form d = meaning_of_layer u p.channels (map-Expr Expr Gen EventPart Meaning Turn Front M T F d)

      event_fine : (c : ℕ) (fields : List Expr) → IsTrue (form_order (Expr-F.Event c fields)) → FineMeaning (of_form (Expr-F.Event c fields))
      event_fine c fields o env r v h =
          let ms : List Meaning = map M fields in
          let count : ℕ = length (map (expr_in_order p) fields) in
          let t = event_found p.channels (program_fits p ordered) c ms env v h in
          let s = has_sets (first_of (slice_get p.channels c)) (sets_of (slice_get p.channels c)) ms env t.0 t.1 in
          let long : length ms ≡ count = length-map fields M ∙ sym (length-map fields (expr_in_order p)) in
          let asked = is_first (with_fields (λ n. nat_eq n count) (slice_get p.channels c)) (all_exprs fields) o in
          let found = numbers_are_places p ordered c s.0 ms env t.0 s.1 (long ∙ as_many p p.channels c s.0 count ordered.channels_used s.1 asked) t.1 in
          subst (λ (z : Value). IsTrue (value_in_order p z)) (sym t.2) (event_there c t.0 found.0 s.0 s.1 found.2)

      comp_fine : (items : List Expr) (gens : List Gen) → Every FineExpr items → Every FineGen gens → IsTrue (form_order (Expr-F.Comp items gens)) → FineMeaning (of_form (Expr-F.Comp items gens))
      comp_fine items gens fine fine_gens o env r v h =
          let c = items_held (map M items) (map T gens) env v (sym (items_by_loops (map T gens) (map M items) env) ∙ h) in
          subst (λ (z : Value). IsTrue (value_in_order p z)) (sym c.1)
          (set_value c.0 (
            λ z m.
                let f = (c.3 z).0 m in
                item_fine items fine (is_first (all_exprs items) (all_gens gens) o) f.0 (binding_fine gens fine_gens (is_second (all_exprs items) (all_gens gens) o) env f.0 r f.1) z f.2,
            c.2.0,
          ))

      product_fine : (parts : List EventPart) (gens : List Gen) → FineMeaning (of_form (Expr-F.Product parts gens))
      product_fine parts gens env r v h =
          let found = with_sets (lack_sets p.channels (map F parts)) _ v h in
          let c = events_held p ordered (map F parts) (map T gens) env v (sym (fronts_by_loops (map T gens) p.channels (map F parts) env) ∙ found) in
          subst (λ (z : Value). IsTrue (value_in_order p z)) (sym c.1)
          (set_value c.0 (
            λ z m.
                let f = (c.3 z).0 m in
                subst (λ (y : Atom). IsTrue (atom_in_order p y)) (sym f.3) (begun_there (map F parts) f.0 f.1 f.4),
            c.2.0,
          ))

      display_fine : (items : List Expr) → Every FineExpr items → IsTrue (all_exprs items) → FineMeaning (of_form (Expr-F.Display items))
      display_fine items fine o env r =
          fine_many (set_with [] (items_in (map M items) env))
          (λ set h.
          let g = items_grow (map M items) env [] set (sym (set_with_items (map M items) env []) ∙ h) in
          (λ z m. elim ((g.1 z).0 m) [ inl n ↦ absurd (false≢true n) | inr i ↦ item_fine items fine o env r z i ], (g.0 ((tt, tt), omega arith)).0))

      range_fine : (a b : Expr) → FineMeaning (of_form (Expr-F.Range a b))
      range_fine a b env r =
          fine_then (M a env) _ (λ v e. fine_then (as_number v) _ (λ m f. fine_then (M b env) _ (λ w g. fine_then (as_number w) _
          (λ n h. fine_many (meant.range m n) (fine_range m n)))))

      set_op_fine : (q : SetOp) (a b : Expr) → FineExpr a → FineExpr b → IsTrue (expr_in_order p a && expr_in_order p b) → FineMeaning (of_form (Expr-F.SetOp q a b))
      set_op_fine q a b first second o env r =
          fine_then (M a env) _ (λ v e. fine_then (as_set v) _ (λ xs f. fine_then (M b env) _ (λ w g. fine_then (as_set w) _
          (λ ys h. fine_many (set_binary q xs ys) (fine_set_binary q xs ys
          (fine_as_set v (first (is_first (expr_in_order p a) (expr_in_order p b) o) env r v e) xs f)
          (fine_as_set w (second (is_second (expr_in_order p a) (expr_in_order p b) o) env r w g) ys h))))))

      if_fine : (c a b : Expr) → FineExpr a → FineExpr b → IsTrue (expr_in_order p c && (expr_in_order p a && expr_in_order p b)) → FineMeaning (of_form (Expr-F.If c a b))
      if_fine c a b first second o env r =
          let two = is_second (expr_in_order p c) (expr_in_order p a && expr_in_order p b) o in
          fine_then (M c env) _ (λ v e. fine_then (as_truth v) _
          (λ t f. fine_if t (M a env) (M b env)
          (first (is_first (expr_in_order p a) (expr_in_order p b) two) env r) (second (is_second (expr_in_order p a) (expr_in_order p b) two) env r)))

      form_fine : (d : Expr-F Expr Gen EventPart) → ExprHas FineExpr FineGen AnyPart d → IsTrue (form_order d) → FineMeaning (of_form d)
      form_fine (Expr-F.Num n) fine o env r = fine_number n
      form_fine (Expr-F.Truth b) fine o env r = fine_truth b
      form_fine (Expr-F.Const k) fine o env r = fine_ok (One (atom.Const k)) o
      form_fine (Expr-F.Bound x) fine o env r = bound_fine env r x
      form_fine (Expr-F.Lit w) fine o env r = fine_ok w o
      form_fine (Expr-F.Neg a) fine o env r = fine_then (M a env) _ (λ v e. fine_then (as_number v) _ (λ n f. fine_in_range (neg_ℤ n)))
      form_fine (Expr-F.Not a) fine o env r = fine_then (M a env) _ (λ v e. fine_then (as_truth v) _ (λ b f. fine_truth (not b)))
      form_fine (Expr-F.Binary q a b) fine o env r = fine_then (M a env) _ (λ v e. fine_binary q v (M b env))
      form_fine (Expr-F.If c a b) fine o env r = if_fine c a b fine.1 fine.2 o env r
      form_fine (Expr-F.Call d args) fine o env r =
          fine_then (values_of (map M args) env) _
          (λ vs e. uses_fine d vs (values_fine args fine
          (is_second (takes is_datum (length (map (expr_in_order p) args)) (slice_get p.defs d)) (all_exprs args) o) env r vs e))
      form_fine (Expr-F.SetName d) fine o env r = fine_then (u d []) _ (λ v e. fine_many (as_set v) (fine_as_set v (uses_fine d [] tt v e)))
      form_fine (Expr-F.Event c fields) fine o env r = event_fine c fields o env r
      form_fine (Expr-F.Display items) fine o env r = display_fine items fine o env r
      form_fine (Expr-F.Range a b) fine o env r = range_fine a b env r
      form_fine (Expr-F.Comp items gens) fine o env r = comp_fine items gens fine.0 fine.1 o env r
      form_fine (Expr-F.Product parts gens) fine o env r = product_fine parts gens env r
      form_fine (Expr-F.SetOp q a b) fine o env r = set_op_fine q a b fine.0 fine.1 o env r

      expr_step : (d : Expr-F Expr Gen EventPart) → ExprHas FineExpr FineGen AnyPart d → FineExpr (roll-Expr d)
      expr_step d fine o env r v h =
          form_fine d fine (sym (fold-roll-Expr Bool Bool Bool (expr_in_order_of_layer p) (gen_in_order_of_layer p) (part_in_order_of_layer p) d) ∙ o) env r v
          ((λ i. sym (fold-roll-Expr Meaning Turn Front (meaning_of_layer u p.channels) (turn_of_layer u p.channels) (front_of_layer u p.channels) d) i env) ∙ h)

      gen_form_fine : (d : Gen-F Expr Gen EventPart) → GenHas FineExpr FineGen AnyPart d
          → IsTrue (gen_in_order_of_layer p (map-Gen Expr Gen EventPart Bool Bool Bool (expr_in_order p) (gen_in_order p) (part_in_order p) d)) → FineTurn (turn_of_layer u p.channels (map-Gen Expr Gen EventPart Meaning Turn Front M T F d))
      gen_form_fine (Gen-F.From n s) fine o = fine o
      gen_form_fine (Gen-F.Cond c) fine o = tt

      gen_step : (d : Gen-F Expr Gen EventPart) → GenHas FineExpr FineGen AnyPart d → FineGen (roll-Gen d)
      gen_step d fine o =
          subst FineTurn (sym (fold-roll-Gen Meaning Turn Front (meaning_of_layer u p.channels) (turn_of_layer u p.channels) (front_of_layer u p.channels) d))
          (gen_form_fine d fine (sym (fold-roll-Gen Bool Bool Bool (expr_in_order_of_layer p) (gen_in_order_of_layer p) (part_in_order_of_layer p) d) ∙ o))

      pub expr_fine : (e : Expr) → FineExpr e
      expr_fine = each_expr FineExpr FineGen AnyPart expr_step gen_step (λ d fine. tt)

      body_fine : (params : List ℕ) (b : Body) → IsTrue (body_in_order p params b) → (args : List Value) → AllOrdered args → Fine (body_value M params b args)
      body_fine params (body.Datum e) o args a = expr_fine e o (bound_to params args) (bound_to_fine params args a)
      body_fine params (body.Nametype e) o args a = expr_fine e (is_second (nat_eq (length params) 0) (expr_in_order p e) o) [] tt
      body_fine params (body.Datatype ks) o args a =
          let known = is_second (nat_eq (length params) 0) (all_true (map (λ k. nat_lt k (length p.consts)) ks)) o in
          fine_many (set_with [] (map (λ k. Ok (atom.Const k)) ks))
          (λ set h.
          let g = all_grow [] (map (λ k. atom.Const k) ks) set (sym (set_with_atoms (λ k. atom.Const k) ks []) ∙ h) in
          (λ z m. elim ((g.1 z).0 m) [ inl n ↦ absurd (false≢true n) | inr i ↦ const_fine ks known z i ], (g.0 ((tt, tt), omega arith)).0))
      body_fine params (body.Process q) o args a = fine_err Kind
      body_fine params (body.Network n) o args a = fine_err Kind

      pub def_fine : (def : Option Def) → ((d : Def) → def ≡ Some d → IsTrue (def_in_order p d)) → (args : List Value) → AllOrdered args → Fine (def_value M def args)
      def_fine None f args a = fine_err Kind
      def_fine (Some def) f args a = body_fine def.params def.body (f def refl) args a

    uses_are_fine : (n d : ℕ) (args : List Value) → AllOrdered args → Fine (uses_within p n d args)
    uses_are_fine zero d args a = fine_err Kind
    uses_are_fine (suc n) d args a =
        def_fine (uses_within p n) (uses_are_fine n) (slice_get p.defs d) (λ def is. all_at (def_in_order p) p.defs d def ordered.defs_used is) args a

    pub values_fine_within : (n : ℕ) (e : Expr) → IsTrue (expr_in_order p e) → (env : Env) → EnvIsInOrder p env → Fine (value_within p n e env)
    values_fine_within n e o env r = expr_fine (uses_within p n) (uses_are_fine n) e o env r

pub values_are_in_order : ValuesAreInOrder
values_are_in_order p ordered n e o env r = values_fine_within p ordered n e o env r
