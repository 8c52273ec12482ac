-- An expression with values put in place of names is worth what it is worth where the names are bound to the values.
use Rattle.substitution.proofs.Prelude.{◌≡◌, ℕ, Bool, true, false, cond, ◌||◌, nat_eq, Option, Some, None, Ok, Err, List, [], ◌∷◌, map, refl, ap, sym, ◌∙◌, subst, is_none, slice_get, Atom, Value, One, Many, added, all_added, events_with, Outcome, and_then, expr_with, gens_with, part_with, past, without, Given, Env, Front, Gathered, Meaning, Turn, Uses, as_atom, as_number, as_set, as_truth, binary, bound_value, front, front_events, front_of_layer, fronts_added, gathered, in_field, items_added, lack_sets, many, meaning, meaning_of_layer, one_event, over, range, row_in, row_of, set_binary, sets_of, turn, turn_of_layer, values_of, walked, EventPart, Expr, fold-roll-Expr, fold-roll-Gen, fold-roll-EventPart, map-Expr, map-Gen, Expr-F, Gen-F, EventPart-F, roll-Expr, roll-Gen, roll-EventPart, Gen, Every, ExprHas, GenHas, PartHas, each_expr, given_or, IsWithGiven, Kind, Channel, items_by_loops, fronts_by_loops, set_with_items}
use Rattle.csp_atoms.specs.declared.atom.Atom.TheVariants as atom
use Rattle.substitution.proofs.Forms.{expr_form, expr_is, gen_form, gen_is, left_is, named_form, part_form, part_is}

-- a name more is bound in both environments
extends : (y : ℕ) (w : Value) (given : Given) (env env' : Env) → IsWithGiven given env env' → IsWithGiven (without y given) ((y, w) ∷ env) ((y, w) ∷ env')
extends y w given env env' r = λ x. at (nat_eq y x) (given x) (bound_value env x) (bound_value env' x) (r x)
  where
    at : (b : Bool) (v : Option Value) (o o' : Outcome Value) → o' ≡ given_or v o → cond b (Ok w) o' ≡ given_or (cond b None v) (cond b (Ok w) o)
    at true v o o' h = refl
    at false v o o' h = h

module _ (u : Uses) (channels : List Channel) where
  abbrev M : Expr → Meaning
  M = meaning u channels

  abbrev T : Gen → Turn
  T = turn u channels

  abbrev F : EventPart → Front
  F = front u channels

  abbrev SameExpr : Expr → Type 0
  SameExpr e = (given : Given) (env env' : Env) → IsWithGiven given env env' → M (expr_with given e) env ≡ M e env'

  -- generators, and what is gathered under them
  abbrev Walk : List Gen → Type 0
  Walk gens = (given : Given) (g g' : Env → Gathered → Outcome Gathered)
      → ((env env' : Env) → IsWithGiven (past gens given) env env' → (state : Gathered) → g env state ≡ g' env' state)
      → (env env' : Env) → IsWithGiven given env env' → (state : Gathered) → walked (map T (gens_with given gens)) g env state ≡ walked (map T gens) g' env' state

  abbrev SameGen : Gen → Type 0
  SameGen g = (gens : List Gen) → Walk gens → Walk (g ∷ gens)

  abbrev SamePart : EventPart → Type 0
  SamePart p = (c : ℕ) × (fields : List Expr) × ((given : Given) → F (part_with given p) ≡ record { channel = c; fields = map M (map (expr_with given) fields) }) ×
      (F p ≡ record { channel = c; fields = map M fields }) × Every SameExpr fields

  -- ---- lists of expressions and of parts

  values_same : (es : List Expr) → Every SameExpr es → (given : Given) (env env' : Env) → IsWithGiven given env env'
      → values_of (map M (map (expr_with given) es)) env ≡ values_of (map M es) env'
  values_same [] same given env env' r = refl
  values_same (e ∷ es) same given env env' r =
      λ i. and_then (same.0 given env env' r i) (λ w. and_then (values_same es same.1 given env env' r i) (λ ws. Ok (w ∷ ws)))

  items_same : (es : List Expr) → Every SameExpr es → (given : Given) (env env' : Env) → IsWithGiven given env env' → (atoms : List Atom)
      → items_added (map M (map (expr_with given) es)) env atoms ≡ items_added (map M es) env' atoms
  items_same [] same given env env' r atoms = refl
  items_same (e ∷ es) same given env env' r atoms = λ i. and_then (same.0 given env env' r i)
      (λ w. and_then (as_atom w) (λ a. and_then (added atoms a) (λ more. items_same es same.1 given env env' r more i)))

  rows_same : (es : List Expr) → Every SameExpr es → (sets : List (List Atom)) (given : Given) (env env' : Env) → IsWithGiven given env env'
      → row_of (map M (map (expr_with given) es)) sets env ≡ row_of (map M es) sets env'
  rows_same [] same sets given env env' r = refl
  rows_same (e ∷ es) same [] given env env' r = refl
  rows_same (e ∷ es) same (set ∷ sets) given env env' r = λ i. and_then (same.0 given env env' r i)
      (λ w. and_then (in_field set w) (λ a. and_then (rows_same es same.1 sets given env env' r i) (λ row. Ok (a ∷ row))))

  row_same : (o : Option (List (List Atom))) (es : List Expr) → Every SameExpr es → (given : Given) (env env' : Env) → IsWithGiven given env env'
      → row_in o (map M (map (expr_with given) es)) env ≡ row_in o (map M es) env'
  row_same None es same given env env' r = refl
  row_same (Some sets) es same given env env' r = rows_same es same sets given env env' r

  front_same : (c : ℕ) (es : List Expr) → Every SameExpr es → (given : Given) (env env' : Env) → IsWithGiven given env env'
      → front_events channels c (map M (map (expr_with given) es)) env ≡ front_events channels c (map M es) env'
  front_same c es same given env env' r = λ i. and_then (row_same (sets_of (slice_get channels c)) es same given env env' r i) (λ row. Ok (events_with channels c row))

  fronts_same : (ps : List EventPart) → Every SamePart ps → (given : Given) (env env' : Env) → IsWithGiven given env env' → (atoms : List Atom)
      → fronts_added channels (map F (map (part_with given) ps)) env atoms ≡ fronts_added channels (map F ps) env' atoms
  fronts_same [] same given env env' r atoms = refl
  fronts_same (p ∷ ps) same given env env' r atoms =
      (λ i. fronts_added channels (same.0.2 given i ∷ map F (map (part_with given) ps)) env atoms) ∙
      ((λ i. and_then (front_same same.0.0 same.0.1 same.0.4 given env env' r i)
      (λ es. and_then (all_added atoms (map (λ e. atom.Event e) es)) (λ more. fronts_same ps same.1 given env env' r more i))) ∙
      (λ i. fronts_added channels (sym same.0.3 i ∷ map F ps) env' atoms))

  lack_same : (ps : List EventPart) → Every SamePart ps → (given : Given) → lack_sets channels (map F (map (part_with given) ps)) ≡ lack_sets channels (map F ps)
  lack_same [] same given = refl
  lack_same (p ∷ ps) same given =
      let one : (F (part_with given p)).channel ≡ (F p).channel = (λ i. (same.0.2 given i).channel) ∙ (λ i. (sym same.0.3 i).channel) in
      λ i. is_none (sets_of (slice_get channels (one i))) || lack_same ps same.1 given i

  -- ---- generators

  walks : (gens : List Gen) → Every SameGen gens → Walk gens
  walks [] same = λ given g g' h env env' r state. h env env' r state
  walks (g ∷ gens) same = same.0 gens (walks gens same.1)

  turn_rolls : (d : Gen-F Expr Gen EventPart) → T (roll-Gen d) ≡ turn_of_layer u channels (map-Gen Expr Gen EventPart Meaning Turn Front M T F d)
  turn_rolls = fold-roll-Gen Meaning Turn Front (meaning_of_layer u channels) (turn_of_layer u channels) (front_of_layer u channels)

  gen_step : (d : Gen-F Expr Gen EventPart) → GenHas SameExpr SameGen SamePart d → SameGen (roll-Gen d)
  gen_step (Gen-F.From y s) same gens rest given g g' h env env' r state =
      let d : Gen-F Expr Gen EventPart = Gen-F.From y s in
      (λ i. walked ((ap T (gen_is given d) ∙ turn_rolls (gen_form given d)) i ∷ map T (gens_with (left_is d i given) gens)) g env state) ∙
      ((λ i. and_then (same given env env' r i) (λ w. and_then (as_set w) (λ atoms. over atoms
      (λ a st. rest (without y given) g g'
      (λ e e' k. h e e' (subst (λ (left : Given → Given). IsWithGiven (past gens (left given)) e e') (sym (left_is d)) k))
      ((y, One a) ∷ env) ((y, One a) ∷ env') (extends y (One a) given env env' r) st i) state))) ∙
      (λ i. walked (sym (turn_rolls d) i ∷ map T gens) g' env' state))
  gen_step (Gen-F.Cond c) same gens rest given g g' h env env' r state =
      let d : Gen-F Expr Gen EventPart = Gen-F.Cond c in
      (λ i. walked ((ap T (gen_is given d) ∙ turn_rolls (gen_form given d)) i ∷ map T (gens_with (left_is d i given) gens)) g env state) ∙
      ((λ i. and_then (same given env env' r i) (λ w. and_then (as_truth w) (λ t. cond t
      (rest given g g'
      (λ e e' k. h e e' (subst (λ (left : Given → Given). IsWithGiven (past gens (left given)) e e') (sym (left_is d)) k))
      env env' r state i) (Ok state)))) ∙
      (λ i. walked (sym (turn_rolls d) i ∷ map T gens) g' env' state))

  -- what is gathered under generators
  gathered_same : (gens : List Gen) → Every SameGen gens → (given : Given) (env env' : Env) → IsWithGiven given env env' → (add add' : Env → List Atom → Outcome (List Atom))
      → ((e e' : Env) → IsWithGiven (past gens given) e e' → (atoms : List Atom) → add e atoms ≡ add' e' atoms)
      → walked (map T (gens_with given gens)) (gathered add) env (record { bindings = 0; atoms = [] }) ≡ walked (map T gens) (gathered add') env' (record { bindings = 0; atoms = [] })
  gathered_same gens same given env env' r add add' h =
      walks gens same given (gathered add) (gathered add')
      (λ e e' k state i. gathered (λ z atoms. h e e' k atoms i) e state)
      env env' r (record { bindings = 0; atoms = [] })

  -- ---- forms

  abbrev of_form : Expr-F Expr Gen EventPart → Meaning
  of_form d = meaning_of_layer u channels (map-Expr Expr Gen EventPart Meaning Turn Front M T F d)

  rolls : (d : Expr-F Expr Gen EventPart) → M (roll-Expr d) ≡ of_form d
  rolls = fold-roll-Expr Meaning Turn Front (meaning_of_layer u channels) (turn_of_layer u channels) (front_of_layer u channels)

  name_same : (y : ℕ) (env : Env) (found : Option Value) → of_form (named_form y found) env ≡ given_or found (bound_value env y)
  name_same y env None = refl
  name_same y env (Some v) = refl

  form_same : (d : Expr-F Expr Gen EventPart) → ExprHas SameExpr SameGen SamePart d → (given : Given) (env env' : Env) → IsWithGiven given env env'
      → of_form (expr_form given d) env ≡ of_form d env'
  form_same (Expr-F.Bound y) same given env env' r = name_same y env (given y) ∙ sym (r y)
  form_same (Expr-F.Neg a) same given env env' r = λ i. meaning_of_layer u channels (Expr-F.Neg (λ z. same given env env' r i)) env
  form_same (Expr-F.Not a) same given env env' r = λ i. meaning_of_layer u channels (Expr-F.Not (λ z. same given env env' r i)) env
  form_same (Expr-F.Binary o a c) same given env env' r = λ i. and_then (same.0 given env env' r i) (λ w. binary o w (same.1 given env env' r i))
  form_same (Expr-F.If c a e) same given env env' r =
      λ i. and_then (same.0 given env env' r i) (λ w. and_then (as_truth w) (λ t. cond t (same.1 given env env' r i) (same.2 given env env' r i)))
  form_same (Expr-F.Call d args) same given env env' r = λ i. and_then (values_same args same given env env' r i) (λ ws. u d ws)
  form_same (Expr-F.Event c fields) same given env env' r =
      λ i. and_then (front_same c fields same given env env' r i) (λ es. and_then (one_event es) (λ e. Ok (One (atom.Event e))))
  form_same (Expr-F.Display items) same given env env' r =
      ap many (set_with_items (map M (map (expr_with given) items)) env [] ∙ (items_same items same given env env' r [] ∙ sym (set_with_items (map M items) env' [])))
  form_same (Expr-F.Range a c) same given env env' r = λ i. and_then (same.0 given env env' r i)
      (λ w. and_then (as_number w) (λ m. and_then (same.1 given env env' r i) (λ z. and_then (as_number z) (λ n. many (range m n)))))
  form_same (Expr-F.Comp items gens) same given env env' r =
      items_by_loops (map T (gens_with given gens)) (map M (map (expr_with (past gens given)) items)) env ∙
      ((λ i. and_then
      (gathered_same gens same.1 given env env' r (items_added (map M (map (expr_with (past gens given)) items))) (items_added (map M items)) (items_same items same.0 (past gens given)) i)
      (λ state. Ok (Many state.atoms))) ∙
      sym (items_by_loops (map T gens) (map M items) env'))
  form_same (Expr-F.Product parts gens) same given env env' r =
      ap (cond (lack_sets channels (map F (map (part_with (past gens given)) parts))) (Err Kind)) (fronts_by_loops (map T (gens_with given gens)) channels (map F (map (part_with (past gens given)) parts)) env) ∙
      ((λ i. cond (lack_same parts same.0 (past gens given) i) (Err Kind) (and_then
      (gathered_same gens same.1 given env env' r (fronts_added channels (map F (map (part_with (past gens given)) parts))) (fronts_added channels (map F parts))
      (fronts_same parts same.0 (past gens given)) i)
      (λ state. Ok (Many state.atoms)))) ∙
      ap (cond (lack_sets channels (map F parts)) (Err Kind)) (sym (fronts_by_loops (map T gens) channels (map F parts) env')))
  form_same (Expr-F.SetOp o a c) same given env env' r = λ i. and_then (same.0 given env env' r i)
      (λ w. and_then (as_set w) (λ xs. and_then (same.1 given env env' r i) (λ z. and_then (as_set z) (λ ys. many (set_binary o xs ys)))))
  form_same d same given env env' r = refl

  expr_step : (d : Expr-F Expr Gen EventPart) → ExprHas SameExpr SameGen SamePart d → SameExpr (roll-Expr d)
  expr_step d same given env env' r =
      (λ i. M (expr_is given d i) env) ∙ ((λ i. rolls (expr_form given d) i env) ∙ (form_same d same given env env' r ∙ (λ i. sym (rolls d) i env')))

  front_rolls : (d : EventPart-F Expr Gen EventPart) → F (roll-EventPart d) ≡ record { channel = d.channel; fields = map M d.fields }
  front_rolls = fold-roll-EventPart Meaning Turn Front (meaning_of_layer u channels) (turn_of_layer u channels) (front_of_layer u channels)

  part_step : (d : EventPart-F Expr Gen EventPart) → PartHas SameExpr SameGen SamePart d → SamePart (roll-EventPart d)
  part_step d same = (d.channel, d.fields, λ given. ap F (part_is given d) ∙ front_rolls (part_form given d), front_rolls d, same)

  pub keeps_worth : (given : Given) (e : Expr) (env env' : Env) → IsWithGiven given env env' → meaning u channels (expr_with given e) env ≡ meaning u channels e env'
  keeps_worth given e = each_expr SameExpr SameGen SamePart expr_step gen_step part_step e given
