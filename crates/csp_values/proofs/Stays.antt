-- What is worth the same under each binding of generators: forms whose parts are, and what bindings add, which then is what it is under the names
-- around the generators.
use Rattle.csp_values.proofs.Prelude.{or_parts, ◌≡◌, ℕ, suc, ◌+◌, Bool, false, nat_eq, Option, Some, None, Ok, Err, List, [], ◌∷◌, map, slice_get, refl, ap, sym, subst, ◌∙◌, arith, if◌then◌else◌, ℤ, nat_lt, All, Atom, Value, One, BinOp, SetOp, added, all_added, events_with, Outcome, and_then, Env, Front, Gathered, Turn, as_atom, as_number, as_set, as_truth, bound_value, from, front_events, fronts_added, gathered, in_field, meaning, meanings, one_event, over, row_in, row_of, sets_of, turn, uses_within, walked, when, EventPart, Expr, Gen-F, out-EventPart, out-Gen, roll-Gen, roll-out-Gen, Gen, SetLimit, Content, with_bound, inverse, negative, operation, a_set, course_over, begun, AgreeBeside, PartStays, Stays, bind, binds_of_layer, atoms_worth, chosen, event_worth, number_worth, one_more_binding, range_of, set_of, truth_worth, use_worth, walk_worth, with_front, with_fronts, with_items, worth, worths, yielded, Walk, MOST_BINDINGS}
use Rattle.csp_atoms.specs.declared.atom.Atom.TheVariants as atom
use Rattle.csp_program.specs.declared.expressions.Expr.TheVariants as expr
use Rattle.csp_program.specs.declared.expressions.Gen.TheVariants as generator
use Rattle.csp_values.proofs.Arms as arm
use Rattle.csp_values.proofs.Courses.{over_begun, over_course}
use Rattle.csp_values.proofs.Equations.{front-is, fronts-cons, turn-Cond, turn-From}

-- lists by their first member
pub first_has : {A : Type 0} (P : A → Type 0) (x : A) (xs : List A) → All P (x ∷ xs) → P x
first_has P x xs h = h 0 x (omega arith)

pub rest_has : {A : Type 0} (P : A → Type 0) (x : A) (xs : List A) → All P (x ∷ xs) → All P xs
rest_has P x xs h k d lt = h (suc k) d (omega arith)

-- ---- lists of parts

module _ (gens : List Gen) (p : Content) (n : ℕ) (env env' : Env) (agree : AgreeBeside gens env env') where
  worths_stay : (es : List Expr) → All (Stays gens) es → worths p n env es ≡ worths p n env' es
  unfolding worths worth Stays
  worths_stay [] h = refl
  worths_stay (e ∷ es) h =
      λ i. and_then (first_has (Stays gens) e es h p n env env' agree i) (λ v. and_then (worths_stay es (rest_has (Stays gens) e es h) i) (λ vs. Ok (v ∷ vs)))

  items_stay : (es : List Expr) → All (Stays gens) es → (atoms : List Atom) → with_items p n env es atoms ≡ with_items p n env' es atoms
  unfolding with_items worth Stays
  items_stay [] h atoms = refl
  items_stay (e ∷ es) h atoms =
      λ i. and_then (first_has (Stays gens) e es h p n env env' agree i) (λ v. and_then (as_atom v) (λ a. and_then (added atoms a) (λ more.
      items_stay es (rest_has (Stays gens) e es h) more i)))

  rows_stay : (es : List Expr) → All (Stays gens) es → (sets : List (List Atom)) → row_of (meanings p n es) sets env ≡ row_of (meanings p n es) sets env'
  unfolding worth Stays
  rows_stay [] h sets = refl
  rows_stay (e ∷ es) h [] = refl
  rows_stay (e ∷ es) h (set ∷ sets) =
      λ i. and_then (first_has (Stays gens) e es h p n env env' agree i) (λ v. and_then (in_field set v) (λ a. and_then (rows_stay es (rest_has (Stays gens) e es h) sets i)
      (λ row. Ok (a ∷ row))))

  row_stays : (es : List Expr) → All (Stays gens) es → (o : Option (List (List Atom))) → row_in o (meanings p n es) env ≡ row_in o (meanings p n es) env'
  row_stays es h None = refl
  row_stays es h (Some sets) = rows_stay es h sets

  front_stays : (c : ℕ) (es : List Expr) → All (Stays gens) es → front_events p.channels c (meanings p n es) env ≡ front_events p.channels c (meanings p n es) env'
  front_stays c es h = ap (λ o. and_then o (λ row. Ok (events_with p.channels c row))) (row_stays es h (sets_of (slice_get p.channels c)))

  part_stays : (part : EventPart) → PartStays gens part → (atoms : List Atom) → with_front p n env part atoms ≡ with_front p n env' part atoms
  unfolding with_front
  part_stays part h atoms =
      ap (λ (f : Front). fronts_added p.channels (f ∷ []) env atoms) (front-is p n part) ∙
      ((λ i. and_then (front_stays (out-EventPart part).channel (out-EventPart part).fields h i)
      (λ es. and_then (all_added atoms (map (λ e. atom.Event e) es)) (λ more. Ok more))) ∙
      ap (λ (f : Front). fronts_added p.channels (f ∷ []) env' atoms) (sym (front-is p n part)))

  fronts_stay : (parts : List EventPart) → All (PartStays gens) parts → (atoms : List Atom) → with_fronts p n env parts atoms ≡ with_fronts p n env' parts atoms
  unfolding with_fronts
  fronts_stay [] h atoms = refl
  fronts_stay (part ∷ parts) h atoms =
      fronts-cons p n env part parts atoms ∙
      ((λ i. and_then (part_stays part (first_has (PartStays gens) part parts h) atoms i) (λ more. fronts_stay parts (rest_has (PartStays gens) part parts h) more i)) ∙
      sym (fronts-cons p n env' part parts atoms))

-- ---- forms

module _ (gens : List Gen) where
  pub stays-Num : (k : ℤ) → Stays gens (expr.Num k)
  unfolding Stays
  stays-Num k p n env env' r = arm.worth-Num p n env k ∙ sym (arm.worth-Num p n env' k)

  pub stays-Truth : (b : Bool) → Stays gens (expr.Truth b)
  unfolding Stays
  stays-Truth b p n env env' r = arm.worth-Truth p n env b ∙ sym (arm.worth-Truth p n env' b)

  pub stays-Const : (k : ℕ) → Stays gens (expr.Const k)
  unfolding Stays
  stays-Const k p n env env' r = arm.worth-Const p n env k ∙ sym (arm.worth-Const p n env' k)

  pub stays-Bound : (x : ℕ) → bind gens x ≡ false → Stays gens (expr.Bound x)
  unfolding Stays
  stays-Bound x free p n env env' r = arm.worth-Bound p n env x ∙ (r x free ∙ sym (arm.worth-Bound p n env' x))

  pub stays-Lit : (v : Value) → Stays gens (expr.Lit v)
  unfolding Stays
  stays-Lit v p n env env' r = arm.worth-Lit p n env v ∙ sym (arm.worth-Lit p n env' v)

  pub stays-Neg : (a : Expr) → Stays gens a → Stays gens (expr.Neg a)
  unfolding Stays
  stays-Neg a h p n env env' r =
      arm.worth-Neg p n env a ∙ (ap negative (h p n env env' r) ∙ sym (arm.worth-Neg p n env' a))

  pub stays-Not : (a : Expr) → Stays gens a → Stays gens (expr.Not a)
  unfolding Stays
  stays-Not a h p n env env' r =
      arm.worth-Not p n env a ∙ (ap inverse (h p n env env' r) ∙ sym (arm.worth-Not p n env' a))

  pub stays-Binary : (op : BinOp) (a b : Expr) → Stays gens a → Stays gens b → Stays gens (expr.Binary op a b)
  unfolding Stays
  stays-Binary op a b h g p n env env' r =
      arm.worth-Binary p n env op a b ∙ ((λ i. operation op (h p n env env' r i) (g p n env env' r i)) ∙
      sym (arm.worth-Binary p n env' op a b))

  pub stays-If : (c a b : Expr) → Stays gens c → Stays gens a → Stays gens b → Stays gens (expr.If c a b)
  unfolding Stays truth_worth
  stays-If c a b f h g p n env env' r =
      arm.worth-If p n env c a b ∙
      ((λ i. chosen (and_then (f p n env env' r i) (λ v. as_truth v)) (h p n env env' r i) (g p n env env' r i)) ∙
      sym (arm.worth-If p n env' c a b))

  pub stays-Call : (d : ℕ) (args : List Expr) → All (Stays gens) args → Stays gens (expr.Call d args)
  unfolding Stays
  stays-Call d args h p n env env' r =
      arm.worth-Call p n env d args ∙ (ap (λ o. and_then o (λ vs. use_worth p n d vs)) (worths_stay gens p n env env' r args h) ∙
      sym (arm.worth-Call p n env' d args))

  pub stays-SetName : (d : ℕ) → Stays gens (expr.SetName d)
  unfolding Stays
  stays-SetName d p n env env' r = arm.worth-SetName p n env d ∙ sym (arm.worth-SetName p n env' d)

  pub stays-Event : (c : ℕ) (fields : List Expr) → All (Stays gens) fields → Stays gens (expr.Event c fields)
  unfolding Stays event_worth
  stays-Event c fields h p n env env' r =
      arm.worth-Event p n env c fields ∙
      (ap (λ o. and_then o (λ ds. and_then (one_event ds) (λ e. Ok (One (atom.Event e))))) (front_stays gens p n env env' r c fields h) ∙
      sym (arm.worth-Event p n env' c fields))

  pub stays-Display : (items : List Expr) → All (Stays gens) items → Stays gens (expr.Display items)
  unfolding Stays
  stays-Display items h p n env env' r =
      arm.worth-Display p n env items ∙ (ap a_set (items_stay gens p n env env' r items h []) ∙
      sym (arm.worth-Display p n env' items))

  pub stays-Range : (a b : Expr) → Stays gens a → Stays gens b → Stays gens (expr.Range a b)
  unfolding Stays number_worth
  stays-Range a b h g p n env env' r =
      arm.worth-Range p n env a b ∙
      ((λ i. range_of (and_then (h p n env env' r i) (λ v. as_number v)) (and_then (g p n env env' r i) (λ v. as_number v))) ∙
      sym (arm.worth-Range p n env' a b))

  pub stays-SetOp : (op : SetOp) (a b : Expr) → Stays gens a → Stays gens b → Stays gens (expr.SetOp op a b)
  unfolding Stays atoms_worth
  stays-SetOp op a b h g p n env env' r =
      arm.worth-SetOp p n env op a b ∙
      ((λ i. set_of op (and_then (h p n env env' r i) (λ v. as_set v)) (and_then (g p n env env' r i) (λ v. as_set v))) ∙
      sym (arm.worth-SetOp p n env' op a b))

pub ruleset forms_stay = (stays-Num, stays-Truth, stays-Const, stays-Bound, stays-Lit, stays-Neg, stays-Not, stays-Binary, stays-If, stays-Call, stays-SetName, stays-Event, stays-Display, stays-Range, stays-SetOp)

-- ---- the bindings of generators

module _ {S : Type 0} (p : Content) (n : ℕ) (all : List Gen) (g : Env → S → Outcome S) (around : Env)
    (same : (env : Env) → AgreeBeside all around env → (state : S) → g env state ≡ g around state) where
  abbrev Turns : List Gen → List Turn
  Turns gens = map (turn (uses_within p n) p.channels) gens

  abbrev Once : List Turn → Type 0
  Once turns = (env : Env) → AgreeBeside all around env → (state : S) → walked turns g env state ≡ walked turns (λ _. g around) env state

  -- one more name that a generator binds
  more_agree : (y : ℕ) (v : Value) (env : Env) → ((x : ℕ) → bind all x ≡ false → nat_eq y x ≡ false) → AgreeBeside all around env → AgreeBeside all around ((y, v) ∷ env)
  more_agree y v env apart agree x free = agree x free ∙ sym (ap (λ b. if b then Ok v else bound_value env x) (apart x free))

  once_from : (y : ℕ) (s : Expr) (turns : List Turn) → ((x : ℕ) → bind all x ≡ false → nat_eq y x ≡ false) → Once turns → Once (from y (meaning (uses_within p n) p.channels s) ∷ turns)
  once_from y s turns apart rest env agree state =
      λ i. and_then (worth_of env) (λ v. and_then (as_set v) (λ atoms. over atoms (λ a st. rest ((y, One a) ∷ env) (more_agree y (One a) env apart agree) st i) state))
    where
      worth_of : Env → Outcome Value
      worth_of = meaning (uses_within p n) p.channels s

  once_when : (c : Expr) (turns : List Turn) → Once turns → Once (when (meaning (uses_within p n) p.channels c) ∷ turns)
  once_when c turns rest env agree state =
      λ i. and_then (meaning (uses_within p n) p.channels c env) (λ v. and_then (as_truth v) (λ b. if b then rest env agree state i else Ok state))

  by_layer : (d : Gen-F Expr Gen EventPart) (turns : List Turn) → ((x : ℕ) → bind all x ≡ false → binds_of_layer d x ≡ false) → Once turns
      → Once (turn (uses_within p n) p.channels (roll-Gen d) ∷ turns)
  by_layer (Gen-F.From y s) turns apart rest =
      subst (λ (t : Turn). Once (t ∷ turns)) (sym (ap (turn (uses_within p n) p.channels) (generator.rolls-From y s) ∙ turn-From p n y s)) (once_from y s turns apart rest)
  by_layer (Gen-F.Cond c) turns apart rest =
      subst (λ (t : Turn). Once (t ∷ turns)) (sym (ap (turn (uses_within p n) p.channels) (generator.rolls-Cond c) ∙ turn-Cond p n c)) (once_when c turns rest)

  once : (gens : List Gen) → ((x : ℕ) → bind all x ≡ false → bind gens x ≡ false) → Once (Turns gens)
  once [] within = λ env agree state. same env agree state
  once (gen ∷ gens) within =
      subst (λ (g : Gen). Once (turn (uses_within p n) p.channels g ∷ Turns gens)) (roll-out-Gen gen)
      (by_layer (out-Gen gen) (Turns gens) (λ x free. (or_parts (binds_of_layer (out-Gen gen) x) (bind gens x) (within x free)).0)
      (once gens (λ x free. (or_parts (binds_of_layer (out-Gen gen) x) (bind gens x) (within x free)).1)))

-- what bindings add, where that is the same under each of them
pub once_begun : (p : Content) (n : ℕ) (gens : List Gen) (items : List Expr) (parts : List EventPart) (around : List (ℕ × Atom)) (params : Env) (walk : Walk) (state : Gathered)
    → All (Stays gens) items → All (PartStays gens) parts → walk ≡ begun around
    → walk_worth p n gens items parts (with_bound around params) state
    ≡ over_course (course_over p n gens params (with_bound around params) walk) (λ _. one_more_binding p n items parts (with_bound around params)) state
unfolding walk_worth one_more_binding
once_begun p n gens items parts around params walk state all_items all_parts is =
    once p n gens (gathered (yielded p n items parts)) (with_bound around params)
    (λ env agree st i. if nat_lt st.bindings MOST_BINDINGS then and_then (yields env agree st.atoms i) (λ atoms. Ok (record { bindings = st.bindings + 1; atoms = atoms })) else Err SetLimit)
    gens (λ x free. free) (with_bound around params) (λ x free. refl) state ∙
    over_begun (λ _. gathered (yielded p n items parts) (with_bound around params)) p n gens around params walk state is
  where
    yields : (env : Env) → AgreeBeside gens (with_bound around params) env → (atoms : List Atom) → yielded p n items parts env atoms ≡ yielded p n items parts (with_bound around params) atoms
    yields env agree atoms =
        sym (λ i. and_then (items_stay gens p n (with_bound around params) env agree items all_items atoms i) (λ more. fronts_stay gens p n (with_bound around params) env agree parts all_parts more i))
