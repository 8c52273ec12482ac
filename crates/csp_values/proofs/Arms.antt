-- What a call answers for a form, from what calls answer for its parts.
use Rattle.csp_values.proofs.Prelude.{◌≡◌, ℕ, zero, suc, ◌+◌, ◌<◌, ◌^◌, Bool, true, false, List, [], None, Ok, Err, length, refl, ap, sym, subst, ◌∙◌, arith, ℤ, if◌then◌else◌, slice_get, Result, IsErrAnd, all_added, Outcome, and_then, Env, Gathered, bound_value, many, number, one_event, range, set_binary, as_number, as_set, sets_of, as_truth, EventPart, Expr, Expr-F, out-EventPart, ValueKind, Kind, OutsideChannel, Channel, Content, ChannelsFit, events_from, span, Atom, Value, One, BinOp, SetOp, negative, inverse, operation, named_set, a_set, gathered_set, produced, count_with, Gives, EvalFault, worth, worths, number_worth, truth_worth, atoms_worth, chosen, range_of, set_of, use_worth, with_items, event_worth, front_worth, with_front, with_fronts, one_more_binding, GivesTally, Course, GivesBinding, faulty, skipped, Walk, and_then_regroup, Tally, at_err, weaker, MOST_BINDINGS, Tells, set_with_items, meanings}
use Rattle.csp_atoms.specs.declared.atom.Atom.TheVariants as atom
use Rattle.csp_program.specs.declared.expressions.Expr.TheVariants as expr
use Rattle.value_operators.specs.Forms as form
use Rattle.csp_values.proofs.Equations as eq
use Rattle.csp_values.proofs.FieldSteps.{front_fits}

pub same : {A : Type 0} (r : Result A EvalFault) (o o' : Outcome A) → o ≡ o' → Gives r o' → Gives r o
same r o o' is h = subst (Gives r) (sym is) h

pub walk_passed : (r : Result Tally EvalFault) (f : EvalFault) (part whole : Outcome Gathered)
    → IsErrAnd r (λ y. y ≡ f) → GivesTally (Err f) part → ((k : ValueKind) → part ≡ Err k → whole ≡ Err k) → GivesTally r whole
walk_passed r f part whole is h passes = at_err (λ q. GivesTally q whole) r f is (weaker (λ k. part ≡ Err k) (λ k. whole ≡ Err k) f h passes)

-- a fault of a walk is a fault of what is gathered
pub binding_passed : (r : Result Tally EvalFault) (f : EvalFault) (Fails : ValueKind → Type 0) (whole : Outcome Gathered)
    → IsErrAnd r (λ y. y ≡ f) → Tells Fails f → ((k : ValueKind) → Fails k → whole ≡ Err k) → GivesTally r whole
binding_passed r f Fails whole is h passes = at_err (λ q. GivesTally q whole) r f is (weaker Fails (λ k. whole ≡ Err k) f h passes)

-- two parts, each of which is taken for what it is worth
module _ {V M C : Type 0} (f : V → Outcome M) (g : M → M → Outcome C) where
  second_part : (o : Outcome M) (b : Outcome V) → and_then o (λ m. and_then b (λ w. and_then (f w) (λ n. g m n))) ≡ and_then o (λ m. and_then (and_then b f) (λ n. g m n))
  second_part (Ok m) b = and_then_regroup b f (λ n. g m n)
  second_part (Err k) b = refl

  both_parts : (a b : Outcome V) → and_then a (λ v. and_then (f v) (λ m. and_then b (λ w. and_then (f w) (λ n. g m n)))) ≡ and_then (and_then a f) (λ m. and_then (and_then b f) (λ n. g m n))
  both_parts (Ok v) b = second_part (f v) b
  both_parts (Err k) b = refl

-- forms of expressions
module _ (p : Content) (n : ℕ) (env : Env) where
  pub worth-Num : (k : ℤ) → worth p n env (expr.Num k) ≡ Ok (number k)
  unfolding worth
  worth-Num k = eq.at p n env (expr.Num k) (Expr-F.Num k) (expr.rolls-Num k)

  pub worth-Truth : (b : Bool) → worth p n env (expr.Truth b) ≡ Ok (One (atom.Truth b))
  unfolding worth
  worth-Truth b = eq.at p n env (expr.Truth b) (Expr-F.Truth b) (expr.rolls-Truth b)

  pub worth-Const : (k : ℕ) → worth p n env (expr.Const k) ≡ Ok (One (atom.Const k))
  unfolding worth
  worth-Const k = eq.at p n env (expr.Const k) (Expr-F.Const k) (expr.rolls-Const k)

  pub worth-Bound : (x : ℕ) → worth p n env (expr.Bound x) ≡ bound_value env x
  unfolding worth
  worth-Bound x = eq.at p n env (expr.Bound x) (Expr-F.Bound x) (expr.rolls-Bound x)

  pub worth-Lit : (v : Value) → worth p n env (expr.Lit v) ≡ Ok v
  unfolding worth
  worth-Lit v = eq.at p n env (expr.Lit v) (Expr-F.Lit v) (expr.rolls-Lit v)

  pub worth-Neg : (a : Expr) → worth p n env (expr.Neg a) ≡ negative (worth p n env a)
  unfolding worth
  worth-Neg a = eq.at p n env (expr.Neg a) (Expr-F.Neg a) (expr.rolls-Neg a)

  pub worth-Not : (a : Expr) → worth p n env (expr.Not a) ≡ inverse (worth p n env a)
  unfolding worth
  worth-Not a = eq.at p n env (expr.Not a) (Expr-F.Not a) (expr.rolls-Not a)

  pub worth-Binary : (op : BinOp) (a b : Expr) → worth p n env (expr.Binary op a b) ≡ operation op (worth p n env a) (worth p n env b)
  unfolding worth
  worth-Binary op a b = eq.at p n env (expr.Binary op a b) (Expr-F.Binary op a b) (expr.rolls-Binary op a b)

  pub worth-If : (c a b : Expr) → worth p n env (expr.If c a b) ≡ chosen (truth_worth p n env c) (worth p n env a) (worth p n env b)
  unfolding worth truth_worth
  worth-If c a b =
      eq.at p n env (expr.If c a b) (Expr-F.If c a b) (expr.rolls-If c a b) ∙
      and_then_regroup (worth p n env c) (λ v. as_truth v) (λ t. if t then worth p n env a else worth p n env b)

  pub worth-Call : (d : ℕ) (args : List Expr) → worth p n env (expr.Call d args) ≡ and_then (worths p n env args) (λ vs. use_worth p n d vs)
  unfolding worth worths use_worth
  worth-Call d args = eq.at p n env (expr.Call d args) (Expr-F.Call d args) (expr.rolls-Call d args)

  pub worth-SetName : (d : ℕ) → worth p n env (expr.SetName d) ≡ named_set (use_worth p n d [])
  unfolding worth use_worth
  worth-SetName d = eq.at p n env (expr.SetName d) (Expr-F.SetName d) (expr.rolls-SetName d)

  pub worth-Event : (c : ℕ) (fields : List Expr) → worth p n env (expr.Event c fields) ≡ event_worth p n env c fields
  unfolding worth event_worth
  worth-Event c fields = eq.at p n env (expr.Event c fields) (Expr-F.Event c fields) (expr.rolls-Event c fields)

  pub worth-Display : (items : List Expr) → worth p n env (expr.Display items) ≡ a_set (with_items p n env items [])
  unfolding worth with_items
  worth-Display items = eq.at p n env (expr.Display items) (Expr-F.Display items) (expr.rolls-Display items) ∙ ap many (set_with_items (meanings p n items) env [])

  pub worth-Range : (a b : Expr) → worth p n env (expr.Range a b) ≡ range_of (number_worth p n env a) (number_worth p n env b)
  unfolding worth number_worth
  worth-Range a b =
      eq.at p n env (expr.Range a b) (Expr-F.Range a b) (expr.rolls-Range a b) ∙
      both_parts (λ v. as_number v) (λ k m. many (range k m)) (worth p n env a) (worth p n env b)

  pub worth-SetOp : (op : SetOp) (a b : Expr) → worth p n env (expr.SetOp op a b) ≡ set_of op (atoms_worth p n env a) (atoms_worth p n env b)
  unfolding worth atoms_worth
  worth-SetOp op a b =
      eq.at p n env (expr.SetOp op a b) (Expr-F.SetOp op a b) (expr.rolls-SetOp op a b) ∙
      both_parts (λ v. as_set v) (λ xs ys. many (set_binary op xs ys)) (worth p n env a) (worth p n env b)

pub ruleset worth_forms = (worth-Num, worth-Truth, worth-Const, worth-Bound, worth-Lit, worth-Neg, worth-Not, worth-Binary, worth-If, worth-Call, worth-SetName, worth-Event, worth-Display, worth-Range, worth-SetOp, eq.worth-Comp, eq.worth-Product)

-- a production whose channels were looked at
pub lacking : (p : Content) (channels : List Channel) (parts : List EventPart) (t : Bool) (o : Outcome Gathered) → channels ≡ p.channels → t ≡ form.lack_sets channels parts → t ≡ true
    → produced (form.lack_sets p.channels parts) o ≡ Err Kind
lacking p channels parts t o got is lacks = ap (λ (b : Bool). produced b o) (ap (λ (cs : List Channel). form.lack_sets cs parts) (sym got) ∙ sym is ∙ lacks)

pub not_lacking : (p : Content) (channels : List Channel) (parts : List EventPart) (t : Bool) (o : Outcome Gathered) → channels ≡ p.channels → t ≡ form.lack_sets channels parts → t ≡ false
    → produced (form.lack_sets p.channels parts) o ≡ gathered_set o
not_lacking p channels parts t o got is has = ap (λ (b : Bool). produced b o) (ap (λ (cs : List Channel). form.lack_sets cs parts) (sym got) ∙ sym is ∙ has)

-- numbers of events
pub front_without_sets : (p : Content) (n : ℕ) (env : Env) (c : ℕ) (es : List Expr) (channels : List Channel) → channels ≡ p.channels → sets_of (slice_get channels c) ≡ None → front_worth p n env c es ≡ Err Kind
front_without_sets p n env c es channels got has = eq.front-none p n env c es (ap (λ cs. sets_of (slice_get cs c)) (sym got) ∙ has)

-- what a front adds, and the event that has its fields
module _ (p : Content) (n : ℕ) (env : Env) (channels : List Channel) (got : channels ≡ p.channels) (fit : ChannelsFit channels) where
  own_fit : ChannelsFit p.channels
  own_fit = subst ChannelsFit got fit

  -- the count of its events is one of 32 bits
  pub count_fits : (c : ℕ) (es : List Expr) (first given : ℕ) → given ≡ length es → front_worth p n env c es ≡ Ok first → first + count_with (sets_of (slice_get channels c)) given < 2 ^ 32
  count_fits c es first given got_given good =
      subst (λ cs. first + count_with (sets_of (slice_get cs c)) given < 2 ^ 32) (sym got)
      (subst (λ m. first + count_with (sets_of (slice_get p.channels c)) m < 2 ^ 32) (sym got_given) (front_fits p n env c es first own_fit good))

  same_counts : (c : ℕ) (es : List Expr) (given count : ℕ) → given ≡ length es → count ≡ count_with (sets_of (slice_get channels c)) given → count_with (sets_of (slice_get p.channels c)) (length es) ≡ count
  same_counts c es given count got_given counted = (λ i. count_with (sets_of (slice_get (sym got i) c)) (sym got_given i)) ∙ sym counted

  pub event_fault : (c : ℕ) (es : List Expr) (k : ValueKind) → front_worth p n env c es ≡ Err k → event_worth p n env c es ≡ Err k
  event_fault c es k bad = eq.event-is p n env c es own_fit ∙ ap (λ o. and_then o (λ e. and_then (one_event (span e (count_with (sets_of (slice_get p.channels c)) (length es)))) (λ d. Ok (One (atom.Event d))))) bad

  event_at : (c : ℕ) (es : List Expr) (first given count : ℕ) → given ≡ length es → count ≡ count_with (sets_of (slice_get channels c)) given → front_worth p n env c es ≡ Ok first
      → event_worth p n env c es ≡ and_then (one_event (span first count)) (λ d. Ok (One (atom.Event d)))
  event_at c es first given count got_given counted good =
      eq.event-is p n env c es own_fit ∙
      ap (λ o. and_then o (λ e. and_then (one_event (span e (count_with (sets_of (slice_get p.channels c)) (length es)))) (λ d. Ok (One (atom.Event d))))) good ∙
      ap (λ m. and_then (one_event (span first m)) (λ d. Ok (One (atom.Event d)))) (same_counts c es given count got_given counted)

  pub no_event : (c : ℕ) (es : List Expr) (first given count : ℕ) → given ≡ length es → count ≡ count_with (sets_of (slice_get channels c)) given → front_worth p n env c es ≡ Ok first
      → count ≡ 0 → event_worth p n env c es ≡ Err OutsideChannel
  no_event c es first given count got_given counted good none =
      event_at c es first given count got_given counted good ∙ ap (λ m. and_then (one_event (span first m)) (λ d. Ok (One (atom.Event d)))) none

  some_event : (first count : ℕ) → 0 < count → and_then (one_event (span first count)) (λ d. Ok (One (atom.Event d))) ≡ Ok (One (atom.Event first))
  some_event first zero l = absurd (omega arith)
  some_event first (suc m) l = refl

  pub an_event : (c : ℕ) (es : List Expr) (first given count : ℕ) → given ≡ length es → count ≡ count_with (sets_of (slice_get channels c)) given → front_worth p n env c es ≡ Ok first
      → 0 < count → event_worth p n env c es ≡ Ok (One (atom.Event first))
  an_event c es first given count got_given counted good some = event_at c es first given count got_given counted good ∙ some_event first count some

  pub front_added : (part : EventPart) (atoms : List Atom) (fields : List Expr) (first given count : ℕ) → fields ≡ (out-EventPart part).fields → given ≡ length (out-EventPart part).fields
      → count ≡ count_with (sets_of (slice_get channels (out-EventPart part).channel)) given → front_worth p n env (out-EventPart part).channel fields ≡ Ok first
      → with_front p n env part atoms ≡ all_added atoms (events_from first count)
  front_added part atoms fields first given count got_fields got_given counted good =
      eq.with_front-is p n env part atoms own_fit ∙
      (ap (λ o. and_then o (λ e. all_added atoms (events_from e (count_with (sets_of (slice_get p.channels (out-EventPart part).channel)) (length (out-EventPart part).fields)))))
      (ap (front_worth p n env (out-EventPart part).channel) (sym got_fields) ∙ good) ∙
      ap (λ z. all_added atoms (events_from first z)) (same_counts (out-EventPart part).channel (out-EventPart part).fields given count got_given counted))

  pub front_fault : (part : EventPart) (atoms : List Atom) (fields : List Expr) (k : ValueKind) → fields ≡ (out-EventPart part).fields
      → front_worth p n env (out-EventPart part).channel fields ≡ Err k → with_front p n env part atoms ≡ Err k
  front_fault part atoms fields k got_fields bad =
      eq.with_front-is p n env part atoms own_fit ∙
      ap (λ o. and_then o (λ e. all_added atoms (events_from e (count_with (sets_of (slice_get p.channels (out-EventPart part).channel)) (length (out-EventPart part).fields)))))
      (ap (front_worth p n env (out-EventPart part).channel) (sym got_fields) ∙ bad)

-- one more binding
module _ (p : Content) (n : ℕ) (items : List Expr) (parts : List EventPart) (env : Env) (state : Gathered) (room : state.bindings < MOST_BINDINGS) where
  pub binding_item_fault : (k : ValueKind) → with_items p n env items state.atoms ≡ Err k → one_more_binding p n items parts env state ≡ Err k
  binding_item_fault k bad =
      eq.binding-room p n items parts env state room ∙
      ap (λ o. and_then (and_then o (λ more. with_fronts p n env parts more)) (λ atoms. Ok (record { bindings = state.bindings + 1; atoms = atoms }))) bad

  pub binding_with_items : (more : List Atom) (o : Outcome (List Atom)) → with_items p n env items state.atoms ≡ Ok more → with_fronts p n env parts more ≡ o
      → one_more_binding p n items parts env state ≡ and_then o (λ atoms. Ok (record { bindings = state.bindings + 1; atoms = atoms }))
  binding_with_items more o good came =
      eq.binding-room p n items parts env state room ∙
      (ap (λ z. and_then (and_then z (λ all. with_fronts p n env parts all)) (λ atoms. Ok (record { bindings = state.bindings + 1; atoms = atoms }))) good ∙
      ap (λ z. and_then z (λ atoms. Ok (record { bindings = state.bindings + 1; atoms = atoms }))) came)

pub ruleset event_steps = (front_without_sets, count_fits, event_fault, no_event, an_event, front_added, front_fault)

pub ruleset binding_steps = (binding_item_fault, binding_with_items)

pub ruleset lacking_steps = (lacking, not_lacking)
