-- The free names of an expression and of a process lose exactly those that get a value.
use Rattle.substitution.proofs.Prelude.{◌≡◌, ℕ, Bool, true, false, cond, not, ◌&&◌, ◌||◌, nat_eq, Option, Some, None, List, [], ◌∷◌, map, refl, ap, sym, ◌∙◌, is_none, eqb-true, Value, Names, Binding, any_of, apart_from, before, either, expr_free, expr_free_of_layer, gen_binding, gen_free_of_layer, head_free, nowhere, pair_free, part_free, part_free_of_layer, proc_free, proc_free_of_layer, under, after_all, expr_with, fields_with, gens_with, head_named, head_with, open_gen, pair_with, part_with, past, proc_with, without, Given, EventPart, Expr, fold-roll-Expr, fold-roll-Gen, fold-roll-EventPart, map-Expr, map-Gen, Expr-F, Gen-F, EventPart-F, out-Gen, roll-Expr, roll-Gen, roll-EventPart, roll-out-Gen, Gen, Field, Head, Proc, fold-roll-Proc, map-Proc, Proc-F, roll-Proc, Every, ExprHas, GenHas, PartHas, ProcHas, each_expr, each_gen, each_part, each_proc, every, without_value, and_false}
use Rattle.csp_program.specs.declared.processes.Field.TheVariants as field
use Rattle.csp_program.specs.declared.processes.Head.TheVariants as head
use Rattle.substitution.proofs.Forms.{expr_form, expr_is, gen_form, gen_is, left_by, left_is, named_form, part_form, part_is, proc_form, proc_is}

-- ---- free names of a form

abbrev pub form_free : Expr-F Expr Gen EventPart → Names
form_free d = expr_free_of_layer (map-Expr Expr Gen EventPart Names Binding Names expr_free gen_binding part_free d)

abbrev pub form_binding : Gen-F Expr Gen EventPart → Binding
form_binding d = gen_free_of_layer (map-Gen Expr Gen EventPart Names Binding Names expr_free gen_binding part_free d)

pub expr_rolls : (d : Expr-F Expr Gen EventPart) → expr_free (roll-Expr d) ≡ form_free d
expr_rolls = fold-roll-Expr Names Binding Names expr_free_of_layer gen_free_of_layer part_free_of_layer

pub gen_rolls : (d : Gen-F Expr Gen EventPart) → gen_binding (roll-Gen d) ≡ form_binding d
gen_rolls = fold-roll-Gen Names Binding Names expr_free_of_layer gen_free_of_layer part_free_of_layer

pub part_rolls : (d : EventPart-F Expr Gen EventPart) → part_free (roll-EventPart d) ≡ part_free_of_layer (record { channel = d.channel; fields = map expr_free d.fields })
part_rolls = fold-roll-EventPart Names Binding Names expr_free_of_layer gen_free_of_layer part_free_of_layer

-- ---- the name that a generator binds gets no value after it, and the others keep theirs

form_leaves : (d : Gen-F Expr Gen EventPart) (given : Given) (x : ℕ) → left_by d given x ≡ cond ((form_binding d).1 x) None (given x)
form_leaves (Gen-F.From y s) given x = refl
form_leaves (Gen-F.Cond c) given x = refl

pub leaves : (g : Gen) (given : Given) (x : ℕ) → (open_gen g).1 given x ≡ cond ((gen_binding g).1 x) None (given x)
leaves g given x =
    ap (λ (h : Gen). (open_gen h).1 given x) (sym (roll-out-Gen g)) ∙
    ((λ i. left_is (out-Gen g) i given x) ∙
    (form_leaves (out-Gen g) given x ∙
    ((λ i. cond ((sym (gen_rolls (out-Gen g)) i).1 x) None (given x)) ∙
    ap (λ (h : Gen). cond ((gen_binding h).1 x) None (given x)) (roll-out-Gen g))))

-- ---- names of what is put together from parts

distributes : (n p q : Bool) → ((n && p) || (n && q)) ≡ (n && (p || q))
distributes true p q = refl
distributes false p q = refl

nowhere_lost : (given : Given) → nowhere ≡ without_value given nowhere
nowhere_lost given = λ i x. sym (and_false (is_none (given x))) i

either_lost : (given : Given) (a b : Names) → either (without_value given a) (without_value given b) ≡ without_value given (either a b)
either_lost given a b = λ i x. distributes (is_none (given x)) (a x) (b x) i

three_lost : (given : Given) (a b c : Names)
    → either (without_value given a) (either (without_value given b) (without_value given c)) ≡ without_value given (either a (either b c))
three_lost given a b c = (λ i. either (without_value given a) (either_lost given b c i)) ∙ either_lost given a (either b c)

-- a binding: the name y that it binds has no value after it
behind : (n s b u : Bool) → ((n && s) || (not b && ((b || n) && u))) ≡ (n && (s || (not b && u)))
behind true s true u = refl
behind true s false u = refl
behind false s true u = refl
behind false s false u = refl

none_left : (b : Bool) (v : Option Value) → is_none (cond b None v) ≡ (b || is_none v)
none_left true v = refl
none_left false v = refl

-- what a binding reads, and what stands behind it
behind_lost : (given left : Given) (s b inner : Names) → ((x : ℕ) → left x ≡ cond (b x) None (given x))
    → (λ x. without_value given s x || (not (b x) && without_value left inner x)) ≡ without_value given (λ x. s x || (not (b x) && inner x))
behind_lost given left s b inner leaves = λ i x. at x i
  where
    at : (x : ℕ) → (without_value given s x || (not (b x) && without_value left inner x)) ≡ without_value given (λ y. s y || (not (b y) && inner y)) x
    at x =
        ap (λ (n : Bool). without_value given s x || (not (b x) && (n && inner x))) (ap is_none (leaves x) ∙ none_left (b x) (given x)) ∙
        behind (is_none (given x)) (s x) (b x) (inner x)

name_lost : (given : Given) (y : ℕ) (found : Option Value) → given y ≡ found
    → form_free (named_form y found) ≡ without_value given (λ x. nat_eq y x)
name_lost given y None is = λ i x. at x i
  where
    at : (x : ℕ) → nat_eq y x ≡ (is_none (given x) && nat_eq y x)
    at x = elim (nat_eq y x) as (λ b. nat_eq y x ≡ b → b ≡ (is_none (given x) && b)) [
      | true ↦ λ e. sym (ap (λ (v : Option Value). is_none v && true) (ap given (sym (eqb-true y x e)) ∙ is))
      | false ↦ λ e. sym (and_false (is_none (given x)))
    ] refl
name_lost given y (Some v) is = λ i x. at x i
  where
    at : (x : ℕ) → false ≡ (is_none (given x) && nat_eq y x)
    at x = elim (nat_eq y x) as (λ b. nat_eq y x ≡ b → false ≡ (is_none (given x) && b)) [
      | true ↦ λ e. sym (ap (λ (v : Option Value). is_none v && true) (ap given (sym (eqb-true y x e)) ∙ is))
      | false ↦ λ e. sym (and_false (is_none (given x)))
    ] refl

-- ---- lists

all_lost : {X : Type 0} (put : Given → X → X) (free : X → Names) (xs : List X) → Every (λ x. (given : Given) → free (put given x) ≡ without_value given (free x)) xs
    → (given : Given) → any_of (map free (map (put given) xs)) ≡ without_value given (any_of (map free xs))
all_lost put free [] lost given = nowhere_lost given
all_lost put free (x ∷ xs) lost given =
    (λ i. either (lost.0 given i) (all_lost put free xs lost.1 given i)) ∙ either_lost given (free x) (any_of (map free xs))

abbrev LosesExpr : Expr → Type 0
LosesExpr e = (given : Given) → expr_free (expr_with given e) ≡ without_value given (expr_free e)

abbrev LosesGen : Gen → Type 0
LosesGen g = (given : Given) → gen_binding ((open_gen g).0 given) ≡ (without_value given (gen_binding g).0, (gen_binding g).1)

abbrev LosesPart : EventPart → Type 0
LosesPart p = (given : Given) → part_free (part_with given p) ≡ without_value given (part_free p)

gens_lost : (gs : List Gen) → Every LosesGen gs → (given : Given) (inner : Names)
    → under (map gen_binding (gens_with given gs)) (without_value (past gs given) inner) ≡ without_value given (under (map gen_binding gs) inner)
gens_lost [] lost given inner = refl
gens_lost (g ∷ gs) lost given inner =
    (λ i x. (lost.0 given i).0 x || (not ((lost.0 given i).1 x) && gens_lost gs lost.1 ((open_gen g).1 given) inner i x)) ∙
    behind_lost given ((open_gen g).1 given) (gen_binding g).0 (gen_binding g).1 (under (map gen_binding gs) inner) (leaves g given)

-- ---- forms of expressions

form_lost : (d : Expr-F Expr Gen EventPart) → ExprHas LosesExpr LosesGen LosesPart d → (given : Given) → form_free (expr_form given d) ≡ without_value given (form_free d)
form_lost (Expr-F.Num n) lost given = nowhere_lost given
form_lost (Expr-F.Truth b) lost given = nowhere_lost given
form_lost (Expr-F.Const k) lost given = nowhere_lost given
form_lost (Expr-F.Bound y) lost given = name_lost given y (given y) refl
form_lost (Expr-F.Lit v) lost given = nowhere_lost given
form_lost (Expr-F.Neg a) lost given = lost given
form_lost (Expr-F.Not a) lost given = lost given
form_lost (Expr-F.Binary o a b) lost given = (λ i. either (lost.0 given i) (lost.1 given i)) ∙ either_lost given (expr_free a) (expr_free b)
form_lost (Expr-F.If c a b) lost given =
    (λ i. either (lost.0 given i) (either (lost.1 given i) (lost.2 given i))) ∙ three_lost given (expr_free c) (expr_free a) (expr_free b)
form_lost (Expr-F.Call d args) lost given = all_lost expr_with expr_free args lost given
form_lost (Expr-F.SetName d) lost given = nowhere_lost given
form_lost (Expr-F.Event c fields) lost given = all_lost expr_with expr_free fields lost given
form_lost (Expr-F.Display items) lost given = all_lost expr_with expr_free items lost given
form_lost (Expr-F.Range a b) lost given = (λ i. either (lost.0 given i) (lost.1 given i)) ∙ either_lost given (expr_free a) (expr_free b)
form_lost (Expr-F.Comp items gens) lost given =
    (λ i. under (map gen_binding (gens_with given gens)) (all_lost expr_with expr_free items lost.0 (past gens given) i)) ∙
    gens_lost gens lost.1 given (any_of (map expr_free items))
form_lost (Expr-F.Product parts gens) lost given =
    (λ i. under (map gen_binding (gens_with given gens)) (all_lost part_with part_free parts lost.0 (past gens given) i)) ∙
    gens_lost gens lost.1 given (any_of (map part_free parts))
form_lost (Expr-F.SetOp o a b) lost given = (λ i. either (lost.0 given i) (lost.1 given i)) ∙ either_lost given (expr_free a) (expr_free b)

expr_step : (d : Expr-F Expr Gen EventPart) → ExprHas LosesExpr LosesGen LosesPart d → LosesExpr (roll-Expr d)
expr_step d lost given =
    ap expr_free (expr_is given d) ∙
    (expr_rolls (expr_form given d) ∙ (form_lost d lost given ∙ (λ i. without_value given (sym (expr_rolls d) i))))

gen_form_lost : (d : Gen-F Expr Gen EventPart) → GenHas LosesExpr LosesGen LosesPart d → (given : Given)
    → form_binding (gen_form given d) ≡ (without_value given (form_binding d).0, (form_binding d).1)
gen_form_lost (Gen-F.From y s) lost given = λ i. (lost given i, λ x. nat_eq y x)
gen_form_lost (Gen-F.Cond c) lost given = λ i. (lost given i, nowhere)

gen_step : (d : Gen-F Expr Gen EventPart) → GenHas LosesExpr LosesGen LosesPart d → LosesGen (roll-Gen d)
gen_step d lost given =
    ap gen_binding (gen_is given d) ∙
    (gen_rolls (gen_form given d) ∙
    (gen_form_lost d lost given ∙ (λ i. (without_value given (sym (gen_rolls d) i).0, (sym (gen_rolls d) i).1))))

part_step : (d : EventPart-F Expr Gen EventPart) → PartHas LosesExpr LosesGen LosesPart d → LosesPart (roll-EventPart d)
part_step d lost given =
    ap part_free (part_is given d) ∙
    (part_rolls (part_form given d) ∙
    (all_lost expr_with expr_free d.fields lost given ∙ (λ i. without_value given (sym (part_rolls d) i))))

pub expr_loses : (given : Given) (e : Expr) → expr_free (expr_with given e) ≡ without_value given (expr_free e)
expr_loses given e = each_expr LosesExpr LosesGen LosesPart expr_step gen_step part_step e given

gen_loses : (g : Gen) → LosesGen g
gen_loses = each_gen LosesExpr LosesGen LosesPart expr_step gen_step part_step

part_loses : (p : EventPart) → LosesPart p
part_loses = each_part LosesExpr LosesGen LosesPart expr_step gen_step part_step

-- ---- forms of processes

abbrev LosesPair : EventPart × EventPart → Type 0
LosesPair q = (given : Given) → pair_free (pair_with given q) ≡ without_value given (pair_free q)

pair_loses : (q : EventPart × EventPart) → LosesPair q
pair_loses q given = (λ i. either (part_loses q.0 given i) (part_loses q.1 given i)) ∙ either_lost given (part_free q.0) (part_free q.1)

head_named_lost : (given : Given) (y : ℕ) (found : Option Value) → head_free (head_named y found) ≡ form_free (named_form y found)
head_named_lost given y None = refl
head_named_lost given y (Some v) = refl

head_lost : (given : Given) (k : Head) → head_free (head_with given k) ≡ without_value given (head_free k)
head_lost given (head.Channel c) = nowhere_lost given
head_lost given (head.Bound y) = head_named_lost given y (given y) ∙ name_lost given y (given y) refl
head_lost given (head.Put v) = nowhere_lost given

-- a binding of the name y alone
under_lost : (given : Given) (y : ℕ) (s inner : Names)
    → either (without_value given s) (apart_from y (without_value (without y given) inner)) ≡ without_value given (either s (apart_from y inner))
under_lost given y s inner = behind_lost given (without y given) s (λ x. nat_eq y x) inner (λ x. refl)

fields_lost : (fs : List Field) (given : Given) (inner : Names)
    → before (fields_with given fs) (without_value (after_all fs given) inner) ≡ without_value given (before fs inner)
fields_lost [] given inner = refl
fields_lost (field.Put e ∷ fs) given inner =
    (λ i. either (expr_loses given e i) (fields_lost fs given inner i)) ∙ either_lost given (expr_free e) (before fs inner)
fields_lost (field.Get y (Some s) ∷ fs) given inner =
    (λ i. either (expr_loses given s i) (apart_from y (fields_lost fs (without y given) inner i))) ∙ under_lost given y (expr_free s) (before fs inner)
fields_lost (field.Get y None ∷ fs) given inner =
    (λ i. either (nowhere_lost given i) (apart_from y (fields_lost fs (without y given) inner i))) ∙ under_lost given y nowhere (before fs inner)

abbrev LosesProc : Proc → Type 0
LosesProc q = (given : Given) → proc_free (proc_with given q) ≡ without_value given (proc_free q)

abbrev proc_form_free : Proc-F Proc → Names
proc_form_free d = proc_free_of_layer (map-Proc Proc Names proc_free d)

proc_form_lost : (d : Proc-F Proc) → ProcHas LosesProc d → (given : Given) → proc_form_free (proc_form given d) ≡ without_value given (proc_form_free d)
proc_form_lost Proc-F.Stop lost given = nowhere_lost given
proc_form_lost (Proc-F.Prefix k fields p) lost given =
    (λ i. either (head_lost given k i) (before (fields_with given fields) (lost (after_all fields given) i))) ∙
    ((λ i. either (without_value given (head_free k)) (fields_lost fields given (proc_free p) i)) ∙
    either_lost given (head_free k) (before fields (proc_free p)))
proc_form_lost (Proc-F.Guard c p) lost given = (λ i. either (expr_loses given c i) (lost given i)) ∙ either_lost given (expr_free c) (proc_free p)
proc_form_lost (Proc-F.If c p q) lost given =
    (λ i. either (expr_loses given c i) (either (lost.0 given i) (lost.1 given i))) ∙ three_lost given (expr_free c) (proc_free p) (proc_free q)
proc_form_lost (Proc-F.External ps) lost given = all_lost proc_with proc_free ps lost given
proc_form_lost (Proc-F.Internal ps) lost given = all_lost proc_with proc_free ps lost given
proc_form_lost (Proc-F.EachExternal y s p) lost given =
    (λ i. either (expr_loses given s i) (apart_from y (lost (without y given) i))) ∙ under_lost given y (expr_free s) (proc_free p)
proc_form_lost (Proc-F.EachInternal y s p) lost given =
    (λ i. either (expr_loses given s i) (apart_from y (lost (without y given) i))) ∙ under_lost given y (expr_free s) (proc_free p)
proc_form_lost (Proc-F.Hide p s) lost given = (λ i. either (lost given i) (expr_loses given s i)) ∙ either_lost given (proc_free p) (expr_free s)
proc_form_lost (Proc-F.Rename p pairs gens) lost given =
    (λ i. either (lost given i) (under (map gen_binding (gens_with given gens)) (all_lost pair_with pair_free pairs (every LosesPair pair_loses pairs) (past gens given) i))) ∙
    ((λ i. either (without_value given (proc_free p)) (gens_lost gens (every LosesGen gen_loses gens) given (any_of (map pair_free pairs)) i)) ∙
    either_lost given (proc_free p) (under (map gen_binding gens) (any_of (map pair_free pairs))))
proc_form_lost (Proc-F.Call d args) lost given = all_lost expr_with expr_free args (every LosesExpr (λ e g. expr_loses g e) args) given
proc_form_lost Proc-F.Skip lost given = nowhere_lost given
proc_form_lost (Proc-F.Seq p q) lost given = (λ i. either (lost.0 given i) (lost.1 given i)) ∙ either_lost given (proc_free p) (proc_free q)
proc_form_lost Proc-F.Ended lost given = nowhere_lost given

proc_step : (d : Proc-F Proc) → ProcHas LosesProc d → LosesProc (roll-Proc d)
proc_step d lost given =
    ap proc_free (proc_is given d) ∙
    (fold-roll-Proc Names proc_free_of_layer (proc_form given d) ∙
    (proc_form_lost d lost given ∙ (λ i. without_value given (sym (fold-roll-Proc Names proc_free_of_layer d) i))))

pub proc_loses : (given : Given) (q : Proc) → proc_free (proc_with given q) ≡ without_value given (proc_free q)
proc_loses given q = each_proc LosesProc proc_step q given
