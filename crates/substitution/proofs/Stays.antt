-- An expression and a process none of whose free names gets a value stay as they are.
use Rattle.substitution.proofs.Prelude.{or_right, ◌≡◌, ℕ, Bool, true, false, cond, not, ◌&&◌, ◌||◌, nat_eq, Option, Some, None, List, [], ◌∷◌, map, refl, ap, ◌∙◌, eq-eqb, Value, Names, any_of, apart_from, before, either, expr_free, gen_binding, head_free, nowhere, pair_free, part_free, proc_free, proc_free_of_layer, under, after_all, expr_with, fields_with, gens_with, head_named, head_with, open_gen, pair_with, part_with, past, proc_with, without, Given, EventPart, Expr, Expr-F, Gen-F, EventPart-F, roll-Expr, roll-Gen, roll-EventPart, Gen, Field, Head, Proc, fold-roll-Proc, map-Proc, Proc-F, roll-Proc, Every, ExprHas, GenHas, PartHas, ProcHas, each_expr, each_gen, each_part, each_proc, every, GetNone}
use Rattle.csp_program.specs.declared.processes.Field.TheVariants as field
use Rattle.csp_program.specs.declared.processes.Head.TheVariants as head
use Rattle.substitution.proofs.Forms.{expr_form, expr_is, gen_form, gen_is, named_form, part_is, proc_form, proc_is}
use Rattle.substitution.proofs.Loses.{expr_rolls, form_binding, form_free, gen_rolls, leaves, part_rolls}

-- ---- names of what is put together from parts

left : (given : Given) (a b : Names) → GetNone given (either a b) → GetNone given a
left given a b none = λ x h. none x (ap (λ t. t || b x) h)

right : (given : Given) (a b : Names) → GetNone given (either a b) → GetNone given b
right given a b none = λ x h. none x (or_right (a x) (b x) h)

-- what stands behind a binding
behind : (given rest : Given) (s b inner : Names) → ((x : ℕ) → rest x ≡ cond (b x) None (given x)) → GetNone given (λ x. s x || (not (b x) && inner x)) → GetNone rest inner
behind given rest s b inner leaves none = λ x h. leaves x ∙ at (b x) (given x) (λ e. none x (ap (λ t. s x || (not t && inner x)) e ∙ or_right (s x) (inner x) h))
  where
    at : (t : Bool) (v : Option Value) → (t ≡ false → v ≡ None) → cond t None v ≡ None
    at true v h = refl
    at false v h = h refl

-- a binding of the name y alone
below : (given : Given) (y : ℕ) (s inner : Names) → GetNone given (either s (apart_from y inner)) → GetNone (without y given) inner
below given y s inner none = behind given (without y given) s (λ x. nat_eq y x) inner (λ x. refl) none

alone : (given : Given) (y : ℕ) → GetNone given (λ x. nat_eq y x) → given y ≡ None
alone given y none = none y (eq-eqb y y refl)

-- ---- lists

all_stay : {X : Type 0} (put : Given → X → X) (free : X → Names) (xs : List X) → Every (λ x. (given : Given) → GetNone given (free x) → put given x ≡ x) xs
    → (given : Given) → GetNone given (any_of (map free xs)) → map (put given) xs ≡ xs
all_stay put free [] stay given none = refl
all_stay put free (x ∷ xs) stay given none = λ i.
    stay.0 given (left given (free x) (any_of (map free xs)) none) i ∷
    all_stay put free xs stay.1 given (right given (free x) (any_of (map free xs)) none) i

abbrev StaysExpr : Expr → Type 0
StaysExpr e = (given : Given) → GetNone given (expr_free e) → expr_with given e ≡ e

abbrev StaysGen : Gen → Type 0
StaysGen g = (given : Given) → GetNone given (gen_binding g).0 → (open_gen g).0 given ≡ g

abbrev StaysPart : EventPart → Type 0
StaysPart p = (given : Given) → GetNone given (part_free p) → part_with given p ≡ p

-- generators stay, and what stands under them gets no value
gens_stay_over : (gs : List Gen) → Every StaysGen gs → (given : Given) (inner : Names) → GetNone given (under (map gen_binding gs) inner)
    → (gens_with given gs ≡ gs) × GetNone (past gs given) inner
gens_stay_over [] stay given inner none = (refl, none)
gens_stay_over (g ∷ gs) stay given inner none =
    let rest = under (map gen_binding gs) inner in
    let first = stay.0 given (left given (gen_binding g).0 (λ x. not ((gen_binding g).1 x) && rest x) none) in
    let others = gens_stay_over gs stay.1 ((open_gen g).1 given) inner (behind given ((open_gen g).1 given) (gen_binding g).0 (gen_binding g).1 rest (leaves g given) none) in
    (λ i. first i ∷ others.0 i, others.1)

-- ---- forms of expressions

name_stays : (y : ℕ) (found : Option Value) → found ≡ None → named_form y found ≡ Expr-F.Bound y
name_stays y found is = ap (named_form y) is

form_stays : (d : Expr-F Expr Gen EventPart) → ExprHas StaysExpr StaysGen StaysPart d → (given : Given) → GetNone given (form_free d) → expr_form given d ≡ d
form_stays (Expr-F.Bound y) stay given none = name_stays y (given y) (alone given y none)
form_stays (Expr-F.Neg a) stay given none = λ i. Expr-F.Neg (stay given none i)
form_stays (Expr-F.Not a) stay given none = λ i. Expr-F.Not (stay given none i)
form_stays (Expr-F.Binary o a b) stay given none =
    λ i. Expr-F.Binary o (stay.0 given (left given (expr_free a) (expr_free b) none) i) (stay.1 given (right given (expr_free a) (expr_free b) none) i)
form_stays (Expr-F.If c a b) stay given none =
    let two = right given (expr_free c) (either (expr_free a) (expr_free b)) none in
    λ i. Expr-F.If (stay.0 given (left given (expr_free c) (either (expr_free a) (expr_free b)) none) i)
    (stay.1 given (left given (expr_free a) (expr_free b) two) i) (stay.2 given (right given (expr_free a) (expr_free b) two) i)
form_stays (Expr-F.Call d args) stay given none = λ i. Expr-F.Call d (all_stay expr_with expr_free args stay given none i)
form_stays (Expr-F.Event c fields) stay given none = λ i. Expr-F.Event c (all_stay expr_with expr_free fields stay given none i)
form_stays (Expr-F.Display items) stay given none = λ i. Expr-F.Display (all_stay expr_with expr_free items stay given none i)
form_stays (Expr-F.Range a b) stay given none =
    λ i. Expr-F.Range (stay.0 given (left given (expr_free a) (expr_free b) none) i) (stay.1 given (right given (expr_free a) (expr_free b) none) i)
form_stays (Expr-F.Comp items gens) stay given none =
    let over = gens_stay_over gens stay.1 given (any_of (map expr_free items)) none in
    λ i. Expr-F.Comp (all_stay expr_with expr_free items stay.0 (past gens given) over.1 i) (over.0 i)
form_stays (Expr-F.Product parts gens) stay given none =
    let over = gens_stay_over gens stay.1 given (any_of (map part_free parts)) none in
    λ i. Expr-F.Product (all_stay part_with part_free parts stay.0 (past gens given) over.1 i) (over.0 i)
form_stays (Expr-F.SetOp o a b) stay given none =
    λ i. Expr-F.SetOp o (stay.0 given (left given (expr_free a) (expr_free b) none) i) (stay.1 given (right given (expr_free a) (expr_free b) none) i)
form_stays d stay given none = refl

expr_step : (d : Expr-F Expr Gen EventPart) → ExprHas StaysExpr StaysGen StaysPart d → StaysExpr (roll-Expr d)
expr_step d stay given none = expr_is given d ∙ (λ i. roll-Expr (form_stays d stay given (λ x h. none x ((λ j. expr_rolls d j x) ∙ h)) i))

gen_form_stays : (d : Gen-F Expr Gen EventPart) → GenHas StaysExpr StaysGen StaysPart d → (given : Given) → GetNone given (form_binding d).0 → gen_form given d ≡ d
gen_form_stays (Gen-F.From y s) stay given none = λ i. Gen-F.From y (stay given none i)
gen_form_stays (Gen-F.Cond c) stay given none = λ i. Gen-F.Cond (stay given none i)

gen_step : (d : Gen-F Expr Gen EventPart) → GenHas StaysExpr StaysGen StaysPart d → StaysGen (roll-Gen d)
gen_step d stay given none = gen_is given d ∙ (λ i. roll-Gen (gen_form_stays d stay given (λ x h. none x ((λ j. (gen_rolls d j).0 x) ∙ h)) i))

part_step : (d : EventPart-F Expr Gen EventPart) → PartHas StaysExpr StaysGen StaysPart d → StaysPart (roll-EventPart d)
part_step d stay given none =
    part_is given d ∙
    (λ i. roll-EventPart (record { channel = d.channel; fields = all_stay expr_with expr_free d.fields stay given (λ x h. none x ((λ j. part_rolls d j x) ∙ h)) i }))

pub expr_stays : (given : Given) (e : Expr) → GetNone given (expr_free e) → expr_with given e ≡ e
expr_stays given e = each_expr StaysExpr StaysGen StaysPart expr_step gen_step part_step e given

gen_stays : (g : Gen) → StaysGen g
gen_stays = each_gen StaysExpr StaysGen StaysPart expr_step gen_step part_step

part_stays : (p : EventPart) → StaysPart p
part_stays = each_part StaysExpr StaysGen StaysPart expr_step gen_step part_step

-- ---- forms of processes

pub exprs_stay : (given : Given) (es : List Expr) → GetNone given (any_of (map expr_free es)) → map (expr_with given) es ≡ es
exprs_stay given es = all_stay expr_with expr_free es (every StaysExpr (λ e g. expr_stays g e) es) given

pub gens_stay_under : (given : Given) (gs : List Gen) (inner : Names) → GetNone given (under (map gen_binding gs) inner) → (gens_with given gs ≡ gs) × GetNone (past gs given) inner
gens_stay_under given gs inner = gens_stay_over gs (every StaysGen gen_stays gs) given inner

pub gens_stay : (given : Given) (gs : List Gen) → GetNone given (under (map gen_binding gs) nowhere) → gens_with given gs ≡ gs
gens_stay given gs none = (gens_stay_under given gs nowhere none).0

pub pairs_stay : (given : Given) (pairs : List (EventPart × EventPart)) → GetNone given (any_of (map pair_free pairs)) → map (pair_with given) pairs ≡ pairs
pairs_stay given pairs = all_stay pair_with pair_free pairs (every (λ q. (g : Given) → GetNone g (pair_free q) → pair_with g q ≡ q) one pairs) given
  where
    one : (q : EventPart × EventPart) → (g : Given) → GetNone g (pair_free q) → pair_with g q ≡ q
    one q g none = λ i. (part_stays q.0 g (left g (part_free q.0) (part_free q.1) none) i, part_stays q.1 g (right g (part_free q.0) (part_free q.1) none) i)

pub head_stays : (given : Given) (k : Head) → GetNone given (head_free k) → head_with given k ≡ k
head_stays given (head.Channel c) none = refl
head_stays given (head.Bound y) none = ap (head_named y) (alone given y none)
head_stays given (head.Put v) none = refl

-- fields stay, and what stands after them gets no value
pub fields_stay_before : (given : Given) (fs : List Field) (inner : Names) → GetNone given (before fs inner) → (fields_with given fs ≡ fs) × GetNone (after_all fs given) inner
fields_stay_before given [] inner none = (refl, none)
fields_stay_before given (field.Put e ∷ fs) inner none =
    let first = expr_stays given e (left given (expr_free e) (before fs inner) none) in
    let others = fields_stay_before given fs inner (right given (expr_free e) (before fs inner) none) in
    (λ i. field.Put (first i) ∷ others.0 i, others.1)
fields_stay_before given (field.Get y (Some s) ∷ fs) inner none =
    let first = expr_stays given s (left given (expr_free s) (apart_from y (before fs inner)) none) in
    let others = fields_stay_before (without y given) fs inner (below given y (expr_free s) (before fs inner) none) in
    (λ i. field.Get y (Some (first i)) ∷ others.0 i, others.1)
fields_stay_before given (field.Get y None ∷ fs) inner none =
    let others = fields_stay_before (without y given) fs inner (below given y nowhere (before fs inner) none) in
    (λ i. field.Get y None ∷ others.0 i, others.1)

pub fields_stay : (given : Given) (fs : List Field) → GetNone given (before fs nowhere) → fields_with given fs ≡ fs
fields_stay given fs none = (fields_stay_before given fs nowhere none).0

abbrev StaysProc : Proc → Type 0
StaysProc q = (given : Given) → GetNone given (proc_free q) → proc_with given q ≡ q

abbrev proc_form_free : Proc-F Proc → Names
proc_form_free d = proc_free_of_layer (map-Proc Proc Names proc_free d)

proc_form_stays : (d : Proc-F Proc) → ProcHas StaysProc d → (given : Given) → GetNone given (proc_form_free d) → proc_form given d ≡ d
proc_form_stays (Proc-F.Prefix k fields p) stay given none =
    let over = fields_stay_before given fields (proc_free p) (right given (head_free k) (before fields (proc_free p)) none) in
    λ i. Proc-F.Prefix (head_stays given k (left given (head_free k) (before fields (proc_free p)) none) i) (over.0 i) (stay (after_all fields given) over.1 i)
proc_form_stays (Proc-F.Guard c p) stay given none =
    λ i. Proc-F.Guard (expr_stays given c (left given (expr_free c) (proc_free p) none) i) (stay given (right given (expr_free c) (proc_free p) none) i)
proc_form_stays (Proc-F.If c p q) stay given none =
    let two = right given (expr_free c) (either (proc_free p) (proc_free q)) none in
    λ i. Proc-F.If (expr_stays given c (left given (expr_free c) (either (proc_free p) (proc_free q)) none) i)
    (stay.0 given (left given (proc_free p) (proc_free q) two) i) (stay.1 given (right given (proc_free p) (proc_free q) two) i)
proc_form_stays (Proc-F.External ps) stay given none = λ i. Proc-F.External (all_stay proc_with proc_free ps stay given none i)
proc_form_stays (Proc-F.Internal ps) stay given none = λ i. Proc-F.Internal (all_stay proc_with proc_free ps stay given none i)
proc_form_stays (Proc-F.EachExternal y s p) stay given none = λ i.
    Proc-F.EachExternal y (expr_stays given s (left given (expr_free s) (apart_from y (proc_free p)) none) i) (stay (without y given) (below given y (expr_free s) (proc_free p) none) i)
proc_form_stays (Proc-F.EachInternal y s p) stay given none = λ i.
    Proc-F.EachInternal y (expr_stays given s (left given (expr_free s) (apart_from y (proc_free p)) none) i) (stay (without y given) (below given y (expr_free s) (proc_free p) none) i)
proc_form_stays (Proc-F.Hide p s) stay given none =
    λ i. Proc-F.Hide (stay given (left given (proc_free p) (expr_free s) none) i) (expr_stays given s (right given (proc_free p) (expr_free s) none) i)
proc_form_stays (Proc-F.Rename p pairs gens) stay given none =
    let inner = any_of (map pair_free pairs) in
    let over = gens_stay_under given gens inner (right given (proc_free p) (under (map gen_binding gens) inner) none) in
    λ i. Proc-F.Rename (stay given (left given (proc_free p) (under (map gen_binding gens) inner) none) i) (pairs_stay (past gens given) pairs over.1 i) (over.0 i)
proc_form_stays (Proc-F.Call d args) stay given none = λ i. Proc-F.Call d (exprs_stay given args none i)
proc_form_stays (Proc-F.Seq p q) stay given none =
    λ i. Proc-F.Seq (stay.0 given (left given (proc_free p) (proc_free q) none) i) (stay.1 given (right given (proc_free p) (proc_free q) none) i)
proc_form_stays d stay given none = refl

proc_step : (d : Proc-F Proc) → ProcHas StaysProc d → StaysProc (roll-Proc d)
proc_step d stay given none =
    proc_is given d ∙ (λ i. roll-Proc (proc_form_stays d stay given (λ x h. none x ((λ j. fold-roll-Proc Names proc_free_of_layer d j x) ∙ h)) i))

pub proc_stays : (given : Given) (t : Proc) → GetNone given (proc_free t) → proc_with given t ≡ t
proc_stays given t = each_proc StaysProc proc_step t given
