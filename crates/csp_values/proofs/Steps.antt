-- Lists that are evaluated one element after another: what is left decides together with what has come so far.
use Rattle.csp_values.proofs.Prelude.{◌≡◌, ℕ, ◌+◌, ◌<◌, List, [], ◌∷◌, ◌++◌, Ok, Err, length, drop, drop_of_length-le, get_or, refl, ap, sym, ◌∙◌, append_assoc, append-nil, added, Outcome, and_then, Env, as_atom, EventPart, Expr, ValueKind, Content, Atom, Value, worth, worths, with_items, with_front, with_fronts, drop_read, and_then_regroup}
use Rattle.csp_values.proofs.Equations.{worths-nil, worths-cons, with_items-cons, with_items-nil, fronts-cons, fronts-nil}

-- the values of expressions, after others
unfoldable pub worths_after : Content → ℕ → Env → List Value → List Expr → Outcome (List Value)
worths_after p n env done es = and_then (worths p n env es) (λ vs. Ok (done ++ vs))

none_before : (o : Outcome (List Value)) → o ≡ and_then o (λ vs. Ok ([] ++ vs))
none_before (Ok vs) = refl
none_before (Err k) = refl

pub worths_begin : (p : Content) (n : ℕ) (env : Env) (es : List Expr) → worths p n env es ≡ worths_after p n env [] es
unfolding worths_after
worths_begin p n env es = none_before (worths p n env es)

pub worths_end : (p : Content) (n : ℕ) (env : Env) (done : List Value) → worths_after p n env done [] ≡ Ok done
unfolding worths_after
worths_end p n env done = ap (λ o. and_then o (λ vs. Ok (done ++ vs))) (worths-nil p n env) ∙ ap (λ vs. Ok vs) (append-nil done)

one_before : (o : Outcome (List Value)) (done : List Value) (v : Value) → and_then (and_then o (λ vs. Ok (v ∷ vs))) (λ vs. Ok (done ++ vs)) ≡ and_then o (λ vs. Ok ((done ++ v ∷ []) ++ vs))
one_before (Ok vs) done v = ap (λ all. Ok all) (sym (append_assoc done (v ∷ []) vs))
one_before (Err k) done v = refl

abbrev values_next : Content → ℕ → Env → List Value → List Expr → Outcome Value → Outcome (List Value)
values_next p n env done es o = and_then (and_then o (λ v. and_then (worths p n env es) (λ vs. Ok (v ∷ vs)))) (λ vs. Ok (done ++ vs))

worths_here : (p : Content) (n : ℕ) (env : Env) (done : List Value) (es : List Expr) (i : ℕ) (e : Expr) → i < length es → e ≡ get_or es i e
    → worths_after p n env done (drop i es) ≡ values_next p n env done (drop (i + 1) es) (worth p n env e)
unfolding worths_after
worths_here p n env done es i e lt is =
    ap (λ xs. and_then (worths p n env xs) (λ vs. Ok (done ++ vs))) (drop_read es i e lt is) ∙
    ap (λ o. and_then o (λ vs. Ok (done ++ vs))) (worths-cons p n env e (drop (i + 1) es))

pub worths_fault : (whole : Outcome (List Value)) (p : Content) (n : ℕ) (env : Env) (done : List Value) (es : List Expr) (i : ℕ) (e : Expr) (k : ValueKind)
    → whole ≡ worths_after p n env done (drop i es) → i < length es → e ≡ get_or es i e → worth p n env e ≡ Err k → whole ≡ Err k
worths_fault whole p n env done es i e k w lt is bad = w ∙ (worths_here p n env done es i e lt is ∙ ap (values_next p n env done (drop (i + 1) es)) bad)

pub worths_next : (whole : Outcome (List Value)) (p : Content) (n : ℕ) (env : Env) (done more : List Value) (es : List Expr) (i : ℕ) (e : Expr) (v : Value)
    → whole ≡ worths_after p n env done (drop i es) → i < length es → e ≡ get_or es i e → worth p n env e ≡ Ok v → more ≡ done ++ v ∷ [] → whole ≡ worths_after p n env more (drop (i + 1) es)
unfolding worths_after
worths_next whole p n env done more es i e v w lt is good grown =
    w ∙ (worths_here p n env done es i e lt is ∙ (ap (values_next p n env done (drop (i + 1) es)) good ∙
    (one_before (worths p n env (drop (i + 1) es)) done v ∙ ap (λ d. and_then (worths p n env (drop (i + 1) es)) (λ vs. Ok (d ++ vs))) (sym grown))))

-- items that are added one by one
abbrev item_of : Value → List Atom → Outcome (List Atom)
item_of v atoms = and_then (as_atom v) (λ a. added atoms a)

abbrev items_next : Content → ℕ → Env → List Atom → List Expr → Outcome Value → Outcome (List Atom)
items_next p n env atoms es o = and_then o (λ v. and_then (as_atom v) (λ a. and_then (added atoms a) (λ more. with_items p n env es more)))

item_last : (o : Outcome Value) (atoms : List Atom) (rest : List Atom → Outcome (List Atom))
    → and_then o (λ v. and_then (as_atom v) (λ a. and_then (added atoms a) (λ more. rest more))) ≡ and_then (and_then o (λ v. item_of v atoms)) (λ more. rest more)
item_last (Ok v) atoms rest = and_then_regroup (as_atom v) (λ a. added atoms a) (λ more. rest more)
item_last (Err k) atoms rest = refl

items_here : (p : Content) (n : ℕ) (env : Env) (atoms : List Atom) (es : List Expr) (i : ℕ) (e : Expr) → i < length es → e ≡ get_or es i e
    → with_items p n env (drop i es) atoms ≡ items_next p n env atoms (drop (i + 1) es) (worth p n env e)
items_here p n env atoms es i e lt is = ap (λ xs. with_items p n env xs atoms) (drop_read es i e lt is) ∙ with_items-cons p n env e (drop (i + 1) es) atoms

items_then : (whole : Outcome (List Atom)) (p : Content) (n : ℕ) (env : Env) (atoms : List Atom) (es : List Expr) (i : ℕ) (e : Expr)
    → whole ≡ with_items p n env (drop i es) atoms → i < length es → e ≡ get_or es i e
    → whole ≡ and_then (and_then (worth p n env e) (λ v. item_of v atoms)) (λ more. with_items p n env (drop (i + 1) es) more)
items_then whole p n env atoms es i e w lt is =
    w ∙ (items_here p n env atoms es i e lt is ∙ (item_last (worth p n env e) atoms (λ more. with_items p n env (drop (i + 1) es) more)))

pub items_refused : (whole : Outcome (List Atom)) (p : Content) (n : ℕ) (env : Env) (atoms : List Atom) (es : List Expr) (i : ℕ) (e : Expr) (k : ValueKind)
    → whole ≡ with_items p n env (drop i es) atoms → i < length es → e ≡ get_or es i e → and_then (worth p n env e) (λ v. item_of v atoms) ≡ Err k → whole ≡ Err k
items_refused whole p n env atoms es i e k w lt is bad =
    items_then whole p n env atoms es i e w lt is ∙ ap (λ o. and_then o (λ more. with_items p n env (drop (i + 1) es) more)) bad

pub items_taken : (whole : Outcome (List Atom)) (p : Content) (n : ℕ) (env : Env) (atoms more : List Atom) (es : List Expr) (i : ℕ) (e : Expr)
    → whole ≡ with_items p n env (drop i es) atoms → i < length es → e ≡ get_or es i e → and_then (worth p n env e) (λ v. item_of v atoms) ≡ Ok more → whole ≡ with_items p n env (drop (i + 1) es) more
items_taken whole p n env atoms more es i e w lt is taken =
    items_then whole p n env atoms es i e w lt is ∙ ap (λ o. and_then o (λ all. with_items p n env (drop (i + 1) es) all)) taken

-- fronts that are added one by one
fronts_here : (p : Content) (n : ℕ) (env : Env) (atoms : List Atom) (ps : List EventPart) (i : ℕ) (part : EventPart) → i < length ps → part ≡ get_or ps i part
    → with_fronts p n env (drop i ps) atoms ≡ and_then (with_front p n env part atoms) (λ more. with_fronts p n env (drop (i + 1) ps) more)
fronts_here p n env atoms ps i part lt is = ap (λ xs. with_fronts p n env xs atoms) (drop_read ps i part lt is) ∙ fronts-cons p n env part (drop (i + 1) ps) atoms

pub fronts_fault : (whole : Outcome (List Atom)) (p : Content) (n : ℕ) (env : Env) (atoms : List Atom) (ps : List EventPart) (i : ℕ) (part : EventPart) (k : ValueKind)
    → whole ≡ with_fronts p n env (drop i ps) atoms → i < length ps → part ≡ get_or ps i part → with_front p n env part atoms ≡ Err k → whole ≡ Err k
fronts_fault whole p n env atoms ps i part k w lt is bad =
    w ∙ (fronts_here p n env atoms ps i part lt is ∙ ap (λ o. and_then o (λ more. with_fronts p n env (drop (i + 1) ps) more)) bad)

pub fronts_next : (whole : Outcome (List Atom)) (p : Content) (n : ℕ) (env : Env) (atoms more : List Atom) (ps : List EventPart) (i : ℕ) (part : EventPart)
    → whole ≡ with_fronts p n env (drop i ps) atoms → i < length ps → part ≡ get_or ps i part → with_front p n env part atoms ≡ Ok more → whole ≡ with_fronts p n env (drop (i + 1) ps) more
fronts_next whole p n env atoms more ps i part w lt is good =
    w ∙ (fronts_here p n env atoms ps i part lt is ∙ ap (λ o. and_then o (λ all. with_fronts p n env (drop (i + 1) ps) all)) good)

pub ruleset worths_steps = (worths_begin, worths_end, worths_fault, worths_next, drop_of_length-le)

pub ruleset items_steps = (items_refused, items_taken, with_items-nil, drop_of_length-le)

pub ruleset fronts_steps = (fronts_fault, fronts_next, fronts-nil, drop_of_length-le)
