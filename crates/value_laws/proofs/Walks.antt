-- What the walk over all bindings gathers.
use Rattle.value_laws.proofs.Prelude.{◌≡◌, ◌+◌, ◌≤◌, ◌⊎◌, Bool, true, false, cond, IsTrue, Ok, Err, List, [], ◌∷◌, length, refl, sym, ◌∙◌, ap, subst, inl, inr, arith, ◌↔◌, nat_le, nat_lt, false≢true, leb-true, or_cases, same, fits, has_atom, with_atom, Atom, Value, One, Many, has-with_atom, same_exact, same_itself, IsAtomSet-with_atom, added, limited, Outcome, and_then, Env, Gathered, Meaning, Turn, as_atom, comprehension, gathered, items_added, over, as_set, truth, as_truth, walked, ValueKind, Kind, SetLimit, IsBinding, IsItem, IsSetValue, is_or_first, is_or_second, came_through, MOST_BINDINGS, MOST_ELEMENTS}
use Rattle.value_laws.proofs.Lists.{same_outcome}
use Rattle.csp_atoms.specs.declared.atom.Atom.TheVariants as atom

-- ---- kinds that were found

pub set_back : (v : Value) (set : List Atom) → as_set v ≡ Ok set → v ≡ Many set
set_back (One a) set h = absurd (cc)
set_back (Many atoms) set h = cc

pub atom_back : (v : Value) (a : Atom) → as_atom v ≡ Ok a → v ≡ One a
atom_back (One b) a h = cc
atom_back (Many atoms) a h = absurd (cc)

pub truth_back : (v : Value) (b : Bool) → as_truth v ≡ Ok b → v ≡ truth b
truth_back (One (atom.Truth t)) b h = cc
truth_back _ b h = absurd (cc)

-- ---- sets that grow

-- where a condition had to hold for a value, the value is that of its branch
pub passed : {A : Type 0} (t : Bool) (o : Outcome A) (k : ValueKind) (a : A) → cond t o (Err k) ≡ Ok a → o ≡ Ok a
passed true o k a h = h
passed false o k a h = absurd (cc)

limited_back : (t : Bool) (atoms more : List Atom) (k : ValueKind) → cond t (Ok atoms) (Err k) ≡ Ok more → atoms ≡ more
limited_back true atoms more k h = cc
limited_back false atoms more k h = absurd (cc)

pub limit_back : (atoms more : List Atom) → limited atoms ≡ Ok more → atoms ≡ more
limit_back atoms more h = limited_back _ atoms more SetLimit h

pub added_back : (atoms : List Atom) (a : Atom) (more : List Atom) → added atoms a ≡ Ok more → with_atom atoms a ≡ more
added_back atoms a more h = limit_back (with_atom atoms a) more (passed (fits atoms a) (limited (with_atom atoms a)) Kind more h)

-- a condition that had to hold for a value
pub held : {A : Type 0} (t : Bool) (o : Outcome A) (k : ValueKind) (a : A) → cond t o (Err k) ≡ Ok a → t ≡ true
held true o k a h = refl
held false o k a h = absurd (cc)

-- a set stays one, and its members are those that were there, and others
abbrev pub Grows : List Atom → List Atom → (Atom → Type 0) → Type 0
Grows atoms more New = (IsSetValue atoms → IsSetValue more) × ((z : Atom) → IsTrue (has_atom more z) ↔ (IsTrue (has_atom atoms z) ⊎ New z))

pub has_here : (a : Atom) (rest : List Atom) (z : Atom) → a ≡ z → IsTrue (has_atom (a ∷ rest) z)
has_here a rest z e = is_or_first (same a z) (has_atom rest z) (subst (λ y. same a y ≡ true) e (same_itself a))

pub has_after : (a : Atom) (rest : List Atom) (z : Atom) → IsTrue (has_atom rest z) → IsTrue (has_atom (a ∷ rest) z)
has_after a rest z h = is_or_second (same a z) (has_atom rest z) h

pub has_cases : (a : Atom) (rest : List Atom) (z : Atom) → IsTrue (has_atom (a ∷ rest) z) → (a ≡ z) ⊎ IsTrue (has_atom rest z)
has_cases a rest z h = elim (or_cases (same a z) (has_atom rest z) h) [ inl e ↦ inl (same_exact a z e) | inr r ↦ inr r ]

few_atoms : (atoms more : List Atom) → limited atoms ≡ Ok more → length atoms ≤ MOST_ELEMENTS
few_atoms atoms more h = leb-true (length atoms) MOST_ELEMENTS (held (nat_le (length atoms) MOST_ELEMENTS) (Ok atoms) SetLimit more h)

few_added : (atoms : List Atom) (a : Atom) (more : List Atom) → added atoms a ≡ Ok more → length (with_atom atoms a) ≤ MOST_ELEMENTS
few_added atoms a more h = few_atoms (with_atom atoms a) more (passed (fits atoms a) (limited (with_atom atoms a)) Kind more h)

grown_back : (atoms : List Atom) (a z : Atom) → IsTrue (has_atom atoms z) ⊎ (a ≡ z) → IsTrue (has_atom (a ∷ atoms) z)
grown_back atoms a z (inl h) = has_after a atoms z h
grown_back atoms a z (inr e) = has_here a atoms z e

pub grows_by_one : (atoms : List Atom) (a : Atom) (more : List Atom) → added atoms a ≡ Ok more → Grows atoms more (λ z. a ≡ z)
grows_by_one atoms a more h = (
  λ r. subst IsSetValue (added_back atoms a more h) (IsAtomSet-with_atom atoms a r.0 (held (fits atoms a) (limited (with_atom atoms a)) Kind more h), few_added atoms a more h),
  λ z.
      let is : has_atom more z ≡ has_atom (a ∷ atoms) z = ap (λ (l : List Atom). has_atom l z) (sym (added_back atoms a more h)) ∙ has-with_atom atoms a z in (
        λ g. elim (has_cases a atoms z (sym is ∙ g)) [ inl e ↦ inr e | inr r ↦ inl r ],
        λ g. is ∙ grown_back atoms a z g,
      ),
)

pub same_growth : (atoms more : List Atom) (New Other : Atom → Type 0) → ((z : Atom) → New z → Other z) → ((z : Atom) → Other z → New z) → Grows atoms more New → Grows atoms more Other
same_growth atoms more New Other forth back h = (
  h.0,
  λ z. (
    λ g. elim ((h.1 z).0 g) [ inl r ↦ inl r | inr n ↦ inr (forth z n) ],
    λ g. (h.1 z).1 (elim g [ inl r ↦ inl r | inr n ↦ inr (back z n) ]),
  ),
)

pub no_growth : (atoms more : List Atom) → atoms ≡ more → (New : Atom → Type 0) → ((z : Atom) → New z → ⊥) → Grows atoms more New
no_growth atoms more e New none = subst (λ l. Grows atoms l New) e (λ r. r, λ z. (λ g. inl g, λ g. elim g [ inl r ↦ r | inr n ↦ absurd (none z n) ]))

pub two_growths : (atoms middle more : List Atom) (First Second : Atom → Type 0) → Grows atoms middle First → Grows middle more Second → Grows atoms more (λ z. First z ⊎ Second z)
two_growths atoms middle more First Second h g = (
  λ r. g.0 (h.0 r),
  λ z. (
    λ m. elim ((g.1 z).0 m) [ inl r ↦ elim ((h.1 z).0 r) [ inl q ↦ inl q | inr f ↦ inr (inl f) ] | inr s ↦ inr (inr s) ],
    λ m. elim m [ inl r ↦ (g.1 z).1 (inl ((h.1 z).1 (inl r))) | inr n ↦ elim n [ inl f ↦ (g.1 z).1 (inl ((h.1 z).1 (inr f))) | inr s ↦ (g.1 z).1 (inr s) ] ],
  ),
)

one_set : (o : Outcome Value) (xs ys : List Atom) → o ≡ Ok (Many xs) → o ≡ Ok (Many ys) → xs ≡ ys
one_set o xs ys h g = cc

one_value : (o : Outcome Value) (a b : Atom) → o ≡ Ok (One a) → o ≡ Ok (One b) → a ≡ b
one_value o a b h g = cc

one_truth : (o : Outcome Value) (b c : Bool) → o ≡ Ok (truth b) → o ≡ Ok (truth c) → b ≡ c
one_truth o b c h g = cc

-- ---- items

pub items_grow : (items : List Meaning) (env : Env) (atoms more : List Atom) → items_added items env atoms ≡ Ok more → Grows atoms more (IsItem items env)
items_grow [] env atoms more h = let e : atoms ≡ more = same_outcome h in no_growth atoms more e (IsItem [] env) (λ z n. n)
items_grow (item ∷ items) env atoms more h =
    let first = came_through (item env) (λ v. and_then (as_atom v) (λ a. and_then (added atoms a) (λ l. items_added items env l))) more h in
    let second = came_through (as_atom first.0) (λ a. and_then (added atoms a) (λ l. items_added items env l)) more first.2 in
    let third = came_through (added atoms second.0) (λ l. items_added items env l) more second.2 in
    let value : item env ≡ Ok (One second.0) = first.1 ∙ ap (λ (v : Value). Ok v) (atom_back first.0 second.0 second.1) in
    same_growth atoms more (λ z. (second.0 ≡ z) ⊎ IsItem items env z) (IsItem (item ∷ items) env)
    (λ z n. elim n [ inl e ↦ inl (value ∙ ap (λ (a : Atom). Ok (One a)) e) | inr r ↦ inr r ])
    (λ z n. elim n [ inl e ↦ inl (one_value (item env) second.0 z value e) | inr r ↦ inr r ])
    (two_growths atoms third.0 more (λ z. second.0 ≡ z) (IsItem items env) (grows_by_one atoms second.0 third.0 third.1) (items_grow items env third.0 more third.2))

-- ---- the walk

-- the atoms of steps that were taken one after another
over_grows : (New : Atom → Atom → Type 0) (step : Atom → Gathered → Outcome Gathered)
    → ((a : Atom) (state next : Gathered) → step a state ≡ Ok next → Grows state.atoms next.atoms (New a))
    → (set : List Atom) (state next : Gathered) → over set step state ≡ Ok next → Grows state.atoms next.atoms (λ z. (a : Atom) × IsTrue (has_atom set a) × New a z)
over_grows New step law [] state next h =
    no_growth state.atoms next.atoms (ap (λ (s : Gathered). s.atoms) (same_outcome h)) (λ z. (a : Atom) × IsTrue (has_atom [] a) × New a z) (λ z n. false≢true n.1)
over_grows New step law (b ∷ rest) state next h =
    let first = came_through (step b state) (λ s. over rest step s) next h in
    same_growth state.atoms next.atoms (λ z. New b z ⊎ ((a : Atom) × IsTrue (has_atom rest a) × New a z)) (λ z. (a : Atom) × IsTrue (has_atom (b ∷ rest) a) × New a z)
    (λ z n. elim n [ inl m ↦ (b, has_here b rest b refl, m) | inr r ↦ (r.0, has_after b rest r.0 r.1, r.2) ])
    (λ z n. elim (has_cases b rest n.0 n.1) [ inl e ↦ inl (subst (λ a. New a z) (sym e) n.2) | inr r ↦ inr (n.0, r, n.2) ])
    (two_growths state.atoms first.0.atoms next.atoms (New b) (λ z. (a : Atom) × IsTrue (has_atom rest a) × New a z)
    (law b state first.0 first.1) (over_grows New step law rest first.0 next first.2))

module _ (adds : Env → List Atom → Outcome (List Atom)) (Gives : Env → Atom → Type 0)
    (law : (env : Env) (atoms more : List Atom) → adds env atoms ≡ Ok more → Grows atoms more (Gives env)) where
  -- some binding gives the atom
  abbrev pub Given : List Turn → Env → Atom → Type 0
  Given turns env z = (bound : Env) × IsBinding turns env bound × Gives bound z

  one_binding : (env : Env) (state next : Gathered) → gathered adds env state ≡ Ok next → Grows state.atoms next.atoms (Gives env)
  one_binding env state next h =
      let inside = passed (nat_lt state.bindings MOST_BINDINGS) (and_then (adds env state.atoms) (λ atoms. Ok (record { bindings = state.bindings + 1; atoms = atoms }))) SetLimit next h in
      let through = came_through (adds env state.atoms) (λ atoms. Ok (record { bindings = state.bindings + 1; atoms = atoms })) next inside in
      let is : through.0 ≡ next.atoms = ap (λ (s : Gathered). s.atoms) (same_outcome through.2) in
      subst (λ l. Grows state.atoms l (Gives env)) is (law env state.atoms through.0 through.1)

  condition : (turns : List Turn) (c : Meaning) (env : Env) (state next : Gathered) (b : Bool) → c env ≡ Ok (truth b) → cond b (walked turns (gathered adds) env state) (Ok state) ≡ Ok next
      → (walked turns (gathered adds) env state ≡ Ok next → Grows state.atoms next.atoms (Given turns env)) → Grows state.atoms next.atoms (Given (Turn.when c ∷ turns) env)
  condition turns c env state next true value h rest =
      same_growth state.atoms next.atoms (Given turns env) (Given (Turn.when c ∷ turns) env)
      (λ z n. (n.0, (value, n.1), n.2)) (λ z n. (n.0, n.1.1, n.2)) (rest h)
  condition turns c env state next false value h rest =
      no_growth state.atoms next.atoms (ap (λ (s : Gathered). s.atoms) (same_outcome h)) (Given (Turn.when c ∷ turns) env)
      (λ z n. false≢true (one_truth (c env) false true value n.1.0))

  pub walk_grows : (turns : List Turn) (env : Env) (state next : Gathered) → walked turns (gathered adds) env state ≡ Ok next → Grows state.atoms next.atoms (Given turns env)
  walk_grows [] env state next h =
      same_growth state.atoms next.atoms (Gives env) (Given [] env)
      (λ z n. (env, refl, n)) (λ z n. subst (λ e. Gives e z) (sym n.1) n.2)
      (one_binding env state next h)
  walk_grows (Turn.from x s ∷ turns) env state next h =
      let first = came_through (s env) (λ v. and_then (as_set v) (λ atoms. over atoms (λ a. walked turns (gathered adds) ((x, One a) ∷ env)) state)) next h in
      let second = came_through (as_set first.0) (λ atoms. over atoms (λ a. walked turns (gathered adds) ((x, One a) ∷ env)) state) next first.2 in
      let value : s env ≡ Ok (Many second.0) = first.1 ∙ ap (λ (v : Value). Ok v) (set_back first.0 second.0 second.1) in
      same_growth state.atoms next.atoms (λ z. (a : Atom) × IsTrue (has_atom second.0 a) × Given turns ((x, One a) ∷ env) z) (Given (Turn.from x s ∷ turns) env)
      (λ z n. (n.2.0, (second.0, n.0, value, n.1, n.2.1), n.2.2))
      (λ z n. (n.1.1, subst (λ l. IsTrue (has_atom l n.1.1)) (one_set (s env) n.1.0 second.0 n.1.2 value) n.1.3, (n.0, n.1.4, n.2)))
      (over_grows (λ a. Given turns ((x, One a) ∷ env)) (λ a. walked turns (gathered adds) ((x, One a) ∷ env))
      (λ a from to e. walk_grows turns ((x, One a) ∷ env) from to e) second.0 state next second.2)
  walk_grows (Turn.when c ∷ turns) env state next h =
      let first = came_through (c env) (λ v. and_then (as_truth v) (λ b. cond b (walked turns (gathered adds) env state) (Ok state))) next h in
      let second = came_through (as_truth first.0) (λ b. cond b (walked turns (gathered adds) env state) (Ok state)) next first.2 in
      let value : c env ≡ Ok (truth second.0) = first.1 ∙ ap (λ (v : Value). Ok v) (truth_back first.0 second.0 second.1) in
      condition turns c env state next second.0 value second.2 (λ e. walk_grows turns env state next e)

  -- what all bindings add to the empty set
  pub comprehension_holds : (turns : List Turn) (env : Env) (v : Value) → comprehension turns adds env ≡ Ok v → (set : List Atom) × (v ≡ Many set) × IsSetValue set × ((a : Atom) → IsTrue (has_atom set a) ↔ Given turns env a)
  comprehension_holds turns env v h =
      let through = came_through (walked turns (gathered adds) env (record { bindings = 0; atoms = [] })) (λ state. Ok (Many state.atoms)) v h in
      let is : Many through.0.atoms ≡ v = same_outcome through.2 in
      let grown = walk_grows turns env (record { bindings = 0; atoms = [] }) through.0 through.1 in
      (through.0.atoms, sym is, grown.0 ((tt, tt), omega arith), λ a. (λ g. elim ((grown.1 a).0 g) [ inl n ↦ absurd (false≢true n) | inr f ↦ f ], λ f. (grown.1 a).1 (inr f)))

-- where a comprehension has a value, its set has the items' values under all bindings
pub items_held : (items : List Meaning) (turns : List Turn) (env : Env) (v : Value) → comprehension turns (items_added items) env ≡ Ok v
    → (set : List Atom) × (v ≡ Many set) × IsSetValue set × ((a : Atom) → IsTrue (has_atom set a) ↔ ((bound : Env) × IsBinding turns env bound × IsItem items bound a))
items_held items turns env v h = comprehension_holds (items_added items) (IsItem items) (items_grow items) turns env v h
