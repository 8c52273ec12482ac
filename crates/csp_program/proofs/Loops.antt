-- The sets of comprehensions and productions are those that nested loops make with a state that goes through all bindings.
use Rattle.std.proofs.Common.{◌≡◌, ℕ, zero, suc, ◌+◌, ◌<◌, ◌≤◌, Bool, true, false, cond, Ok, Err, List, [], ◌∷◌, ◌++◌, map, refl, ap, sym, ◌∙◌, arith}
use Rattle.std.specs.Prelude.{nat_lt}
use Rattle.dl_limits.specs.declared.TheConstants.{MOST_BINDINGS}
use Rattle.csp_atoms.specs.declared.atom.Atom.{Atom}
use Rattle.csp_atoms.specs.declared.atom.Atom.TheVariants as atom
use Rattle.csp_atoms.specs.declared.value.Value.{Value}
use Rattle.csp_atoms.specs.declared.value.Value.TheVariants.{One, Many}
use Rattle.csp_program.specs.Prelude.{Env, Front, Gathered, Meaning, Outcome, Turn, added, all_added, and_then, as_atom, as_set, as_truth, at_most, bindings_of, comprehension, from, front_events, fronts_added, fronts_in, gathered, items_added, items_in, joined, many, or_fault, over, set_with, under_each, walked, when}
use Rattle.csp_program.specs.declared.kinds.ValueKind.{ValueKind}
use Rattle.csp_program.specs.declared.kinds.ValueKind.TheVariants.{SetLimit}
use Rattle.csp_program.specs.declared.programs.Channel.{Channel}
use Rattle.csp_program.proofs.Outcomes.{and_then_regroup}

regroup_twice : {A B C D : Type 0} (o : Outcome A) (f : A → Outcome B) (g : B → Outcome C) (h : C → Outcome D)
    → and_then o (λ a. and_then (f a) (λ b. and_then (g b) h)) ≡ and_then (and_then o (λ a. and_then (f a) g)) h
regroup_twice (Ok a) f g h = and_then_regroup (f a) g h
regroup_twice (Err k) f g h = refl

-- ---- sets of lists

set_with_both : (atoms : List Atom) (xs ys : List (Outcome Atom)) → set_with atoms (xs ++ ys) ≡ and_then (set_with atoms xs) (λ more. set_with more ys)
set_with_both atoms [] ys = refl
set_with_both atoms (o ∷ xs) ys =
    (λ i. and_then o (λ a. and_then (added atoms a) (λ more. set_with_both more xs ys i))) ∙
    regroup_twice o (λ a. added atoms a) (λ more. set_with more xs) (λ more. set_with more ys)

pub set_with_items : (items : List Meaning) (env : Env) (atoms : List Atom) → set_with atoms (items_in items env) ≡ items_added items env atoms
set_with_items [] env atoms = refl
set_with_items (e ∷ es) env atoms =
    sym (and_then_regroup (e env) as_atom (λ a. and_then (added atoms a) (λ more. set_with more (items_in es env)))) ∙
    (λ i. and_then (e env) (λ v. and_then (as_atom v) (λ a. and_then (added atoms a) (λ more. set_with_items es env more i))))

pub set_with_atoms : {X : Type 0} (f : X → Atom) (xs : List X) (atoms : List Atom) → set_with atoms (map (λ x. Ok (f x)) xs) ≡ all_added atoms (map f xs)
set_with_atoms f [] atoms = refl
set_with_atoms f (x ∷ xs) atoms = λ i. and_then (added atoms (f x)) (λ more. set_with_atoms f xs more i)

with_front : (o : Outcome (List ℕ)) (atoms : List Atom) (rest : List (Outcome Atom))
    → set_with atoms (or_fault o (map (λ e. Ok (atom.Event e))) ++ rest) ≡ and_then o (λ es. and_then (all_added atoms (map (λ e. atom.Event e) es)) (λ more. set_with more rest))
with_front (Ok es) atoms rest =
    set_with_both atoms (map (λ e. Ok (atom.Event e)) es) rest ∙ ap (λ r. and_then r (λ more. set_with more rest)) (set_with_atoms (λ e. atom.Event e) es atoms)
with_front (Err k) atoms rest = refl

with_fronts : (channels : List Channel) (fronts : List Front) (env : Env) (atoms : List Atom) → set_with atoms (fronts_in channels fronts env) ≡ fronts_added channels fronts env atoms
with_fronts channels [] env atoms = refl
with_fronts channels (f ∷ fs) env atoms =
    with_front (front_events channels f.channel f.fields env) atoms (fronts_in channels fs env) ∙
    (λ i. and_then (front_events channels f.channel f.fields env)
    (λ es. and_then (all_added atoms (map (λ e. atom.Event e) es)) (λ more. with_fronts channels fs env more i)))

-- ---- loops

-- a state that goes through a list of bindings
abbrev through : {S : Type 0} → (Env → S → Outcome S) → List (Outcome Env) → S → Outcome S
through step [] state = Ok state
through step (b ∷ bs) state = and_then b (λ env. and_then (step env state) (λ next. through step bs next))

module _ {S : Type 0} (step : Env → S → Outcome S) where
  through_both : (xs ys : List (Outcome Env)) (state : S) → through step (xs ++ ys) state ≡ and_then (through step xs state) (λ next. through step ys next)
  through_both [] ys state = refl
  through_both (b ∷ xs) ys state =
      (λ i. and_then b (λ env. and_then (step env state) (λ next. through_both xs ys next i))) ∙
      regroup_twice b (λ env. step env state) (λ next. through step xs next) (λ next. through step ys next)

  through_outcome : {A : Type 0} (o : Outcome A) (f : A → List (Outcome Env)) (state : S) → and_then o (λ a. through step (f a) state) ≡ through step (or_fault o f) state
  through_outcome (Ok a) f state = refl
  through_outcome (Err k) f state = refl

  through_one : (o : Outcome S) → o ≡ and_then o (λ next. Ok next)
  through_one (Ok s) = refl
  through_one (Err k) = refl

  through_choice : (b : Bool) (o : Outcome S) (xs : List (Outcome Env)) (state : S) → o ≡ through step xs state → cond b o (Ok state) ≡ through step (cond b xs []) state
  through_choice true o xs state h = h
  through_choice false o xs state h = refl

  through_each : (loop : Atom → S → Outcome S) (each : Atom → List (Outcome Env)) → ((a : Atom) (state : S) → loop a state ≡ through step (each a) state)
      → (atoms : List Atom) (state : S) → over atoms loop state ≡ through step (joined (map each atoms)) state
  through_each loop each h [] state = refl
  through_each loop each h (a ∷ atoms) state =
      (λ i. and_then (h a state i) (λ next. through_each loop each h atoms next i)) ∙ sym (through_both (each a) (joined (map each atoms)) state)

  -- nested loops go through all bindings
  walked_through : (turns : List Turn) (env : Env) (state : S) → walked turns step env state ≡ through step (bindings_of turns env) state
  walked_through [] env state = through_one (step env state)
  walked_through (from x s ∷ turns) env state =
      (λ i. and_then (s env) (λ v. and_then (as_set v) (λ atoms.
      through_each (λ a. walked turns step ((x, One a) ∷ env)) (λ a. bindings_of turns ((x, One a) ∷ env)) (λ a. walked_through turns ((x, One a) ∷ env)) atoms state i))) ∙
      (and_then_regroup (s env) as_set (λ atoms. through step (joined (map (λ a. bindings_of turns ((x, One a) ∷ env)) atoms)) state) ∙
      through_outcome (and_then (s env) as_set) (λ atoms. joined (map (λ a. bindings_of turns ((x, One a) ∷ env)) atoms)) state)
  walked_through (when c ∷ turns) env state =
      (λ i. and_then (c env) (λ v. and_then (as_truth v) (λ b.
      through_choice b (walked turns step env state) (bindings_of turns env) state (walked_through turns env state) i))) ∙
      (and_then_regroup (c env) as_truth (λ b. through step (cond b (bindings_of turns env) []) state) ∙
      through_outcome (and_then (c env) as_truth) (λ b. cond b (bindings_of turns env) []) state)

-- A state that counts the bindings and keeps what they have given so far: the loops come to what the list of all that is given comes to.
module _ {S T A R : Type 0} (most : ℕ) (state : ℕ → T → S) (step : Env → S → Outcome S) (adds : Env → T → Outcome T) (gives : Env → List (Outcome A))
    (whole : T → List (Outcome A) → Outcome R) (last : S → Outcome R)
    (counts : (env : Env) (n : ℕ) (t : T) → step env (state n t) ≡ cond (nat_lt n most) (and_then (adds env t) (λ u. Ok (state (n + 1) u))) (Err SetLimit))
    (ends : (n : ℕ) (t : T) → last (state n t) ≡ whole t [])
    (fails : (t : T) (k : ValueKind) (rest : List (Outcome A)) → whole t (Err k ∷ rest) ≡ Err k)
    (goes : (env : Env) (t : T) (rest : List (Outcome A)) → whole t (gives env ++ rest) ≡ and_then (adds env t) (λ u. whole u rest)) where
  abbrev given : List (Outcome Env) → List (Outcome A)
  given bs = joined (map (λ b. or_fault b gives) bs)

  abbrev ended : List (Outcome Env) → Outcome S → Outcome R
  ended bs o = and_then (and_then o (λ next. through step bs next)) last

  room : (n m : ℕ) → n + suc m ≡ most → nat_lt n most ≡ true
  room n m h = grind (arith, h)

  no_room : (n : ℕ) → n + zero ≡ most → nat_lt n most ≡ false
  no_room n h = grind (arith, h)

  through_counted : (m n : ℕ) → n + m ≡ most → (bs : List (Outcome Env)) (t : T) → and_then (through step bs (state n t)) last ≡ whole t (given (at_most m bs))
  unfolding at_most
  through_counted zero n full [] t = ends n t
  through_counted (suc m) n full [] t = ends n t
  through_counted zero n full (Err k ∷ bs) t = sym (fails t k _)
  through_counted (suc m) n full (Err k ∷ bs) t = sym (fails t k _)
  through_counted zero n full (Ok env ∷ bs) t =
      ap (ended bs) (counts env n t ∙ ap (λ b. cond b (and_then (adds env t) (λ u. Ok (state (n + 1) u))) (Err SetLimit)) (no_room n full)) ∙
      sym (fails t SetLimit _)
  through_counted (suc m) n full (Ok env ∷ bs) t =
      ap (ended bs) (counts env n t ∙ ap (λ b. cond b (and_then (adds env t) (λ u. Ok (state (n + 1) u))) (Err SetLimit)) (room n m full)) ∙
      (one (λ u. through_counted m (n + 1) (omega (arith, full)) bs u) (adds env t) ∙ sym (goes env t (given (at_most m bs))))
    where
      one : ((u : T) → and_then (through step bs (state (n + 1) u)) last ≡ whole u (given (at_most m bs))) → (o : Outcome T) → ended bs (and_then o (λ u. Ok (state (n + 1) u))) ≡ and_then o (λ u. whole u (given (at_most m bs)))
      one rest (Ok u) = rest u
      one rest (Err k) = refl

  pub loops_give_all : (turns : List Turn) (env : Env) (t : T) → and_then (walked turns step env (state 0 t)) last ≡ whole t (given (at_most most (bindings_of turns env)))
  loops_give_all turns env t = ap (λ o. and_then o last) (walked_through step turns env (state 0 t)) ∙ through_counted most 0 (omega arith) (bindings_of turns env) t

-- ---- comprehensions and productions

abbrev gathered_so : ℕ → List Atom → Gathered
gathered_so n atoms = record { bindings = n; atoms = atoms }

set_by_loops : (turns : List Turn) (adds : Env → List Atom → Outcome (List Atom)) (gives : Env → List (Outcome Atom))
    → ((env : Env) (atoms : List Atom) → set_with atoms (gives env) ≡ adds env atoms) → (env : Env) → many (set_with [] (under_each turns env gives)) ≡ comprehension turns adds env
set_by_loops turns adds gives h env =
    sym (loops_give_all MOST_BINDINGS gathered_so (gathered adds) adds gives (λ atoms os. many (set_with atoms os)) (λ state. Ok (Many state.atoms))
    (λ inner n atoms. refl) (λ n atoms. refl) (λ atoms k rest. refl)
    (λ inner atoms rest. ap many (set_with_both atoms (gives inner) rest ∙ ap (λ o. and_then o (λ more. set_with more rest)) (h inner atoms)) ∙
    sym (and_then_regroup (adds inner atoms) (λ more. set_with more rest) (λ set. Ok (Many set))))
    turns env [])

pub items_by_loops : (turns : List Turn) (items : List Meaning) (env : Env) → many (set_with [] (under_each turns env (items_in items))) ≡ comprehension turns (items_added items) env
items_by_loops turns items = set_by_loops turns (items_added items) (items_in items) (set_with_items items)

pub fronts_by_loops : (turns : List Turn) (channels : List Channel) (fronts : List Front) (env : Env)
    → many (set_with [] (under_each turns env (fronts_in channels fronts))) ≡ comprehension turns (fronts_added channels fronts) env
fronts_by_loops turns channels fronts = set_by_loops turns (fronts_added channels fronts) (fronts_in channels fronts) (with_fronts channels fronts)
