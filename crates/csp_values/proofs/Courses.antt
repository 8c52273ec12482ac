-- What walks over generators come to, as they go on, and what is gathered over them.
use Rattle.csp_values.proofs.Prelude.{◌≡◌, ℕ, zero, suc, ◌+◌, ◌<◌, ◌≤◌, Bool, true, false, cond, Option, Some, None, Ok, Err, List, [], ◌∷◌, ◌++◌, map, length, drop, slice_get, refl, ap, sym, subst, ◌∙◌, arith, append_assoc, append-nil, drop_of_length-le, MatchOption, Result, IsErrAnd, Outcome, and_then, Env, Gathered, Turn, from, when, as_set, as_truth, gathered, over, turn, uses_within, walked, EventPart, Expr, Gen, ValueKind, Content, Atom, One, and_then_regroup, Gives, EvalFault, with_bound, Course, GivesStep, no_more, faulty, one, step, skipped, unless_faulty, each_taken, bindings, turns_from, after, at_turn, course_over, name_of, IsUnder, begun, taken, taken_as, worth, truth_worth, atoms_worth, one_more_binding, walk_worth, yielded, Walk, length_push, map-append, same_from_push, at_err, weaker, with_bound-last, Frame, Step}
use Rattle.csp_program.specs.declared.expressions.Gen.TheVariants as generator
use Rattle.csp_values.proofs.Equations.{turn-Cond, turn-From}

-- how many steps and bindings are left
unfoldable pub size : Course → ℕ
size no_more = 0
size (faulty k) = 0
size (one env rest) = suc (size rest)
size (step rest) = suc (size rest)

-- a state that goes through all bindings
unfoldable pub over_course : {S : Type 0} → Course → (Env → S → Outcome S) → S → Outcome S
over_course no_more g state = Ok state
over_course (faulty k) g state = Err k
over_course (one env rest) g state = and_then (g env state) (λ next. over_course rest g next)
over_course (step rest) g state = over_course rest g state

-- lists by places
read_some : {A : Type 0} (xs : List A) (i : ℕ) (x : A) → slice_get xs i ≡ Some x → drop i xs ≡ x ∷ drop (i + 1) xs
read_some [] i x h = absurd (cc)
read_some (y ∷ ys) zero x h = let same : y ≡ x = cc in ap (λ z. z ∷ ys) same
read_some (y ∷ ys) (suc i) x h = let next : suc (i + 1) ≡ suc i + 1 = omega arith in read_some ys i x h ∙ ap (λ k. x ∷ drop k (y ∷ ys)) next

past_end : {A : Type 0} (xs : List A) (i : ℕ) → slice_get xs i ≡ None → drop i xs ≡ []
past_end [] zero h = refl
past_end [] (suc i) h = refl
past_end (y ∷ ys) zero h = absurd (cc)
past_end (y ∷ ys) (suc i) h = past_end ys i h

with_bound_append : (bs cs : List (ℕ × Atom)) (env : Env) → with_bound (bs ++ cs) env ≡ with_bound cs (with_bound bs env)
with_bound_append [] cs env = refl
with_bound_append (b ∷ bs) cs env = with_bound_append bs cs ((b.0, One b.1) ∷ env)

-- the names of a walk are those around it and those of its frames
names_of : (around : List (ℕ × Atom)) (params : Env) (walk : Walk) → IsUnder around walk → with_bound walk.bound params ≡ with_bound (map name_of walk.frames) (with_bound around params)
names_of around params walk under = ap (λ bs. with_bound bs params) under ∙ with_bound_append around (map name_of walk.frames) params

pub taken_under : (around : List (ℕ × Atom)) (walk : Walk) (slot : ℕ) (atoms : List Atom) (place rest : ℕ) (o : Option Atom) → IsUnder around walk → IsUnder around (taken_as walk slot atoms place rest o)
taken_under around walk slot atoms place rest None under = under
taken_under around walk slot atoms place rest (Some a) under =
    let f : Frame = record { name = (slot, a); atoms = atoms; next = place + 1; rest = rest } in
    ap (λ bs. bs ++ (slot, a) ∷ []) under ∙ (append_assoc around (map name_of walk.frames) ((slot, a) ∷ []) ∙ ap (λ bs. around ++ bs) (sym (map-append name_of walk.frames (f ∷ []))))

pub goes_under : (around : List (ℕ × Atom)) (walk below now : Walk) (slot : ℕ) (atoms : List Atom) (place rest : ℕ) → IsUnder around walk
    → ((names : List (ℕ × Atom)) → IsUnder names walk → IsUnder names below) → now ≡ taken below slot atoms place rest → IsUnder around now
goes_under around walk below now slot atoms place rest under keeps is = subst (IsUnder around) (sym is) (taken_under around below slot atoms place rest (slice_get atoms place) (keeps around under))

module _ (p : Content) (n : ℕ) (gens : List Gen) where
  after_push : (frames : List Frame) (f : Frame) (env : Env) (rest : Course)
      → after p n gens (frames ++ f ∷ []) env rest ≡ each_taken (bindings (turns_from p n gens f.rest)) f.name.0 (with_bound (map name_of frames) env) (drop f.next f.atoms) (after p n gens frames env rest)
  unfolding after
  after_push [] f env rest = refl
  after_push (g ∷ frames) f env rest =
      after_push frames f ((g.name.0, One g.name.1) ∷ env) (each_taken (bindings (turns_from p n gens g.rest)) g.name.0 env (drop g.next g.atoms) rest)

  module _ (around : List (ℕ × Atom)) (params : Env) (walk : Walk) (under : IsUnder around walk) where
    -- what a name takes from a place on
    pub takes : (slot : ℕ) (atoms : List Atom) (place rest : ℕ) (o : Option Atom) → slice_get atoms place ≡ o
        → each_taken (bindings (turns_from p n gens rest)) slot (with_bound walk.bound params) (drop place atoms) (after p n gens walk.frames (with_bound around params) no_more) ≡
        step (course_over p n gens params (with_bound around params) (taken_as walk slot atoms place rest o))
    unfolding course_over
    takes slot atoms place rest None h =
        ap (λ left. each_taken (bindings (turns_from p n gens rest)) slot (with_bound walk.bound params) left (after p n gens walk.frames (with_bound around params) no_more)) (past_end atoms place h)
    takes slot atoms place rest (Some a) h =
        let f : Frame = record { name = (slot, a); atoms = atoms; next = place + 1; rest = rest } in
        let here : with_bound (walk.bound ++ (slot, a) ∷ []) params ≡ (slot, One a) ∷ with_bound walk.bound params = with_bound-last walk.bound (slot, a) params in
        let inner : after p n gens (walk.frames ++ f ∷ []) (with_bound around params) no_more ≡
        each_taken (bindings (turns_from p n gens rest)) slot (with_bound walk.bound params) (drop (place + 1) atoms) (after p n gens walk.frames (with_bound around params) no_more) =
        after_push walk.frames f (with_bound around params) no_more ∙
        ap (λ env. each_taken (bindings (turns_from p n gens rest)) slot env (drop (place + 1) atoms) (after p n gens walk.frames (with_bound around params) no_more)) (sym (names_of around params walk under)) in
        ap (λ left. each_taken (bindings (turns_from p n gens rest)) slot (with_bound walk.bound params) left (after p n gens walk.frames (with_bound around params) no_more)) (read_some atoms place a h) ∙
        (λ i. step (bindings (turns_from p n gens rest) (sym here i) (sym inner i)))

  at_generator : (place : ℕ) (g : Gen) (env : Env) (rest : Course) → slice_get gens place ≡ Some g
      → bindings (turns_from p n gens place) env rest ≡ bindings (turn (uses_within p n) p.channels g ∷ turns_from p n gens (place + 1)) env rest
  at_generator place g env rest h = ap (λ gs. bindings (map (turn (uses_within p n) p.channels) gs) env rest) (read_some gens place g h)

  module _ (around : List (ℕ × Atom)) (params : Env) (walk : Walk) (under : IsUnder around walk) (place : ℕ) (at : walk.turn ≡ Some place) where
    turned : course_over p n gens params (with_bound around params) walk ≡ bindings (turns_from p n gens place) (with_bound walk.bound params) (after p n gens walk.frames (with_bound around params) no_more)
    unfolding course_over
    turned = ap (λ t. at_turn p n gens t (with_bound walk.bound params) (after p n gens walk.frames (with_bound around params) no_more)) at

    from_set : (x : ℕ) (s : Expr) (names : List (ℕ × Atom)) (o : Outcome (List Atom)) → slice_get gens place ≡ Some (generator.From x s) → names ≡ walk.bound → atoms_worth p n (with_bound names params) s ≡ o
        → course_over p n gens params (with_bound around params) walk ≡
        unless_faulty o (λ atoms. each_taken (bindings (turns_from p n gens (place + 1))) x (with_bound walk.bound params) atoms (after p n gens walk.frames (with_bound around params) no_more))
    unfolding worth atoms_worth
    from_set x s names o h got came =
        turned ∙
        (at_generator place (generator.From x s) (with_bound walk.bound params) (after p n gens walk.frames (with_bound around params) no_more) h ∙
        (ap (λ t. bindings (t ∷ turns_from p n gens (place + 1)) (with_bound walk.bound params) (after p n gens walk.frames (with_bound around params) no_more)) (turn-From p n x s) ∙
        ap (λ z. unless_faulty z (λ atoms. each_taken (bindings (turns_from p n gens (place + 1))) x (with_bound walk.bound params) atoms (after p n gens walk.frames (with_bound around params) no_more)))
        (ap (λ bs. atoms_worth p n (with_bound bs params) s) (sym got) ∙ came)))

    pub set_fault : (x : ℕ) (s : Expr) (names : List (ℕ × Atom)) (k : ValueKind) → slice_get gens place ≡ Some (generator.From x s) → names ≡ walk.bound → atoms_worth p n (with_bound names params) s ≡ Err k
        → course_over p n gens params (with_bound around params) walk ≡ faulty k
    set_fault x s names k h got bad = from_set x s names (Err k) h got bad

    pub set_entered : (x : ℕ) (s : Expr) (names : List (ℕ × Atom)) (atoms : List Atom) (now : Walk) → slice_get gens place ≡ Some (generator.From x s) → names ≡ walk.bound → atoms_worth p n (with_bound names params) s ≡ Ok atoms
        → now ≡ taken walk x atoms 0 (place + 1) → course_over p n gens params (with_bound around params) walk ≡ step (course_over p n gens params (with_bound around params) now)
    set_entered x s names atoms now h got good is =
        from_set x s names (Ok atoms) h got good ∙ (takes around params walk under x atoms 0 (place + 1) (slice_get atoms 0) refl ∙ ap (λ w. step (course_over p n gens params (with_bound around params) w)) (sym is))

    under_condition : (c : Expr) (names : List (ℕ × Atom)) (o : Outcome Bool) → slice_get gens place ≡ Some (generator.Cond c) → names ≡ walk.bound → truth_worth p n (with_bound names params) c ≡ o
        → course_over p n gens params (with_bound around params) walk ≡
        unless_faulty o (λ b. cond b (step (bindings (turns_from p n gens (place + 1)) (with_bound walk.bound params) (after p n gens walk.frames (with_bound around params) no_more)))
        (step (after p n gens walk.frames (with_bound around params) no_more)))
    unfolding worth truth_worth
    under_condition c names o h got came =
        turned ∙
        (at_generator place (generator.Cond c) (with_bound walk.bound params) (after p n gens walk.frames (with_bound around params) no_more) h ∙
        (ap (λ t. bindings (t ∷ turns_from p n gens (place + 1)) (with_bound walk.bound params) (after p n gens walk.frames (with_bound around params) no_more)) (turn-Cond p n c) ∙
        ap (λ z. unless_faulty z (λ b. cond b (step (bindings (turns_from p n gens (place + 1)) (with_bound walk.bound params) (after p n gens walk.frames (with_bound around params) no_more)))
        (step (after p n gens walk.frames (with_bound around params) no_more))))
        (ap (λ bs. truth_worth p n (with_bound bs params) c) (sym got) ∙ came)))

    pub condition_fault : (c : Expr) (names : List (ℕ × Atom)) (k : ValueKind) → slice_get gens place ≡ Some (generator.Cond c) → names ≡ walk.bound → truth_worth p n (with_bound names params) c ≡ Err k
        → course_over p n gens params (with_bound around params) walk ≡ faulty k
    condition_fault c names k h got bad = under_condition c names (Err k) h got bad

    pub condition_holds : (c : Expr) (names : List (ℕ × Atom)) (b : Bool) (t : Option ℕ) → slice_get gens place ≡ Some (generator.Cond c) → names ≡ walk.bound → truth_worth p n (with_bound names params) c ≡ Ok b
        → b ≡ true → t ≡ Some (place + 1) → course_over p n gens params (with_bound around params) walk ≡ step (course_over p n gens params (with_bound around params) (record walk { turn = t }))
    unfolding course_over
    condition_holds c names b t h got good holds is =
        under_condition c names (Ok true) h got (good ∙ ap (λ z. Ok z) holds) ∙ ap (λ z. step (at_turn p n gens z (with_bound walk.bound params) (after p n gens walk.frames (with_bound around params) no_more))) (sym is)

    pub condition_fails : (c : Expr) (names : List (ℕ × Atom)) (b : Bool) (t : Option ℕ) → slice_get gens place ≡ Some (generator.Cond c) → names ≡ walk.bound → truth_worth p n (with_bound names params) c ≡ Ok b
        → b ≡ false → t ≡ None → course_over p n gens params (with_bound around params) walk ≡ step (course_over p n gens params (with_bound around params) (record walk { turn = t }))
    unfolding course_over
    condition_fails c names b t h got good fails is =
        under_condition c names (Ok false) h got (good ∙ ap (λ z. Ok z) fails) ∙ ap (λ z. step (at_turn p n gens z (with_bound walk.bound params) (after p n gens walk.frames (with_bound around params) no_more))) (sym is)

    pub binding_found : length gens ≤ place
        → course_over p n gens params (with_bound around params) walk ≡ one (with_bound walk.bound params) (course_over p n gens params (with_bound around params) (record walk { turn = None }))
    unfolding course_over
    binding_found h = turned ∙ ap (λ gs. bindings (map (turn (uses_within p n) p.channels) gs) (with_bound walk.bound params) (after p n gens walk.frames (with_bound around params) no_more)) (drop_of_length-le gens h)

  -- the last frame goes on
  pub goes_on : (around : List (ℕ × Atom)) (params : Env) (walk below now : Walk) (f : Frame) → IsUnder around walk → walk.turn ≡ None → walk.frames ≡ below.frames ++ f ∷ []
      → ((names : List (ℕ × Atom)) → IsUnder names walk → IsUnder names below) → now ≡ taken below f.name.0 f.atoms f.next f.rest
      → course_over p n gens params (with_bound around params) walk ≡ step (course_over p n gens params (with_bound around params) now)
  unfolding course_over
  goes_on around params walk below now f under at popped keeps is =
      let left : IsUnder around below = keeps around under in
      ap (λ t. at_turn p n gens t (with_bound walk.bound params) (after p n gens walk.frames (with_bound around params) no_more)) at ∙
      (ap (λ fs. after p n gens fs (with_bound around params) no_more) popped ∙
      (after_push below.frames f (with_bound around params) no_more ∙
      (ap (λ env. each_taken (bindings (turns_from p n gens f.rest)) f.name.0 env (drop f.next f.atoms) (after p n gens below.frames (with_bound around params) no_more)) (sym (names_of around params below left)) ∙
      (takes around params below left f.name.0 f.atoms f.next f.rest (slice_get f.atoms f.next) refl ∙
      ap (λ w. step (course_over p n gens params (with_bound around params) w)) (sym is)))))

  pub ends : (around : List (ℕ × Atom)) (params : Env) (walk : Walk) → walk.turn ≡ None → walk.frames ≡ [] → course_over p n gens params (with_bound around params) walk ≡ no_more
  unfolding course_over after
  ends around params walk at none =
      ap (λ t. at_turn p n gens t (with_bound walk.bound params) (after p n gens walk.frames (with_bound around params) no_more)) at ∙ ap (λ fs. after p n gens fs (with_bound around params) no_more) none

-- what is gathered over a course
module _ {S : Type 0} (g : Env → S → Outcome S) where
  over_skipped : (c : Course) (state : S) → over_course (skipped c) g state ≡ over_course c g state
  unfolding over_course
  over_skipped no_more state = refl
  over_skipped (faulty k) state = refl
  over_skipped (one env rest) state = refl
  over_skipped (step rest) state = over_skipped rest state

  over_next : (before left : Course) (env : Env) (state : S) → skipped before ≡ one env left → over_course before g state ≡ and_then (g env state) (λ next. over_course left g next)
  unfolding over_course
  over_next before left env state h = sym (over_skipped before state) ∙ ap (λ c. over_course c g state) h

  pub over_end : (before : Course) (state : S) → skipped before ≡ no_more → over_course before g state ≡ Ok state
  unfolding over_course
  over_end before state h = sym (over_skipped before state) ∙ ap (λ c. over_course c g state) h

  pub over_fault : (before : Course) (state : S) (k : ValueKind) → skipped before ≡ faulty k → over_course before g state ≡ Err k
  unfolding over_course
  over_fault before state k h = sym (over_skipped before state) ∙ ap (λ c. over_course c g state) h

  -- one binding of those that are left
  pub gathering_fault : (whole : Outcome S) (before left : Course) (env inner : Env) (state : S) (k : ValueKind) → whole ≡ over_course before g state → skipped before ≡ one env left → inner ≡ env → g inner state ≡ Err k → whole ≡ Err k
  gathering_fault whole before left env inner state k w h named bad =
      w ∙ (over_next before left env state h ∙ ap (λ o. and_then o (λ next. over_course left g next)) (ap (λ e. g e state) (sym named) ∙ bad))

  pub gathering_next : (whole : Outcome S) (before left : Course) (env inner : Env) (state next : S) → whole ≡ over_course before g state → skipped before ≡ one env left → inner ≡ env → g inner state ≡ Ok next
      → whole ≡ over_course left g next
  gathering_next whole before left env inner state next w h named good =
      w ∙ (over_next before left env state h ∙ ap (λ o. and_then o (λ more. over_course left g more)) (ap (λ e. g e state) (sym named) ∙ good))

  over_unless : {A : Type 0} (o : Outcome A) (next : A → Course) (state : S) → over_course (unless_faulty o next) g state ≡ and_then o (λ a. over_course (next a) g state)
  unfolding over_course
  over_unless (Ok a) next state = refl
  over_unless (Err k) next state = refl

  over_each : (inner : Env → Course → Course) (walks : Env → S → Outcome S)
      → ((env : Env) (rest : Course) (state : S) → over_course (inner env rest) g state ≡ and_then (walks env state) (λ next. over_course rest g next))
      → (x : ℕ) (env : Env) (atoms : List Atom) (rest : Course) (state : S)
      → over_course (each_taken inner x env atoms rest) g state ≡ and_then (over atoms (λ a. walks ((x, One a) ∷ env)) state) (λ next. over_course rest g next)
  unfolding over_course
  over_each inner walks h x env [] rest state = refl
  over_each inner walks h x env (a ∷ atoms) rest state =
      h ((x, One a) ∷ env) (each_taken inner x env atoms rest) state ∙
      ((λ i. and_then (walks ((x, One a) ∷ env) state) (λ next. over_each inner walks h x env atoms rest next i)) ∙
      and_then_regroup (walks ((x, One a) ∷ env) state) (λ next. over atoms (λ b. walks ((x, One b) ∷ env)) next) (λ next. over_course rest g next))

  over_choice : (turns : List Turn) (env : Env) (rest : Course) (state : S) → over_course (bindings turns env rest) g state ≡ and_then (walked turns g env state) (λ next. over_course rest g next) → (b : Bool)
      → over_course (cond b (step (bindings turns env rest)) (step rest)) g state ≡ and_then (cond b (walked turns g env state) (Ok state)) (λ next. over_course rest g next)
  unfolding over_course
  over_choice turns env rest state h true = h
  over_choice turns env rest state h false = refl

  regroup : {V A : Type 0} (o : Outcome V) (f : V → Outcome A) (next : A → Outcome S) (last : S → Outcome S) → and_then (and_then o f) (λ a. and_then (next a) last) ≡ and_then (and_then o (λ v. and_then (f v) next)) last
  regroup (Ok v) f next last = and_then_regroup (f v) next last
  regroup (Err k) f next last = refl

  pub over_bindings : (turns : List Turn) (env : Env) (rest : Course) (state : S) → over_course (bindings turns env rest) g state ≡ and_then (walked turns g env state) (λ next. over_course rest g next)
  unfolding over_course
  over_bindings [] env rest state = refl
  over_bindings (from x m ∷ turns) env rest state =
      over_unless (and_then (m env) (λ v. as_set v)) (λ atoms. each_taken (bindings turns) x env atoms rest) state ∙
      ((λ i. and_then (and_then (m env) (λ v. as_set v)) (λ atoms. over_each (bindings turns) (walked turns g) (λ e r s. over_bindings turns e r s) x env atoms rest state i)) ∙
      regroup (m env) (λ v. as_set v) (λ atoms. over atoms (λ a. walked turns g ((x, One a) ∷ env)) state) (λ next. over_course rest g next))
  over_bindings (when c ∷ turns) env rest state =
      over_unless (and_then (c env) (λ v. as_truth v)) (λ b. cond b (step (bindings turns env rest)) (step rest)) state ∙
      ((λ i. and_then (and_then (c env) (λ v. as_truth v)) (λ b. over_choice turns env rest state (over_bindings turns env rest state) b i)) ∙
      regroup (c env) (λ v. as_truth v) (λ b. cond b (walked turns g env state) (Ok state)) (λ next. over_course rest g next))

  no_more_after : (o : Outcome S) → and_then o (λ next. over_course no_more g next) ≡ o
  unfolding over_course
  no_more_after (Ok next) = refl
  no_more_after (Err k) = refl

  -- a walk that begins has all bindings before it
  pub over_begun : (p : Content) (n : ℕ) (gens : List Gen) (around : List (ℕ × Atom)) (params : Env) (walk : Walk) (state : S) → walk ≡ begun around
      → walked (map (turn (uses_within p n) p.channels) gens) g (with_bound around params) state ≡ over_course (course_over p n gens params (with_bound around params) walk) g state
  unfolding course_over after
  over_begun p n gens around params walk state is =
      sym (no_more_after (walked (map (turn (uses_within p n) p.channels) gens) g (with_bound around params) state)) ∙
      (sym (over_bindings (map (turn (uses_within p n) p.channels) gens) (with_bound around params) no_more state) ∙
      ap (λ w. over_course (course_over p n gens params (with_bound around params) w) g state) (sym is))

pub gathering_begun : (p : Content) (n : ℕ) (gens : List Gen) (items : List Expr) (parts : List EventPart) (around : List (ℕ × Atom)) (params : Env) (walk : Walk) (state : Gathered) → walk ≡ begun around
    → walk_worth p n gens items parts (with_bound around params) state ≡ over_course (course_over p n gens params (with_bound around params) walk) (one_more_binding p n items parts) state
unfolding walk_worth one_more_binding
gathering_begun p n gens items parts around params walk state is = over_begun (gathered (yielded p n items parts)) p n gens around params walk state is

pub begun_under : (around : List (ℕ × Atom)) (walk : Walk) → walk ≡ begun around → IsUnder around walk
begun_under around walk is = subst (IsUnder around) (sym is) (sym (append-nil around))

-- a fault of a part is a fault of a step
pub step_passed : {A : Type 0} (r : Result Step EvalFault) (f : EvalFault) (part : Outcome A) (before left : Course) (params : Env) (around : List (ℕ × Atom)) (walk : Walk)
    → IsErrAnd r (λ y. y ≡ f) → Gives {A = A} (Err f) part → ((k : ValueKind) → part ≡ Err k → before ≡ faulty k) → GivesStep r before left params around walk
step_passed r f part before left params around walk is h passes =
    at_err (λ q. GivesStep q before left params around walk) r f is (weaker (λ k. part ≡ Err k) (λ k. before ≡ faulty k) f h passes)

-- the work that is left falls
size_skipped : (c : Course) → size (skipped c) ≤ size c
unfolding size
size_skipped no_more = omega arith
size_skipped (faulty k) = omega arith
size_skipped (one env rest) = omega arith
size_skipped (step rest) = let less : size (skipped rest) ≤ size rest = size_skipped rest in omega arith

pub binding_less : (before left : Course) (env : Env) → skipped before ≡ one env left → size left < size before
unfolding size
binding_less before left env h = let e : size (skipped before) ≡ suc (size left) = ap size h in omega (arith, size_skipped before)

pub step_less : (before left : Course) → before ≡ step left → size left < size before
unfolding size
step_less before left h = let e : size before ≡ suc (size left) = ap size h in omega arith

push_is_some : {A : Type 0} (xs : List A) (x : A) → [] ≡ xs ++ x ∷ [] → ⊥
push_is_some xs x e = let n : 0 ≡ length (xs ++ x ∷ []) = ap length e in omega (arith, length_push xs x)

-- without its last frame and the name of it a walk is under the same names
pub popped_under : (around bound left : List (ℕ × Atom)) (frames below : List Frame) (f : Frame) (r : Option (ℕ × Atom)) → MatchOption r ((bound ≡ []) × (left ≡ [])) (λ last. bound ≡ left ++ last ∷ [])
    → frames ≡ below ++ f ∷ [] → bound ≡ around ++ map name_of frames → left ≡ around ++ map name_of below
popped_under around bound left frames below f r h popped under =
    let whole : bound ≡ (around ++ map name_of below) ++ name_of f ∷ [] =
    under ∙ (ap (λ fs. around ++ map name_of fs) popped ∙ (ap (λ bs. around ++ bs) (map-append name_of below (f ∷ [])) ∙ sym (append_assoc around (map name_of below) (name_of f ∷ [])))) in
    front_left r h whole
  where
    front_left : (r : Option (ℕ × Atom)) → MatchOption r ((bound ≡ []) × (left ≡ [])) (λ last. bound ≡ left ++ last ∷ []) → bound ≡ (around ++ map name_of below) ++ name_of f ∷ [] → left ≡ around ++ map name_of below
    front_left None h whole = absurd (push_is_some (around ++ map name_of below) (name_of f) (sym (h.0) ∙ whole))
    front_left (Some last) h whole = (same_from_push left (around ++ map name_of below) last (name_of f) (sym h ∙ whole)).0

pub ruleset gathering_steps = (gathering_begun, begun_under, over_end, binding_less)

pub ruleset advance_steps = (ends, goes_on, goes_under)
