-- The steps of the terms that are followed, as rows of a table that grows.
use Rattle.local_tables.proofs.Prelude.{◌≡◌, ℕ, zero, suc, ◌+◌, ◌<◌, List, [], ◌∷◌, ◌++◌, length, refl, ap, ◌∙◌, arith, ◌⊎◌, inl, inr, Bool, true, false, IsTrue, Some, slice_get, sym, subst, append_assoc, append-nil, ◌≤◌, Option, map, option_map, drop, if◌then◌else◌, take, get_or_from_slice_get, slice_get-get_or, slice_get-map, slice_get_within, same_Some, false≢true, cases_lt, length-append, drop_all, total, EachOnce, StandsIn, proc_depth, Proc, Content, IsFront, tree_at, eq_id, ProcId, terms_at, AreRows, IsFollowed, IsRow, IsTabled, process_label, AreFound, AreLed, AreTabled, AreTaken, IsAt, IsWithin, LeadsToTerm, Origin, counted_size, label_of, step_more, with_term, IsUpTo, AreSteps, IsInside, part_of, IsInOrder, CanEnd, Room, Found, Task, slice_get-append_left, push_cases, slice_get_last, drop_read, map_push, take_read, firsts_back, firsts_once, firsts_there, stands_none, goals, is_by, StepTo, Label, silent, visible, Component, ComponentStep, IsInTable, IsStepOf, RawStep, RawTable, standing_at, targets_in, lists_are, lists_are_there, ProcessStep, Ticks, LacksNone, Step, Move, MOST_TERM_DEPTH, has, firsts_goals, step_target, target_step, AreFirsts, AreTargets, seen, AreStepsOf, Tick, is_member}
use Rattle.local_tables.proofs.Rows.{goals_joined, goals_more, goals_stay, in_row, number_at, of_row, row_at, row_end, row_kept, row_once, same_or_not, silent_once, steps_once, row_more, row_stays}
use Rattle.local_tables.proofs.Walking.{led_more}
use Rattle.csp_program.specs.declared.processes.Proc.TheVariants as proc

pub map_at : {X Y : Type 0} (f : X → Y) (xs : List X) (k : ℕ) (x : X) → slice_get xs k ≡ Some x → slice_get (map f xs) k ≡ Some (f x)
map_at f xs k x h = slice_get-map f xs k ∙ ap (option_map f) h

-- what stands under an element of a mapped list
pub record Under {X Y : Type 0} (f : X → Y) (xs : List X) (k : ℕ) (y : Y) : Type 0 where
  pub element : X
  pub at : slice_get xs k ≡ Some element
  pub is : f element ≡ y

pub under_map : {X Y : Type 0} (f : X → Y) (xs : List X) (k : ℕ) (y : Y) → slice_get (map f xs) k ≡ Some y → Under f xs k y
under_map f [] k y h = cc
under_map f (x ∷ xs) zero y h = record { element = x; at = refl; is = cc }
under_map f (x ∷ xs) (suc k) y h = let r = under_map f xs k y h in record { element = r.element; at = r.at; is = r.is }

pub total_push : (ns : List ℕ) (n : ℕ) → total (ns ++ n ∷ []) ≡ total ns + n
total_push [] n = omega arith
total_push (m ∷ ns) n = let e : total (ns ++ n ∷ []) ≡ total ns + n = total_push ns n in omega arith

-- ---- the terms of a pool

tree_kept : (old new : List Proc) (id : ProcId) → IsFront old new → id.0 < length old → tree_at new id ≡ tree_at old id
tree_kept old new id front inside =
    get_or_from_slice_get new id.0 (tree_at old id) proc.Stop (front id.0 (tree_at old id) (slice_get-get_or old id.0 proc.Stop inside))

pub inside_still : (old new : List Proc) (id : ProcId) → IsFront old new → id.0 < length old → id.0 < length new
inside_still old new id front inside =
    slice_get_within new id.0 (tree_at old id) (front id.0 (tree_at old id) (slice_get-get_or old id.0 proc.Stop inside))

pub terms_kept : (old new : List Proc) (ids : List ProcId) → IsFront old new → ((k : ℕ) (id : ProcId) → slice_get ids k ≡ Some id → id.0 < length old)
    → terms_at new ids ≡ terms_at old ids
terms_kept old new [] front places = refl
terms_kept old new (id ∷ ids) front places =
    λ i. tree_kept old new id front (places 0 id refl) i ∷ terms_kept old new ids front (λ k x h. places (suc k) x h) i

-- ---- labels within an alphabet

inside_or_not : (alphabet : List ℕ) (l : Label) → IsInside alphabet l ⊎ (IsInside alphabet l → ⊥)
inside_or_not alphabet silent = inl tt
inside_or_not alphabet (visible e) = cases (has alphabet e) refl
  where
    cases : (b : Bool) → has alphabet e ≡ b → IsTrue (has alphabet e) ⊎ (IsTrue (has alphabet e) → ⊥)
    cases true h = inl h
    cases false h = inr (λ g. false≢true (sym h ∙ g))

arc : (p : Content) (c : Component Proc) (x y : Proc) (l : Label) → IsInside c.alphabet l → ProcessStep p x l y
    → ComponentStep (ProcessStep p) (standing_at c x) l (standing_at c y)
arc p c x y silent inside step = (refl, step)
arc p c x y (visible e) inside step = (refl, inside, step)

inside_of : (p : Content) (c d : Component Proc) (l : Label) → ComponentStep (ProcessStep p) c l d → IsInside c.alphabet l
inside_of p c d silent step = tt
inside_of p c d (visible e) step = step.1

process_step : (p : Content) (c d : Component Proc) (l : Label) → ComponentStep (ProcessStep p) c l d → ProcessStep p c.term l d.term
process_step p c d silent step = step.1
process_step p c d (visible e) step = step.2

-- ---- lists in which nothing stands twice

none_once : {X : Type 0} → EachOnce {X = X} []
none_once = λ j k x h g. cc

front_once : {X : Type 0} (xs ys : List X) → EachOnce (xs ++ ys) → EachOnce xs
front_once xs ys once j k x h g = once j k x (slice_get-append_left xs ys j x h) (slice_get-append_left xs ys k x g)

module _ (task : Task) where
  -- ---- the rows of a term

  module _ (terms : List Proc) (raw : RawTable) (m : ℕ) where
    -- a step of the table leads to the goal of a move
    record HasGoal (moves : List Move) (l : Label) (n : ℕ) : Type 0 where
      goal : Proc
      inside : IsInside task.alphabet.now l
      stands : StandsIn (goals l moves) goal
      listed : slice_get terms n ≡ Some goal

    has_goal : (moves : List Move) → AreRows task terms raw m moves → (l : Label) (n : ℕ) → RawStep raw m l n → HasGoal moves l n
    has_goal moves rows l n step =
        let there = in_row raw m n l step in
        elim (inside_or_not task.alphabet.now l) [
          | inl inside ↦
              let at = row_at terms (targets_in raw m l) (goals l moves) there.0 n (rows.inside l inside) there.1 in
              record { goal = at.0; inside = inside; stands = (there.0, at.1); listed = at.2 }
          | inr outside ↦ absurd (stands_none n (subst (λ ns. StandsIn ns n) (rows.outside l outside) there))
        ]

    rows_once : (moves : List Move) → AreRows task terms raw m moves → ((l : Label) → EachOnce (goals l moves)) → (l : Label) → EachOnce (targets_in raw m l)
    rows_once moves rows once l = elim (inside_or_not task.alphabet.now l) as (λ _. EachOnce (targets_in raw m l)) [
      | inl inside ↦ row_once terms (targets_in raw m l) (goals l moves) (rows.inside l inside) (once l)
      | inr outside ↦ subst EachOnce (sym (rows.outside l outside)) none_once
    ]

    module _ (taken rest : List Move) (are : IsFollowed task terms raw m taken rest) where
      targets : (l : Label) → AreTargets task.program.now are.term l (goals l (taken ++ rest))
      targets l = record { moves = are.moves; has = are.has; firsts = firsts_goals l are.moves [] (taken ++ rest) are.firsts }

      goals_once : (l : Label) → EachOnce (goals l taken)
      goals_once l = front_once (goals l taken) (goals l rest)
          (subst EachOnce (goals_joined l taken rest) (firsts_once (goals l are.moves) [] (goals l (taken ++ rest)) (firsts_goals l are.moves [] (taken ++ rest) are.firsts)))

      step_of : (l : Label) (n : ℕ) → RawStep raw m l n → IsStepOf (ProcessStep task.program.now) (part_of task) terms m l n
      step_of l n step =
          let g = has_goal taken are.rows l n step in
          let whole : StandsIn (goals l (taken ++ rest)) g.goal = (
            g.stands.0,
            ap (λ zs. slice_get zs g.stands.0) (goals_joined l taken rest) ∙ slice_get-append_left (goals l taken) (goals l rest) g.stands.0 g.goal g.stands.1,
          ) in
          record {
            source = are.term;
            goal = g.goal;
            from = are.listed;
            to = g.listed;
            step = arc task.program.now (part_of task) are.term g.goal l g.inside (target_step task.program.now are.term l (goals l (taken ++ rest)) (targets l) g.goal whole);
          }

  -- ---- some of the steps of a component

  module _ (terms : List Proc) (raw : RawTable) (rows : (m : ℕ) → IsTabled task terms raw m) where
    each_row_once : (m : ℕ) (l : Label) → EachOnce (targets_in raw m l)
    each_row_once m l = elim (rows m) as (λ _. EachOnce (targets_in raw m l)) [
      | inl f ↦ rows_once terms raw m f.0 f.2.rows (goals_once terms raw m f.0 f.1 f.2) l
      | inr none ↦ rows_once terms raw m [] none (λ k. none_once) l
    ]

    pub are_steps : AreSteps (ProcessStep task.program.now) (part_of task) terms raw
    are_steps = record {
      silent_once = silent_once raw (λ m. each_row_once m silent);
      steps_once = steps_once raw (λ m e. each_row_once m (visible e));
      sound = λ m n l step. elim (rows m) as (λ _. IsStepOf (ProcessStep task.program.now) (part_of task) terms m l n) [
        | inl f ↦ step_of terms raw m f.0 f.1 f.2 l n step
        | inr none ↦ let g = has_goal terms raw m [] none l n step in absurd (stands_none g.goal g.stands)
      ];
    }

  -- ---- a term whose steps are all taken

  module _ (terms : List Proc) (raw : RawTable) (m : ℕ) (moves : List Move) (are : IsFollowed task terms raw m moves []) (x : Proc) (here : slice_get terms m ≡ Some x) where
    same : are.term ≡ x
    same = same_Some are.term x (sym are.listed ∙ here)

    first_moves : AreFirsts are.moves moves
    first_moves = subst (λ ms. AreFirsts are.moves ms) (append-nil moves) are.firsts

    all_targets : (l : Label) → AreTargets task.program.now are.term l (goals l moves)
    all_targets l = record { moves = are.moves; has = are.has; firsts = firsts_goals l are.moves [] moves first_moves }

    pub lacks_none : LacksNone task.program.now x
    lacks_none = subst (LacksNone task.program.now) same ((lists_are_there task.program.now are.term).0 (are.moves, are.has))

    pub endless : Ticks task.program.now x → ⊥
    endless ticks =
        let step = subst (λ z. Ticks task.program.now z) (sym same) ticks in
        elim (firsts_there are.moves [] moves first_moves (Tick, step.0) ((lists_are task.program.now are.term are.moves are.has Tick step.0).1 step.1)) [
          | inl none ↦ absurd (stands_none (Tick, step.0) none)
          | inr there ↦ are.goes_on step.0 there
        ]

    pub complete : (l : Label) (d : Component Proc) → ComponentStep (ProcessStep task.program.now) (standing_at (part_of task) x) l d → IsInTable terms raw m l d
    complete l d step =
        let goes = process_step task.program.now (standing_at (part_of task) x) d l step in
        let stands = step_target task.program.now are.term l (goals l moves) (all_targets l) d.term (subst (λ z. ProcessStep task.program.now z l d.term) (sym same) goes) in
        let inside = are.rows.inside l (inside_of task.program.now (standing_at (part_of task) x) d l step) in
        let n = number_at terms (targets_in raw m l) (goals l moves) stands.0 d.term inside stands.1 in
        record { number = n.0; listed = n.2; step = of_row raw m n.0 l (stands.0, n.1) }

    pub in_order : (l : Label) → IsInside task.alphabet.now l → IsInOrder task.program.now terms raw m x l
    in_order l inside = record {
      targets = goals l moves;
      are = subst (λ z. AreTargets task.program.now z l (goals l moves)) same (all_targets l);
      same = are.rows.inside l inside;
    }

  -- ---- a move that is still to come

  pub move_step : (terms : List Proc) (raw : RawTable) (m : ℕ) (taken rest : List Move) (v : Move) → (are : IsFollowed task terms raw m taken (v ∷ rest))
      → Step task.program.now are.term v.0 v.1
  move_step terms raw m taken rest v are =
      let last = slice_get-append_left (taken ++ v ∷ []) rest (length taken) v (slice_get_last taken v) in
      let at : slice_get (taken ++ v ∷ rest) (length taken) ≡ Some v = ap (λ vs. slice_get vs (length taken)) (sym (append_assoc taken (v ∷ []) rest)) ∙ last in
      let stands = firsts_back are.moves [] (taken ++ v ∷ rest) are.firsts v (length taken, at) in
      (lists_are task.program.now are.term are.moves are.has v.0 v.1).0 stands

  pub step_within : (x y : Proc) (l : Label) → IsInside task.alphabet.now l → Step task.program.now x (process_label l) y
      → ComponentStep (ProcessStep task.program.now) (standing_at (part_of task) x) l (standing_at (part_of task) y)
  step_within x y silent inside step = (refl, step)
  step_within x y (visible e) inside step = (refl, inside, step)

  -- ---- a table that grows

  module _ (old new : List Proc) (front : IsFront old new) (raw grown : RawTable) (m : ℕ) where
    pub rows_kept : (moves : List Move) → ((l : Label) → targets_in grown m l ≡ targets_in raw m l) → AreRows task old raw m moves → AreRows task new grown m moves
    rows_kept moves same rows = record {
      inside = λ l inside. subst (λ ns. IsRow new ns (goals l moves)) (sym (same l)) (row_kept old new (targets_in raw m l) (goals l moves) front (rows.inside l inside));
      outside = λ l outside. same l ∙ rows.outside l outside;
    }

    pub followed_kept : (taken rest : List Move) → ((l : Label) → targets_in grown m l ≡ targets_in raw m l) → IsFollowed task old raw m taken rest
        → IsFollowed task new grown m taken rest
    followed_kept taken rest same are = record {
      term = are.term;
      listed = front m are.term are.listed;
      moves = are.moves;
      has = are.has;
      firsts = are.firsts;
      goes_on = are.goes_on;
      rows = rows_kept taken same are.rows;
    }

    -- one move more
    pub followed_next : (taken rest : List Move) (v : Move) → IsFollowed task old raw m taken (v ∷ rest) → (v.0 ≡ Tick → ⊥)
        → AreRows task new grown m (taken ++ v ∷ []) → IsFollowed task new grown m (taken ++ v ∷ []) rest
    followed_next taken rest v are goes_on rows = record {
      term = are.term;
      listed = front m are.term are.listed;
      moves = are.moves;
      has = are.has;
      firsts = subst (λ ms. AreFirsts are.moves ms) (sym (append_assoc taken (v ∷ []) rest)) are.firsts;
      goes_on = λ u h. elim (push_cases taken v h.0 (Tick, u) h.1) as (λ _. ⊥) [
        | inl before ↦ are.goes_on u (h.0, before)
        | inr last ↦ goes_on (ap (λ (z : Move). z.0) last.1)
      ];
      rows = rows;
    }

    -- the table has it
    pub rows_next : (taken : List Move) (l : Label) (t : Proc) (n : ℕ) → AreRows task old raw m taken → IsInside task.alphabet.now l
        → targets_in grown m l ≡ targets_in raw m l ++ n ∷ [] → ((k : Label) → (k ≡ l → ⊥) → targets_in grown m k ≡ targets_in raw m k)
        → slice_get new n ≡ Some t → AreRows task new grown m (taken ++ (process_label l, t) ∷ [])
    rows_next taken l t n rows within row others listed = record {
      inside = λ k inside. elim (same_or_not k l) as (λ _. IsRow new (targets_in grown m k) (goals k (taken ++ (process_label l, t) ∷ []))) [
        | inl same ↦
            subst (λ (z : Label). IsRow new (targets_in grown m z) (goals z (taken ++ (process_label l, t) ∷ []))) (sym same.0)
            (subst (λ ts. IsRow new (targets_in grown m l) ts) (sym (goals_more l taken (process_label l, t) (ap (λ z. is_by z (process_label l)) (sym same.0) ∙ same.1)))
            (subst (λ ns. IsRow new ns (goals l taken ++ t ∷ [])) (sym row)
            (row_end new (targets_in raw m l) (goals l taken) n t (row_kept old new (targets_in raw m l) (goals l taken) front (rows.inside l within)) listed)))
        | inr other ↦
            subst (λ ts. IsRow new (targets_in grown m k) ts) (sym (goals_stay k taken (process_label l, t) other.1))
            (subst (λ ns. IsRow new ns (goals k taken)) (sym (others k other.0)) (row_kept old new (targets_in raw m k) (goals k taken) front (rows.inside k inside)))
      ];
      outside = λ k outside. others k (λ same. outside (subst (λ (z : Label). IsInside task.alphabet.now z) (sym same) within)) ∙ rows.outside k outside;
    }

  -- or its event is outside of the alphabet
  pub rows_skip : (terms : List Proc) (raw : RawTable) (m : ℕ) (taken : List Move) (l : Label) (t : Proc) → AreRows task terms raw m taken
      → (IsInside task.alphabet.now l → ⊥) → AreRows task terms raw m (taken ++ (process_label l, t) ∷ [])
  rows_skip terms raw m taken l t rows outside = record {
    inside = λ k inside. elim (same_or_not k l) as (λ _. IsRow terms (targets_in raw m k) (goals k (taken ++ (process_label l, t) ∷ []))) [
      | inl same ↦ absurd (outside (subst (λ (z : Label). IsInside task.alphabet.now z) same.0 inside))
      | inr other ↦ subst (λ ts. IsRow terms (targets_in raw m k) ts) (sym (goals_stay k taken (process_label l, t) other.1)) (rows.inside k inside)
    ];
    outside = rows.outside;
  }

-- ---- a term that is found

-- The terms are there, and maybe the one at a place of the pool; there are no more steps.
record HasMore (task : Task) (trees : List Proc) (old new : Found) (to : ProcId) : Type 0 where
  found : AreFound task trees new
  front : IsFront (terms_at trees old.terms) (terms_at trees new.terms)
  row : (m : ℕ) (l : Label) → targets_in new.table m l ≡ targets_in old.table m l
  others : (n : ℕ) (x : Proc) → slice_get (terms_at trees new.terms) n ≡ Some x → (slice_get (terms_at trees old.terms) n ≡ Some x) ⊎ (tree_at trees to ≡ x)

module _ (task : Task) (trees : List Proc) (old : Found) (o : Origin) (to : ProcId) (found : AreFound task trees old) (source : Proc)
    (from : slice_get (terms_at trees old.terms) o.0 ≡ Some source)
    (step : ComponentStep (ProcessStep task.program.now) (standing_at (part_of task) source) (label_of o.1) (standing_at (part_of task) (tree_at trees to)))
    (inside : to.0 < length trees) where
  found_new : HasMore task trees old (record {
    terms = old.terms ++ to ∷ [];
    origins = old.origins ++ o ∷ [];
    table = record old.table { count = old.table.count + 1 };
    nodes = old.nodes + counted_size (tree_at trees to);
  }) to
  found_new =
      let terms = terms_at trees old.terms in
      let x = tree_at trees to in
      let more : terms_at trees (old.terms ++ to ∷ []) ≡ terms_at trees old.terms ++ tree_at trees to ∷ [] = map_push (tree_at trees) old.terms to in
      record {
        found = record {
          places = λ k id h. elim (push_cases old.terms to k id h) [
            | inl before ↦ found.places k id before
            | inr last ↦ subst (λ (z : ProcId). z.0 < length trees) last.1 inside
          ];
          led = subst (λ zs. AreLed task zs (old.origins ++ o ∷ [])) (sym more) (led_more task terms old.origins x source o found.led from step);
          count = let longer = length-append old.terms (to ∷ []) in let count : old.table.count ≡ length old.terms = found.count in omega arith;
          sizes = ap (λ zs. total (map counted_size zs)) more ∙ ap total (map_push counted_size terms x) ∙
              total_push (map counted_size terms) (counted_size x) ∙ ap (λ m. m + counted_size x) found.sizes;
        };
        front = λ n y h. subst (λ zs. slice_get zs n ≡ Some y) (sym more) (slice_get-append_left terms (x ∷ []) n y h);
        row = same_row;
        others = λ n y h. elim (push_cases terms x n y (subst (λ zs. slice_get zs n ≡ Some y) more h)) [ inl before ↦ inl before | inr last ↦ inr last.1 ];
      }
    where
      same_row : (m : ℕ) (l : Label) → targets_in (record old.table { count = old.table.count + 1 }) m l ≡ targets_in old.table m l
      same_row m silent = refl
      same_row m (visible e) = refl

  has_more : HasMore task trees old (with_term trees old o to) to
  has_more = cases (is_member eq_id old.terms to)
    where
      cases : (b : Bool) → HasMore task trees old (if b then old else record {
        terms = old.terms ++ to ∷ [];
        origins = old.origins ++ o ∷ [];
        table = record old.table { count = old.table.count + 1 };
        nodes = old.nodes + counted_size (tree_at trees to);
      }) to
      cases true = record { found = found; front = λ n y h. h; row = λ m l. refl; others = λ n y h. inl h }
      cases false = found_new

-- ---- a step that is taken

count_kept : (raw : RawTable) (m n : ℕ) (l : Label) → (step_more raw m l n).count ≡ raw.count
count_kept raw m n silent = refl
count_kept raw m n (visible e) = refl

module _ (task : Task) (trees : List Proc) (old : Found) (at : ℕ) (steps : List StepTo) (i : ℕ) (are : AreTaken task trees old at steps i) (s : StepTo) (now : slice_get steps i ≡ Some s) where
  here : IsFollowed task (terms_at trees old.terms) old.table at (map (seen trees) (take i steps)) (seen trees s ∷ map (seen trees) (drop (i + 1) steps))
  here = subst (IsFollowed task (terms_at trees old.terms) old.table at (map (seen trees) (take i steps)))
      (ap (map (seen trees)) (drop_read steps i s (slice_get_within steps i s now) (sym (get_or_from_slice_get steps i s s now)))) are.here

  taken_next : map (seen trees) (take (i + 1) steps) ≡ map (seen trees) (take i steps) ++ seen trees s ∷ []
  taken_next = ap (map (seen trees)) (take_read steps i s (slice_get_within steps i s now) (sym (get_or_from_slice_get steps i s s now))) ∙ map_push (seen trees) (take i steps) s

  step_now : Step task.program.now here.term s.label (tree_at trees s.to)
  step_now = move_step task (terms_at trees old.terms) old.table at (map (seen trees) (take i steps)) (map (seen trees) (drop (i + 1) steps)) (seen trees s) here

  next : (new : Found) → AreFound task trees new → IsFront (terms_at trees old.terms) (terms_at trees new.terms)
      → ((m : ℕ) (l : Label) → (m ≡ at → ⊥) → targets_in new.table m l ≡ targets_in old.table m l)
      → (l : Label) → s.label ≡ process_label l
      → AreRows task (terms_at trees new.terms) new.table at (map (seen trees) (take i steps) ++ (process_label l, tree_at trees s.to) ∷ [])
      → AreTaken task trees new at steps (i + 1)
  next new found front others l label rows = record {
    found = found;
    before = λ k h. let f = are.before k h in
        (f.0, followed_kept task (terms_at trees old.terms) (terms_at trees new.terms) front old.table new.table k f.0 [] (λ j. others k j (λ e. omega arith)) f.1);
    here = subst (λ ms. IsFollowed task (terms_at trees new.terms) new.table at ms (map (seen trees) (drop (i + 1) steps))) (sym taken_next)
        (followed_next task (terms_at trees old.terms) (terms_at trees new.terms) front old.table new.table at (map (seen trees) (take i steps)) (map (seen trees) (drop (i + 1) steps)) (seen trees s) here
        (λ tick. no_tick l (sym label ∙ tick))
        (subst (λ z. AreRows task (terms_at trees new.terms) new.table at (map (seen trees) (take i steps) ++ (z, tree_at trees s.to) ∷ [])) (sym label) rows));
    later = λ k h. rows_kept task (terms_at trees old.terms) (terms_at trees new.terms) front old.table new.table k [] (λ j. others k j (λ e. omega arith)) (are.later k h);
    places = are.places;
  }
    where
      no_tick : (l : Label) → process_label l ≡ Tick → ⊥
      no_tick silent h = cc
      no_tick (visible e) h = cc

  -- its event is outside of the alphabet
  pub taken_outside : (l : Label) → s.label ≡ process_label l → (IsInside task.alphabet.now l → ⊥) → AreTaken task trees old at steps (i + 1)
  taken_outside l label outside = next old are.found (λ n x h. h) (λ m k other. refl) l label
      (rows_skip task (terms_at trees old.terms) old.table at (map (seen trees) (take i steps)) l (tree_at trees s.to) are.here.rows outside)

  -- the term can end
  pub ends : s.label ≡ Tick → (trace : List ℕ) → LeadsToTerm task (terms_at trees old.terms) trace at → CanEnd task.program.now (part_of task) trace
  ends tick trace leads = record {
    term = leads.term;
    after = leads.after;
    ends = subst (λ x. Ticks task.program.now x) (same_Some here.term leads.term (sym here.listed ∙ leads.listed))
        (tree_at trees s.to, subst (λ z. Step task.program.now here.term z (tree_at trees s.to)) tick step_now);
  }

  -- it comes into the table, with the term after it
  module _ (event : Option ℕ) (label : s.label ≡ process_label (label_of event)) (inside : IsInside task.alphabet.now (label_of event))
      (mid : Found) (is : mid ≡ with_term trees old (at, event) s.to) where
    more : HasMore task trees old mid s.to
    more = subst (λ z. HasMore task trees old z s.to) (sym is)
        (has_more task trees old (at, event) s.to are.found here.term here.listed
        (step_within task here.term (tree_at trees s.to) (label_of event) inside (subst (λ z. Step task.program.now here.term z (tree_at trees s.to)) label step_now))
        (are.places i s now))

    pub some_shallow : (room : Room) → IsWithin room trees old → (n : ℕ) (x : Proc) → slice_get (terms_at trees mid.terms) n ≡ Some x
        → (proc_depth x ≤ MOST_TERM_DEPTH) ⊎ (tree_at trees s.to ≡ x)
    some_shallow room within n x h = elim (more.others n x h) [ inl before ↦ inl (within.shallow n x before) | inr newest ↦ inr newest ]

    pub taken_led : (raw : RawTable) (number : ℕ) → raw ≡ step_more mid.table at (label_of event) number → slice_get mid.terms number ≡ Some s.to
        → AreTaken task trees (record mid { table = raw }) at steps (i + 1)
    taken_led raw number led listed =
        let l = label_of event in
        let grown = record mid { table = step_more mid.table at l number } in
        let found : AreFound task trees grown = record {
          places = more.found.places;
          led = more.found.led;
          count = count_kept mid.table at number l ∙ more.found.count;
          sizes = more.found.sizes;
        } in
        subst (λ (r : RawTable). AreTaken task trees (record mid { table = r }) at steps (i + 1)) (sym led)
        (next grown found more.front (λ m k other. row_stays mid.table at number l m k (λ e _. other e) ∙ more.row m k) l label
        (rows_next task (terms_at trees old.terms) (terms_at trees mid.terms) more.front old.table grown.table at (map (seen trees) (take i steps)) l (tree_at trees s.to) number are.here.rows inside
        (row_more mid.table at number l ∙ ap (λ ns. ns ++ number ∷ []) (more.row at l))
        (λ k other. row_stays mid.table at number l at k (λ _ e. other e) ∙ more.row at k)
        (map_at (tree_at trees) mid.terms number s.to listed)))

-- ---- all of it

pub tabled : (task : Task) (trees : List Proc) (found : Found) (at : ℕ) (steps : List StepTo) (i : ℕ) → AreTaken task trees found at steps i → AreTabled task trees found
tabled task trees found at steps i are = record {
  found = are.found;
  rows = λ m. elim (cases_lt m at) as (λ _. IsTabled task (terms_at trees found.terms) found.table m) [
    | inl less ↦ let f = are.before m less in inl (f.0, [], f.1)
    | inr from ↦ elim (cases_lt at m) as (λ _. IsTabled task (terms_at trees found.terms) found.table m) [
      | inl more ↦ inr (are.later m more)
      | inr same ↦
          let is : at ≡ m = omega arith in
          inl (
            map (seen trees) (take i steps),
            map (seen trees) (drop i steps),
            subst (λ k. IsFollowed task (terms_at trees found.terms) found.table k (map (seen trees) (take i steps)) (map (seen trees) (drop i steps))) is are.here,
          )
    ]
  ];
}

-- the steps of a term are there, in a pool that has grown
pub begin_at : (task : Task) (old new : List Proc) (found : Found) (at : ℕ) (steps : List StepTo) (id : ProcId) → IsUpTo task old found at → IsFront old new
    → slice_get found.terms at ≡ Some id → AreStepsOf task.program.now new (tree_at old id) steps → IsAt task new found at steps 0
begin_at task old new found at steps id up front there list =
    let same : terms_at new found.terms ≡ terms_at old found.terms = terms_kept old new found.terms front up.found.places in
    record {
      taken = record {
        found = record {
          places = λ k i h. inside_still old new i front (up.found.places k i h);
          led = subst (λ zs. AreLed task zs found.origins) (sym same) up.found.led;
          count = up.found.count;
          sizes = ap (λ zs. total (map counted_size zs)) same ∙ up.found.sizes;
        };
        before = λ k h. let f = up.before k h in (f.0, subst (λ zs. IsFollowed task zs found.table k f.0 []) (sym same) f.1);
        here = record {
          term = tree_at old id;
          listed = subst (λ zs. slice_get zs at ≡ Some (tree_at old id)) (sym same) (map_at (tree_at old) found.terms at id there);
          moves = list.moves;
          has = list.has;
          firsts = list.firsts;
          goes_on = λ u. stands_none (Tick, u);
          rows = subst (λ zs. AreRows task zs found.table at []) (sym same) (up.later at (omega arith));
        };
        later = λ k h. subst (λ zs. AreRows task zs found.table k []) (sym same) (up.later k (omega arith));
        places = list.within;
      };
      within = record {
        few = up.within.few;
        shallow = λ n x h. up.within.shallow n x (subst (λ zs. slice_get zs n ≡ Some x) same h);
        nodes = up.within.nodes;
        steps = up.within.steps;
      };
    }

-- all of them are taken
pub end_at : (task : Task) (trees : List Proc) (found : Found) (at : ℕ) (steps : List StepTo) (i : ℕ) → IsAt task trees found at steps i → length steps ≤ i
    → IsUpTo task trees found (at + 1)
end_at task trees found at steps i are all = record {
  found = are.taken.found;
  within = are.within;
  before = λ k h. elim (cases_lt k at) as (λ _. (moves : List Move) × IsFollowed task (terms_at trees found.terms) found.table k moves []) [
    | inl less ↦ are.taken.before k less
    | inr last ↦
        let is : at ≡ k = omega arith in (
          map (seen trees) (take i steps),
          subst (λ m. IsFollowed task (terms_at trees found.terms) found.table m (map (seen trees) (take i steps)) []) is
              (subst (λ rest. IsFollowed task (terms_at trees found.terms) found.table at (map (seen trees) (take i steps)) (map (seen trees) rest)) (drop_all i steps all) are.taken.here),
        )
  ];
  later = λ k h. are.taken.later k (omega arith);
}
