-- Targets that are drawn: they are steps, and a move draws for each component that takes part.
use Rattle.numbered_walks.proofs.Prelude.{◌≡◌, ℕ, zero, suc, ◌+◌, ◌<◌, inl, inr, Bool, true, false, not, ◌&&◌, nat_eq, cond, MatchBool, Some, List, [], ◌∷◌, length, map, set, get_or, slice_get, refl, sym, ap, ap₂, subst, ◌∙◌, arith, first_so, second_so, MatchBool-at_false, MatchBool-at_true, cases_Bool, eq-eqb, eqb-true, ne_eqb, none-some, same_Some, length-map, test_by_stable, unstable_by_step, is_unstable, marked, places_from, component_at, owner_marks, IsDrawn, AllDraw, Numbered, next_number, place_among, targets, AllGo, has, Label, silent, visible, RawStep, RawTable, targets_in}
use Rattle.numbered_walks.proofs.Rowing.{event_picked, picked, silent_picked}
use Rattle.numbered_walks.specs.declared.moves.Move.TheVariants as move

to_true : (b : Bool) (P Q : Type 0) → b ≡ true → P → MatchBool b P Q
to_true b P Q is p = subst (λ (c : Bool). MatchBool c P Q) (sym is) p

to_false : (b : Bool) (P Q : Type 0) → b ≡ false → Q → MatchBool b P Q
to_false b P Q is q = subst (λ (c : Bool). MatchBool c P Q) (sym is) q

-- ---- what is picked from a list
module _ {X : Type 0} (test : X → Bool) (number : X → ℕ) (n : ℕ) where
  abbrev Picks : List X → Type 0
  Picks xs = (x : X) × (j : ℕ) × (slice_get xs j ≡ Some x) × (test x ≡ true) × (number x ≡ n)

  picks : (xs : List X) (k : ℕ) → slice_get (picked test number xs) k ≡ Some n → Picks xs
  picks [] k at = absurd (none-some n at)
  picks (x ∷ xs) k at = first (test x) refl k at (λ j there. picks xs j there)
    where
      first : (b : Bool) → test x ≡ b → (j : ℕ) → slice_get (cond b (number x ∷ picked test number xs) (picked test number xs)) j ≡ Some n
          → ((i : ℕ) → slice_get (picked test number xs) i ≡ Some n → Picks xs) → Picks (x ∷ xs)
      first true here zero there rest = (x, 0, refl, here, same_Some (number x) n there)
      first true here (suc j) there rest = let p = rest j there in (p.0, suc p.1, p.2, p.3, p.4)
      first false other j there rest = let p = rest j there in (p.0, suc p.1, p.2, p.3, p.4)

some_picked : {X : Type 0} (test : X → Bool) (number : X → ℕ) (xs : List X) (k : ℕ) (x : X) → slice_get xs k ≡ Some x → test x ≡ true → 0 < length (picked test number xs)
some_picked test number [] k x at passes = absurd (none-some x at)
some_picked test number (y ∷ xs) zero x at passes =
    subst (λ (b : Bool). 0 < length (cond b (number y ∷ picked test number xs) (picked test number xs))) (sym (ap test (same_Some y x at) ∙ passes)) (omega arith)
some_picked test number (y ∷ xs) (suc k) x at passes = more (test y) (some_picked test number xs k x at passes)
  where
    more : (b : Bool) → 0 < length (picked test number xs) → 0 < length (cond b (number y ∷ picked test number xs) (picked test number xs))
    more true some = omega arith
    more false some = some

-- ---- targets are steps
pub target_steps : (raw : RawTable) (m : ℕ) (l : Label) (k n : ℕ) → slice_get (targets_in raw m l) k ≡ Some n → RawStep raw m l n
target_steps raw m silent k n at =
    let p = picks (λ (s : ℕ × ℕ). nat_eq m s.0) (λ (s : ℕ × ℕ). s.1) n raw.silent k (subst (λ (l : List ℕ). slice_get l k ≡ Some n) (silent_picked m raw.silent) at) in
    let from : p.0.0 ≡ m = sym (eqb-true m p.0.0 p.3) in
    let to : p.0.1 ≡ n = p.4 in
    let pair : p.0 ≡ (m, n) = λ i. (from i, to i) in
    (p.1, p.2 ∙ ap Some pair)
target_steps raw m (visible e) k n at =
    let p = picks (λ (s : ℕ × ℕ × ℕ). nat_eq m s.0 && nat_eq e s.1) (λ (s : ℕ × ℕ × ℕ). s.2) n raw.steps k (subst (λ (l : List ℕ). slice_get l k ≡ Some n) (event_picked m e raw.steps) at) in
    let from : p.0.0 ≡ m = sym (eqb-true m p.0.0 (first_so (nat_eq m p.0.0) (nat_eq e p.0.1) p.3)) in
    let by : p.0.1 ≡ e = sym (eqb-true e p.0.1 (second_so (nat_eq m p.0.0) (nat_eq e p.0.1) p.3)) in
    let to : p.0.2 ≡ n = p.4 in
    let triple : p.0 ≡ (m, e, n) = λ i. (from i, by i, to i) in
    (p.1, p.2 ∙ ap Some triple)

pub has_target : (raw : RawTable) (m n : ℕ) (l : Label) → RawStep raw m l n → 0 < length (targets_in raw m l)
has_target raw m n silent step =
    subst (λ (l : List ℕ). 0 < length l) (sym (silent_picked m raw.silent)) (some_picked (λ (s : ℕ × ℕ). nat_eq m s.0) (λ (s : ℕ × ℕ). s.1) raw.silent step.0 (m, n) step.1 (eq-eqb m m refl))
has_target raw m n (visible e) step =
    subst (λ (l : List ℕ). 0 < length l) (sym (event_picked m e raw.steps))
    (some_picked (λ (s : ℕ × ℕ × ℕ). nat_eq m s.0 && nat_eq e s.1) (λ (s : ℕ × ℕ × ℕ). s.2) raw.steps step.0 (m, e, n) step.1 (let a : nat_eq m m ≡ true = eq-eqb m m refl in let b : nat_eq e e ≡ true = eq-eqb e e refl in rw (a, b) refl))

-- what is drawn is one of the targets
pub drawn_is : (ts : List ℕ) (y d z : ℕ) → IsDrawn ts y d z → (k : ℕ) × (slice_get ts k ≡ Some d)
drawn_is ts y d z drawn = elim (cases_Bool (nat_eq (length ts) 1)) as (λ _. (k : ℕ) × (slice_get ts k ≡ Some d)) [
  | inl one ↦ (0, ap (λ (l : List ℕ). slice_get l 0) (MatchBool-at_true _ _ one drawn).0)
  | inr several ↦ (place_among (next_number y) (length ts), (MatchBool-at_false _ _ several drawn).0)
]

pub drawn_steps : (raw : RawTable) (m : ℕ) (l : Label) (y d z : ℕ) → IsDrawn (targets_in raw m l) y d z → RawStep raw m l d
drawn_steps raw m l y d z drawn = let at = drawn_is (targets_in raw m l) y d z drawn in target_steps raw m l at.0 d at.1

-- ---- the place that is drawn
pub drawn_at : (ts : List ℕ) (y p d z : ℕ) → p ≡ cond (nat_eq (length ts) 1) 0 (place_among (next_number y) (length ts)) → p < length ts → d ≡ get_or ts p d → z ≡ cond (nat_eq (length ts) 1) y (next_number y) → IsDrawn ts y d z
drawn_at ts y p d z place within at next = elim (cases_Bool (nat_eq (length ts) 1)) as (λ _. IsDrawn ts y d z) [
  | inl one ↦ to_true (nat_eq (length ts) 1) _ _ one (
    only ts p (eqb-true (length ts) 1 one) within at,
    next ∙ ap (λ (b : Bool). cond b y (next_number y)) one,
  )
  | inr several ↦ to_false (nat_eq (length ts) 1) _ _ several (
    subst (λ k. slice_get ts k ≡ Some d) (place ∙ ap (λ (b : Bool). cond b 0 (place_among (next_number y) (length ts))) several) (there ts p within at),
    next ∙ ap (λ (b : Bool). cond b y (next_number y)) several,
  )
]
  where
    only : (us : List ℕ) (k : ℕ) → length us ≡ 1 → k < length us → d ≡ get_or us k d → us ≡ d ∷ []
    only (u ∷ []) zero one below is = ap (λ v. v ∷ []) (sym is)
    only (u ∷ []) (suc k) one below is = absurd (omega (arith, below))
    only _ k one below is = absurd (omega (arith, one))

    there : (us : List ℕ) (k : ℕ) → k < length us → d ≡ get_or us k d → slice_get us k ≡ Some d
    there [] k below is = absurd (omega (arith, below))
    there (u ∷ us) zero below is = ap Some (sym is)
    there (u ∷ us) (suc k) below is = there us k (omega (arith, below)) is

map_read : (steps : List (ℕ × ℕ)) (p v : ℕ) (d : ℕ × ℕ) → p < length steps → get_or (targets steps) p v ≡ (get_or steps p d).1
map_read [] p v d below = absurd (omega (arith, below))
map_read (s ∷ steps) zero v d below = refl
map_read (s ∷ steps) (suc p) v d below = map_read steps p v d (omega (arith, below))

pub step_drawn : (steps : List (ℕ × ℕ)) (y p z : ℕ) (d : ℕ × ℕ) → p ≡ cond (nat_eq (length steps) 1) 0 (place_among (next_number y) (length steps)) → p < length steps → z ≡ cond (nat_eq (length steps) 1) y (next_number y)
    → IsDrawn (targets steps) y (get_or steps p d).1 z
step_drawn steps y p z d place within next =
    let many : length steps ≡ length (targets steps) = sym (length-map steps (λ s. s.1)) in
    drawn_at (targets steps) y p (get_or steps p d).1 z (subst (λ n. p ≡ cond (nat_eq n 1) 0 (place_among (next_number y) n)) many place) (subst (λ n. p < n) many within) (sym (map_read steps p (get_or steps p d).1 d within))
    (subst (λ n. z ≡ cond (nat_eq n 1) y (next_number y)) many next)

-- ---- whether there are targets
pub restless_is : (raw : RawTable) (n : ℕ) (ts : List ℕ) → ts ≡ targets_in raw n silent → not (nat_eq (length ts) 0) ≡ is_unstable raw n
restless_is raw n [] is = sym (test_by_stable raw n (λ t step. let some = has_target raw n t silent step in let none : length (targets_in raw n silent) ≡ 0 = sym (ap length is) in absurd (omega (arith, some, none))))
restless_is raw n (t ∷ ts) is =
    not_empty ∙ sym (unstable_by_step raw n t (target_steps raw n silent 0 t (sym (ap (λ (l : List ℕ). slice_get l 0) is))))
  where
    not_empty : not (nat_eq (length (t ∷ ts)) 0) ≡ true
    not_empty = ap not (ne_eqb (length (t ∷ ts)) 0 (λ e. omega (arith, e)))

-- ---- one component draws
none_drawn : (i k : ℕ) (cs : List Numbered) (xs : List ℕ) (y : ℕ) → i < k → length xs ≡ length cs → AllDraw (move.Silent i) k cs y xs xs y
none_drawn i k [] [] y less same = refl
none_drawn i k (c ∷ cs) (x ∷ xs) y less same =
    (y, to_false (nat_eq i k) _ _ (ne_eqb i k (λ e. omega (arith, e, less))) (refl, refl), none_drawn i (k + 1) cs xs y (omega (arith, less)) (omega (arith, same)))
none_drawn i k _ _ y less same = absurd (omega (arith, same))

pub one_drawn : (i k j : ℕ) (cs : List Numbered) (xs : List ℕ) (y d z : ℕ) → i ≡ k + j → j < length cs → length xs ≡ length cs → IsDrawn (targets_in (component_at cs j).table (get_or xs j 0) silent) y d z
    → AllDraw (move.Silent i) k cs y xs (set xs j d) z
one_drawn i k j [] xs y d z at below same drawn = absurd (omega (arith, below))
one_drawn i k j (c ∷ cs) [] y d z at below same drawn = absurd (omega (arith, same))
one_drawn i k zero (c ∷ cs) (x ∷ xs) y d z at below same drawn =
    (z, to_true (nat_eq i k) _ _ (eq-eqb i k (omega (arith, at))) drawn, none_drawn i (k + 1) cs xs z (omega (arith, at)) (omega (arith, same)))
one_drawn i k (suc j) (c ∷ cs) (x ∷ xs) y d z at below same drawn =
    (y, to_false (nat_eq i k) _ _ (ne_eqb i k (λ e. omega (arith, e, at))) (refl, refl), one_drawn i (k + 1) j cs xs y d z (omega (arith, at)) (omega (arith, below)) (omega (arith, same)) drawn)

-- ---- the owners of an event draw, one after another
-- past the first component
record GoOn (cs : List Numbered) (l : Label) (places : List ℕ) (x : ℕ) (xs : List ℕ) (y : ℕ) (ys : List ℕ) (z : ℕ) : Type 0 where
  others : List ℕ
  is : ys ≡ x ∷ others
  go : AllGo cs l places xs y others z

go_on : (c : Numbered) (cs : List Numbered) (l : Label) (places : List ℕ) (x : ℕ) (xs : List ℕ) (y : ℕ) (ys : List ℕ) (z : ℕ) → AllGo (c ∷ cs) l (map (λ p. suc p) places) (x ∷ xs) y ys z → GoOn cs l places x xs y ys z
go_on c cs l [] x xs y ys z go = record { others = xs; is = sym go.0; go = (refl, go.1) }
go_on c cs l (p ∷ places) x xs y ys z go =
    let r = go_on c cs l places x (set xs p go.0) go.1 ys z go.3 in
    record { others = r.others; is = r.is; go = (go.0, go.1, go.2, r.go) }

places_on : (k : ℕ) (ms : List Bool) → places_from (k + 1) ms ≡ map (λ p. suc p) (places_from k ms)
places_on k [] = refl
places_on k (true ∷ ms) = ap₂ (λ (a : ℕ) (l : List ℕ). a ∷ l) (let e : k + 1 ≡ suc k = omega arith in e) (places_on (k + 1) ms)
places_on k (false ∷ ms) = places_on (k + 1) ms

first_drawn : (e k : ℕ) (c : Numbered) (cs : List Numbered) (x : ℕ) (xs ys : List ℕ) (y z : ℕ) → ((w : ℕ) (others : List ℕ) → AllGo cs (visible e) (marked (owner_marks e cs)) xs w others z → AllDraw (move.Event e) (k + 1) cs w xs others z)
    → (b : Bool) → has c.alphabet e ≡ b → AllGo (c ∷ cs) (visible e) (places_from 0 (b ∷ owner_marks e cs)) (x ∷ xs) y ys z → AllDraw (move.Event e) k (c ∷ cs) y (x ∷ xs) ys z
first_drawn e k c cs x xs ys y z rest true is goes =
    let r = go_on c cs (visible e) (marked (owner_marks e cs)) goes.0 xs goes.1 ys z (subst (λ (l : List ℕ). AllGo (c ∷ cs) (visible e) l (goes.0 ∷ xs) goes.1 ys z) (places_on 0 (owner_marks e cs)) goes.3) in
    subst (λ (l : List ℕ). AllDraw (move.Event e) k (c ∷ cs) y (x ∷ xs) l z) (sym r.is) (goes.1, to_true (has c.alphabet e) _ _ is goes.2, rest goes.1 r.others r.go)
first_drawn e k c cs x xs ys y z rest false is goes =
    let r = go_on c cs (visible e) (marked (owner_marks e cs)) x xs y ys z (subst (λ (l : List ℕ). AllGo (c ∷ cs) (visible e) l (x ∷ xs) y ys z) (places_on 0 (owner_marks e cs)) goes) in
    subst (λ (l : List ℕ). AllDraw (move.Event e) k (c ∷ cs) y (x ∷ xs) l z) (sym r.is) (y, to_false (has c.alphabet e) _ _ is (refl, refl), rest y r.others r.go)

pub all_drawn : (e k : ℕ) (cs : List Numbered) (xs ys : List ℕ) (y z : ℕ) → length xs ≡ length cs → AllGo cs (visible e) (marked (owner_marks e cs)) xs y ys z → AllDraw (move.Event e) k cs y xs ys z
all_drawn e k [] [] ys y z same go = subst (λ (l : List ℕ). AllDraw (move.Event e) k [] y [] l z) go.0 go.1
all_drawn e k (c ∷ cs) (x ∷ xs) ys y z same go = first_drawn e k c cs x xs ys y z (λ w others goes. all_drawn e (k + 1) cs xs others w z (omega (arith, same)) goes) (has c.alphabet e) refl go
all_drawn e k _ _ ys y z same go = absurd (omega (arith, same))
