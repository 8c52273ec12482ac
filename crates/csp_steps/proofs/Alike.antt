-- The steps of a process, each where it first stands, from those of the processes below: of a list only the firsts count.
use Rattle.csp_steps.proofs.Prelude.{◌≡◌, ◌⊎◌, inl, inr, ℕ, ◌<◌, true, Some, Ok, Err, List, [], ◌∷◌, map, length, refl, ap, sym, ◌∙◌, subst, and_from, lt-ltb, IfOk, IfSome, nat_lt, OnOk, Option, Result, IsErrAnd, StandsIn, Outcome, and_then, ValueKind, Proc, Content, placed, Move, steps_of, EvalFault, all_within, AreAdded, AreEach, GivesEach, GivesMoves, IsListing, all_moves, around, effect_of, moves_of, AreStepsOf, FaultIs, seen, AreFirsts, AreFirstsAfter, StepTo, AreDifferent, tree_at}
use Rattle.process_steps.proofs.Members.{Among}
use Rattle.csp_steps.proofs.Computing.{passed}
use Rattle.csp_steps.proofs.Firsts.{firsts_back, firsts_map, joined_firsts, stands_either, stands_none}
use Rattle.csp_steps.proofs.Places.{standing, within_of}

-- ---- lists with the same firsts

-- the firsts of the second list are those of the first
abbrev pub SameFirsts : {X : Type 0} → List X → List X → Type 0
SameFirsts {X = X} xs ys = (zs : List X) → AreFirsts ys zs → AreFirsts xs zs

same_same : {X : Type 0} (xs : List X) → SameFirsts xs xs
same_same xs zs h = h

-- ---- outcomes with the same firsts

abbrev pub Alike : Outcome (List Move) → Outcome (List Move) → Type 0
Alike (Ok xs) (Ok ys) = SameFirsts xs ys
Alike (Ok xs) (Err k) = ⊥
Alike (Err k) (Ok ys) = ⊥
Alike (Err k) (Err j) = k ≡ j

then_alike : {A : Type 0} (o : Outcome A) (f g : A → List Move) → ((a : A) → SameFirsts (f a) (g a)) → Alike (and_then o (λ a. Ok (f a))) (and_then o (λ a. Ok (g a)))
then_alike (Ok a) f g h = h a
then_alike (Err k) f g h = refl

pub around_alike : (p : Content) (t : Proc) (xs ys : List Move) → AreFirsts xs ys → Alike (around p t xs) (around p t ys)
around_alike p t xs ys h =
    then_alike (effect_of p t) (λ e. all_moves e t xs) (λ e. all_moves e t ys)
    (λ e zs g. joined_firsts (λ m. moves_of e t m.0 m.1) xs [] ys [] zs h (λ x s. absurd (stands_none x s)) g)

alike_fault : (o u : Outcome (List Move)) (k : ValueKind) → Alike o u → u ≡ Err k → o ≡ Err k
alike_fault (Ok xs) (Ok ys) k h e = cc
alike_fault (Ok xs) (Err j) k h e = absurd h
alike_fault (Err j) (Ok ys) k h e = absurd h
alike_fault (Err j) (Err i) k h e = ap (λ n. Err n) h ∙ e

pub record IsAlike (o : Outcome (List Move)) (ys : List Move) : Type 0 where
  pub moves : List Move
  pub has : o ≡ Ok moves
  pub same : SameFirsts moves ys

alike_list : (o u : Outcome (List Move)) (ys : List Move) → Alike o u → u ≡ Ok ys → IsAlike o ys
alike_list (Ok xs) (Ok zs) ys h e =
    let same : zs ≡ ys = cc in
    record { moves = xs; has = refl; same = subst (λ us. SameFirsts xs us) same h }
alike_list (Ok xs) (Err k) ys h e = absurd h
alike_list (Err k) (Ok zs) ys h e = absurd h
alike_list (Err k) (Err j) ys h e = cc

-- ---- steps without doubles

every_within : (count : ℕ) (steps : List StepTo) → ((s : StepTo) → Among steps s → s.to.0 < count) → all_within count steps ≡ true
every_within count [] f = refl
every_within count (s ∷ steps) f = and_from (nat_lt s.to.0 count) (all_within count steps) (lt-ltb s.to.0 count (f s (inl refl))) (every_within count steps (λ r m. f r (inr m)))

pub once_within : (count : ℕ) (steps made : List StepTo) → all_within count steps ≡ true → AreFirsts steps made → all_within count made ≡ true
once_within count steps made h once = every_within count made (λ s m. let at = firsts_back steps [] made once s (placed made s m) in within_of count steps at.0 s h at.1)

pub added_within : (count : ℕ) (old steps new : List StepTo) → AreAdded old steps new → all_within count old ≡ true → all_within count steps ≡ true → all_within count new ≡ true
added_within count old steps new added h g =
    every_within count new (λ s m. one s (stands_either old added.more s (subst (λ ss. StandsIn ss s) added.grown (placed new s m))))
  where
    one : (s : StepTo) → StandsIn old s ⊎ StandsIn added.more s → s.to.0 < count
    one s (inl m) = within_of count old m.0 s h m.1
    one s (inr m) = let at = firsts_back steps old added.more added.firsts s m in within_of count steps at.0 s g at.1

-- ---- steps that differ are seen to differ, since no process stands at two places

seen_apart : (trees : List Proc) → AreDifferent trees → (a b : StepTo) → a.to.0 < length trees → b.to.0 < length trees → seen trees a ≡ seen trees b → a ≡ b
seen_apart trees different a b here there e =
    let place : a.to.0 ≡ b.to.0 =
    different a.to.0 b.to.0 (tree_at trees a.to) (standing trees a.to here) (standing trees b.to there ∙ ap (λ (m : Move). Some m.1) (sym e)) in
    λ i. record { label = ap (λ (m : Move). m.0) e i; to = record { 0 = place i } }

pub seen_firsts : (trees : List Proc) → AreDifferent trees → (steps old more : List StepTo) → all_within (length trees) steps ≡ true → all_within (length trees) old ≡ true
    → AreFirstsAfter steps old more → AreFirstsAfter (map (seen trees) steps) (map (seen trees) old) (map (seen trees) more)
seen_firsts trees different steps old more h g firsts =
    firsts_map (seen trees) (λ (s : StepTo). s.to.0 < length trees) (seen_apart trees different) steps old more
    (λ s m. within_of (length trees) steps m.0 s h m.1) (λ s m. within_of (length trees) old m.0 s g m.1) firsts

once_each : (trees : List Proc) → AreDifferent trees → (steps made : List StepTo) (o u : Outcome (List Move)) → Alike o u → IsListing trees steps u → AreFirsts steps made → AreEach trees made o
once_each trees different steps made o u alike h once =
    let is = alike_list o u (map (seen trees) steps) alike h.same in
    record {
      moves = is.moves;
      has = is.has;
      within = once_within (length trees) steps made h.within once;
      firsts = is.same (map (seen trees) made) (seen_firsts trees different steps [] made h.within refl once);
    }

pub these_each : (trees : List Proc) → AreDifferent trees → (steps made : List StepTo) (o : Outcome (List Move)) → IsListing trees steps o → AreFirsts steps made → AreEach trees made o
these_each trees different steps made o h once = once_each trees different steps made o (Ok (map (seen trees) steps)) (alike o h.same) (record { same = refl; within = h.within }) once
  where
    alike : (u : Outcome (List Move)) → u ≡ Ok (map (seen trees) steps) → Alike u (Ok (map (seen trees) steps))
    alike u e = subst (λ v. Alike v (Ok (map (seen trees) steps))) (sym e) (same_same (map (seen trees) steps))

-- what is made of the steps of the process below by an operator round it
module _ (p : Content) (t u : Proc) (whole : Outcome (List Move)) (moves : List Move) (mid trees : List Proc) (below slice : List StepTo)
    (is : whole ≡ around p t moves) (alike : AreFirsts moves (map (seen mid) below)) (e : slice ≡ below) (same : u ≡ t) where
  made_alike : Alike whole (around p u (map (seen mid) slice))
  made_alike =
      subst (λ o. Alike o (around p u (map (seen mid) slice))) (sym is)
      (subst (λ (v : Proc). Alike (around p t moves) (around p v (map (seen mid) slice))) (sym same)
      (around_alike p t moves (map (seen mid) slice) (subst (λ ss. AreFirsts moves (map (seen mid) ss)) (sym e) alike)))

  pub around_each : AreDifferent trees → (steps made : List StepTo) → IsListing trees steps (around p u (map (seen mid) slice)) → AreFirsts steps made → AreEach trees made whole
  around_each different steps made h once = once_each trees different steps made whole (around p u (map (seen mid) slice)) made_alike h once

  pub around_passed : (r : Result (List StepTo) EvalFault) (f : EvalFault) → IsErrAnd r (λ y. y ≡ f) → GivesMoves trees (Err f) (around p u (map (seen mid) slice)) → GivesEach trees r whole
  around_passed r f is h = passed _ r f (around p u (map (seen mid) slice)) whole is h (λ k e. alike_fault whole (around p u (map (seen mid) slice)) k made_alike e)

-- the steps of a choice, in other words
pub choice_each : (trees : List Proc) (steps slice : List StepTo) (o u w : Outcome (List Move)) → o ≡ u → slice ≡ steps → w ≡ o → AreEach trees steps u → AreEach trees slice w
choice_each trees steps slice o u w e is same h = subst (λ (ss : List StepTo). AreEach trees ss w) (sym is) (subst (λ (z : Outcome (List Move)). AreEach trees steps z) (sym (same ∙ e)) h)

-- steps that are known
pub known_each : (trees : List Proc) (o : Outcome (List Move)) (found : Option (List StepTo)) (steps : List StepTo) → found ≡ Some steps → IfSome found (λ ss. AreEach trees ss o) → AreEach trees steps o
known_each trees o found steps e h = subst (λ (f : Option (List StepTo)). IfSome f (λ ss. AreEach trees ss o)) e h

-- what is said of a success
pub on_ok_of : {A E : Type 0} (r : Result A E) (x : A) (P : Type 0) → r ≡ Ok x → OnOk r P → P
on_ok_of {E = E} r x P e h = subst (λ (z : Result _ E). OnOk z P) e h

pub same_each : (trees : List Proc) (r : Result (List StepTo) EvalFault) (o u : Outcome (List Move)) → o ≡ u → GivesEach trees r u → GivesEach trees r o
same_each trees r o u e h = subst (GivesEach trees r) (sym e) h

-- ---- the steps of a process

pub each_steps : (p : Content) (trees : List Proc) (t : Proc) (r : Result (List StepTo) EvalFault) → GivesEach trees r (steps_of p t) → IfOk r (λ steps. AreStepsOf p trees t steps)
each_steps p trees t (Ok steps) h = record {
  moves = h.moves;
  has = h.has;
  within = λ k s g. within_of (length trees) steps k s h.within g;
  firsts = h.firsts;
}
each_steps p trees t (Err f) h = tt

pub each_fault : (trees : List Proc) (r : Result (List StepTo) EvalFault) (o : Outcome (List Move)) → GivesEach trees r o → FaultIs r o
each_fault trees (Ok steps) o h = tt
each_fault trees (Err f) o h = h
