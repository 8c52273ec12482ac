-- What a call answers for a whole, from what calls answer for its parts.
use Rattle.csp_steps.proofs.Prelude.{◌≡◌, ℕ, ◌+◌, ◌<◌, ◌≤◌, Ok, Err, List, [], ◌∷◌, ◌++◌, map, take, length, get_or, ap, sym, ◌∙◌, subst, append_assoc, Result, IsErrAnd, joined, Outcome, ValueKind, Proc, Content, Move, Among, IsFront, Gives, EvalFault, GivesStart, Answers, AreMoves, IsFault, IsMove, seen, StepTo, joined_push, take_read, map_push, take_all, at_err, weaker}
use Rattle.csp_steps.proofs.Places.{moves_stay, one_move}

-- ---- faults that are handed on

pub passed : {B C D : Type 0} (Fine : B → Type 0) (r : Result B EvalFault) (f : EvalFault) (part : Outcome C) (whole : Outcome D) → IsErrAnd r (λ y. y ≡ f) → IsFault f part
    → ((k : ValueKind) → part ≡ Err k → whole ≡ Err k) → Answers Fine r whole
passed Fine r f part whole is h passes = at_err (λ q. Answers Fine q whole) r f is (weaker (λ k. part ≡ Err k) (λ k. whole ≡ Err k) f h passes)

-- the same after a call that gives a value
pub value_passed : {A B D : Type 0} (Fine : B → Type 0) (r : Result B EvalFault) (f : EvalFault) (part : Outcome A) (whole : Outcome D) → IsErrAnd r (λ y. y ≡ f) → Gives {A = A} (Err f) part
    → ((k : ValueKind) → part ≡ Err k → whole ≡ Err k) → Answers Fine r whole
value_passed Fine r f part whole is h passes = passed Fine r f part whole is h passes

-- and after one that looks for a head
pub start_passed : {B D : Type 0} (p : Content) (Fine : B → Type 0) (r : Result B EvalFault) (f : EvalFault) (part : Outcome Among) (whole : Outcome D) → IsErrAnd r (λ y. y ≡ f) → GivesStart p (Err f) part
    → ((k : ValueKind) → part ≡ Err k → whole ≡ Err k) → Answers Fine r whole
start_passed p Fine r f part whole is h passes = passed Fine r f part whole is h passes

-- the next of some steps, in a list that has grown
module _ (old mid new : List Proc) (front : IsFront mid new) (below : List StepTo) (i : ℕ) (s : StepTo) (lt : i < length below) (is : s ≡ get_or below i s) where
  more_seen : (f : Move → Move) → map f (map (seen old) (take (i + 1) below)) ≡ map f (map (seen old) (take i below)) ++ f (seen old s) ∷ []
  more_seen f =
      ap (λ xs. map f (map (seen old) xs)) (take_read below i s lt is) ∙
      (ap (map f) (map_push (seen old) (take i below) s) ∙ map_push f (map (seen old) (take i below)) (seen old s))

  pub next_move : (f : Move → Move) (before : List Move) (steps : List StepTo) (made : StepTo) → AreMoves mid steps (before ++ map f (map (seen old) (take i below))) → IsMove new made (f (seen old s))
      → AreMoves new (steps ++ made ∷ []) (before ++ map f (map (seen old) (take (i + 1) below)))
  next_move f before steps made h g =
      subst (λ ms. AreMoves new (steps ++ made ∷ []) ms) (append_assoc before (map f (map (seen old) (take i below))) (f (seen old s) ∷ []) ∙ ap (λ ms. before ++ ms) (sym (more_seen f)))
      (one_move new steps (before ++ map f (map (seen old) (take i below))) made (f (seen old s)) (moves_stay mid new front steps (before ++ map f (map (seen old) (take i below))) h) g)

  more_joined : (f : Move → List Move) → joined (map f (map (seen old) (take (i + 1) below))) ≡ joined (map f (map (seen old) (take i below))) ++ f (seen old s)
  more_joined f =
      ap (λ xs. joined (map f (map (seen old) xs))) (take_read below i s lt is) ∙
      (ap (λ ms. joined (map f ms)) (map_push (seen old) (take i below) s) ∙
      (ap joined (map_push f (map (seen old) (take i below)) (seen old s)) ∙ joined_push (map f (map (seen old) (take i below))) (f (seen old s))))

  pub next_moves : (f : Move → List Move) (steps made : List StepTo) → map (seen mid) steps ≡ joined (map f (map (seen old) (take i below))) → AreMoves new made (map (seen mid) steps ++ f (seen old s))
      → AreMoves new made (joined (map f (map (seen old) (take (i + 1) below))))
  next_moves f steps made e h = subst (λ ms. AreMoves new made ms) (ap (λ ms. ms ++ f (seen old s)) e ∙ sym (more_joined f)) h

-- all of the steps
pub whole_moves : (old new : List Proc) (f : Move → Move) (before : List Move) (below steps : List StepTo) (i : ℕ) → length below ≤ i
    → AreMoves new steps (before ++ map f (map (seen old) (take i below))) → AreMoves new steps (before ++ map f (map (seen old) below))
whole_moves old new f before below steps i past h = subst (λ xs. AreMoves new steps (before ++ map f (map (seen old) xs))) (take_all i below past) h

pub whole_joined : (old new : List Proc) (f : Move → List Move) (below steps : List StepTo) (i : ℕ) → length below ≤ i
    → AreMoves new steps (joined (map f (map (seen old) (take i below)))) → AreMoves new steps (joined (map f (map (seen old) below)))
whole_joined old new f below steps i past h = subst (λ xs. AreMoves new steps (joined (map f (map (seen old) xs)))) (take_all i below past) h
