-- Walks that end with an answer: where they stop, and to what they come.
use Rattle.dl_top.proofs.Prelude.{◌≡◌, Result, Ok, Err, IfOk, sym, subst, IsErrAnd, IfOk-weaker, err_from_is_err_and, weaker, Tells, Stop, Answers, Ends, IsEnd, IsVerdict, Halt, Done, Verdict}
use Rattle.csp_base.specs.declared.stop.Stop.TheVariants as stop
use Rattle.report.specs.declared.stop.Halt.TheVariants as halt

module _ {A : Type 0} (Is : A → Type 0) (r : Result A (Stop A)) where
  -- a step told why the walk stops, or memory ran out
  pub at_end : (s : Stop A) → IsErrAnd r (λ t. t ≡ s) → Tells Is s → Ends Is r
  at_end s exit tells =
      let p = err_from_is_err_and r exit in
      subst (Ends Is) (sym p.1) (subst (Tells Is) (sym p.2) tells)

  pub at_short : IsErrAnd r (λ t. t ≡ stop.NoMemory) → Ends Is r
  at_short exit = at_end stop.NoMemory exit tt

-- the walk comes to this
pub is_end : {A : Type 0} (Is : A → Type 0) (r : Result A (Stop A)) (a : A) → Ends Is r → IsEnd r a → Is a
is_end Is (Ok b) a ends is = subst Is (sym is) ends
is_end Is (Err stop.NoMemory) a ends is = absurd is
is_end Is (Err (stop.Told b)) a ends is = subst Is (sym is) ends

-- a walk over networks comes to this verdict
pub is_verdict : (Is : Verdict → Type 0) (r : Result Done Halt) (v : Verdict) → Answers Is r → IsVerdict r v → Is v
is_verdict Is (Ok what) v answers is = subst Is (sym is) answers
is_verdict Is (Err halt.NoMemory) v answers is = absurd is
is_verdict Is (Err (halt.Told w)) v answers is = subst Is (sym is) answers

-- what a walk comes to that is answered
pub answered : {A E : Type 0} (Is : A → Type 0) (walk : Result A (Stop A)) (made : Result A E) → Ends Is walk → IfOk made (IsEnd walk) → IfOk made Is
answered Is walk made ends is = IfOk-weaker made (IsEnd walk) Is (λ a. is_end Is walk a ends) is

-- a walk that comes to less
pub ends_weaker : {A : Type 0} (P Q : A → Type 0) → ((a : A) → P a → Q a) → (r : Result A (Stop A)) → Ends P r → Ends Q r
ends_weaker P Q weak (Ok a) ends = weak a ends
ends_weaker P Q weak (Err s) ends = weaker P Q weak s ends
