-- Walks and their points. A walk that stops at a point tells what the point tells; one that goes on answers what the rest answers.
use Rattle.std.proofs.Common.{◌≡◌, Result, Ok, Err, refl, sym, subst}
use Rattle.std.specs.Result.{IsErrAnd}
use Rattle.std.proofs.lemmas.Result.{err_from_is_err_and}
use Rattle.report.specs.Prelude.{Point, RefusedOr, UnprovedOr, passed, told, Answers, HaltsWith, refuse, unproved}
use Rattle.report.specs.declared.stop.Halt.{Halt}
use Rattle.report.specs.declared.answer.Done.{Done}
use Rattle.report.specs.declared.answer.Refusal.{Refusal}
use Rattle.report.specs.declared.answer.Shortfall.{Shortfall}
use Rattle.report.specs.declared.answer.Side.{Side}
use Rattle.report.specs.declared.answer.Verdict.{Verdict}
use Rattle.csp_base.specs.Prelude.{Tells}
use Rattle.csp_base.specs.declared.stop.Stop.{Stop}
use Rattle.report.specs.declared.answer.Verdict.TheVariants as verdict
use Rattle.csp_base.specs.declared.stop.Stop.TheVariants as stop
use Rattle.report.specs.declared.stop.Halt.TheVariants as halt

-- what is told says less
pub weaker : {A : Type 0} (P Q : A → Type 0) → ((a : A) → P a → Q a) → (s : Stop A) → Tells P s → Tells Q s
weaker P Q weak stop.NoMemory tells = tt
weaker P Q weak (stop.Told a) tells = weak a tells

pub halts_weaker : (P Q : Verdict → Type 0) → ((v : Verdict) → P v → Q v) → (h : Halt) → HaltsWith P h → HaltsWith Q h
halts_weaker P Q weak halt.NoMemory halts = tt
halts_weaker P Q weak (halt.Told v) halts = weak v halts

module _ {F X : Type 0} (Fails : F → Type 0) (Told : F → Verdict → Type 0) (Is : X → Type 0) (Then : X → Verdict → Type 0) (x : X) (is : Is x) where
  -- the walk goes on, and to its end
  pub goes_on : (r : Result Done Halt) → Answers (Then x) r → Answers (Point Fails Told Is Then) r
  goes_on (Ok what) answers = passed x is answers
  goes_on (Err h) answers = halts_weaker (Then x) (Point Fails Told Is Then) (λ v rest. passed x is rest) h answers

-- What a walk over networks answers that stops at a `?`: a step told why it stops, or memory ran out.
module _ (r : Result Done Halt) where
  -- the rest of the walk halted
  pub at_halt : (Is : Verdict → Type 0) (h : Halt) → IsErrAnd r (λ t. t ≡ h) → HaltsWith Is h → Answers Is r
  at_halt Is h exit tells =
      let p = err_from_is_err_and r exit in
      subst (Answers Is) (sym p.1) (subst (HaltsWith Is) (sym p.2) tells)

  pub at_refusal : {X : Type 0} (side : Side) (Fails : Refusal → Type 0) (Is : X → Type 0) (Then : X → Verdict → Type 0) (s : Stop Refusal) → IsErrAnd r (λ t. t ≡ refuse side s) → Tells Fails s
      → Answers (RefusedOr side Fails Is Then) r
  at_refusal side Fails Is Then stop.NoMemory exit tells = at_halt (RefusedOr side Fails Is Then) halt.NoMemory exit tt
  at_refusal side Fails Is Then (stop.Told f) exit tells = at_halt (RefusedOr side Fails Is Then) (refuse side (stop.Told f)) exit (told f tells refl)

  pub at_shortfall : {X : Type 0} (Fails : Shortfall → Type 0) (Is : X → Type 0) (Then : X → Verdict → Type 0) (s : Stop Shortfall) → IsErrAnd r (λ t. t ≡ unproved s) → Tells Fails s
      → Answers (UnprovedOr Fails Is Then) r
  at_shortfall Fails Is Then stop.NoMemory exit tells = at_halt (UnprovedOr Fails Is Then) halt.NoMemory exit tt
  at_shortfall Fails Is Then (stop.Told f) exit tells = at_halt (UnprovedOr Fails Is Then) (unproved (stop.Told f)) exit (told f tells refl)

  pub at_want : (Is : Verdict → Type 0) → IsErrAnd r (λ t. t ≡ halt.NoMemory) → Answers Is r
  at_want Is exit = at_halt Is halt.NoMemory exit tt

-- the exits of a walk over networks: `search (rules, exits)` closes them
pub ruleset exits = (at_refusal, at_shortfall, at_want)

-- What holds of each fault, and of what follows, holds of the verdict.
pub refused_or : {X : Type 0} (side : Side) (Fails : Refusal → Type 0) (Is : X → Type 0) (Then : X → Verdict → Type 0) (Q : Verdict → Type 0) → ((r : Refusal) → Q (verdict.Refused side r))
    → ((x : X) (v : Verdict) → Is x → Then x v → Q v) → (v : Verdict) → RefusedOr side Fails Is Then v → Q v
refused_or side Fails Is Then Q of rest v (told r fails same) = subst Q (sym same) (of r)
refused_or side Fails Is Then Q of rest v (passed x is next) = rest x v is next

pub unproved_or : {X : Type 0} (Fails : Shortfall → Type 0) (Is : X → Type 0) (Then : X → Verdict → Type 0) (Q : Verdict → Type 0) → ((s : Shortfall) → Q (verdict.NotProved s))
    → ((x : X) (v : Verdict) → Is x → Then x v → Q v) → (v : Verdict) → UnprovedOr Fails Is Then v → Q v
unproved_or Fails Is Then Q of rest v (told s fails same) = subst Q (sym same) (of s)
unproved_or Fails Is Then Q of rest v (passed x is next) = rest x v is next
