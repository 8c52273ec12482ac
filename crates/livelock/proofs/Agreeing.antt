-- Two verdicts on one network, asked of one set: at each point of their walks a fault excludes what is there else, and what is there is one.
use Rattle.livelock.proofs.Prelude.{◌≡◌, ℕ, Option, Some, None, Ok, Err, List, length, refl, sym, ap, subst, ◌∙◌, leaves, Taken, Network, ProcessStep, Point, RefusedOr, passed, told, verdict_status, Refusal, Verdict, HasOrder, HasTooGreatBound, IsBoundOf, IsBounded, IsToldBound, LacksOrder, LacksValue, NamesNoSet, OrderDecides, data_named, Outcome, Expr, ValueKind, passes_excludes, passes_once, no_order, one_order, one_rest, faults_exclude_tables, HasNoTables, HasTables, events_in, BoundsAreTold, IsWithinBound, StatusesAreOne, VerdictsAreOne}
use Rattle.report.specs.declared.answer.Done.TheVariants as done
use Rattle.report.specs.declared.answer.Refusal.TheVariants as refusal
use Rattle.report.specs.declared.answer.Shortfall.TheVariants as shortfall
use Rattle.report.specs.declared.answer.Side.TheVariants as side
use Rattle.report.specs.declared.answer.Site.TheVariants as site
use Rattle.report.specs.declared.answer.Verdict.TheVariants as verdict

none_or_some : {A : Type 0} (o : Option A) (a : A) → o ≡ None → o ≡ Some a → ⊥
none_or_some o a none some = let no : None ≡ Some a = sym none ∙ some in cc

same_some : {A : Type 0} (o : Option A) (a b : A) → o ≡ Some a → o ≡ Some b → a ≡ b
same_some o a b is other = cc

err_or_ok : {A : Type 0} (o : Outcome A) (why : ValueKind) (a : A) → o ≡ Err why → o ≡ Ok a → ⊥
err_or_ok o why a err ok = let no : Err why ≡ Ok a = sym err ∙ ok in cc

same_ok : {A : Type 0} (o : Outcome A) (a b : A) → o ≡ Ok a → o ≡ Ok b → a ≡ b
same_ok o a b is other = cc

same_err : {A : Type 0} (o : Outcome A) (a b : ValueKind) → o ≡ Err a → o ≡ Err b → a ≡ b
same_err o a b is other = cc

-- two verdicts at one point: what holds of two faults, and of two walks that go on, holds of them
at_point : {F X : Type 0} (Fails : F → Type 0) (tell : F → Verdict) (Is : X → Type 0) (Then : X → Verdict → Type 0) (R : Verdict → Verdict → Type 0) (v w : Verdict)
    → ((f g : F) → Fails f → Fails g → R (tell f) (tell g)) → ((f : F) (x : X) → Fails f → Is x → ⊥) → ((x y : X) → Is x → Is y → Then x v → Then y w → R v w)
    → Point Fails (λ f u. u ≡ tell f) Is Then v → Point Fails (λ f u. u ≡ tell f) Is Then w → R v w
at_point Fails tell Is Then R v w both never rest (told f fails is) (told g fails' is') = subst (R v) (sym is') (subst (λ u. R u (tell g)) (sym is) (both f g fails fails'))
at_point Fails tell Is Then R v w both never rest (told f fails is) (passed y is' next') = absurd (never f y fails is')
at_point Fails tell Is Then R v w both never rest (passed x is next) (told g fails' is') = absurd (never g x fails' is)
at_point Fails tell Is Then R v w both never rest (passed x is next) (passed y is' next') = rest x y is is' next next'

-- where what is there is one
with_one : {X : Type 0} (Is : X → Type 0) (Then : X → Verdict → Type 0) (R : Verdict → Verdict → Type 0) (v w : Verdict) → ((x y : X) → Is x → Is y → x ≡ y)
    → ((x : X) → Is x → Then x v → Then x w → R v w) → (x y : X) → Is x → Is y → Then x v → Then y w → R v w
with_one Is Then R v w one rest x y is is' next next' = rest x is next (subst (λ z. Then z w) (sym (one x y is is')) next')

-- what comes after each point
abbrev BoundDecides : Network → List ℕ → List Taken → Verdict → Type 0
BoundDecides network events order = RefusedOr side.Script (HasTooGreatBound events order) (IsBoundOf events order) (IsToldBound network)

abbrev TablesDecide : Network → List ℕ → Verdict → Type 0
TablesDecide network events = RefusedOr side.Script (HasNoTables network) (HasTables network) (λ tables. OrderDecides network events)

abbrev ValueDecides : Network → Expr → Verdict → Type 0
ValueDecides network expr = RefusedOr side.Script (LacksValue network.program expr) (λ events. events_in network.program expr ≡ Ok events) (TablesDecide network)

-- what holds of equal verdicts
module _ (R : Verdict → Verdict → Type 0) (same : (v : Verdict) → R v v) (network : Network) where
  equal : (v w : Verdict) → v ≡ w → R v w
  equal v w is = subst (R v) is (same v)

  orders_agree : (events : List ℕ) (v w : Verdict) → OrderDecides network events v → OrderDecides network events w → R v w
  unfolding OrderDecides
  orders_agree events v w =
      let cs = leaves network.tree in
      at_point (LacksOrder network events) verdict.NotProved (HasOrder network events) (BoundDecides network events) R v w
      (λ s t a b. equal (verdict.NotProved s) (verdict.NotProved t) (ap verdict.NotProved (a.2 ∙ ap shortfall.NoOrder (one_rest (ProcessStep network.program) events cs a.0 b.0 a.1 b.1) ∙ sym b.2)))
      (λ s order a is. no_order (ProcessStep network.program) events cs a.0 order a.1 is)
      (with_one (HasOrder network events) (BoundDecides network events) R v w (one_order (ProcessStep network.program) events cs) (λ order all.
      at_point (HasTooGreatBound events order) (verdict.Refused side.Script) (IsBoundOf events order) (IsToldBound network) R v w
      (λ r t a b. equal (verdict.Refused side.Script r) (verdict.Refused side.Script t)
      (ap (verdict.Refused side.Script) (a.2 ∙ ap refusal.BoundLimit (passes_once events order a.0 b.0 a.1 b.1) ∙ sym b.2)))
      (λ r bound a is. passes_excludes events order a.0 bound a.1 is.0 is.1)
      (with_one (IsBoundOf events order) (IsToldBound network) R v w (λ bound other is is'. is.0 ∙ sym is'.0) (λ bound is tells tells'. equal v w (tells ∙ sym tells')))))

  module _ (untabled : (r s : Refusal) → HasNoTables network r → HasNoTables network s → R (verdict.Refused side.Script r) (verdict.Refused side.Script s)) where
    verdicts_agree : (name : List ℕ) (v w : Verdict) → IsBounded network name v → IsBounded network name w → R v w
    unfolding IsBounded
    verdicts_agree name v w =
        let p = network.program in
        at_point (NamesNoSet p name) (verdict.Refused side.Script) (λ expr. data_named p name ≡ Some expr) (ValueDecides network) R v w
        (λ r s a b. equal (verdict.Refused side.Script r) (verdict.Refused side.Script s) (ap (verdict.Refused side.Script) (a.1 ∙ sym b.1)))
        (λ r expr a is. none_or_some (data_named p name) expr a.0 is)
        (with_one (λ expr. data_named p name ≡ Some expr) (ValueDecides network) R v w (same_some (data_named p name)) (λ expr named.
        at_point (LacksValue p expr) (verdict.Refused side.Script) (λ events. events_in p expr ≡ Ok events) (TablesDecide network) R v w
        (λ r s a b. equal (verdict.Refused side.Script r) (verdict.Refused side.Script s)
        (ap (verdict.Refused side.Script) (a.2 ∙ ap (λ kind. refusal.Value kind site.HiddenSet) (same_err (events_in p expr) a.0 b.0 a.1 b.1) ∙ sym b.2)))
        (λ r events a is. err_or_ok (events_in p expr) a.0 events a.1 is)
        (with_one (λ events. events_in p expr ≡ Ok events) (TablesDecide network) R v w (same_ok (events_in p expr)) (λ events value.
        at_point (HasNoTables network) (verdict.Refused side.Script) (HasTables network) (λ tables. OrderDecides network events) R v w untabled
        (λ r tables fails are. faults_exclude_tables p (leaves network.tree) tables 0 r are fails)
        (λ tables others are are'. orders_agree events v w)))))

pub statuses_are_one : StatusesAreOne
statuses_are_one network name = verdicts_agree (λ v w. verdict_status v ≡ verdict_status w) (λ v. refl) network (λ r s fails fails'. refl) name

pub verdicts_are_one : VerdictsAreOne
verdicts_are_one network tables name v w are =
    verdicts_agree (λ v w. v ≡ w) (λ v. refl) network (λ r s fails fails'. absurd (faults_exclude_tables network.program (leaves network.tree) tables 0 r are fails)) name v w

-- a walk that passes all points
all_passed : (network : Network) (name : List ℕ) (bound : ℕ) → IsWithinBound network name bound → IsBounded network name (verdict.Done (done.LivelockFree (length (leaves network.tree)) bound))
unfolding IsBounded OrderDecides
all_passed network name bound within =
    passed within.set.expr within.set.named (passed within.events within.set.value (passed within.tables within.are (passed within.order within.all (passed bound within.is refl))))

pub bounds_are_told : BoundsAreTold
bounds_are_told network name bound v within is =
    verdicts_are_one network within.tables name v (verdict.Done (done.LivelockFree (length (leaves network.tree)) bound)) within.are is (all_passed network name bound within)
