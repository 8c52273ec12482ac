-- What is kept of evaluations stays true where the pool grows, and where more is kept.
use Rattle.csp_steps.proofs.Prelude.{◌≡◌, ℕ, ◌<◌, Bool, true, false, cond, nat_eq, Option, Some, None, Ok, Err, List, [], ◌∷◌, ◌++◌, length, slice_get, refl, ap, sym, ◌∙◌, subst, eqb-true, OnOk, Result, Outcome, Proc, Content, Move, steps_of, at, with_first, IsFront, tree_at, ProcId, AreEach, AreFirsts, Does, body_of, AreBodies, AreKept, AreNoted, Fits, HasNumber, HasValue, IsNumbered, StandsAs, Evaluated, Operator, StepTo, slice_get_last, HashMap, get, IsEmpty, Updates, lookup, slice_get-append_left, Round}
use Rattle.csp_steps.proofs.Effects.{does_kept, does_stay}
use Rattle.csp_steps.proofs.Places.{all_within_stay, front_both, seen_stay, standing, tree_stays}

-- one key more has a number
at_key : (P : ℕ → ℕ → Type 0) (k n : ℕ) → P k n → (q m : ℕ) (before : Option ℕ) → (before ≡ Some m → P q m) → (b : Bool) → nat_eq k q ≡ b → cond b (Some n) before ≡ Some m → P q m
at_key P k n h q m before are true e g =
    let same : n ≡ m = cc in
    let place : k ≡ q = eqb-true k q e in
    subst (λ (j : ℕ). P j m) place (subst (λ (i : ℕ). P k i) same h)
at_key P k n h q m before are false e g = are g

pub one_key : {S : Type 0} (P : ℕ → ℕ → Type 0) (old new : HashMap ℕ ℕ S) (k n : ℕ) → ((q m : ℕ) → get nat_eq old q ≡ Some m → P q m) → P k n → Updates nat_eq old new k (Some n)
    → (q m : ℕ) → get nat_eq new q ≡ Some m → P q m
one_key P old new k n are h updates q m g = at_key P k n h q m (get nat_eq old q) (are q m) (nat_eq k q) refl (sym (updates.0 q) ∙ g)

no_key : {S : Type 0} (P : ℕ → ℕ → Type 0) (numbers : HashMap ℕ ℕ S) → IsEmpty numbers → (q m : ℕ) → get nat_eq numbers q ≡ Some m → P q m
no_key P numbers empty q m g =
    let nothing : None ≡ Some m = sym (ap (λ (entries : List (ℕ × ℕ)). lookup (nat_eq q) entries) empty) ∙ g in
    cc

stands_stay : (old new : List Proc) → IsFront old new → (q : ℕ) (P : Proc → Type 0) → StandsAs old q P → StandsAs new q P
stands_stay old new front q P h = record { process = h.process; stands = front q h.process h.stands; holds = h.holds }

pub pushed_at : {T : Type 0} (values more : List T) (x : T) (k : ℕ) → more ≡ values ++ x ∷ [] → k ≡ length values → slice_get more k ≡ Some x
pushed_at values more x k grown last = (λ i. slice_get (grown i) (last i)) ∙ slice_get_last values x

-- what is kept of processes stays true where the pool grows
kept_stay : {T S : Type 0} (Before After : T → Proc → Type 0) (old new : List Proc) → IsFront old new → ((x : T) (t : Proc) → Before x t → After x t)
    → (values : List T) (numbers : HashMap ℕ ℕ S) → AreKept Before old values numbers → AreKept After new values numbers
kept_stay Before After old new front stays values numbers h q k g =
    let v = h q k g in
    record { value = v.value; listed = v.listed; holds = record { process = v.holds.process; stands = front q v.holds.process v.holds.stands; holds = stays v.value v.holds.process v.holds.holds } }

module _ {T S : Type 0} (Holds : T → Proc → Type 0) (trees : List Proc) where
  -- a number for one place more
  pub kept_more : (values : List T) (x : T) (old new : HashMap ℕ ℕ S) (key k : ℕ) → AreKept Holds trees values old → StandsAs trees key (Holds x) → slice_get values k ≡ Some x
      → Updates nat_eq old new key (Some k) → AreKept Holds trees values new
  kept_more values x old new key k h is there updates =
      one_key (λ q n. HasValue values n (λ y. StandsAs trees q (Holds y))) old new key k h (record { value = x; listed = there; holds = is }) updates

  -- and a value more for it
  pub kept_push : (values more : List T) (x : T) (old new : HashMap ℕ ℕ S) (key k : ℕ) → AreKept Holds trees values old → StandsAs trees key (Holds x) → more ≡ values ++ x ∷ [] → k ≡ length values
      → Updates nat_eq old new key (Some k) → AreKept Holds trees more new
  kept_push values more x old new key k h is grown last updates =
      kept_more more x old new key k
      (λ q n g. let v = h q n g in record { value = v.value; listed = ap (λ (xs : List T). slice_get xs n) grown ∙ slice_get-append_left values (x ∷ []) n v.value v.listed; holds = v.holds })
      is (pushed_at values more x k grown last) updates

-- what stands at a place
pub stands_at : (trees : List Proc) (id : ProcId) (P : Proc → Type 0) → id.0 < length trees → P (tree_at trees id) → StandsAs trees id.0 P
stands_at trees id P within h = record { process = tree_at trees id; stands = standing trees id within; holds = h }

holds_at : (trees : List Proc) (id : ProcId) (P : Proc → Type 0) → StandsAs trees id.0 P → P (tree_at trees id)
holds_at trees id P h = subst P (sym (at trees id h.process h.stands)) h.holds

-- the value that is kept for a place
kept_at : {T S : Type 0} (Holds : T → Proc → Type 0) (trees : List Proc) (values : List T) (numbers : HashMap ℕ ℕ S) (id : ProcId) (k : ℕ) → AreKept Holds trees values numbers
    → get nat_eq numbers id.0 ≡ Some k → HasValue values k (λ x. Holds x (tree_at trees id))
kept_at Holds trees values numbers id k h g =
    let v = h id.0 k g in
    record { value = v.value; listed = v.listed; holds = holds_at trees id (Holds v.value) v.holds }

each_stay : (old new : List Proc) → IsFront old new → (steps : List StepTo) (o : Outcome (List Move)) → AreEach old steps o → AreEach new steps o
each_stay old new front steps o h = record {
  moves = h.moves;
  has = h.has;
  within = all_within_stay old new front steps h.within;
  firsts = subst (λ (ms : List Move). AreFirsts h.moves ms) (sym (seen_stay old new front steps h.within)) h.firsts;
}

-- the steps that are kept for a place
pub stepped_at : (p : Content) (trees : List Proc) (kept : Evaluated) (id : ProcId) (k : ℕ) (steps copy : List StepTo) → Fits p trees kept → get nat_eq kept.stepped id.0 ≡ Some k → slice_get kept.lists k ≡ Some steps → copy ≡ steps
    → AreEach trees copy (steps_of p (tree_at trees id))
stepped_at p trees kept id k steps copy h g listed e =
    let v = kept_at (λ ss t. AreEach trees ss (steps_of p t)) trees kept.lists kept.stepped id k h.stepped g in
    subst (λ (ss : List StepTo). AreEach trees ss (steps_of p (tree_at trees id))) (some_same v.value steps (sym v.listed ∙ listed) ∙ sym e) v.holds
  where
    some_same : (xs ys : List StepTo) → Some xs ≡ Some ys → xs ≡ ys
    some_same xs ys h = cc

pub bodies_stay : {S : Type 0} (p : Content) (old new : List Proc) → IsFront old new → (bodies : HashMap ℕ ℕ S) → AreBodies p old bodies → AreBodies p new bodies
bodies_stay p old new front bodies h d q g = stands_stay old new front q (λ t. body_of (slice_get p.defs d) ≡ Some t) (h d q g)

pub noted_stay : {S : Type 0} (p : Content) (old new : List Proc) → IsFront old new → (operators : List Operator) (places : HashMap ℕ ℕ S) → AreNoted p old operators places → AreNoted p new operators places
noted_stay p old new front operators places h = kept_stay (Does p old) (Does p new) old new front (does_stay old new front p) operators places h

-- What is kept stays true where the pool grows.
pub fits_stay : (p : Content) (old new : List Proc) (kept : Evaluated) → IsFront old new → Fits p old kept → Fits p new kept
fits_stay p old new kept front h = record {
  operators = noted_stay p old new front kept.operators kept.places h.operators;
  bodies = bodies_stay p old new front kept.bodies h.bodies;
  stepped = kept_stay (λ ss t. AreEach old ss (steps_of p t)) (λ ss t. AreEach new ss (steps_of p t)) old new front (λ ss t. each_stay old new front ss (steps_of p t)) kept.lists kept.stepped h.stepped;
  sets = h.sets;
}

pub fits_then : {A E : Type 0} (p : Content) (old new : List Proc) (kept : Evaluated) (r : Result A E) → IsFront old new → Fits p old kept → OnOk r (Fits p new kept)
fits_then p old new kept (Ok x) front h = fits_stay p old new kept front h
fits_then p old new kept (Err f) front h = tt

-- the same where a definition's body is put into the pool
pub fits_bodies : (p : Content) (old mid new : List Proc) (kept : Evaluated) (bodies : HashMap ℕ ℕ _) → IsFront old mid → IsFront mid new → Fits p old kept → AreBodies p mid bodies → Fits p new (record kept { bodies = bodies })
fits_bodies p old mid new kept bodies first second h are =
    let stays = fits_stay p old new kept (front_both old mid new first second) h in
    record { operators = stays.operators; bodies = bodies_stay p mid new second bodies are; stepped = stays.stepped; sets = stays.sets }

-- and where more places have numbers of operators
pub fits_noted : (p : Content) (old new : List Proc) (kept : Evaluated) (places : HashMap ℕ ℕ _) → IsFront old new → Fits p old kept → AreNoted p new kept.operators places → Fits p new (record kept { places = places })
fits_noted p old new kept places front h are =
    let stays = fits_stay p old new kept front h in
    record { operators = are; bodies = stays.bodies; stepped = stays.stepped; sets = stays.sets }

-- the body of a definition, at the place that is kept for it
pub body_at : (p : Content) (trees : List Proc) (d q : ℕ) (body : Proc) → StandsAs trees q (λ t. body_of (slice_get p.defs d) ≡ Some t) → body_of (slice_get p.defs d) ≡ Some body → slice_get trees q ≡ Some body
body_at p trees d q body h is = h.stands ∙ (sym h.holds ∙ is)

pub bodies_put : {S : Type 0} (p : Content) (old new : List Proc) → IsFront old new → (bodies kept : HashMap ℕ ℕ S) (d q : ℕ) (body : Proc) → AreBodies p old bodies → body_of (slice_get p.defs d) ≡ Some body
    → slice_get new q ≡ Some body → Updates nat_eq bodies kept d (Some q) → AreBodies p new kept
bodies_put p old new front bodies kept d q body h is stands updates =
    one_key (λ e k. StandsAs new k (λ t. body_of (slice_get p.defs e) ≡ Some t)) bodies kept d q (bodies_stay p old new front bodies h) (record { process = body; stands = stands; holds = is }) updates

-- The number of an operator: known, and new.
pub operator_known : (p : Content) (trees : List Proc) (kept : Evaluated) (id : ProcId) (k : ℕ) → Fits p trees kept → get nat_eq kept.places id.0 ≡ Some k → HasNumber p trees kept k (tree_at trees id)
operator_known p trees kept id k h g = record { fits = h; has = kept_at (Does p trees) trees kept.operators kept.places id k h.operators g }

pub operator_new : (p : Content) (trees : List Proc) (kept : Evaluated) (id : ProcId) (k : ℕ) (op : Operator) (operators : List Operator) (places : HashMap ℕ ℕ _) → Fits p trees kept → id.0 < length trees
    → Does p trees op (tree_at trees id) → k ≡ length kept.operators → operators ≡ kept.operators ++ op ∷ [] → Updates nat_eq kept.places places id.0 (Some k)
    → HasNumber p trees (record kept { operators = operators; places = places }) k (tree_at trees id)
operator_new p trees kept id k op operators places h within does last grown updates = record {
  fits = record {
    operators = kept_push (Does p trees) trees kept.operators operators op kept.places places id.0 k h.operators (stands_at trees id (Does p trees op) within does) grown last updates;
    bodies = h.bodies;
    stepped = h.stepped;
    sets = h.sets;
  };
  has = record { value = op; listed = pushed_at kept.operators operators op k grown last; holds = does };
}

-- the process after a step that is no end has the operator of the whole
pub noted_going : {S : Type 0} (p : Content) (old new : List Proc) (operators : List Operator) (round : Round) (places more : HashMap ℕ ℕ S) (to : ProcId) (r : Proc) → IsFront old new → IsNumbered p old operators round
    → slice_get new to.0 ≡ Some (with_first (tree_at old round.id) r) → Updates nat_eq places more to.0 (Some round.number) → AreNoted p old operators places → AreNoted p new operators more
noted_going p old new operators round places more to r front is stands updates h =
    kept_more (Does p new) new operators round.operator.now places more to.0 round.number (noted_stay p old new front operators places h)
    (record { process = with_first (tree_at old round.id) r; stands = stands; holds = does_kept p new round.operator.now (tree_at old round.id) r (does_stay old new front p round.operator.now (tree_at old round.id) is.does) })
    is.listed updates

-- the steps that are kept are let go, and those at one more place are kept
pub fits_emptied : (p : Content) (trees : List Proc) (kept : Evaluated) (lists : List (List StepTo)) (stepped : HashMap ℕ ℕ _) (count : ℕ) → IsEmpty stepped → Fits p trees kept → Fits p trees (record kept { lists = lists; stepped = stepped; kept = count })
fits_emptied p trees kept lists stepped count empty h = record {
  operators = h.operators;
  bodies = h.bodies;
  stepped = no_key (λ q k. HasValue lists k (λ ss. StandsAs trees q (λ t. AreEach trees ss (steps_of p t)))) stepped empty;
  sets = h.sets;
}

pub fits_stepped : (p : Content) (trees : List Proc) (kept : Evaluated) (id : ProcId) (k : ℕ) (steps copy : List StepTo) (lists : List (List StepTo)) (stepped : HashMap ℕ ℕ _) → Fits p trees kept → id.0 < length trees
    → AreEach trees steps (steps_of p (tree_at trees id)) → copy ≡ steps → k ≡ length kept.lists → lists ≡ kept.lists ++ copy ∷ [] → Updates nat_eq kept.stepped stepped id.0 (Some k)
    → Fits p trees (record kept { lists = lists; stepped = stepped })
fits_stepped p trees kept id k steps copy lists stepped h within each e last grown updates = record {
  operators = h.operators;
  bodies = h.bodies;
  stepped = kept_push (λ ss t. AreEach trees ss (steps_of p t)) trees kept.lists lists copy kept.stepped stepped id.0 k h.stepped
      (stands_at trees id (λ t. AreEach trees copy (steps_of p t)) within (subst (λ (ss : List StepTo). AreEach trees ss (steps_of p (tree_at trees id))) (sym e) each)) grown last updates;
  sets = h.sets;
}

pub numbered_stay : (p : Content) (old new : List Proc) (operators : List Operator) (round : Round) → IsFront old new → round.id.0 < length old → IsNumbered p old operators round → IsNumbered p new operators round
numbered_stay p old new operators round front within is = record {
  listed = is.listed;
  does = subst (Does p new round.operator.now) (sym (tree_stays old new front round.id within)) (does_stay old new front p round.operator.now (tree_at old round.id) is.does);
}
