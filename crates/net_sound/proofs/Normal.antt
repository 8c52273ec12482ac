-- A component and its numbered table do the same, so the normal table of the one is that of the other.
use Rattle.net_sound.proofs.Prelude.{◌≡◌, ◌↔◌, ℕ, List, [], ◌++◌, Some, slice_get, get_or, refl, sym, subst, ◌∙◌, same_Some, Label, silent, visible, Stable, Component, ComponentStep, IsTrace, IsStableOffer, IsAcceptance, HaveSameFuture, RawTable, RawStep, standing_at, IsTableOf, acceptances_after, OffersAcceptance, NormalTablesCarryOver}
use Rattle.net_sound.proofs.Numbered.{run_down, run_up, stands}

-- a step of the table from the term x is a step of the component that stands there
step_up : {T : Type 0} (Step : T → Label → T → Type 0) (c : Component T) (terms : List T) (raw : RawTable) (m n : ℕ) (l : Label) (x : T) → IsTableOf Step c terms raw → slice_get terms m ≡ Some x → RawStep raw m l n → (y : T) × ComponentStep Step (standing_at c x) l (standing_at c y)
step_up Step c terms raw m n l x t h step =
    let s = t.sound m n l step in
    (s.goal, subst (λ y. ComponentStep Step (standing_at c y) l (standing_at c s.goal)) (same_Some s.source x (sym s.from ∙ h)) s.step)

pub trace_down : {T : Type 0} (Step : T → Label → T → Type 0) (c : Component T) (terms : List T) (raw : RawTable) (s : List ℕ) → IsTableOf Step c terms raw → IsTrace (ComponentStep Step) c s → IsTrace (RawStep raw) 0 s
trace_down Step c terms raw s t (d, a) =
    let r = run_down Step c terms raw a.0 c d 0 t t.first refl a.1 in
    (r.number, (a.0, r.path, a.2))

pub trace_up : {T : Type 0} (Step : T → Label → T → Type 0) (c : Component T) (terms : List T) (raw : RawTable) (s : List ℕ) → IsTableOf Step c terms raw → IsTrace (RawStep raw) 0 s → IsTrace (ComponentStep Step) c s
trace_up Step c terms raw s t (n, a) =
    let r = run_up Step c terms raw a.0 0 n c.term t t.first a.1 in
    (standing_at c r.goal, (a.0, r.path, a.2))

offers_up : {T : Type 0} (Step : T → Label → T → Type 0) (c : Component T) (terms : List T) (raw : RawTable) (d : Component T) (n : ℕ) (acceptances : List (List ℕ)) → IsTableOf Step c terms raw → slice_get terms n ≡ Some d.term → c.alphabet ≡ d.alphabet → OffersAcceptance (RawStep raw) n acceptances → OffersAcceptance (ComponentStep Step) d acceptances
offers_up Step c terms raw d n acceptances t h a o = record {
  place = o.place;
  acceptance = o.acceptance;
  listed = o.listed;
  offered = λ e m.
      let r = o.offered e m in
      let x = step_up Step c terms raw n r.0 (visible e) d.term t h r.1 in
      (standing_at c x.0, subst (λ y. ComponentStep Step y (visible e) (standing_at c x.0)) (sym (stands c d a)) x.1);
}

stable_down : {T : Type 0} (Step : T → Label → T → Type 0) (c : Component T) (terms : List T) (raw : RawTable) (d : Component T) (n : ℕ) → IsTableOf Step c terms raw → slice_get terms n ≡ Some d.term → c.alphabet ≡ d.alphabet → Stable (ComponentStep Step) d → Stable (RawStep raw) n
stable_down Step c terms raw d n t h a stable m step =
    let x = step_up Step c terms raw n m silent d.term t h step in
    stable (standing_at c x.0) (subst (λ y. ComponentStep Step y silent (standing_at c x.0)) (sym (stands c d a)) x.1)

-- what is offered after a trace of the table is offered after the same trace of the component
offer_up : {T : Type 0} (Step : T → Label → T → Type 0) (c : Component T) (terms : List T) (raw : RawTable) (s M : List ℕ) → IsTableOf Step c terms raw → IsStableOffer (RawStep raw) 0 s M → IsStableOffer (ComponentStep Step) c s M
offer_up Step c terms raw s M t o =
    let r = run_up Step c terms raw o.reached.0 0 o.state c.term t t.first o.reached.1 in
    record {
      state = standing_at c r.goal;
      reached = (o.reached.0, r.path, o.reached.2);
      stable = λ d step. let q = t.complete o.state r.goal silent d r.listed step in o.stable q.number q.step;
      offered = λ e. (
        λ m. let offer = (o.offered e).0 m in let x = step_up Step c terms raw o.state offer.0 (visible e) r.goal t r.listed offer.1 in (standing_at c x.0, x.1),
        λ offer. let q = t.complete o.state r.goal (visible e) offer.0 r.listed offer.1 in (o.offered e).1 (q.number, q.step),
      );
    }

offer_down : {T : Type 0} (Step : T → Label → T → Type 0) (c : Component T) (terms : List T) (raw : RawTable) (s M : List ℕ) → IsTableOf Step c terms raw → IsStableOffer (ComponentStep Step) c s M → IsStableOffer (RawStep raw) 0 s M
offer_down Step c terms raw s M t o =
    let d = o.state in
    let r = run_down Step c terms raw o.reached.0 c d 0 t t.first refl o.reached.1 in
    record {
      state = r.number;
      reached = (o.reached.0, r.path, o.reached.2);
      stable = stable_down Step c terms raw d r.number t r.listed r.alphabet o.stable;
      offered = λ e. (
        λ m. let offer = (o.offered e).0 m in let q = t.complete r.number d.term (visible e) offer.0 r.listed (subst (λ y. ComponentStep Step y (visible e) offer.0) (stands c d r.alphabet) offer.1) in (q.number, q.step),
        λ offer. let x = step_up Step c terms raw r.number offer.0 (visible e) d.term t r.listed offer.1 in (o.offered e).1 (standing_at c x.0, subst (λ y. ComponentStep Step y (visible e) (standing_at c x.0)) (sym (stands c d r.alphabet)) x.1),
      );
    }

pub acceptance_up : {T : Type 0} (Step : T → Label → T → Type 0) (c : Component T) (terms : List T) (raw : RawTable) (s M : List ℕ) → IsTableOf Step c terms raw → IsAcceptance (RawStep raw) 0 s M → IsAcceptance (ComponentStep Step) c s M
acceptance_up Step c terms raw s M t a = record { offer = offer_up Step c terms raw s M t a.offer; least = λ N o within. a.least N (offer_down Step c terms raw s N t o) within }

pub acceptance_down : {T : Type 0} (Step : T → Label → T → Type 0) (c : Component T) (terms : List T) (raw : RawTable) (s M : List ℕ) → IsTableOf Step c terms raw → IsAcceptance (ComponentStep Step) c s M → IsAcceptance (RawStep raw) 0 s M
acceptance_down Step c terms raw s M t a = record { offer = offer_down Step c terms raw s M t a.offer; least = λ N o within. a.least N (offer_up Step c terms raw s N t o) within }

-- where traces and acceptances are the same, futures are
same_future : {S R : Type 0} (Step : S → Label → S → Type 0) (x : S) (Other : R → Label → R → Type 0) (y : R) → ((s : List ℕ) → IsTrace Step x s ↔ IsTrace Other y s) → ((s M : List ℕ) → IsAcceptance Step x s M ↔ IsAcceptance Other y s M)
    → (s w : List ℕ) → HaveSameFuture Step x s w → HaveSameFuture Other y s w
same_future Step x Other y traces acceptances s w f = record {
  traces = λ v. (λ h. (traces (w ++ v)).0 ((f.traces v).0 ((traces (s ++ v)).1 h)), λ h. (traces (s ++ v)).0 ((f.traces v).1 ((traces (w ++ v)).1 h)));
  acceptances = λ v M. (
    λ h. (acceptances (w ++ v) M).0 ((f.acceptances v M).0 ((acceptances (s ++ v) M).1 h)),
    λ h. (acceptances (s ++ v) M).0 ((f.acceptances v M).1 ((acceptances (w ++ v) M).1 h)),
  );
}

pub future_up : {T : Type 0} (Step : T → Label → T → Type 0) (c : Component T) (terms : List T) (raw : RawTable) (s w : List ℕ) → IsTableOf Step c terms raw → HaveSameFuture (RawStep raw) 0 s w → HaveSameFuture (ComponentStep Step) c s w
future_up Step c terms raw s w t = same_future (RawStep raw) 0 (ComponentStep Step) c (λ v. (trace_up Step c terms raw v t, trace_down Step c terms raw v t)) (λ v M. (acceptance_up Step c terms raw v M t, acceptance_down Step c terms raw v M t)) s w

pub future_down : {T : Type 0} (Step : T → Label → T → Type 0) (c : Component T) (terms : List T) (raw : RawTable) (s w : List ℕ) → IsTableOf Step c terms raw → HaveSameFuture (ComponentStep Step) c s w → HaveSameFuture (RawStep raw) 0 s w
future_down Step c terms raw s w t = same_future (ComponentStep Step) c (RawStep raw) 0 (λ v. (trace_down Step c terms raw v t, trace_up Step c terms raw v t)) (λ v M. (acceptance_down Step c terms raw v M t, acceptance_up Step c terms raw v M t)) s w

pub normal_tables_carry_over : {T : Type 0} (Step : T → Label → T → Type 0) → NormalTablesCarryOver Step
normal_tables_carry_over Step c terms raw most table t normal = record {
  traces = λ s. (
    λ h. (normal.traces s).0 (trace_down Step c terms raw s t h),
    λ run. trace_up Step c terms raw s t ((normal.traces s).1 run),
  );
  classes = λ s w h k.
      let same = normal.classes s w (trace_down Step c terms raw s t h) (trace_down Step c terms raw w t k) in
      (λ e. future_up Step c terms raw s w t (same.0 e), λ f. same.1 (future_down Step c terms raw s w t f));
  acceptances = record {
    sound = λ s k h within. acceptance_up Step c terms raw s (get_or (acceptances_after table s) k []) t (normal.acceptances.sound s k (trace_down Step c terms raw s t h) within);
    complete = λ s M a. normal.acceptances.complete s M (acceptance_down Step c terms raw s M t a);
    covered = λ s d a stable.
        let r = run_down Step c terms raw a.0 c d 0 t t.first refl a.1 in
        offers_up Step c terms raw d r.number (acceptances_after table s) t r.listed r.alphabet
        (normal.acceptances.covered s r.number (a.0, r.path, a.2) (stable_down Step c terms raw d r.number t r.listed r.alphabet stable));
  };
  rising = normal.rising;
  breadth_first = normal.breadth_first;
  reached = normal.reached;
  few = normal.few;
}
