-- What the normal tables of components tell of the components.
use Rattle.conformance.proofs.Prelude.{◌≡◌, ℕ, List, [], get_or, IsTrue, subst, has, Label, Component, ComponentStep, Part, IsPartOf, acceptances_after, IsTrace, AcceptsWithin, Conforms, HasWithin, RefusesAfter, RunsOutside, TableConforms, FaultsRefute, GoesOutside, RefusesTooMuch, TablesTell}

module _ {T : Type 0} (Step : T → Label → T → Type 0) (c : Component T) (p : Part) (of : IsPartOf Step c p) where
  -- a set of the table that lies within M is an acceptance within M
  pub accepts_within : (s M : List ℕ) → IsTrace (ComponentStep Step) c s → HasWithin (acceptances_after p.table s) M → AcceptsWithin (ComponentStep Step) c s M
  accepts_within s M trace h = record { set = get_or (acceptances_after p.table s) h.place []; acceptance = of.table.acceptances.sound s h.place trace h.within; within = h.lies }

  -- and back
  pub has_within : (s M : List ℕ) → AcceptsWithin (ComponentStep Step) c s M → HasWithin (acceptances_after p.table s) M
  has_within s M h =
      let l = of.table.acceptances.complete s h.set h.acceptance in
      record { place = l.place; within = l.within; lies = λ e k. h.within e (subst (λ b. IsTrue b) (l.members e) k) }

within_same : (sets : List (List ℕ)) (M N : List ℕ) → ((e : ℕ) → has M e ≡ has N e) → HasWithin sets M → HasWithin sets N
within_same sets M N same h = record { place = h.place; within = h.within; lies = λ e k. subst (λ b. IsTrue b) (same e) (h.lies e k) }

module _ {T U : Type 0} (Step : T → Label → T → Type 0) (Specified : U → Label → U → Type 0) where
  conforms : (c : Component T) (d : Component U) (p q : Part) → IsPartOf Step c p → IsPartOf Specified d q → c.alphabet ≡ d.alphabet → TableConforms p.table q.table → Conforms Step Specified c d
  conforms c d p q of other alphabet h = record {
    alphabet = alphabet;
    traces = λ s t. (other.table.traces s).1 (h.runs s ((of.table.traces s).0 t));
    acceptances = λ s M accepted.
        let trace : IsTrace (ComponentStep Step) c s = (accepted.offer.state, accepted.offer.reached) in
        let run = (of.table.traces s).0 trace in
        let l = of.table.acceptances.complete s M accepted in
        accepts_within Specified d q other s M ((other.table.traces s).1 (h.runs s run))
        (within_same (acceptances_after q.table s) (get_or (acceptances_after p.table s) l.place []) M l.members (h.acceptances s l.place run l.within));
  }

  outside : (c : Component T) (d : Component U) (p q : Part) (s : List ℕ) → IsPartOf Step c p → IsPartOf Specified d q → RunsOutside p.table q.table s → GoesOutside Step Specified c d s
  outside c d p q s of other h = record {
    front = h.front;
    last = h.last;
    is = h.is;
    inside = (other.table.traces h.front).1 h.inside;
    does = (of.table.traces s).1 h.runs;
    outside = λ t. h.outside ((other.table.traces s).0 t);
  }

  refuses : (c : Component T) (d : Component U) (p q : Part) (s : List ℕ) → IsPartOf Step c p → IsPartOf Specified d q → RefusesAfter p.table q.table s → RefusesTooMuch Step Specified c d s
  refuses c d p q s of other h = record {
    inside = λ t k. (other.table.traces t).1 (h.inside t ((of.table.traces t).0 k));
    acceptance = get_or (acceptances_after p.table s) h.place [];
    accepts = of.table.acceptances.sound s h.place ((of.table.traces s).1 h.runs) h.within;
    refuses = λ k. h.refuses (has_within Specified d q other s (get_or (acceptances_after p.table s) h.place []) k);
  }

  pub tables_tell : TablesTell Step Specified
  tables_tell = record { conforms = conforms; outside = outside; refuses = refuses }

  pub faults_refute : FaultsRefute Step Specified
  faults_refute = record {
    outside = λ c d s h f. f.outside (h.traces s f.does);
    refuses = λ c d s h f. f.refuses (h.acceptances s f.acceptance f.accepts);
    both = λ c d s t f g. f.outside (g.inside s f.does);
  }
