-- What a run of the network is for each of its components: steps of that component alone, whose events are the run's
-- events in the component's alphabet. And how many of the silent steps in a row are the component's.
use Rattle.net_sound.proofs.Prelude.{◌≡◌, ℕ, zero, suc, ◌+◌, ◌≤◌, inl, inr, List, [], ◌∷◌, MatchBool, refl, sym, ap, subst, ◌∙◌, arith, cond-true, cond-false, has, Label, silent, visible, Path, Reached, Silently, Component, ComponentStep, Tree, NetworkStep, leaves, OneMoves, AllTakePart, FlatStep, WellNested, IsSilentBound, visible_events, After, project}
use Rattle.net_sound.proofs.FlatLists.{by_test, step_alphabet}
use Rattle.net_sound.proofs.Flattening.{forth, kept}

-- ---- one component

after_silent : {T : Type 0} (Step : T → Label → T → Type 0) (c m d : Component T) (s : List ℕ) → ComponentStep Step c silent m → After (ComponentStep Step) m s d → After (ComponentStep Step) c s d
after_silent Step c m d s h a = (silent ∷ a.0, (m, h, a.1), a.2)

after_event : {T : Type 0} (Step : T → Label → T → Type 0) (c m d : Component T) (e : ℕ) (s : List ℕ) → ComponentStep Step c (visible e) m → After (ComponentStep Step) m s d → After (ComponentStep Step) c (e ∷ s) d
after_event Step c m d e s h a = (visible e ∷ a.0, (m, h, a.1), ap (λ w. e ∷ w) a.2)

-- the component's part of the network's event e, before a run with the events s
after_part : {T : Type 0} (Step : T → Label → T → Type 0) (c m d : Component T) (e : ℕ) (s : List ℕ) → MatchBool (has c.alphabet e) (ComponentStep Step c (visible e) m) (c ≡ m) → After (ComponentStep Step) m (project m.alphabet s) d → After (ComponentStep Step) c (project c.alphabet (e ∷ s)) d
after_part Step c m d e s h a =
    elim (by_test (has c.alphabet e) h) [
      | inl k ↦ subst (λ w. After (ComponentStep Step) c w d)
          (ap (λ al. e ∷ project al s) (sym (step_alphabet Step c (visible e) m k.1)) ∙ sym (cond-true (has c.alphabet e) (e ∷ project c.alphabet s) (project c.alphabet s) k.0))
          (after_event Step c m d e (project m.alphabet s) k.1 a)
      | inr k ↦ subst (λ w. After (ComponentStep Step) c w d)
          (sym (cond-false (has c.alphabet e) (e ∷ project c.alphabet s) (project c.alphabet s) k.0))
          (subst (λ (x : Component _). After (ComponentStep Step) x (project x.alphabet s) d) (sym k.1) a)
    ]

-- ---- all components

-- each component comes to its new state by its events of s
abbrev pub AllAfter : {T : Type 0} → (T → Label → T → Type 0) → List ℕ → List (Component T) → List (Component T) → Type 0
AllAfter Step s [] [] = Unit {0}
AllAfter Step s (c ∷ cs) (d ∷ ds) = After (ComponentStep Step) c (project c.alphabet s) d × AllAfter Step s cs ds
AllAfter Step s _ _ = ⊥

none_yet : {T : Type 0} (Step : T → Label → T → Type 0) (cs : List (Component T)) → AllAfter Step [] cs cs
none_yet Step [] = tt
none_yet Step (c ∷ cs) = (([], refl, refl), none_yet Step cs)

first_silent : {T : Type 0} (Step : T → Label → T → Type 0) (s : List ℕ) (cs ms ds : List (Component T)) → OneMoves Step cs ms → AllAfter Step s ms ds → AllAfter Step s cs ds
first_silent Step s (c ∷ cs) (m ∷ ms) [] h a = absurd a
first_silent Step s (c ∷ cs) (m ∷ ms) (d ∷ ds) (inl h) a = (
  subst (λ al. After (ComponentStep Step) c (project al s) d) (sym h.0.0) (after_silent Step c m d (project m.alphabet s) h.0 a.0),
  subst (λ xs. AllAfter Step s xs ds) (sym h.1) a.1,
)
first_silent Step s (c ∷ cs) (m ∷ ms) (d ∷ ds) (inr h) a =
    (subst (λ (x : Component _). After (ComponentStep Step) x (project x.alphabet s) d) (sym h.0) a.0, first_silent Step s cs ms ds h.1 a.1)
first_silent Step s _ _ ds h a = absurd h

first_event : {T : Type 0} (Step : T → Label → T → Type 0) (e : ℕ) (s : List ℕ) (cs ms ds : List (Component T)) → AllTakePart Step e cs ms → AllAfter Step s ms ds → AllAfter Step (e ∷ s) cs ds
first_event Step e s [] [] [] h a = tt
first_event Step e s [] (m ∷ ms) ds h a = absurd h
first_event Step e s (c ∷ cs) [] ds h a = absurd h
first_event Step e s (c ∷ cs) (m ∷ ms) (d ∷ ds) h a = (after_part Step c m d e s h.0 a.0, first_event Step e s cs ms ds h.1 a.1)
first_event Step e s _ _ _ h a = absurd a

-- each component after a run of the network
pub all_after : {T : Type 0} (Step : T → Label → T → Type 0) (ls : List Label) (cs ds : List (Component T)) → Path (FlatStep Step) cs ls ds → AllAfter Step (visible_events ls) cs ds
all_after Step [] cs ds h = subst (AllAfter Step [] cs) h (none_yet Step cs)
all_after Step (silent ∷ ls) cs ds h = first_silent Step (visible_events ls) cs h.0 ds h.1 (all_after Step ls h.0 ds h.2)
all_after Step (visible e ∷ ls) cs ds h = first_event Step e (visible_events ls) cs h.0 ds h.1.1 (all_after Step ls h.0 ds h.2)

-- ---- silent steps in a row

-- the silent steps are those of the components, n in all
abbrev pub Shares : {T : Type 0} → (T → Label → T → Type 0) → ℕ → List (Component T) → List (Component T) → Type 0
Shares Step n [] [] = n ≡ 0
Shares Step n (c ∷ cs) (d ∷ ds) = (own : ℕ) × (others : ℕ) × Silently (ComponentStep Step) own c d × Shares Step others cs ds × (n ≡ own + others)
Shares Step n _ _ = ⊥

no_shares : {T : Type 0} (Step : T → Label → T → Type 0) (cs : List (Component T)) → Shares Step 0 cs cs
no_shares Step [] = refl
no_shares Step (c ∷ cs) = (0, 0, refl, no_shares Step cs, refl)

one_more : {T : Type 0} (Step : T → Label → T → Type 0) (n : ℕ) (cs ms ds : List (Component T)) → OneMoves Step cs ms → Shares Step n ms ds → Shares Step (suc n) cs ds
one_more Step n (c ∷ cs) (m ∷ ms) [] h a = absurd a
one_more Step n (c ∷ cs) (m ∷ ms) (d ∷ ds) (inl h) a =
    (suc a.0, a.1, (m, h.0, a.2), subst (λ xs. Shares Step a.1 xs ds) (sym h.1) a.3, (let e : n ≡ a.0 + a.1 = a.4 in omega arith))
one_more Step n (c ∷ cs) (m ∷ ms) (d ∷ ds) (inr h) a =
    (a.0, suc a.1, subst (λ x. Silently (ComponentStep Step) a.0 x d) (sym h.0) a.2, one_more Step a.1 cs ms ds h.1 a.3, (let e : n ≡ a.0 + a.1 = a.4 in omega arith))
one_more Step n _ _ ds h a = absurd h

pub shares : {T : Type 0} (Step : T → Label → T → Type 0) (n : ℕ) (cs ds : List (Component T)) → Silently (FlatStep Step) n cs ds → Shares Step n cs ds
shares Step zero cs ds h = subst (Shares Step 0 cs) h (no_shares Step cs)
shares Step (suc n) cs ds h = one_more Step n cs h.0 ds h.1 (shares Step n h.0 ds h.2)

reached : {T : Type 0} (Step : T → Label → T → Type 0) (c : Component T) (s : List ℕ) (m : Component T) → After (ComponentStep Step) c s m → Reached (ComponentStep Step) c m
reached Step c s m a = (a.0, a.1)

-- from a reached state at most as many silent steps follow one another as the silent bound says
pub at_most : {T : Type 0} (Step : T → Label → T → Type 0) (s : List ℕ) (n : ℕ) (cs ms ds : List (Component T)) (bound : ℕ) → AllAfter Step s cs ms → Shares Step n ms ds → IsSilentBound Step cs bound → n ≤ bound
at_most Step s n [] [] [] bound a h b = omega arith
at_most Step s n [] (m ∷ ms) ds bound a h b = absurd a
at_most Step s n (c ∷ cs) [] ds bound a h b = absurd a
at_most Step s n (c ∷ cs) (m ∷ ms) (d ∷ ds) bound a h b =
    let mine : h.0 ≤ b.0 = b.2.most m d h.0 (reached Step c (project c.alphabet s) m a.0) h.2 in
    let theirs : h.1 ≤ b.1 = at_most Step s h.1 cs ms ds b.1 a.1 h.3 b.3 in
    let total : n ≡ h.0 + h.1 = h.4 in
    let whole : bound ≡ b.0 + b.1 = b.4 in
    omega arith
at_most Step s n _ _ _ bound a h b = absurd h

-- ---- the tree

-- a run of the tree is a run of its leaves, and the tree that it comes to is well nested
pub run_forth : {T : Type 0} (Step : T → Label → T → Type 0) (ls : List Label) (t u : Tree T) → WellNested t → Path (NetworkStep Step) t ls u → Path (FlatStep Step) (leaves t) ls (leaves u)
run_forth Step [] t u w h = ap leaves h
run_forth Step (l ∷ ls) t u w h = (leaves h.0, forth Step t l h.0 w h.1, run_forth Step ls h.0 u (kept Step t l h.0 w h.1) h.2)

pub run_kept : {T : Type 0} (Step : T → Label → T → Type 0) (ls : List Label) (t u : Tree T) → WellNested t → Path (NetworkStep Step) t ls u → WellNested u
run_kept Step [] t u w h = subst WellNested h w
run_kept Step (l ∷ ls) t u w h = run_kept Step ls h.0 u (kept Step t l h.0 w h.1) h.2
