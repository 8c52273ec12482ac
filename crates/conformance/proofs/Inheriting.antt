-- The freedom from deadlock that a network inherits from a specified one.
use Rattle.conformance.proofs.Prelude.{◌≡◌, ℕ, inl, inr, List, [], ◌∷◌, ◌||◌, IsTrue, MatchBool, get_or, true, false, refl, sym, ap, ap₂, subst, ◌∙◌, get_or_from_slice_get, has, Label, silent, visible, Stable, Component, ComponentStep, NetworkStep, leaves, in_some_component, OneMoves, AllTakePart, Part, project, ArePartsOf, IsPartOf, acceptances_after, visible_events, After, IsAcceptance, Offers, alphabets, by_test, match_true, match_false, back, forth, AllAfter, all_after, run_forth, run_kept, path_alphabet, silence_is_bounded, AllConform, Conforms, slice_get_within, ConformingNetworksAreLive}
use Rattle.conformance.proofs.Composing.{composed, owned_along, run_back, run_owned}

-- ---- stable states

abbrev AllStable : {T : Type 0} → (T → Label → T → Type 0) → List (Component T) → Type 0
AllStable Step [] = Unit {0}
AllStable Step (d ∷ ds) = Stable (ComponentStep Step) d × AllStable Step ds

all_stable : {T : Type 0} (Step : T → Label → T → Type 0) (ds : List (Component T)) → ((es : List (Component T)) → OneMoves Step ds es → ⊥) → AllStable Step ds
all_stable Step [] h = tt
all_stable Step (d ∷ ds) h = ((λ e k. h (e ∷ ds) (inl (k, refl))), all_stable Step ds (λ es k. h (d ∷ es) (inr (refl, k))))

none_moves : {T : Type 0} (Step : T → Label → T → Type 0) (ds es : List (Component T)) → AllStable Step ds → OneMoves Step ds es → ⊥
none_moves Step [] es st h = h
none_moves Step (d ∷ ds) [] st h = h
none_moves Step (d ∷ ds) (e ∷ es) st (inl h) = st.0 e h.0
none_moves Step (d ∷ ds) (e ∷ es) st (inr h) = none_moves Step ds es st.1 h.1

-- ---- where a specification can stand, after the same events

-- The specification y stands stable after s, and offers only what x offers.
record StandsBelow {T U : Type 0} (Step : T → Label → T → Type 0) (Specified : U → Label → U → Type 0) (d : Component U) (s : List ℕ) (x : Component T) : Type 0 where
  state : Component U
  after : After (ComponentStep Specified) d s state
  stable : Stable (ComponentStep Specified) state
  alphabet : x.alphabet ≡ state.alphabet
  offers : (e : ℕ) → Offers (ComponentStep Specified) state e → Offers (ComponentStep Step) x e

stands_below : {T U : Type 0} (Step : T → Label → T → Type 0) (Specified : U → Label → U → Type 0) (c x : Component T) (d : Component U) (p : Part) (s : List ℕ) → IsPartOf Step c p → Conforms Step Specified c d → After (ComponentStep Step) c s x → Stable (ComponentStep Step) x → StandsBelow Step Specified d s x
stands_below Step Specified c x d p s part conforms a st =
    let o = part.table.acceptances.covered s x a st in
    let M = acceptances_after p.table s in
    let is : get_or M o.place [] ≡ o.acceptance = get_or_from_slice_get M o.place o.acceptance [] o.listed in
    let acceptance : IsAcceptance (ComponentStep Step) c s o.acceptance = subst (λ N. IsAcceptance (ComponentStep Step) c s N) is (part.table.acceptances.sound s o.place (x, a) (slice_get_within M o.place o.acceptance o.listed)) in
    let within = conforms.acceptances s o.acceptance acceptance in
    let offer = within.acceptance.offer in
    record {
      state = offer.state;
      after = offer.reached;
      stable = offer.stable;
      alphabet = sym (path_alphabet Step a.0 c x a.1) ∙ conforms.alphabet ∙ path_alphabet Specified offer.reached.0 d offer.state offer.reached.1;
      offers = λ e h. o.offered e (within.within e ((offer.offered e).1 h));
    }

record AllBelow {T U : Type 0} (Step : T → Label → T → Type 0) (Specified : U → Label → U → Type 0) (ds : List (Component U)) (s : List ℕ) (xs : List (Component T)) : Type 0 where
  states : List (Component U)
  after : AllAfter Specified s ds states
  stable : AllStable Specified states
  alphabet : alphabets xs ≡ alphabets states
  take_part : (e : ℕ) (ys : List (Component U)) → AllTakePart Specified e states ys → (zs : List (Component T)) × AllTakePart Step e xs zs

one_takes_part : {T U : Type 0} (Step : T → Label → T → Type 0) (Specified : U → Label → U → Type 0) (d : Component U) (s : List ℕ) (x : Component T) (b : StandsBelow Step Specified d s x) (e : ℕ) (y : Component U) → MatchBool (has b.state.alphabet e) (ComponentStep Specified b.state (visible e) y) (b.state ≡ y) → (z : Component T) × MatchBool (has x.alphabet e) (ComponentStep Step x (visible e) z) (x ≡ z)
one_takes_part Step Specified d s x b e y h =
    elim (by_test (has b.state.alphabet e) h) [
      | inl k ↦
          let o = b.offers e (y, k.1) in
          (o.0, match_true (has x.alphabet e) _ _ (subst (λ al. has al e ≡ true) (sym b.alphabet) k.0) o.1)
      | inr k ↦ (x, match_false (has x.alphabet e) _ _ (subst (λ al. has al e ≡ false) (sym b.alphabet) k.0) refl)
    ]

all_below : {T U : Type 0} (Step : T → Label → T → Type 0) (Specified : U → Label → U → Type 0) (cs xs : List (Component T)) (ds : List (Component U)) (ps : List Part) (s : List ℕ) → ArePartsOf Step cs ps → AllConform Step Specified cs ds → AllAfter Step s cs xs → AllStable Step xs → AllBelow Step Specified ds s xs
all_below Step Specified [] [] [] ps s parts conform a st = record { states = []; after = tt; stable = tt; alphabet = refl; take_part = λ e ys h. ([], tt) }
all_below Step Specified [] [] (d ∷ ds) ps s parts conform a st = absurd conform
all_below Step Specified [] (x ∷ xs) ds ps s parts conform a st = absurd a
all_below Step Specified (c ∷ cs) [] ds ps s parts conform a st = absurd a
all_below Step Specified (c ∷ cs) (x ∷ xs) [] ps s parts conform a st = absurd conform
all_below Step Specified (c ∷ cs) (x ∷ xs) (d ∷ ds) [] s parts conform a st = absurd parts
all_below Step Specified (c ∷ cs) (x ∷ xs) (d ∷ ds) (p ∷ ps) s parts conform a st =
    let one = stands_below Step Specified c x d p (project c.alphabet s) parts.0 conform.0 a.0 st.0 in
    let more = all_below Step Specified cs xs ds ps s parts.1 conform.1 a.1 st.1 in
    record {
      states = one.state ∷ more.states;
      after = (subst (λ al. After (ComponentStep Specified) d (project al s) one.state) conform.0.alphabet one.after, more.after);
      stable = (one.stable, more.stable);
      alphabet = ap₂ (λ a as'. a ∷ as') one.alphabet more.alphabet;
      take_part = λ e ys. elim ys as (λ zs. AllTakePart Specified e (one.state ∷ more.states) zs → (ws : List (Component _)) × AllTakePart Step e (x ∷ xs) ws) [
        | [] ↦ λ h. absurd h
        | (y ∷ zs) ↦ λ h.
            let first = one_takes_part Step Specified d (project c.alphabet s) x one e y h.0 in
            let rest = more.take_part e zs h.1 in
            (first.0 ∷ rest.0, (first.1, rest.1))
      ];
    }

same_alphabets : {T U : Type 0} (Step : T → Label → T → Type 0) (Specified : U → Label → U → Type 0) (cs : List (Component T)) (ds : List (Component U)) → AllConform Step Specified cs ds → alphabets cs ≡ alphabets ds
same_alphabets Step Specified [] [] h = refl
same_alphabets Step Specified [] (d ∷ ds) h = absurd h
same_alphabets Step Specified (c ∷ cs) [] h = absurd h
same_alphabets Step Specified (c ∷ cs) (d ∷ ds) h = ap₂ (λ a as'. a ∷ as') h.0.alphabet (same_alphabets Step Specified cs ds h.1)

-- whether an event is in an alphabet goes by the alphabets alone, whatever the terms are
same_some2 : {T U : Type 0} (cs : List (Component T)) (ds : List (Component U)) (e : ℕ) → alphabets cs ≡ alphabets ds → in_some_component cs e ≡ in_some_component ds e
same_some2 [] [] e h = refl
same_some2 [] (d ∷ ds) e h = absurd (let no : ◌≡◌ {A = List (List ℕ)} [] (d.alphabet ∷ alphabets ds) = h in cc)
same_some2 (c ∷ cs) [] e h = absurd (let no : ◌≡◌ {A = List (List ℕ)} (c.alphabet ∷ alphabets cs) [] = h in cc)
same_some2 (c ∷ cs) (d ∷ ds) e h =
    let first : c.alphabet ≡ d.alphabet = cc in
    let rest : alphabets cs ≡ alphabets ds = cc in
    ap₂ (λ a b. a || b) (ap (λ al. has al e) first) (same_some2 cs ds e rest)

-- ---- the network

pub conforming_networks_are_live : {T U : Type 0} (Step : T → Label → T → Type 0) (Specified : U → Label → U → Type 0) → ConformingNetworksAreLive Step Specified
conforming_networks_are_live Step Specified tree other parts bound some w v are conform silence live = record {
  quiet = λ u x n r h. silence_is_bounded Step tree u x n bound w silence r h;
  moves = λ u r stable.
      let run = run_forth Step r.0 tree u w r.1 in
      let nested = run_kept Step r.0 tree u w r.1 in
      let s = visible_events r.0 in
      let a = all_after Step r.0 (leaves tree) (leaves u) run in
      let st = all_stable Step (leaves u) (λ es k. let x = back Step u silent es nested k in stable x.tree x.step) in
      let below = all_below Step Specified (leaves tree) (leaves u) (leaves other) parts s are conform a st in
      let owned = owned_along (leaves tree) (leaves other) s (λ e. same_some2 (leaves tree) (leaves other) e (same_alphabets Step Specified (leaves tree) (leaves other) conform)) (run_owned Step r.0 (leaves tree) (leaves u) run) in
      let c = composed Specified s (leaves other) below.states owned below.after in
      let t = run_back Specified c.0 other below.states v c.1 in
      let rests : Stable (NetworkStep Specified) t.tree = λ y h. none_moves Specified (leaves t.tree) (leaves y) (subst (AllStable Specified) (sym t.whole) below.stable) (forth Specified t.tree silent y t.nested h) in
      let m = live.moves t.tree (c.0, t.run) rests in
      let step = forth Specified t.tree (visible m.0) m.1 t.nested m.2 in
      let part = below.take_part m.0 (leaves m.1) (subst (λ zs. AllTakePart Specified m.0 zs (leaves m.1)) t.whole step.1) in
      let here = subst IsTrue (ap (λ zs. in_some_component zs m.0) t.whole ∙ sym (same_some2 (leaves u) below.states m.0 below.alphabet)) step.0 in
      let x = back Step u (visible m.0) part.0 nested (here, part.1) in
      (m.0, x.tree, x.step);
}
