-- A network with a good ranking is live, with its silent bound.
--
-- Take a reached state. The run to it, projected on each component's alphabet, is a trace of that component, so a run of its
-- table. The silent steps in a row from there are shared out among the components. If there is none, each component is
-- stable, so it offers every event of an acceptance of the node where its table is, and that acceptance is not empty. Since
-- ranks fall along ungranted requests, an event is agreed by all that have it. Each of them offers it, so the network has it.
use Rattle.net_sound.proofs.Prelude.{◌≡◌, ℕ, zero, suc, ◌<◌, inl, inr, List, [], ◌∷◌, Some, slice_get, get_or, length, IsTrue, MatchBool, replicate, refl, sym, ap, ap₂, subst, ◌∙◌, arith, cases_Bool, or_left, or_right, get_or_from_slice_get, slice_get_within, none-some, same_Some, has, Label, silent, visible, Path, Stable, Component, ComponentStep, Tree, NetworkStep, leaves, in_some_component, OneMoves, AllTakePart, FlatStep, visible_events, After, Offers, Part, part_at, alphabets_of, project, IsNonEmpty, TripleDisjoint, Follows, Stands, AllStand, IsAgreed, acceptance, acceptances_of, OffersAcceptance, HasBehaviour, HaveBehaviours, Ranking, IsGoodRanking, silent_path, path_silent, ComesAlong, RunsAreTraces, RunsAreJoint, SilenceIsBounded, GoodRankingsMeanLive}
use Rattle.net_sound.proofs.FlatLists.{alphabets, match_true, match_false, step_alphabet}
use Rattle.net_sound.proofs.Flattening.{back}
use Rattle.net_sound.proofs.Local.{AllAfter, all_after, shares, at_most, run_forth, run_kept}
use Rattle.net_sound.proofs.Stuck.{none_is_stuck}

-- ---- runs

along : {T : Type 0} (Step : T → Label → T → Type 0) (ls : List Label) (cs ds : List (Component T)) (u : Tree T) (i k : ℕ) (c : Component T) → AllAfter Step (visible_events ls) cs ds → slice_get cs i ≡ Some c → ((d : Component T) → slice_get ds i ≡ Some d → slice_get (leaves u) k ≡ Some d) → ComesAlong Step c ls u k
along Step ls [] ds u i k c a h there = absurd (none-some c h)
along Step ls (x ∷ cs) [] u i k c a h there = absurd a
along Step ls (x ∷ cs) (d ∷ ds) u zero k c a h there =
    record { state = d; placed = there d refl; after = subst (λ (y : Component _). After (ComponentStep Step) y (project y.alphabet (visible_events ls)) d) (same_Some x c h) a.0 }
along Step ls (x ∷ cs) (d ∷ ds) u (suc i) k c a h there = along Step ls cs ds u i k c a.1 h there

pub runs_are_traces : {T : Type 0} (Step : T → Label → T → Type 0) → RunsAreTraces Step
runs_are_traces Step t u ls i c w run here = along Step ls (leaves t) (leaves u) u i i c (all_after Step ls (leaves t) (leaves u) (run_forth Step ls t u w run)) here (λ d h. h)

follows : {T : Type 0} (Step : T → Label → T → Type 0) (s : List ℕ) (cs ds : List (Component T)) (ps : List Part) (i : ℕ) → AllAfter Step s cs ds → HaveBehaviours Step cs ps → i < length ps → Follows (part_at ps i) s
follows Step s [] ds [] i a b h = absurd (omega arith)
follows Step s (c ∷ cs) [] ps i a b h = absurd a
follows Step s (c ∷ cs) (d ∷ ds) (p ∷ ps) zero a b h = b.0.traces (project p.alphabet s) (d, subst (λ al. After (ComponentStep Step) c (project al s) d) b.0.alphabet a.0)
follows Step s (c ∷ cs) (d ∷ ds) (p ∷ ps) (suc i) a b h = follows Step s cs ds ps i a.1 b.1 (omega arith)
follows Step s _ _ _ i a b h = absurd b

pub runs_are_joint : {T : Type 0} (Step : T → Label → T → Type 0) → RunsAreJoint Step
runs_are_joint Step t u ls parts i j w run b h k =
    let a = all_after Step ls (leaves t) (leaves u) (run_forth Step ls t u w run) in
    record { left = follows Step (visible_events ls) (leaves t) (leaves u) parts i a b h; right = follows Step (visible_events ls) (leaves t) (leaves u) parts j a b k }

pub silence_is_bounded : {T : Type 0} (Step : T → Label → T → Type 0) → SilenceIsBounded Step
silence_is_bounded Step t u v n bound w b r h =
    at_most Step (visible_events r.0) n (leaves t) (leaves u) (leaves v) bound
    (all_after Step r.0 (leaves t) (leaves u) (run_forth Step r.0 t u w r.1))
    (shares Step n (leaves u) (leaves v) (path_silent (FlatStep Step) n (leaves u) (leaves v) (run_forth Step (replicate n silent) u v (run_kept Step r.0 t u w r.1) (silent_path (NetworkStep Step) n u v h)))) b

-- ---- stable states

abbrev AllStable : {T : Type 0} → (T → Label → T → Type 0) → List (Component T) → Type 0
AllStable Step [] = Unit {0}
AllStable Step (d ∷ ds) = Stable (ComponentStep Step) d × AllStable Step ds

all_stable : {T : Type 0} (Step : T → Label → T → Type 0) (ds : List (Component T)) → ((es : List (Component T)) → OneMoves Step ds es → ⊥) → AllStable Step ds
all_stable Step [] h = tt
all_stable Step (d ∷ ds) h = ((λ e k. h (e ∷ ds) (inl (k, refl))), all_stable Step ds (λ es k. h (d ∷ es) (inr (refl, k))))

pub path_alphabet : {T : Type 0} (Step : T → Label → T → Type 0) (ls : List Label) (c d : Component T) → Path (ComponentStep Step) c ls d → c.alphabet ≡ d.alphabet
path_alphabet Step [] c d h = ap (λ (x : Component _). x.alphabet) h
path_alphabet Step (l ∷ ls) c d h = step_alphabet Step c l h.0 h.1 ∙ path_alphabet Step ls h.0 d h.2

-- the component stands where its table does, and offers the acceptance in place k
record OffersAt {T : Type 0} (Step : T → Label → T → Type 0) (s : List ℕ) (d : Component T) (p : Part) (k : ℕ) : Type 0 where
  alphabet : d.alphabet ≡ p.alphabet
  stands : Stands p s k
  offered : (e : ℕ) → IsTrue (has (acceptance p s k) e) → Offers (ComponentStep Step) d e

offers_at : {T : Type 0} (Step : T → Label → T → Type 0) (s : List ℕ) (c d : Component T) (p : Part) → HasBehaviour Step c p → After (ComponentStep Step) c (project p.alphabet s) d → (o : OffersAcceptance (ComponentStep Step) d (acceptances_of p s)) → OffersAt Step s d p o.place
offers_at Step s c d p b a o =
    let is : acceptance p s o.place ≡ o.acceptance = get_or_from_slice_get (acceptances_of p s) o.place o.acceptance [] o.listed in
    record {
      alphabet = sym (path_alphabet Step a.0 c d a.1) ∙ b.alphabet;
      stands = record {
        follows = b.traces (project p.alphabet s) (d, a);
        listed = slice_get_within (acceptances_of p s) o.place o.acceptance o.listed;
        some = subst IsNonEmpty (sym is) (b.busy (project p.alphabet s) o.acceptance o.place (d, a) o.listed);
      };
      offered = λ e h. o.offered e (subst (λ M. IsTrue (has M e)) is h);
    }

abbrev AllOffer : {T : Type 0} → (T → Label → T → Type 0) → List ℕ → List (Component T) → List Part → List ℕ → Type 0
AllOffer Step s [] [] ks = Unit {0}
AllOffer Step s (d ∷ ds) (p ∷ ps) (k ∷ ks) = OffersAt Step s d p k × AllOffer Step s ds ps ks
AllOffer Step s _ _ _ = ⊥

choose : {T : Type 0} (Step : T → Label → T → Type 0) (s : List ℕ) (cs ds : List (Component T)) (ps : List Part) → AllAfter Step s cs ds → AllStable Step ds → HaveBehaviours Step cs ps → (ks : List ℕ) × AllOffer Step s ds ps ks
choose Step s [] [] [] a st b = ([], tt)
choose Step s [] (d ∷ ds) ps a st b = absurd a
choose Step s (c ∷ cs) [] ps a st b = absurd a
choose Step s (c ∷ cs) (d ∷ ds) (p ∷ ps) a st b =
    let here = subst (λ al. After (ComponentStep Step) c (project al s) d) b.0.alphabet a.0 in
    let o = b.0.accepts (project p.alphabet s) d here st.0 in
    let rest = choose Step s cs ds ps a.1 st.1 b.1 in
    (o.place ∷ rest.0, (offers_at Step s c d p b.0 here o, rest.1))
choose Step s _ _ _ a st b = absurd b

abbrev place : List ℕ → ℕ → ℕ
place ks i = get_or ks i 0

stand : {T : Type 0} (Step : T → Label → T → Type 0) (s : List ℕ) (ds : List (Component T)) (ps : List Part) (ks : List ℕ) → AllOffer Step s ds ps ks → AllStand ps s (place ks)
stand Step s [] [] ks o i h = absurd (omega arith)
stand Step s (d ∷ ds) (p ∷ ps) (k ∷ ks) o zero h = o.0.stands
stand Step s (d ∷ ds) (p ∷ ps) (k ∷ ks) o (suc i) h = stand Step s ds ps ks o.1 i (omega arith)
stand Step s _ _ _ o i h = absurd o

-- ---- the step that an agreed event is

part : {T : Type 0} (Step : T → Label → T → Type 0) (s : List ℕ) (e : ℕ) (d : Component T) (p : Part) (k : ℕ) → OffersAt Step s d p k → (IsTrue (has p.alphabet e) → IsTrue (has (acceptance p s k) e)) → (x : Component T) × MatchBool (has d.alphabet e) (ComponentStep Step d (visible e) x) (d ≡ x)
part Step s e d p k o agreed =
    elim (cases_Bool (has d.alphabet e)) [
      | inl owned ↦
          let x = o.offered e (agreed (subst (λ al. IsTrue (has al e)) o.alphabet owned)) in
          (x.0, match_true (has d.alphabet e) _ _ owned x.1)
      | inr strange ↦ (d, match_false (has d.alphabet e) _ _ strange refl)
    ]

take_part : {T : Type 0} (Step : T → Label → T → Type 0) (s : List ℕ) (e : ℕ) (ds : List (Component T)) (ps : List Part) (ks : List ℕ) → AllOffer Step s ds ps ks → ((j : ℕ) → j < length ps → IsTrue (has (part_at ps j).alphabet e) → IsTrue (has (acceptance (part_at ps j) s (place ks j)) e)) → (xs : List (Component T)) × AllTakePart Step e ds xs
take_part Step s e [] ps ks o agreed = ([], tt)
take_part Step s e (d ∷ ds) (p ∷ ps) (k ∷ ks) o agreed =
    let first = part Step s e d p k o.0 (agreed 0 (omega arith)) in
    let rest = take_part Step s e ds ps ks o.1 (λ j h. agreed (suc j) (omega arith)) in
    (first.0 ∷ rest.0, (first.1, rest.1))
take_part Step s e _ _ _ o agreed = absurd o

owned : {T : Type 0} (Step : T → Label → T → Type 0) (s : List ℕ) (e : ℕ) (ds : List (Component T)) (ps : List Part) (ks : List ℕ) (i : ℕ) → AllOffer Step s ds ps ks → i < length ps → IsTrue (has (part_at ps i).alphabet e) → IsTrue (in_some_component ds e)
owned Step s e [] [] ks i o h x = absurd (omega arith)
owned Step s e (d ∷ ds) (p ∷ ps) (k ∷ ks) zero o h x = or_left _ _ (subst (λ al. IsTrue (has al e)) (sym o.0.alphabet) x)
owned Step s e (d ∷ ds) (p ∷ ps) (k ∷ ks) (suc i) o h x = or_right _ _ (owned Step s e ds ps ks i o.1 (omega arith) x)
owned Step s e _ _ _ i o h x = absurd o

agreed_step : {T : Type 0} (Step : T → Label → T → Type 0) (s : List ℕ) (e : ℕ) (ds : List (Component T)) (ps : List Part) (ks : List ℕ) → AllOffer Step s ds ps ks → IsAgreed ps s (place ks) e → (xs : List (Component T)) × FlatStep Step ds (visible e) xs
agreed_step Step s e ds ps ks o g =
    let r = take_part Step s e ds ps ks o g.agreed in
    (r.0, (owned Step s e ds ps ks g.owner o g.within g.owned, r.1))

pub same_alphabets : {T : Type 0} (Step : T → Label → T → Type 0) (cs : List (Component T)) (ps : List Part) → HaveBehaviours Step cs ps → alphabets cs ≡ alphabets_of ps
same_alphabets Step [] [] b = refl
same_alphabets Step (c ∷ cs) (p ∷ ps) b = ap₂ (λ x xs. x ∷ xs) b.0.alphabet (same_alphabets Step cs ps b.1)
same_alphabets Step _ _ b = absurd b

some_parts : {T : Type 0} (Step : T → Label → T → Type 0) (cs : List (Component T)) (ps : List Part) → HaveBehaviours Step cs ps → 0 < length cs → 0 < length ps
some_parts Step [] ps b h = absurd (omega arith)
some_parts Step (c ∷ cs) [] b h = absurd b
some_parts Step (c ∷ cs) (p ∷ ps) b h = omega arith

flat_moves : {T : Type 0} (Step : T → Label → T → Type 0) (s : List ℕ) (cs ds : List (Component T)) (ps : List Part) (ranking : Ranking) → 0 < length cs → TripleDisjoint (alphabets cs) → IsGoodRanking Step cs ps ranking → AllAfter Step s cs ds → AllStable Step ds → (e : ℕ) × (xs : List (Component T)) × FlatStep Step ds (visible e) xs
flat_moves Step s cs ds ps ranking some triple good a st =
    let c = choose Step s cs ds ps a st good.behaviours in
    let g = none_is_stuck ps ranking (some_parts Step cs ps good.behaviours some) good.form (subst TripleDisjoint (same_alphabets Step cs ps good.behaviours) triple) good.falls s (place c.0) (stand Step s ds ps c.0 c.1) in
    let m = agreed_step Step s g.0 ds ps c.0 c.1 g.1 in
    (g.0, m.0, m.1)

pub good_rankings_mean_live : {T : Type 0} (Step : T → Label → T → Type 0) → GoodRankingsMeanLive Step
good_rankings_mean_live Step tree bound parts ranking sound good = record {
  quiet = λ u v n r h. silence_is_bounded Step tree u v n bound sound.nested sound.silence r h;
  moves = λ u r stable.
      let w = run_kept Step r.0 tree u sound.nested r.1 in
      let a = all_after Step r.0 (leaves tree) (leaves u) (run_forth Step r.0 tree u sound.nested r.1) in
      let st = all_stable Step (leaves u) (λ es k. let x = back Step u silent es w k in stable x.tree x.step) in
      let m = flat_moves Step (visible_events r.0) (leaves tree) (leaves u) parts ranking sound.some sound.triple good a st in
      let x = back Step u (visible m.0) m.1 w m.2 in
      (m.0, x.tree, x.step);
}
