-- Runs of components by themselves, put together to a run of the network: the same events in the same order, each component with those of its
-- alphabet, and silent steps between.
use Rattle.conformance.proofs.Prelude.{◌≡◌, ℕ, inl, inr, List, [], ◌∷◌, ◌++◌, true, IsTrue, MatchBool, refl, sym, ap, ap₂, subst, ◌∙◌, cases_Bool, cond-true, cond-false, has, Label, silent, visible, Path, Component, ComponentStep, NetworkStep, Tree, leaves, in_some_component, AllTakePart, FlatStep, project, visible_events, After, WellNested, alphabets, flat_alphabets, match_true, match_false, same_some, step_alphabet, back, kept, AllAfter, path_alphabet}

-- ---- paths

pub join_paths : {S : Type 0} (Step : S → Label → S → Type 0) (ls : List Label) (s t : S) (ms : List Label) (u : S) → Path Step s ls t → Path Step t ms u → Path Step s (ls ++ ms) u
join_paths Step [] s t ms u h k = subst (λ x. Path Step x ms u) (sym h) k
join_paths Step (l ∷ ls) s t ms u h k = (h.0, h.1, join_paths Step ls h.0 t ms u h.2 k)

events_joined : (ls ms : List Label) → visible_events (ls ++ ms) ≡ visible_events ls ++ visible_events ms
events_joined [] ms = refl
events_joined (silent ∷ ls) ms = events_joined ls ms
events_joined (visible e ∷ ls) ms = ap (λ s. e ∷ s) (events_joined ls ms)

-- a run without events
record Quietly {S : Type 0} (Step : S → Label → S → Type 0) (s t : S) : Type 0 where
  labels : List Label
  path : Path Step s labels t
  none : visible_events labels ≡ []

-- ---- a run of one component, taken apart at its first event

record Apart {S : Type 0} (Step : S → Label → S → Type 0) (c : S) (e : ℕ) (s : List ℕ) (d : S) : Type 0 where
  before : S
  after : S
  quiet : Quietly Step c before
  step : Step before (visible e) after
  rest : After Step after s d

taken_apart : {S : Type 0} (Step : S → Label → S → Type 0) (ls : List Label) (c d : S) (e : ℕ) (s : List ℕ) → Path Step c ls d → visible_events ls ≡ e ∷ s → Apart Step c e s d
taken_apart Step [] c d e s h k = absurd (let no : ◌≡◌ {A = List ℕ} [] (e ∷ s) = k in cc)
taken_apart Step (silent ∷ ls) c d e s h k =
    let r = taken_apart Step ls h.0 d e s h.2 k in
    record { before = r.before; after = r.after; quiet = record { labels = silent ∷ r.quiet.labels; path = (h.0, h.1, r.quiet.path); none = r.quiet.none }; step = r.step; rest = r.rest }
taken_apart Step (visible f ∷ ls) c d e s h k =
    let same : f ≡ e = cc in
    let more : visible_events ls ≡ s = cc in
    record { before = c; after = h.0; quiet = record { labels = []; path = refl; none = refl }; step = subst (λ x. Step c (visible x) h.0) same h.1; rest = (ls, h.2, more) }

-- ---- silent steps of one component, among the others

first_alone : {T : Type 0} (Step : T → Label → T → Type 0) (ls : List Label) (c d : Component T) (cs : List (Component T)) → Path (ComponentStep Step) c ls d → visible_events ls ≡ [] → Path (FlatStep Step) (c ∷ cs) ls (d ∷ cs)
first_alone Step [] c d cs h k = ap (λ x. x ∷ cs) h
first_alone Step (silent ∷ ls) c d cs h k = (h.0 ∷ cs, inl (h.1, refl), first_alone Step ls h.0 d cs h.2 k)
first_alone Step (visible e ∷ ls) c d cs h k = absurd (let no : ◌≡◌ {A = List ℕ} (e ∷ visible_events ls) [] = k in cc)

others_alone : {T : Type 0} (Step : T → Label → T → Type 0) (ls : List Label) (c : Component T) (cs ds : List (Component T)) → Path (FlatStep Step) cs ls ds → visible_events ls ≡ [] → Path (FlatStep Step) (c ∷ cs) ls (c ∷ ds)
others_alone Step [] c cs ds h k = ap (λ xs. c ∷ xs) h
others_alone Step (silent ∷ ls) c cs ds h k = (c ∷ h.0, inr (refl, h.1), others_alone Step ls c h.0 ds h.2 k)
others_alone Step (visible e ∷ ls) c cs ds h k = absurd (let no : ◌≡◌ {A = List ℕ} (e ∷ visible_events ls) [] = k in cc)

joined_quietly : {T : Type 0} (Step : T → Label → T → Type 0) (c d : Component T) (cs ds : List (Component T)) → Quietly (ComponentStep Step) c d → Quietly (FlatStep Step) cs ds → Quietly (FlatStep Step) (c ∷ cs) (d ∷ ds)
joined_quietly Step c d cs ds q r = record {
  labels = q.labels ++ r.labels;
  path = join_paths (FlatStep Step) q.labels (c ∷ cs) (d ∷ cs) r.labels (d ∷ ds) (first_alone Step q.labels c d cs q.path q.none) (others_alone Step r.labels d cs ds r.path r.none);
  none = events_joined q.labels r.labels ∙ ap₂ (λ s t. s ++ t) q.none r.none;
}

-- ---- before, at and after an event of the network

record AllApart {T : Type 0} (Step : T → Label → T → Type 0) (cs : List (Component T)) (e : ℕ) (s : List ℕ) (ds : List (Component T)) : Type 0 where
  before : List (Component T)
  after : List (Component T)
  quiet : Quietly (FlatStep Step) cs before
  all : AllTakePart Step e before after
  rest : AllAfter Step s after ds
  same : alphabets cs ≡ alphabets before

-- one component before, at and after an event of the network, which it takes part in or not
record OneApart {T : Type 0} (Step : T → Label → T → Type 0) (c : Component T) (e : ℕ) (s : List ℕ) (d : Component T) : Type 0 where
  before : Component T
  after : Component T
  quiet : Quietly (ComponentStep Step) c before
  part : MatchBool (has before.alphabet e) (ComponentStep Step before (visible e) after) (before ≡ after)
  rest : After (ComponentStep Step) after (project after.alphabet s) d
  same : c.alphabet ≡ before.alphabet

one_apart : {T : Type 0} (Step : T → Label → T → Type 0) (c : Component T) (e : ℕ) (s : List ℕ) (d : Component T) → After (ComponentStep Step) c (project c.alphabet (e ∷ s)) d → OneApart Step c e s d
one_apart Step c e s d a =
    elim (cases_Bool (has c.alphabet e)) [
      | inl owned ↦
          let r = taken_apart (ComponentStep Step) a.0 c d e (project c.alphabet s) a.1 (a.2 ∙ cond-true (has c.alphabet e) (e ∷ project c.alphabet s) (project c.alphabet s) owned) in
          let same : c.alphabet ≡ r.before.alphabet = path_alphabet Step r.quiet.labels c r.before r.quiet.path in
          let then : r.before.alphabet ≡ r.after.alphabet = step_alphabet Step r.before (visible e) r.after r.step in
          record {
            before = r.before;
            after = r.after;
            quiet = r.quiet;
            part = match_true (has r.before.alphabet e) _ _ (subst (λ al. has al e ≡ true) same owned) r.step;
            rest = subst (λ al. After (ComponentStep Step) r.after (project al s) d) (same ∙ then) r.rest;
            same = same;
          }
      | inr strange ↦ record {
        before = c;
        after = c;
        quiet = record { labels = []; path = refl; none = refl };
        part = match_false (has c.alphabet e) _ _ strange refl;
        rest = (a.0, a.1, a.2 ∙ cond-false (has c.alphabet e) (e ∷ project c.alphabet s) (project c.alphabet s) strange);
        same = refl;
      }
    ]

all_apart : {T : Type 0} (Step : T → Label → T → Type 0) (cs : List (Component T)) (e : ℕ) (s : List ℕ) (ds : List (Component T)) → AllAfter Step (e ∷ s) cs ds → AllApart Step cs e s ds
all_apart Step [] e s [] a = record { before = []; after = []; quiet = record { labels = []; path = refl; none = refl }; all = tt; rest = tt; same = refl }
all_apart Step (c ∷ cs) e s (d ∷ ds) a =
    let one = one_apart Step c e s d a.0 in
    let more = all_apart Step cs e s ds a.1 in
    record {
      before = one.before ∷ more.before;
      after = one.after ∷ more.after;
      quiet = joined_quietly Step c one.before cs more.before one.quiet more.quiet;
      all = (one.part, more.all);
      rest = (one.rest, more.rest);
      same = ap₂ (λ a as'. a ∷ as') one.same more.same;
    }
all_apart Step _ e s _ a = absurd a

all_quiet : {T : Type 0} (Step : T → Label → T → Type 0) (cs ds : List (Component T)) → AllAfter Step [] cs ds → Quietly (FlatStep Step) cs ds
all_quiet Step [] [] a = record { labels = []; path = refl; none = refl }
all_quiet Step (c ∷ cs) (d ∷ ds) a = joined_quietly Step c d cs ds (record { labels = a.0.0; path = a.0.1; none = a.0.2 }) (all_quiet Step cs ds a.1)
all_quiet Step _ _ a = absurd a

-- ---- the run of the network

-- each of the events is in some alphabet
abbrev pub AreOwned : {T : Type 0} → List (Component T) → List ℕ → Type 0
AreOwned cs [] = Unit {0}
AreOwned cs (e ∷ s) = IsTrue (in_some_component cs e) × AreOwned cs s

pub owned_along : {T U : Type 0} (cs : List (Component T)) (ds : List (Component U)) (s : List ℕ) → ((e : ℕ) → in_some_component cs e ≡ in_some_component ds e) → AreOwned cs s → AreOwned ds s
owned_along cs ds [] same o = tt
owned_along cs ds (e ∷ s) same o = (subst IsTrue (same e) o.0, owned_along cs ds s same o.1)

all_alphabets : {T : Type 0} (Step : T → Label → T → Type 0) (e : ℕ) (cs ds : List (Component T)) → IsTrue (in_some_component cs e) → AllTakePart Step e cs ds → alphabets cs ≡ alphabets ds
all_alphabets Step e cs ds h a = flat_alphabets Step cs (visible e) ds (h, a)

pub composed : {T : Type 0} (Step : T → Label → T → Type 0) (s : List ℕ) (cs ds : List (Component T)) → AreOwned cs s → AllAfter Step s cs ds → After (FlatStep Step) cs s ds
composed Step [] cs ds o a = let q = all_quiet Step cs ds a in (q.labels, q.path, q.none)
composed Step (e ∷ s) cs ds o a =
    let r = all_apart Step cs e s ds a in
    let here : IsTrue (in_some_component r.before e) = subst IsTrue (same_some cs r.before e r.same) o.0 in
    let kept : alphabets cs ≡ alphabets r.after = r.same ∙ all_alphabets Step e r.before r.after here r.all in
    let more = composed Step s r.after ds (owned_along cs r.after s (λ f. same_some cs r.after f kept) o.1) r.rest in (
      r.quiet.labels ++ (visible e ∷ more.0),
      join_paths (FlatStep Step) r.quiet.labels cs r.before (visible e ∷ more.0) ds r.quiet.path (r.after, (here, r.all), more.1),
      events_joined r.quiet.labels (visible e ∷ more.0) ∙ ap₂ (λ x y. x ++ (e ∷ y)) r.quiet.none more.2,
    )

-- the events of a run are in alphabets
pub run_owned : {T : Type 0} (Step : T → Label → T → Type 0) (ls : List Label) (cs ds : List (Component T)) → Path (FlatStep Step) cs ls ds → AreOwned cs (visible_events ls)
run_owned Step [] cs ds h = tt
run_owned Step (silent ∷ ls) cs ds h =
    owned_along h.0 cs (visible_events ls) (λ e. same_some h.0 cs e (sym (flat_alphabets Step cs silent h.0 h.1))) (run_owned Step ls h.0 ds h.2)
run_owned Step (visible e ∷ ls) cs ds h =
    (h.1.0, owned_along h.0 cs (visible_events ls) (λ f. same_some h.0 cs f (sym (flat_alphabets Step cs (visible e) h.0 h.1))) (run_owned Step ls h.0 ds h.2))

-- ---- the tree

pub record RunsToLeaves {T : Type 0} (Step : T → Label → T → Type 0) (t : Tree T) (ls : List Label) (cs : List (Component T)) : Type 0 where
  pub tree : Tree T
  pub whole : leaves tree ≡ cs
  pub run : Path (NetworkStep Step) t ls tree
  pub nested : WellNested tree

-- a run of the leaves is a run of the tree
pub run_back : {T : Type 0} (Step : T → Label → T → Type 0) (ls : List Label) (t : Tree T) (cs : List (Component T)) → WellNested t → Path (FlatStep Step) (leaves t) ls cs → RunsToLeaves Step t ls cs
run_back Step [] t cs w h = record { tree = t; whole = h; run = refl; nested = w }
run_back Step (l ∷ ls) t cs w h =
    let x = back Step t l h.0 w h.1 in
    let r = run_back Step ls x.tree cs (kept Step t l x.tree w x.step) (subst (λ ms. Path (FlatStep Step) ms ls cs) (sym x.whole) h.2) in
    record { tree = r.tree; whole = r.whole; run = (x.tree, x.step, r.run); nested = r.nested }
