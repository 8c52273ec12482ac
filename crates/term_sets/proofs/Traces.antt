-- Runs of silent steps and events, one after another and cut in two.
use Rattle.term_sets.proofs.Prelude.{◌≡◌, ℕ, List, [], ◌∷◌, ◌++◌, refl, ap, ◌∙◌, Label, silent, visible, Path, After, visible_events}

module _ (Step : ℕ → Label → ℕ → Type 0) where
  path_append : (ls ms : List Label) (s t u : ℕ) → Path Step s ls t → Path Step t ms u → Path Step s (ls ++ ms) u
  path_append [] ms s t u p q = rw p q
  path_append (l ∷ ls) ms s t u p q = (p.0, p.1, path_append ls ms p.0 t u p.2 q)

  pub After-append : (x y z : ℕ) (s w : List ℕ) → After Step x s y → After Step y w z → After Step x (s ++ w) z
  After-append x y z s w a b = (a.0 ++ b.0, path_append a.0 b.0 x y z a.1 b.1, events_append a.0 b.0 ∙ (λ i. a.2 i ++ b.2 i))
    where
      events_append : (ls ms : List Label) → visible_events (ls ++ ms) ≡ visible_events ls ++ visible_events ms
      events_append [] ms = refl
      events_append (silent ∷ ls) ms = events_append ls ms
      events_append (visible e ∷ ls) ms = ap (λ es. e ∷ es) (events_append ls ms)

  pub After-none : (x : ℕ) → After Step x [] x
  After-none x = ([], refl, refl)

  pub After-silent : (x y : ℕ) → Step x silent y → After Step x [] y
  After-silent x y step = (silent ∷ [], (y, step, refl), refl)

  pub After-event : (x y e : ℕ) → Step x (visible e) y → After Step x (e ∷ []) y
  After-event x y e step = (visible e ∷ [], (y, step, refl), refl)

  -- where the first of two lists of events ends
  pub record Between (x : ℕ) (s w : List ℕ) (z : ℕ) : Type 0 where
    pub middle : ℕ
    pub front : After Step x s middle
    pub back : After Step middle w z

  longer : (x m z : ℕ) (s w : List ℕ) → Step x silent m → Between m s w z → Between x s w z
  longer x m z s w step b = record { middle = b.middle; front = (silent ∷ b.front.0, (m, step, b.front.1), b.front.2); back = b.back }

  with_event : (x m z a e : ℕ) (s w : List ℕ) → Step x (visible e) m → e ≡ a → Between m s w z → Between x (a ∷ s) w z
  with_event x m z a e s w step same b = record { middle = b.middle; front = (visible e ∷ b.front.0, (m, step, b.front.1), λ i. same i ∷ b.front.2 i); back = b.back }

  cut : (ls : List Label) (s w : List ℕ) (x z : ℕ) → Path Step x ls z → visible_events ls ≡ s ++ w → Between x s w z
  cut ls [] w x z p e = record { middle = x; front = After-none x; back = (ls, p, e) }
  cut [] (a ∷ s) w x z p e = absurd (cc)
  cut (silent ∷ ls) (a ∷ s) w x z p e = longer x p.0 z (a ∷ s) w p.1 (cut ls (a ∷ s) w p.0 z p.2 e)
  cut (visible b ∷ ls) (a ∷ s) w x z p e =
      let first : b ≡ a = cc in
      let rest : visible_events ls ≡ s ++ w = cc in
      with_event x p.0 z a b s w p.1 first (cut ls s w p.0 z p.2 rest)

  pub After-cut : (x z : ℕ) (s w : List ℕ) → After Step x (s ++ w) z → Between x s w z
  After-cut x z s w a = cut a.0 s w x z a.1 a.2

  -- the first event of a list, with the silent steps before it
  pub record FirstEvent (x e : ℕ) (w : List ℕ) (z : ℕ) : Type 0 where
    pub from : ℕ
    pub to : ℕ
    pub before : After Step x [] from
    pub step : Step from (visible e) to
    pub rest : After Step to w z

  later : (x m z e : ℕ) (w : List ℕ) → Step x silent m → FirstEvent m e w z → FirstEvent x e w z
  later x m z e w step f = record { from = f.from; to = f.to; before = (silent ∷ f.before.0, (m, step, f.before.1), f.before.2); step = f.step; rest = f.rest }

  event_of : (ls : List Label) (x e : ℕ) (w : List ℕ) (z : ℕ) → Path Step x ls z → visible_events ls ≡ e ∷ w → FirstEvent x e w z
  event_of [] x e w z p h = absurd (cc)
  event_of (silent ∷ ls) x e w z p h = later x p.0 z e w p.1 (event_of ls p.0 e w z p.2 h)
  event_of (visible b ∷ ls) x e w z p h =
      let same : b ≡ e = cc in
      let rest : visible_events ls ≡ w = cc in
      record { from = x; to = p.0; before = After-none x; step = rw same at p.1; rest = (ls, p.2, rest) }

  pub After-first : (x e : ℕ) (w : List ℕ) (z : ℕ) → After Step x (e ∷ w) z → FirstEvent x e w z
  After-first x e w z a = event_of a.0 x e w z a.1 a.2
