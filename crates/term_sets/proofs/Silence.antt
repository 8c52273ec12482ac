-- Walks over the digraph of the silent steps are runs of silent steps.
use Rattle.term_sets.proofs.Prelude.{◌≡◌, ◌↔◌, ℕ, zero, suc, List, [], ◌∷◌, subst, Label, silent, visible, Path, After, visible_events, RawTable, RawStep, Digraph, HasArc, Walk, Reaches, ReachesFrom, IsSilentlyReached, AreSilentRows, step_of, arc_of}
use Rattle.term_sets.proofs.Traces.{After-none, After-silent, After-append}

module _ (raw : RawTable) (g : Digraph) (rows : AreSilentRows raw g) where
  walk_silently : (n v t : ℕ) → Walk (HasArc g) n v t → After (RawStep raw) v [] t
  walk_silently zero v t walk = subst (λ (x : ℕ). After (RawStep raw) v [] x) walk (After-none (RawStep raw) v)
  walk_silently (suc n) v t walk = After-append (RawStep raw) v walk.0 t [] [] (After-silent (RawStep raw) v walk.0 (step_of raw g rows v walk.0 walk.1)) (walk_silently n walk.0 t walk.2)

  silent_walk : (ls : List Label) (v t : ℕ) → Path (RawStep raw) v ls t → visible_events ls ≡ [] → Reaches (HasArc g) v t
  silent_walk [] v t p e = (0, p)
  silent_walk (silent ∷ ls) v t p e = let rest = silent_walk ls p.0 t p.2 e in (suc rest.0, (p.0, arc_of raw g rows v p.0 p.1, rest.1))
  silent_walk (visible a ∷ ls) v t p e = absurd (cc)

  pub silently : (starts : List ℕ) (t : ℕ) → ReachesFrom (HasArc g) starts t ↔ IsSilentlyReached raw starts t
  silently starts t = (
    λ r. record { start = r.source; listed = r.listed; silently = walk_silently r.reaches.0 r.source t r.reaches.1 },
    λ s. record { source = s.start; listed = s.listed; reaches = silent_walk s.silently.0 s.start t s.silently.1 s.silently.2 },
  )
