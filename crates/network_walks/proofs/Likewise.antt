-- Walks over two kinds of states. Where related states have the same options, and each step from one of them is one from the other to related states, a
-- walk from one is a walk from the other.
use Rattle.network_walks.proofs.Prelude.{◌↔◌, inl, inr, ℕ, List, [], ◌∷◌, Bool, refl, subst, first_draw, next_number, Chooses, HasNone, IsWalk, IsWalkOf, Move}

-- options that are the same
same_choice : (Has Other : Move → Type 0) (number : ℕ) (m : Move) → ((n : Move) → Has n ↔ Other n) → Chooses Has number m → Chooses Other number m
same_choice Has Other number m same c = record {
  options = c.options;
  are = record {
    sound = λ n stands. (same n).0 (c.are.sound n stands);
    complete = λ n has. c.are.complete n ((same n).1 has);
    order = c.are.order;
  };
  chosen = c.chosen;
}

same_none : (Has Other : Move → Type 0) → ((n : Move) → Has n ↔ Other n) → HasNone Has → HasNone Other
same_none Has Other same none n has = none n ((same n).1 has)

module _ {S : Type 0} {U : Type 0} (Has : S → Move → Type 0) (Goes : S → ℕ → Move → S → ℕ → Type 0) (Other : U → Move → Type 0) (OtherGoes : U → ℕ → Move → U → ℕ → Type 0) (Alike : S → U → Type 0) where
  -- a step from the other state to one that is alike
  pub record StepsAlike (u : U) (y : ℕ) (m : Move) (t : S) (z : ℕ) : Type 0 where
    pub state : U
    pub goes : OtherGoes u y m state z
    pub alike : Alike t state

  module _ (same : (s : S) (u : U) → Alike s u → (m : Move) → Has s m ↔ Other u m) (goes : (s t : S) (u : U) (y z : ℕ) (m : Move) → Alike s u → Goes s y m t z → StepsAlike u y m t z) where
    record WalksAlike (x y : ℕ) (u : U) (ms : List Move) (t : S) (z : ℕ) : Type 0 where
      state : U
      walk : IsWalk Other OtherGoes x y u ms state z
      alike : Alike t state

    walks_alike : (x y z : ℕ) (s t : S) (u : U) (ms : List Move) → Alike s u → IsWalk Has Goes x y s ms t z → WalksAlike x y u ms t z
    walks_alike x y z s t u [] alike walk = record { state = u; walk = (refl, walk.1); alike = subst (λ (v : S). Alike v u) walk.0 alike }
    walks_alike x y z s t u (m ∷ ms) alike walk =
        let step = goes s walk.0 u y walk.1 m alike walk.3 in
        let rest = walks_alike (next_number x) walk.1 z walk.0 t step.state ms step.alike walk.4 in
        record { state = rest.state; walk = (step.state, walk.1, same_choice (Has s) (Other u) (next_number x) m (same s u alike) walk.2, step.goes, rest.walk); alike = rest.alike }

    pub walk_alike : (seed steps : ℕ) (s : S) (u : U) (ms : List Move) (is_stuck : Bool) → Alike s u → IsWalkOf Has Goes seed steps s ms is_stuck → IsWalkOf Other OtherGoes seed steps u ms is_stuck
    walk_alike seed steps s u ms is_stuck alike w =
        let r = walks_alike seed (first_draw seed) w.drawn s w.last u ms alike w.walk in
        let forth = same_none (Has w.last) (Other r.state) (same w.last r.state r.alike) in
        let back = same_none (Other r.state) (Has w.last) (λ n. let both = same w.last r.state r.alike n in (both.1, both.0)) in
        record {
          last = r.state;
          drawn = w.drawn;
          walk = r.walk;
          count = elim w.count [ inl all ↦ inl all | inr fewer ↦ inr (fewer.0, forth fewer.1) ];
          stuck = (λ h. forth (w.stuck.0 h), λ none. w.stuck.1 (back none));
        }
