-- A run of a component is one of its numbered table, and the other way round.
use Rattle.net_sound.proofs.Prelude.{◌≡◌, ℕ, List, [], ◌∷◌, Some, slice_get, refl, sym, ap, subst, ◌∙◌, same_Some, Label, Path, Component, ComponentStep, RawTable, RawStep, standing_at, IsTableOf}
use Rattle.net_sound.proofs.FlatLists.{step_alphabet}

-- a component with the alphabet of c is c standing at its term
pub stands : {T : Type 0} (c d : Component T) → c.alphabet ≡ d.alphabet → d ≡ standing_at c d.term
stands c d h = ap (λ al. record { alphabet = al; term = d.term }) (sym h)

-- a run of the component from the term numbered m is a run of the table
pub record RunsDown {T : Type 0} (c : Component T) (terms : List T) (raw : RawTable) (m : ℕ) (ls : List Label) (d : Component T) : Type 0 where
  pub number : ℕ
  pub path : Path (RawStep raw) m ls number
  pub listed : slice_get terms number ≡ Some d.term
  pub alphabet : c.alphabet ≡ d.alphabet

pub run_down : {T : Type 0} (Step : T → Label → T → Type 0) (c : Component T) (terms : List T) (raw : RawTable) (ls : List Label) (b d : Component T) (m : ℕ) → IsTableOf Step c terms raw → slice_get terms m ≡ Some b.term → c.alphabet ≡ b.alphabet → Path (ComponentStep Step) b ls d → RunsDown c terms raw m ls d
run_down Step c terms raw [] b d m t h a path = record { number = m; path = refl; listed = h ∙ ap (λ (x : Component _). Some x.term) path; alphabet = a ∙ ap (λ (x : Component _). x.alphabet) path }
run_down Step c terms raw (l ∷ ls) b d m t h a path =
    let step = subst (λ y. ComponentStep Step y l path.0) (stands c b a) path.1 in
    let s = t.complete m b.term l path.0 h step in
    let r = run_down Step c terms raw ls path.0 d s.number t s.listed (step_alphabet Step (standing_at c b.term) l path.0 step) path.2 in
    record { number = r.number; path = (s.number, s.step, r.path); listed = r.listed; alphabet = r.alphabet }

-- a run of the table from the term numbered m is a run of the component
pub record RunsUp {T : Type 0} (Step : T → Label → T → Type 0) (c : Component T) (terms : List T) (x : T) (ls : List Label) (n : ℕ) : Type 0 where
  pub goal : T
  pub path : Path (ComponentStep Step) (standing_at c x) ls (standing_at c goal)
  pub listed : slice_get terms n ≡ Some goal

pub run_up : {T : Type 0} (Step : T → Label → T → Type 0) (c : Component T) (terms : List T) (raw : RawTable) (ls : List Label) (m n : ℕ) (x : T) → IsTableOf Step c terms raw → slice_get terms m ≡ Some x → Path (RawStep raw) m ls n → RunsUp Step c terms x ls n
run_up Step c terms raw [] m n x t h path = record { goal = x; path = refl; listed = ap (slice_get terms) (sym path) ∙ h }
run_up Step c terms raw (l ∷ ls) m n x t h path =
    let s = t.sound m path.0 l path.1 in
    let r = run_up Step c terms raw ls path.0 n s.goal t s.to path.2 in
    record { goal = r.goal; path = (standing_at c s.goal, subst (λ y. ComponentStep Step (standing_at c y) l (standing_at c s.goal)) (same_Some s.source x (sym s.from ∙ h)) s.step, r.path); listed = r.listed }
