-- Silent walks of a component and of its numbered table.
use Rattle.net_sound.proofs.Prelude.{◌≡◌, ℕ, zero, suc, ◌<◌, ◌≤◌, List, [], ◌∷◌, Some, slice_get, get_or, length, replicate, refl, subst, arith, inl, inr, cases_lt, slice_get_within, Label, silent, Silently, Component, ComponentStep, RawTable, RawStep, standing_at, IsTableOf, silent_path, path_silent, HeightsAreExact, HeightsAddUp, sum_of_greatest, slice_get_some, greatest}
use Rattle.net_sound.proofs.Numbered.{run_down, run_up, stands}

walk_up : {T : Type 0} (Step : T → Label → T → Type 0) (c : Component T) (terms : List T) (raw : RawTable) (k m n : ℕ) (x : T) → IsTableOf Step c terms raw → slice_get terms m ≡ Some x → Silently (RawStep raw) k m n → (d : Component T) × Silently (ComponentStep Step) k (standing_at c x) d
walk_up Step c terms raw k m n x t h w =
    let r = run_up Step c terms raw (replicate k silent) m n x t h (silent_path (RawStep raw) k m n w) in
    (standing_at c r.goal, path_silent (ComponentStep Step) k (standing_at c x) (standing_at c r.goal) r.path)

-- the path's first state stands at the term numbered m
walk_down : {T : Type 0} (Step : T → Label → T → Type 0) (c : Component T) (terms : List T) (raw : RawTable) (k m : ℕ) (x : T) (d : Component T) → IsTableOf Step c terms raw → slice_get terms m ≡ Some x → Silently (ComponentStep Step) k (standing_at c x) d → (n : ℕ) × Silently (RawStep raw) k m n
walk_down Step c terms raw k m x d t h w =
    let r = run_down Step c terms raw (replicate k silent) (standing_at c x) d m t h refl (silent_path (ComponentStep Step) k (standing_at c x) d w) in
    (r.number, path_silent (RawStep raw) k m r.number r.path)

at_most_greatest : (ns : List ℕ) (i : ℕ) → get_or ns i 0 ≤ greatest ns
at_most_greatest [] i = omega arith
at_most_greatest (n ∷ ns) zero = omega arith
at_most_greatest (n ∷ ns) (suc i) = let le : get_or ns i 0 ≤ greatest ns = at_most_greatest ns i in omega arith

greatest_is : (n : ℕ) (ns : List ℕ) → (i : ℕ) × (i < length (n ∷ ns)) × (get_or (n ∷ ns) i 0 ≡ greatest (n ∷ ns))
greatest_is n [] = (0, omega arith, omega arith)
greatest_is n (m ∷ ns) =
    elim (cases_lt n (greatest (m ∷ ns))) [
      | inl less ↦ let r = greatest_is m ns in (suc r.0, (let h : r.0 < length (m ∷ ns) = r.1 in omega arith), (let e : get_or (m ∷ ns) r.0 0 ≡ greatest (m ∷ ns) = r.2 in omega arith))
      | inr more ↦ (0, omega arith, omega arith)
    ]

reaches_greatest : (ns : List ℕ) → 0 < length ns → (i : ℕ) × (i < length ns) × (get_or ns i 0 ≡ greatest ns)
reaches_greatest [] h = absurd (omega arith)
reaches_greatest (n ∷ ns) h = greatest_is n ns

pub heights_are_exact : {T : Type 0} (Step : T → Label → T → Type 0) → HeightsAreExact Step
heights_are_exact Step c terms raw heights t hs =
    let some : 0 < length terms = slice_get_within terms 0 c.term t.first in
    let whole : length terms ≡ raw.count = t.count in
    let many : length heights ≡ raw.count = hs.one_each in
    let top = reaches_greatest heights (omega arith) in
    let within : top.0 < length heights = top.1 in
    let x = slice_get_some terms top.0 (omega arith) in
    let h = hs.each top.0 (omega arith) in
    let up = walk_up Step c terms raw (get_or heights top.0 0) top.0 h.end x.0 t x.1 h.attained in
    record {
      attained = (standing_at c x.0, up.0, t.reached top.0 x.0 x.1, subst (λ k. Silently (ComponentStep Step) k (standing_at c x.0) up.0) top.2 up.1);
      most = λ d e k r w.
          let i = run_down Step c terms raw r.0 c d 0 t t.first refl r.1 in
          let down = walk_down Step c terms raw k i.number d.term e t i.listed (subst (λ y. Silently (ComponentStep Step) k y e) (stands c d i.alphabet) w) in
          let inside : i.number < length terms = slice_get_within terms i.number d.term i.listed in
          let le : k ≤ get_or heights i.number 0 = (hs.each i.number (omega arith)).most k down.0 down.1 in
          let most : get_or heights i.number 0 ≤ greatest heights = at_most_greatest heights i.number in
          omega arith;
    }

pub heights_add_up : {T : Type 0} (Step : T → Label → T → Type 0) → HeightsAddUp Step
heights_add_up Step [] [] h = refl
heights_add_up Step (c ∷ cs) (x ∷ xs) h = (greatest x, sum_of_greatest xs, heights_are_exact Step c h.0.terms h.0.raw x h.0.table h.0.are_heights, heights_add_up Step cs xs h.1, refl)
heights_add_up Step _ _ h = absurd h
