-- Flat steps over lists of components: lists put together and taken apart, and what a step keeps.
use Rattle.net_sound.proofs.Prelude.{◌≡◌, ℕ, ◌⊎◌, inl, inr, List, [], ◌∷◌, ◌++◌, map, Bool, true, false, ◌||◌, MatchBool, refl, sym, ap, ap₂, ◌∙◌, MatchBool-at_false, or_parts, false≢true, has, Label, silent, visible, Component, ComponentStep, in_some_component, OneMoves, AllTakePart, FlatStep}

abbrev pub alphabets : {T : Type 0} → List (Component T) → List (List ℕ)
alphabets cs = map (λ c. c.alphabet) cs

pub by_test : (b : Bool) {P Q : Type 0} → MatchBool b P Q → ((b ≡ true) × P) ⊎ ((b ≡ false) × Q)
by_test true h = inl (refl, h)
by_test false h = inr (refl, h)

pub match_true : (b : Bool) (P Q : Type 0) → b ≡ true → P → MatchBool b P Q
match_true true P Q e p = p
match_true false P Q e p = absurd (false≢true e)

pub match_false : (b : Bool) (P Q : Type 0) → b ≡ false → Q → MatchBool b P Q
match_false true P Q e q = absurd (false≢true (sym e))
match_false false P Q e q = q

-- ---- put together

pub moves_left : {T : Type 0} (Step : T → Label → T → Type 0) (xs ys zs : List (Component T)) → OneMoves Step xs ys → OneMoves Step (xs ++ zs) (ys ++ zs)
moves_left Step (x ∷ xs) (y ∷ ys) zs (inl h) = inl (h.0, ap (λ ws. ws ++ zs) h.1)
moves_left Step (x ∷ xs) (y ∷ ys) zs (inr h) = inr (h.0, moves_left Step xs ys zs h.1)
moves_left Step _ _ zs h = absurd h

pub moves_right : {T : Type 0} (Step : T → Label → T → Type 0) (xs zs ws : List (Component T)) → OneMoves Step zs ws → OneMoves Step (xs ++ zs) (xs ++ ws)
moves_right Step [] zs ws h = h
moves_right Step (x ∷ xs) zs ws h = inr (refl, moves_right Step xs zs ws h)

pub all_append : {T : Type 0} (Step : T → Label → T → Type 0) (e : ℕ) (xs ys zs ws : List (Component T)) → AllTakePart Step e xs ys → AllTakePart Step e zs ws → AllTakePart Step e (xs ++ zs) (ys ++ ws)
all_append Step e [] [] zs ws h k = k
all_append Step e (x ∷ xs) (y ∷ ys) zs ws h k = (h.0, all_append Step e xs ys zs ws h.1 k)
all_append Step e _ _ zs ws h k = absurd h

-- without the event in an alphabet all stay
pub all_stay : {T : Type 0} (Step : T → Label → T → Type 0) (e : ℕ) (xs : List (Component T)) → in_some_component xs e ≡ false → AllTakePart Step e xs xs
all_stay Step e [] h = tt
all_stay Step e (x ∷ xs) h =
    let p = or_parts (has x.alphabet e) (in_some_component xs e) h in
    (match_false (has x.alphabet e) _ _ p.0 refl, all_stay Step e xs p.1)

-- ---- taken apart

pub all_stayed : {T : Type 0} (Step : T → Label → T → Type 0) (e : ℕ) (xs ys : List (Component T)) → in_some_component xs e ≡ false → AllTakePart Step e xs ys → xs ≡ ys
all_stayed Step e [] [] h k = refl
all_stayed Step e (x ∷ xs) (y ∷ ys) h k =
    let p = or_parts (has x.alphabet e) (in_some_component xs e) h in
    ap₂ (λ z zs. z ∷ zs) (MatchBool-at_false _ _ p.0 k.0) (all_stayed Step e xs ys p.1 k.1)
all_stayed Step e _ _ h k = absurd k

pub record MovesLeft {T : Type 0} (Step : T → Label → T → Type 0) (xs zs ds : List (Component T)) : Type 0 where
  pub front : List (Component T)
  pub whole : front ++ zs ≡ ds
  pub moves : OneMoves Step xs front

pub record MovesRight {T : Type 0} (Step : T → Label → T → Type 0) (xs zs ds : List (Component T)) : Type 0 where
  pub back : List (Component T)
  pub whole : xs ++ back ≡ ds
  pub moves : OneMoves Step zs back

pub moves_split : {T : Type 0} (Step : T → Label → T → Type 0) (xs zs ds : List (Component T)) → OneMoves Step (xs ++ zs) ds → MovesLeft Step xs zs ds ⊎ MovesRight Step xs zs ds
moves_split Step [] zs ds h = inr (record { back = ds; whole = refl; moves = h })
moves_split Step (x ∷ xs) zs [] h = absurd h
moves_split Step (x ∷ xs) zs (d ∷ ds) (inl h) = inl (record { front = d ∷ xs; whole = ap (λ ws. d ∷ ws) h.1; moves = inl (h.0, refl) })
moves_split Step (x ∷ xs) zs (d ∷ ds) (inr h) =
    elim (moves_split Step xs zs ds h.1) [
      | inl m ↦ inl (record { front = d ∷ m.front; whole = ap (λ ws. d ∷ ws) m.whole; moves = inr (h.0, m.moves) })
      | inr m ↦ inr (record { back = m.back; whole = ap₂ (λ w ws. w ∷ ws) h.0 m.whole; moves = m.moves })
    ]

pub record AllApart {T : Type 0} (Step : T → Label → T → Type 0) (e : ℕ) (xs zs ds : List (Component T)) : Type 0 where
  pub front : List (Component T)
  pub back : List (Component T)
  pub whole : front ++ back ≡ ds
  pub left : AllTakePart Step e xs front
  pub right : AllTakePart Step e zs back

pub all_split : {T : Type 0} (Step : T → Label → T → Type 0) (e : ℕ) (xs zs ds : List (Component T)) → AllTakePart Step e (xs ++ zs) ds → AllApart Step e xs zs ds
all_split Step e [] zs ds h = record { front = []; back = ds; whole = refl; left = tt; right = h }
all_split Step e (x ∷ xs) zs [] h = absurd h
all_split Step e (x ∷ xs) zs (d ∷ ds) h =
    let r = all_split Step e xs zs ds h.1 in
    record { front = d ∷ r.front; back = r.back; whole = ap (λ ws. d ∷ ws) r.whole; left = (h.0, r.left); right = r.right }

-- ---- alphabets

pub step_alphabet : {T : Type 0} (Step : T → Label → T → Type 0) (c : Component T) (l : Label) (d : Component T) → ComponentStep Step c l d → c.alphabet ≡ d.alphabet
step_alphabet Step c silent d h = h.0
step_alphabet Step c (visible e) d h = h.0

moves_alphabets : {T : Type 0} (Step : T → Label → T → Type 0) (cs ds : List (Component T)) → OneMoves Step cs ds → alphabets cs ≡ alphabets ds
moves_alphabets Step (c ∷ cs) (d ∷ ds) (inl h) = ap₂ (λ a as'. a ∷ as') (step_alphabet Step c silent d h.0) (ap alphabets h.1)
moves_alphabets Step (c ∷ cs) (d ∷ ds) (inr h) = ap₂ (λ a as'. a ∷ as') (ap (λ (x : Component _). x.alphabet) h.0) (moves_alphabets Step cs ds h.1)
moves_alphabets Step _ _ h = absurd h

part_alphabet : {T : Type 0} (Step : T → Label → T → Type 0) (e : ℕ) (c d : Component T) → MatchBool (has c.alphabet e) (ComponentStep Step c (visible e) d) (c ≡ d) → c.alphabet ≡ d.alphabet
part_alphabet Step e c d h =
    elim (by_test (has c.alphabet e) h) [
      | inl k ↦ step_alphabet Step c (visible e) d k.1
      | inr k ↦ ap (λ (x : Component _). x.alphabet) k.1
    ]

all_alphabets : {T : Type 0} (Step : T → Label → T → Type 0) (e : ℕ) (cs ds : List (Component T)) → AllTakePart Step e cs ds → alphabets cs ≡ alphabets ds
all_alphabets Step e [] [] h = refl
all_alphabets Step e (c ∷ cs) (d ∷ ds) h = ap₂ (λ a as'. a ∷ as') (part_alphabet Step e c d h.0) (all_alphabets Step e cs ds h.1)
all_alphabets Step e _ _ h = absurd h

pub flat_alphabets : {T : Type 0} (Step : T → Label → T → Type 0) (cs : List (Component T)) (l : Label) (ds : List (Component T)) → FlatStep Step cs l ds → alphabets cs ≡ alphabets ds
flat_alphabets Step cs silent ds h = moves_alphabets Step cs ds h
flat_alphabets Step cs (visible e) ds h = all_alphabets Step e cs ds h.1

-- whether an event is in one of the alphabets
abbrev in_some : List (List ℕ) → ℕ → Bool
in_some [] e = false
in_some (a ∷ as') e = has a e || in_some as' e

in_some_is : {T : Type 0} (cs : List (Component T)) (e : ℕ) → in_some_component cs e ≡ in_some (alphabets cs) e
in_some_is [] e = refl
in_some_is (c ∷ cs) e = ap (λ b. has c.alphabet e || b) (in_some_is cs e)

pub same_some : {T : Type 0} (cs ds : List (Component T)) (e : ℕ) → alphabets cs ≡ alphabets ds → in_some_component cs e ≡ in_some_component ds e
same_some cs ds e h = in_some_is cs e ∙ ap (λ as'. in_some as' e) h ∙ sym (in_some_is ds e)
