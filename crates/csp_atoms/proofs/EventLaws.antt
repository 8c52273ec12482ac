-- Laws of sets of events as atoms.
use Rattle.csp_atoms.proofs.Prelude.{◌≡◌, ℕ, zero, suc, ◌+◌, ◌<◌, ◌≤◌, refl, sym, ◌∙◌, ap, List, [], ◌∷◌, ◌++◌, length, get_or, take, Option, Some, None, arith, take_more, take_all, event_atoms, event_number, event_numbers, both_events, Atom}
use Rattle.csp_atoms.specs.declared.atom.Atom.TheVariants as atom

pub event_atoms-append : (xs ys : List ℕ) → event_atoms (xs ++ ys) ≡ event_atoms xs ++ event_atoms ys
event_atoms-append [] ys = refl
event_atoms-append (x ∷ xs) ys = ap (λ l. atom.Event x ∷ l) (event_atoms-append xs ys)

numbers_of_atoms : (es : List ℕ) → event_numbers (event_atoms es) ≡ Some es
numbers_of_atoms [] = refl
numbers_of_atoms (e ∷ es) = ap (both_events (Some e)) (numbers_of_atoms es)

atom_is : (a : Atom) (e : ℕ) → Some e ≡ event_number a → a ≡ atom.Event e
atom_is (atom.Num n) e h = absurd (cc)
atom_is (atom.Truth b) e h = absurd (cc)
atom_is (atom.Const k) e h = absurd (cc)
atom_is (atom.Event f) e h = let is : e ≡ f = cc in ap atom.Event (sym is)

-- one more event was read
pub one_more_event : (es : List ℕ) (xs : List Atom) (k e : ℕ) (a : Atom) → k < length xs → event_atoms es ≡ take k xs → a ≡ get_or xs k a → Some e ≡ event_number a → event_atoms (es ++ e ∷ []) ≡ take (k + 1) xs
one_more_event es xs k e a l h is n =
    event_atoms-append es (e ∷ []) ∙ ap (λ z. event_atoms es ++ z ∷ []) (sym (atom_is a e n)) ∙ ap (λ z. event_atoms es ++ z ∷ []) is
    ∙ ap (λ z. z ++ get_or xs k a ∷ []) h ∙ sym (take_more xs k a l)

-- all were read
pub all_events : (es : List ℕ) (xs : List Atom) (k : ℕ) → length xs ≤ k → event_atoms es ≡ take k xs → Some es ≡ event_numbers xs
all_events es xs k l h = sym (numbers_of_atoms es) ∙ ap event_numbers (h ∙ take_all k xs l)

none_after : (o : Option ℕ) → both_events o None ≡ None
none_after None = refl
none_after (Some e) = refl

-- one atom is no event
pub no_event : (xs : List Atom) (k : ℕ) (d : Atom) → k < length xs → None ≡ event_number (get_or xs k d) → None ≡ event_numbers xs
no_event [] k d l h = absurd (omega arith)
no_event (x ∷ xs) zero d l h = ap (λ o. both_events o (event_numbers xs)) h
no_event (x ∷ xs) (suc k) d l h = sym (none_after (event_number x)) ∙ ap (both_events (event_number x)) (no_event xs k d (omega arith) h)

-- ---- a walk over the events of a set

-- ---- the atoms of the numbers of a list of events

rest_of : (o : Option ℕ) (rest : Option (List ℕ)) (es : List ℕ) → Some es ≡ both_events o rest → (e : ℕ) × (ds : List ℕ) × (Some e ≡ o) × (Some ds ≡ rest) × (es ≡ e ∷ ds)
rest_of None rest es h = absurd (cc)
rest_of (Some e) None es h = absurd (cc)
rest_of (Some e) (Some ds) es h = (e, ds, refl, refl, (cc))

pub atoms_of_numbers : (xs : List Atom) (es : List ℕ) → Some es ≡ event_numbers xs → xs ≡ event_atoms es
atoms_of_numbers [] es h = let is : es ≡ [] = cc in ap event_atoms (sym is)
atoms_of_numbers (x ∷ xs) es h =
    let t = rest_of (event_number x) (event_numbers xs) es h in
    let first : x ≡ atom.Event t.0 = atom_is x t.0 t.2 in
    let rest : xs ≡ event_atoms t.1 = atoms_of_numbers xs t.1 t.3 in
    rw t.4 (λ i. first i ∷ rest i)
