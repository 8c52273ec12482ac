-- Sets of atoms that grow step by step.
use Rattle.value_operators.proofs.Prelude.{◌≡◌, ℕ, zero, suc, ◌+◌, ◌-◌, ◌<◌, ◌≤◌, List, [], ◌∷◌, Ok, Err, true, false, length, refl, ap, subst, sym, ◌∙◌, arith, cond, drop, get_or, drop-cons, add-one, map, ℤ, pos, negsuc, ◌+ℤ◌, ◌-ℤ◌, ◌≤ℤ◌, ◌<ℤ◌, nat_le, Result, IsErrAnd, ints, less, with_atom, fits, Atom, added, all_added, limited, numbers_from, Outcome, and_then, range, ValueKind, Kind, SetLimit, events_from, Gives, EvalFault, less_number, natural, MOST_ELEMENTS}
use Rattle.csp_atoms.specs.declared.atom.Atom.TheVariants as atom
use Rattle.value_operators.proofs.Faults.{passed}

-- the atoms of a list, the first of which is added
abbrev more_of : Outcome (List Atom) → List Atom → Outcome (List Atom)
more_of o rest = and_then o (λ more. all_added more rest)

pub list_fault : (whole : Outcome (List Atom)) (atoms rest all : List Atom) (one : Atom) (k : ValueKind) → whole ≡ all_added atoms all → all ≡ one ∷ rest → added atoms one ≡ Err k → whole ≡ Err k
list_fault whole atoms rest all one k w is e = w ∙ (ap (all_added atoms) is ∙ ap (λ o. more_of o rest) e)

pub list_next : (whole : Outcome (List Atom)) (atoms rest all more : List Atom) (one : Atom) → whole ≡ all_added atoms all → all ≡ one ∷ rest → added atoms one ≡ Ok more → whole ≡ all_added more rest
list_next whole atoms rest all more one w is e = w ∙ (ap (all_added atoms) is ∙ ap (λ o. more_of o rest) e)

pub events_left : (e i n : ℕ) (one : Atom) → i < n → one ≡ atom.Event (e + i) → events_from (e + i) (n - i) ≡ one ∷ events_from (e + (i + 1)) (n - (i + 1))
events_left e i n one lt is =
    let left : n - i ≡ suc (n - (i + 1)) = omega arith in
    let next : e + i + 1 ≡ e + (i + 1) = omega arith in
    ap (events_from (e + i)) left ∙ (ap (λ s. atom.Event (e + i) ∷ events_from s (n - (i + 1))) next ∙ ap (λ a. a ∷ events_from (e + (i + 1)) (n - (i + 1))) (sym is))

pub constants_left : (ks : List ℕ) (i : ℕ) → i < length ks → map (λ k. atom.Const k) (drop i ks) ≡ atom.Const (get_or ks i 0) ∷ map (λ k. atom.Const k) (drop (i + 1) ks)
constants_left ks i lt = rw (add-one i) (ap (map (λ k. atom.Const k)) (drop-cons ks i 0 lt))

not_less_number : (m n : ℤ) → m <ℤ n → less (atom.Num n) (atom.Num m) ≡ false
unfolding less
not_less_number m n h = grind (arith, ints)

put_past : (b a : Atom) (bs : List Atom) → less a b ≡ false → less b a ≡ true → with_atom (b ∷ bs) a ≡ b ∷ with_atom bs a
put_past b a bs h g = ap (λ t. cond t (a ∷ b ∷ bs) (cond (less b a) (b ∷ with_atom bs a) (b ∷ bs))) h ∙ ap (λ t. cond t (b ∷ with_atom bs a) (b ∷ bs)) g

with_number : (m : ℤ) (k : ℕ) (x : ℤ) → x ≡ m +ℤ pos k → with_atom (numbers_from m k) (atom.Num x) ≡ numbers_from m (suc k)
with_number m zero x e = let same : x ≡ m = omega (arith, ints) in ap (λ z. atom.Num z ∷ []) same
with_number m (suc k) x e =
    let below : m <ℤ x = omega (arith, ints) in
    let next : x ≡ (m +ℤ pos 1) +ℤ pos k = omega (arith, ints) in
    put_past (atom.Num m) (atom.Num x) (numbers_from (m +ℤ pos 1) k) (not_less_number m x below) (less_number m x below) ∙
    ap (λ rest. atom.Num m ∷ rest) (with_number (m +ℤ pos 1) k x next)

fits_numbers : (m : ℤ) (k : ℕ) (x : ℤ) → fits (numbers_from m k) (atom.Num x) ≡ true
fits_numbers m zero x = refl
fits_numbers m (suc k) x = refl

pub length_numbers : (m : ℤ) (k : ℕ) → length (numbers_from m k) ≡ k
length_numbers m zero = refl
length_numbers m (suc k) = ap suc (length_numbers (m +ℤ pos 1) k)

pub limited_few : (atoms : List Atom) → length atoms ≤ MOST_ELEMENTS → limited atoms ≡ Ok atoms
limited_few atoms h = let t : nat_le (length atoms) MOST_ELEMENTS ≡ true = grind arith in ap (λ b. cond b (Ok atoms) (Err SetLimit)) t

limited_many : (atoms : List Atom) → MOST_ELEMENTS < length atoms → limited atoms ≡ Err SetLimit
limited_many atoms h = let t : nat_le (length atoms) MOST_ELEMENTS ≡ false = grind arith in ap (λ b. cond b (Ok atoms) (Err SetLimit)) t

pub added_number : (m x : ℤ) (k : ℕ) (atoms : List Atom) (one : Atom) → atoms ≡ numbers_from m k → one ≡ atom.Num x → x ≡ m +ℤ pos k → k < MOST_ELEMENTS → added atoms one ≡ Ok (numbers_from m (k + 1))
added_number m x k atoms one is is_one e few =
    let small : length (numbers_from m (k + 1)) ≤ MOST_ELEMENTS = omega (arith, length_numbers m (k + 1)) in
    ap (λ s. added s one) is ∙ (ap (added (numbers_from m k)) is_one ∙ (ap (λ b. cond b (limited (with_atom (numbers_from m k) (atom.Num x))) (Err Kind)) (fits_numbers m k x) ∙
    (ap limited (with_number m k x e ∙ ap (numbers_from m) (sym (add-one k))) ∙ limited_few (numbers_from m (k + 1)) small)))

pub number_next : (m x : ℤ) (k : ℕ) (atoms more : List Atom) (one : Atom) → atoms ≡ numbers_from m k → one ≡ atom.Num x → x ≡ m +ℤ pos k → k < MOST_ELEMENTS → added atoms one ≡ Ok more → more ≡ numbers_from m (k + 1)
number_next m x k atoms more one is is_one e few h = let good : added atoms one ≡ Ok (numbers_from m (k + 1)) = added_number m x k atoms one is is_one e few in cc

pub number_fault : (r : Result (List Atom) EvalFault) (f : EvalFault) (m x : ℤ) (k : ℕ) (atoms all : List Atom) (one : Atom)
    → atoms ≡ numbers_from m k → one ≡ atom.Num x → x ≡ m +ℤ pos k → k < MOST_ELEMENTS → IsErrAnd r (λ y. y ≡ f) → Gives {A = List Atom} (Err f) (added atoms one) → Gives r (Ok all)
number_fault r f m x k atoms all one is is_one e few failed h =
    passed r f (added atoms one) (Ok all) failed h (λ kind bad. let good : added atoms one ≡ Ok (numbers_from m (k + 1)) = added_number m x k atoms one is is_one e few in cc)

above : (z : ℤ) → pos MOST_ELEMENTS <ℤ z → MOST_ELEMENTS < natural z
above (pos n) h = omega (arith, ints)
above (negsuc n) h = absurd (omega (arith, ints))

far : (m n : ℤ) → pos MOST_ELEMENTS ≤ℤ (n -ℤ m) → MOST_ELEMENTS < natural (n -ℤ m +ℤ pos 1)
far m n h = above (n -ℤ m +ℤ pos 1) (omega (arith, ints))

pub range_far : (m n m' n' : ℤ) → m' ≡ m → n' ≡ n → pos MOST_ELEMENTS ≤ℤ (n' -ℤ m') → range m n ≡ Err SetLimit
range_far m n m' n' is_m is_n h =
    let d : ℕ = natural (n -ℤ m +ℤ pos 1) in
    let many : MOST_ELEMENTS < natural (n -ℤ m +ℤ pos 1) = far m n (omega (arith, ints)) in
    limited_many (numbers_from m d) (omega (arith, length_numbers m d))

pub range_near : (r : Result (List Atom) EvalFault) (m n m' n' : ℤ) (d : ℕ) → m' ≡ m → n' ≡ n → (m' +ℤ pos d) ≡ n' → d < MOST_ELEMENTS → Gives r (Ok (numbers_from m' (d + 1))) → Gives r (range m n)
range_near r m n m' n' d is_m is_n e few h =
    let span : n -ℤ m +ℤ pos 1 ≡ pos (d + 1) = omega (arith, ints) in
    let few_enough : length (numbers_from m (d + 1)) ≤ MOST_ELEMENTS = omega (arith, length_numbers m (d + 1)) in
    let is : range m n ≡ Ok (numbers_from m (d + 1)) = ap (λ z. limited (numbers_from m (natural z))) span ∙ limited_few (numbers_from m (d + 1)) few_enough in
    subst (Gives r) (sym is) (subst (λ z. Gives r (Ok (numbers_from z (d + 1)))) is_m h)
