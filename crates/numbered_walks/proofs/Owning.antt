-- The rows of the owners of events.
use Rattle.numbered_walks.proofs.Prelude.{◌≡◌, ℕ, zero, suc, ◌+◌, ◌<◌, ◌≤◌, ◌^◌, inl, inr, Bool, true, false, ◌||◌, nat_eq, cond, List, [], ◌∷◌, ◌++◌, length, map, take, set, get_or, refl, sym, ap, subst, ◌∙◌, append_assoc, arith, IsStrictlyIncreasing, append-nil, cases_eq, eq-eqb, eqb-true, ne_eqb, get_or-set_other, get_or-set_same, length-map, length-take-le, mark_count, marked, places_from, AreOwnerRows, bit, owner_count, owner_marks, Numbered, map_push, take_read, RisesFrom, has_below, rises_from_increasing, has}
use Rattle.numbered_walks.proofs.Counting.{one_mark}
use Rattle.numbered_walks.proofs.Places.{as_many}

-- ---- one owner more
abbrev pub owned : Bool → ℕ → List ℕ
owned b owner = cond b (owner ∷ []) []

-- a row more, or an owner more in a row
pub row_more : (old new : List (List ℕ)) (row : List ℕ) → row ≡ [] → new ≡ old ++ row ∷ [] → (e : ℕ) → get_or new e [] ≡ get_or old e []
row_more old new row none grown e = ap (λ (rows : List (List ℕ)). get_or rows e []) (grown ∙ ap (λ (r : List ℕ). old ++ r ∷ []) none) ∙ same old e
  where
    same : (rows : List (List ℕ)) (i : ℕ) → get_or (rows ++ [] ∷ []) i [] ≡ get_or rows i []
    same [] zero = refl
    same [] (suc i) = refl
    same (row ∷ rows) zero = refl
    same (row ∷ rows) (suc i) = same rows i

pub owner_more : (old new : List (List ℕ)) (x owner : ℕ) → x < length old → new ≡ set old x (get_or old x [] ++ owner ∷ []) → (e : ℕ) → get_or new e [] ≡ get_or old e [] ++ owned (nat_eq x e) owner
owner_more old new x owner within grown e = ap (λ (rows : List (List ℕ)). get_or rows e []) grown ∙ elim (cases_eq e x) as (λ _. get_or (set old x (get_or old x [] ++ owner ∷ [])) e [] ≡ get_or old e [] ++ owned (nat_eq x e) owner) [
  | inl same ↦
      subst (λ k. get_or (set old x (get_or old x [] ++ owner ∷ [])) k [] ≡ get_or old k [] ++ owned (nat_eq x k) owner) (sym same)
      (get_or-set_same old x (get_or old x [] ++ owner ∷ []) [] within ∙ ap (λ (b : Bool). get_or old x [] ++ owned b owner) (sym (eq-eqb x x refl)))
  | inr other ↦
      get_or-set_other old x e (get_or old x [] ++ owner ∷ []) [] other ∙ sym (append-nil (get_or old e [])) ∙ ap (λ (b : Bool). get_or old e [] ++ owned b owner) (sym (ne_eqb x e (λ p. other (sym p))))
]

-- while the events of an alphabet are gone through
pub record AreAdded (owner : ℕ) (old new : List (List ℕ)) (alphabet left : List ℕ) : Type 0 where
  pub least : ℕ
  pub rises : RisesFrom least left
  pub rows : (e : ℕ) → get_or new e [] ++ owned (has left e) owner ≡ get_or old e [] ++ owned (has alphabet e) owner
  pub small : length new ≤ 2 ^ 32

pub none_added : (owner : ℕ) (old : List (List ℕ)) (alphabet left : List ℕ) → left ≡ alphabet → IsStrictlyIncreasing alphabet → length old ≤ 2 ^ 32 → AreAdded owner old old alphabet left
none_added owner old alphabet left is rising small = record {
  least = 0;
  rises = rises_from_increasing left (subst IsStrictlyIncreasing (sym is) rising);
  rows = λ e. ap (λ (xs : List ℕ). get_or old e [] ++ owned (has xs e) owner) is;
  small = small;
}

owned_apart : (a b : Bool) (owner : ℕ) → (a ≡ true → b ≡ false) → owned a owner ++ owned b owner ≡ owned (a || b) owner
owned_apart true b owner apart = ap (λ (c : Bool). owner ∷ owned c owner) (apart refl)
owned_apart false b owner apart = refl

pub one_added : (owner : ℕ) (old new next : List (List ℕ)) (alphabet left rest : List ℕ) (x : ℕ) → left ≡ x ∷ rest → AreAdded owner old new alphabet left → length next ≤ 2 ^ 32
    → ((e : ℕ) → get_or next e [] ≡ get_or new e [] ++ owned (nat_eq x e) owner) → AreAdded owner old next alphabet rest
one_added owner old new next alphabet left rest x is added small grown =
    let rises : RisesFrom (x + 1) rest = (subst (RisesFrom added.least) is added.rises).1 in
    record {
      least = x + 1;
      rises = rises;
      rows = λ e.
          ap (λ (row : List ℕ). row ++ owned (has rest e) owner) (grown e) ∙ append_assoc (get_or new e []) (owned (nat_eq x e) owner) (owned (has rest e) owner)
          ∙ ap (λ (row : List ℕ). get_or new e [] ++ row) (owned_apart (nat_eq x e) (has rest e) owner (λ here. has_below (x + 1) rest e rises (let same = eqb-true x e here in omega (arith, same))))
          ∙ ap (λ (xs : List ℕ). get_or new e [] ++ owned (has xs e) owner) (sym is) ∙ added.rows e;
      small = small;
    }

pub all_added : (owner : ℕ) (old new : List (List ℕ)) (alphabet left : List ℕ) → left ≡ [] → AreAdded owner old new alphabet left → (e : ℕ) → get_or new e [] ≡ get_or old e [] ++ owned (has alphabet e) owner
all_added owner old new alphabet left is added e = sym (append-nil (get_or new e [])) ∙ sym (ap (λ (xs : List ℕ). get_or new e [] ++ owned (has xs e) owner) is) ∙ added.rows e

-- ---- one component more
places_push : (k : ℕ) (ms : List Bool) (b : Bool) → places_from k (ms ++ b ∷ []) ≡ places_from k ms ++ owned b (k + length ms)
places_push k [] true = ap (λ n. n ∷ []) (omega arith)
places_push k [] false = refl
places_push k (true ∷ ms) b = ap (λ (xs : List ℕ). k ∷ xs) (places_push (k + 1) ms b ∙ ap (λ n. places_from (k + 1) ms ++ owned b n) (omega arith))
places_push k (false ∷ ms) b = places_push (k + 1) ms b ∙ ap (λ n. places_from (k + 1) ms ++ owned b n) (omega arith)

pub owners_more : (cs : List Numbered) (k : ℕ) (c : Numbered) (old new : List (List ℕ)) → k < length cs → c ≡ get_or cs k c → ((e : ℕ) → get_or old e [] ≡ marked (owner_marks e (take k cs)))
    → ((e : ℕ) → get_or new e [] ≡ get_or old e [] ++ owned (has c.alphabet e) k) → (e : ℕ) → get_or new e [] ≡ marked (owner_marks e (take (k + 1) cs))
owners_more cs k c old new below is before grown e =
    let count : length (owner_marks e (take k cs)) ≡ k = length-map (take k cs) (λ d. has d.alphabet e) ∙ length-take-le k cs (omega (arith, below)) in
    let push : marked (owner_marks e (take k cs) ++ has c.alphabet e ∷ []) ≡ marked (owner_marks e (take k cs)) ++ owned (has c.alphabet e) k =
    places_push 0 (owner_marks e (take k cs)) (has c.alphabet e) ∙ ap (λ n. marked (owner_marks e (take k cs)) ++ owned (has c.alphabet e) n) (omega (arith, count)) in
    grown e ∙ ap (λ (xs : List ℕ). xs ++ owned (has c.alphabet e) k) (before e) ∙ sym push ∙ sym (ap marked (map_push (λ (d : Numbered). has d.alphabet e) (take k cs) c)) ∙ sym (ap (λ (ds : List Numbered). marked (owner_marks e ds)) (take_read cs k c below is))

-- ---- how many there are
count_of_row : (rows : List (List ℕ)) (e : ℕ) → get_or (map length rows) e 0 ≡ length (get_or rows e [])
count_of_row [] e = refl
count_of_row (row ∷ rows) zero = refl
count_of_row (row ∷ rows) (suc e) = count_of_row rows e

count_of_marks : (e : ℕ) (cs : List Numbered) → mark_count (owner_marks e cs) ≡ owner_count e cs
count_of_marks e [] = refl
count_of_marks e (c ∷ cs) = one_mark (has c.alphabet e) (owner_marks e cs) ∙ ap (λ n. bit (has c.alphabet e) + n) (count_of_marks e cs)

pub owner_counts_are : (cs : List Numbered) (rows : List (List ℕ)) (counts : List ℕ) → AreOwnerRows cs rows → counts ≡ map length rows → (e : ℕ) → get_or counts e 0 ≡ owner_count e cs
owner_counts_are cs rows counts are is e =
    ap (λ (ns : List ℕ). get_or ns e 0) is ∙ count_of_row rows e ∙ ap length (are e) ∙ as_many 0 (owner_marks e cs) ∙ count_of_marks e cs
