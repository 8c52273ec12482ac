-- What loops over parts, rows and pairs read.
use Rattle.network_stages.proofs.Prelude.{◌≡◌, ℕ, ◌+◌, ◌<◌, List, [], ◌++◌, length, get_or, take, Bool, true, false, ◌||◌, Option, nat_eq, refl, sym, ap, subst, ◌∙◌, get_or_read, list_any_more, has, with_member, Part, part_at, row_at, joints, AreOwners, AreRows, has_event, pair_at, has-with_member}
use Rattle.network_stages.proofs.Joining.{rows_more}

-- the part of a place, as it is read from a list
pub part_read : (parts items : List Part) (k : ℕ) (part : Part) → items ≡ parts → k < length items → part ≡ get_or items k part → part_at parts k ≡ part
part_read parts items k part is h at = sym (get_or_read parts k part (subst (λ ps. k < length ps) is h) (at ∙ ap (λ ps. get_or ps k part) is) (record { alphabet = []; table = [] }))

pub row_read : (rows : List (List (ℕ × ℕ))) (k : ℕ) (row items : List (ℕ × ℕ)) → k < length rows → row ≡ get_or rows k row → items ≡ row → row_at rows k ≡ items
row_read rows k row items h at is = sym (get_or_read rows k row h at []) ∙ sym is

pub pair_read : (row : List (ℕ × ℕ)) (k : ℕ) (pair : ℕ × ℕ) → k < length row → pair ≡ get_or row k pair → pair_at row k ≡ pair
pair_read row k pair h at = sym (get_or_read row k pair h at (0, 0))

-- the rows with what one more part shares
pub rows_read : (parts : List Part) (n : ℕ) (owners kept : List (Option ℕ)) (rows more : List (List (ℕ × ℕ))) (part : Part) (events : List ℕ)
    → kept ≡ owners → n < length parts → part ≡ get_or parts n part → events ≡ part.alphabet
    → AreOwners parts n owners → AreRows parts n rows → length more ≡ length rows → ((i : ℕ) → row_at more i ≡ row_at rows i ++ joints kept n i events) → AreRows parts (n + 1) more
rows_read parts n owners kept rows more part events same h at is a r count added =
    let here : events ≡ (part_at parts n).alphabet = is ∙ ap (λ (p : Part). p.alphabet) (sym (part_read parts parts n part refl h at)) in
    rows_more parts n owners rows more a h r count (λ i. added i ∙ ap (λ os. row_at rows i ++ joints os n i events) same ∙ ap (λ es. row_at rows i ++ joints owners n i es) here)

-- ---- events of pairs

turned : (q s t : Bool) → (q || (s || t)) ≡ (s || (t || q))
turned true true t = refl
turned true false true = refl
turned true false false = refl
turned false true t = refl
turned false false true = refl
turned false false false = refl

-- a set with the event of one more pair
pub included_more : (row : List (ℕ × ℕ)) (i : ℕ) (pair : ℕ × ℕ) (start old new : List ℕ) → i < length row → pair ≡ get_or row i pair → new ≡ with_member pair.1 old
    → ((e : ℕ) → has old e ≡ (has start e || has_event (take i row) e)) → (e : ℕ) → has new e ≡ (has start e || has_event (take (i + 1) row) e)
included_more row i pair start old new h at is so_far e =
    let q : Bool = nat_eq pair.1 e in
    let first : has new e ≡ (q || has old e) = ap (λ xs. has xs e) is ∙ has-with_member pair.1 old e in
    let read : nat_eq (pair_at row i).1 e ≡ q = ap (λ (p : ℕ × ℕ). nat_eq p.1 e) (pair_read row i pair h at) in
    let more : has_event (take (i + 1) row) e ≡ (has_event (take i row) e || q) = list_any_more (λ (p : ℕ × ℕ). nat_eq p.1 e) row i (0, 0) h ∙ ap (λ b. has_event (take i row) e || b) read in
    first ∙ ap (λ b. q || b) (so_far e) ∙ turned q (has start e) (has_event (take i row) e) ∙ ap (λ b. has start e || b) (sym more)
