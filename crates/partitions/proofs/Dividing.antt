-- The marked nodes of a block become a block of their own: what becomes of the partition.
use Rattle.partitions.proofs.Prelude.{◌≡◌, ℕ, ◌+◌, ◌<◌, ◌≤◌, List, [], ◌∷◌, ◌++◌, length, set, Bool, true, false, nat_lt, refl, sym, ap, ◌∙◌, subst, arith, inl, inr, slice_index, slice_index_or, has, cases_eq, cases_lt, lt-ltb, le-ltb, length-set, length_push, State, HasBlocks, block_at, is_marked, sizes, waits, IsDivided}
use Rattle.partitions.proofs.Writes.{by_write, by_push, default_push}
use Rattle.partitions.proofs.Sizes.{sizes_push, sizes_set}

-- What becomes of a node i when the marked nodes of the block b leave it, where new is the number of their block.
pub data Fate (s t : State) (b new i : ℕ) : Type 0 where
  moves : block_at s i ≡ b → block_at t i ≡ new → is_marked s i ≡ true → is_marked t i ≡ false → Fate s t b new i
  stays : block_at s i ≡ b → block_at t i ≡ b → is_marked s i ≡ false → is_marked t i ≡ false → Fate s t b new i
  outside : (block_at s i ≡ b → ⊥) → block_at t i ≡ block_at s i → block_at s i < new → is_marked t i ≡ is_marked s i → Fate s t b new i

module _ (n : ℕ) (s t : State) (b : ℕ) (good : HasBlocks n s) (inside : b < length s.firsts) (some : slice_index s.firsts b < slice_index s.middles b) (not_all : slice_index s.middles b < slice_index s.ends b) (d : IsDivided s t b) where
  abbrev first : ℕ
  first = slice_index s.firsts b

  abbrev middle : ℕ
  middle = slice_index s.middles b

  abbrev new : ℕ
  new = length s.firsts

  pub one_more : length t.firsts ≡ new + 1
  one_more = ap (λ (xs : List ℕ). length xs) d.firsts ∙ length_push (set s.firsts b middle) first ∙ ap (λ k. k + 1) (length-set s.firsts b middle)

  firsts_then : (c : ℕ) → c < new + 1 → (P : ℕ → Type 0) → (c ≡ new → P first) → (c < new → c ≡ b → P middle) → (c < new → (c ≡ b → ⊥) → P (slice_index s.firsts c)) → P (slice_index t.firsts c)
  firsts_then c h P last same rest =
      subst (λ (xs : List ℕ). P (slice_index xs c)) (sym d.firsts)
      (by_push (set s.firsts b middle) first c 0 (subst (λ k. c < k + 1) (sym (length-set s.firsts b middle)) h) P
      (λ e. last (e ∙ length-set s.firsts b middle))
      (λ l. let l' : c < new = subst (λ k. c < k) (length-set s.firsts b middle) l in by_write s.firsts b middle c 0 inside P (λ e. same l' e) (λ ne. rest l' ne)))

  middles_then : (c : ℕ) → c < new + 1 → (P : ℕ → Type 0) → (c ≡ new → P first) → (c < new → P (slice_index s.middles c)) → P (slice_index t.middles c)
  middles_then c h P last rest =
      subst (λ (xs : List ℕ). P (slice_index xs c)) (sym d.middles)
      (by_push s.middles first c 0 (subst (λ k. c < k + 1) (sym good.middles_len) h) P (λ e. last (e ∙ good.middles_len)) (λ l. rest (subst (λ k. c < k) good.middles_len l)))

  ends_then : (c : ℕ) → c < new + 1 → (P : ℕ → Type 0) → (c ≡ new → P middle) → (c < new → P (slice_index s.ends c)) → P (slice_index t.ends c)
  ends_then c h P last rest =
      subst (λ (xs : List ℕ). P (slice_index xs c)) (sym d.ends)
      (by_push s.ends middle c 0 (subst (λ k. c < k + 1) (sym good.ends_len) h) P (λ e. last (e ∙ good.ends_len)) (λ l. rest (subst (λ k. c < k) good.ends_len l)))

  ends_below : slice_index s.ends b ≤ n
  ends_below = (good.spans b inside).3

  moved_block : (i : ℕ) → i < n → block_at s i ≡ b → slice_index s.places i < middle → block_at t i ≡ new
  moved_block i h e l =
      let p = good.placed i h in
      let low : first ≤ slice_index s.places i = subst (λ c. slice_index s.firsts c ≤ slice_index s.places i) e (good.within i h).0 in
      ap (λ k. block_at t k) (sym p.1) ∙ d.moved (slice_index s.places i) low l

  kept_block : (i : ℕ) → i < n → (block_at s i ≡ b → slice_index s.places i < middle → ⊥) → block_at t i ≡ block_at s i
  kept_block i h not_moved = d.kept i (λ k low high e.
      let below : k < n = let l = not_all in let r = ends_below in omega arith in
      let there : slice_index s.places i ≡ k = ap (λ x. slice_index s.places x) (sym e) ∙ (good.ordered k below).1 in
      not_moved (ap (λ x. block_at s x) (sym e) ∙ good.owned b k inside low (let l = not_all in omega arith)) (subst (λ q. q < middle) (sym there) high))

  by_moved : (i : ℕ) → i < n → (P : ℕ → Type 0) → (block_at s i ≡ b → slice_index s.places i < middle → P new) → ((block_at s i ≡ b → slice_index s.places i < middle → ⊥) → P (block_at s i)) → P (block_at t i)
  by_moved i h P moved kept = elim (cases_eq (block_at s i) b) as (λ _. P (block_at t i)) [
    | inl e ↦ elim (cases_lt (slice_index s.places i) middle) as (λ _. P (block_at t i)) [
      | inl l ↦ subst P (sym (moved_block i h e l)) (moved e l)
      | inr g ↦ let never : block_at s i ≡ b → slice_index s.places i < middle → ⊥ = λ _ l. absurd (omega arith) in subst P (sym (kept_block i h never)) (kept never)
    ]
    | inr ne ↦ let never : block_at s i ≡ b → slice_index s.places i < middle → ⊥ = λ e _. ne e in subst P (sym (kept_block i h never)) (kept never)
  ]

  same_place : (i : ℕ) → slice_index t.places i ≡ slice_index s.places i
  same_place i = ap (λ (xs : List ℕ). slice_index xs i) d.places

  same_order : (p : ℕ) → slice_index t.order p ≡ slice_index s.order p
  same_order p = ap (λ (xs : List ℕ). slice_index xs p) d.order

  old_below : (c : ℕ) → c < new → c < new + 1
  old_below c h = omega arith

  within_then : (i : ℕ) → i < n → (slice_index t.firsts (block_at t i) ≤ slice_index s.places i) × (slice_index s.places i < slice_index t.ends (block_at t i))
  within_then i h =
      let w = good.within i h in
      by_moved i h (λ c. (slice_index t.firsts c ≤ slice_index s.places i) × (slice_index s.places i < slice_index t.ends c))
      (λ e l. (
        firsts_then new (omega arith) (λ f. f ≤ slice_index s.places i) (λ _. subst (λ c. slice_index s.firsts c ≤ slice_index s.places i) e w.0) (λ r _. absurd (omega arith)) (λ r _. absurd (omega arith)),
        ends_then new (omega arith) (λ r. slice_index s.places i < r) (λ _. l) (λ r. absurd (omega arith)),
      ))
      (λ kept. let k = good.numbered i h in (
        firsts_then (block_at s i) (old_below (block_at s i) k) (λ f. f ≤ slice_index s.places i) (λ e. absurd (omega arith)) (λ _ e. elim (cases_lt (slice_index s.places i) middle) as (λ _. middle ≤ slice_index s.places i) [ inl l ↦ absurd (kept e l) | inr g ↦ g ]) (λ _ _. w.0),
        ends_then (block_at s i) (old_below (block_at s i) k) (λ r. slice_index s.places i < r) (λ e. absurd (omega arith)) (λ _. w.1),
      ))

  spans_then : (c : ℕ) → c < new + 1 → (slice_index t.firsts c ≤ slice_index t.middles c) × (slice_index t.middles c ≤ slice_index t.ends c) × (slice_index t.firsts c < slice_index t.ends c) × (slice_index t.ends c ≤ n)
  spans_then c h = elim (cases_lt c new) as (λ _. (slice_index t.firsts c ≤ slice_index t.middles c) × (slice_index t.middles c ≤ slice_index t.ends c) × (slice_index t.firsts c < slice_index t.ends c) × (slice_index t.ends c ≤ n)) [
    | inl l ↦
        let p = good.spans c l in
        middles_then c h (λ m. (slice_index t.firsts c ≤ m) × (m ≤ slice_index t.ends c) × (slice_index t.firsts c < slice_index t.ends c) × (slice_index t.ends c ≤ n)) (λ e. absurd (omega arith)) (λ _.
        ends_then c h (λ r. (slice_index t.firsts c ≤ slice_index s.middles c) × (slice_index s.middles c ≤ r) × (slice_index t.firsts c < r) × (r ≤ n)) (λ e. absurd (omega arith)) (λ _.
        firsts_then c h (λ f. (f ≤ slice_index s.middles c) × (slice_index s.middles c ≤ slice_index s.ends c) × (f < slice_index s.ends c) × (slice_index s.ends c ≤ n)) (λ e. absurd (omega arith))
        (λ _ e. subst (λ x. (middle ≤ slice_index s.middles x) × (slice_index s.middles x ≤ slice_index s.ends x) × (middle < slice_index s.ends x) × (slice_index s.ends x ≤ n)) (sym e) (let q = not_all in (omega arith, omega arith, q, ends_below)))
        (λ _ _. p)))
    | inr g ↦
        let q = some in let r = not_all in let u = ends_below in
        middles_then c h (λ m. (slice_index t.firsts c ≤ m) × (m ≤ slice_index t.ends c) × (slice_index t.firsts c < slice_index t.ends c) × (slice_index t.ends c ≤ n)) (λ _.
        ends_then c h (λ r. (slice_index t.firsts c ≤ first) × (first ≤ r) × (slice_index t.firsts c < r) × (r ≤ n)) (λ _.
        firsts_then c h (λ f. (f ≤ first) × (first ≤ middle) × (f < middle) × (middle ≤ n)) (λ _. (omega arith, omega arith, q, omega arith)) (λ l _. absurd (omega arith)) (λ l _. absurd (omega arith)))
        (λ l. absurd (omega arith))) (λ l. absurd (omega arith))
  ]

  owned_old : (c p : ℕ) → c < new → slice_index s.firsts c ≤ p → p < slice_index s.ends c → (c ≡ b → middle ≤ p) → block_at t (slice_index s.order p) ≡ c
  owned_old c p h low high apart =
      let below : p < n = let k = (good.spans c h).3 in omega arith in
      let o = good.ordered p below in
      let is = good.owned c p h low high in
      kept_block (slice_index s.order p) o.0 (λ e l. let a = apart (sym is ∙ e) in let l' : p < middle = subst (λ q. q < middle) o.1 l in absurd (omega arith)) ∙ is

  owned_then : (c p : ℕ) → c < new + 1 → slice_index t.firsts c ≤ p → p < slice_index t.ends c → block_at t (slice_index s.order p) ≡ c
  owned_then c p h =
      firsts_then c h (λ f. f ≤ p → p < slice_index t.ends c → block_at t (slice_index s.order p) ≡ c)
      (λ e low. ends_then c h (λ r. p < r → block_at t (slice_index s.order p) ≡ c) (λ _ high. d.moved p low high ∙ sym e) (λ l. absurd (omega arith)))
      (λ l e low. ends_then c h (λ r. p < r → block_at t (slice_index s.order p) ≡ c) (λ k. absurd (omega arith)) (λ _ high. owned_old c p l (subst (λ x. slice_index s.firsts x ≤ p) (sym e) (let q = some in omega arith)) high (λ _. low)))
      (λ l ne low. ends_then c h (λ r. p < r → block_at t (slice_index s.order p) ≡ c) (λ k. absurd (omega arith)) (λ _ high. owned_old c p l low high (λ e. absurd (ne e))))

  pub blocks_divided : HasBlocks n t
  blocks_divided = record {
    small = good.small;
    order_len = ap (λ (xs : List ℕ). length xs) d.order ∙ good.order_len;
    places_len = ap (λ (xs : List ℕ). length xs) d.places ∙ good.places_len;
    blocks_len = d.blocks_len ∙ good.blocks_len;
    middles_len = ap (λ (xs : List ℕ). length xs) d.middles ∙ length_push s.middles first ∙ ap (λ k. k + 1) good.middles_len ∙ sym one_more;
    ends_len = ap (λ (xs : List ℕ). length xs) d.ends ∙ length_push s.ends middle ∙ ap (λ k. k + 1) good.ends_len ∙ sym one_more;
    flags_len = ap (λ (xs : List Bool). length xs) d.flags ∙ length_push s.flags false ∙ ap (λ k. k + 1) good.flags_len ∙ sym one_more;
    placed = λ i h. let p = good.placed i h in (subst (λ q. q < n) (sym (same_place i)) p.0, same_order (slice_index t.places i) ∙ ap (λ q. slice_index s.order q) (same_place i) ∙ p.1);
    ordered = λ q h. let p = good.ordered q h in (subst (λ x. x < n) (sym (same_order q)) p.0, same_place (slice_index t.order q) ∙ ap (λ x. slice_index s.places x) (same_order q) ∙ p.1);
    numbered = λ i h. subst (λ k. block_at t i < k) (sym one_more) (by_moved i h (λ c. c < new + 1) (λ _ _. omega arith) (λ _. let k = good.numbered i h in omega arith));
    within = λ i h. subst (λ q. (slice_index t.firsts (block_at t i) ≤ q) × (q < slice_index t.ends (block_at t i))) (sym (same_place i)) (within_then i h);
    spans = λ c h. spans_then c (subst (λ k. c < k) one_more h);
    owned = λ c p h low high. ap (λ x. block_at t x) (same_order p) ∙ owned_then c p (subst (λ k. c < k) one_more h) low high;
    whole = ap (λ (xs : List ℕ). sizes xs t.ends) d.firsts ∙ ap (λ (xs : List ℕ). sizes (set s.firsts b middle ++ first ∷ []) xs) d.ends
        ∙ sizes_push (set s.firsts b middle) s.ends first middle (length-set s.firsts b middle ∙ sym good.ends_len)
        ∙ sizes_set s.firsts s.ends b middle inside (sym good.ends_len) (let q = some in omega arith) (let q = not_all in omega arith)
        ∙ good.whole;
    listed = λ c h. subst (λ (xs : List ℕ). has xs c ≡ true) (sym d.waiting) (good.listed c (subst (λ v. v ≡ true) (ap (λ (xs : List Bool). slice_index_or xs c false) d.flags ∙ default_push s.flags c) h));
    known = λ c h. subst (λ k. c < k) (sym one_more) (let k = good.known c (subst (λ (xs : List ℕ). has xs c ≡ true) d.waiting h) in omega arith);
  }

  pub same_waits : (c : ℕ) → waits t c ≡ waits s c
  same_waits c = ap (λ (xs : List Bool). slice_index_or xs c false) d.flags ∙ default_push s.flags c

  not_marked : (i c m : ℕ) → block_at t i ≡ c → slice_index t.middles c ≡ m → m ≤ slice_index s.places i → is_marked t i ≡ false
  not_marked i c m e f g = le-ltb (slice_index t.places i) (slice_index t.middles (block_at t i))
      (subst (λ k. slice_index t.middles k ≤ slice_index t.places i) (sym e) (subst (λ k. k ≤ slice_index t.places i) (sym f) (subst (λ q. m ≤ q) (sym (same_place i)) g)))

  pub fate : (i : ℕ) → i < n → Fate s t b new i
  fate i h = elim (cases_eq (block_at s i) b) as (λ _. Fate s t b new i) [
    | inl e ↦ elim (cases_lt (slice_index s.places i) middle) as (λ _. Fate s t b new i) [
      | inl l ↦
          let is = moved_block i h e l in
          moves e is (lt-ltb (slice_index s.places i) (slice_index s.middles (block_at s i)) (subst (λ c. slice_index s.places i < slice_index s.middles c) (sym e) l))
          (not_marked i new first is (middles_then new (omega arith) (λ m. m ≡ first) (λ _. refl) (λ k. absurd (omega arith))) (subst (λ c. slice_index s.firsts c ≤ slice_index s.places i) e (good.within i h).0))
      | inr g ↦
          let is : block_at t i ≡ b = kept_block i h (λ _ l. absurd (omega arith)) ∙ e in
          stays e is (le-ltb (slice_index s.places i) (slice_index s.middles (block_at s i)) (subst (λ c. slice_index s.middles c ≤ slice_index s.places i) (sym e) g))
          (not_marked i b middle is (middles_then b (old_below b inside) (λ m. m ≡ middle) (λ k. absurd (omega arith)) (λ _. refl)) g)
    ]
    | inr ne ↦
        let is = kept_block i h (λ e _. ne e) in
        let k = good.numbered i h in
        outside ne is k (ap (λ c. nat_lt (slice_index t.places i) (slice_index t.middles c)) is ∙ ap (λ q. nat_lt q (slice_index t.middles (block_at s i))) (same_place i)
        ∙ middles_then (block_at s i) (old_below (block_at s i) k) (λ m. nat_lt (slice_index s.places i) m ≡ is_marked s i) (λ e. absurd (omega arith)) (λ _. refl))
  ]

  -- the blocks that have marks then had them before, and are others
  pub left_then : (c : ℕ) → c < length t.firsts → slice_index t.firsts c < slice_index t.middles c → (c ≡ b → ⊥) × (c < length s.firsts) × (slice_index s.firsts c < slice_index s.middles c)
  left_then c h' =
      let h : c < new + 1 = subst (λ k. c < k) one_more h' in
      firsts_then c h (λ f. f < slice_index t.middles c → (c ≡ b → ⊥) × (c < length s.firsts) × (slice_index s.firsts c < slice_index s.middles c))
      (λ e. middles_then c h (λ m. first < m → (c ≡ b → ⊥) × (c < length s.firsts) × (slice_index s.firsts c < slice_index s.middles c)) (λ _ l. absurd (omega arith)) (λ k. absurd (omega arith)))
      (λ k e. middles_then c h (λ m. middle < m → (c ≡ b → ⊥) × (c < length s.firsts) × (slice_index s.firsts c < slice_index s.middles c)) (λ l. absurd (omega arith)) (λ _ l. let same : slice_index s.middles c ≡ middle = ap (λ x. slice_index s.middles x) e in absurd (omega arith)))
      (λ k ne. middles_then c h (λ m. slice_index s.firsts c < m → (c ≡ b → ⊥) × (c < length s.firsts) × (slice_index s.firsts c < slice_index s.middles c)) (λ l. absurd (omega arith)) (λ _ l. (ne, k, l)))
