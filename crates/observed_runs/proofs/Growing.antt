-- Pairs that are added at the end of those that are there, and a row of steps that is followed.
use Rattle.observed_runs.proofs.Prelude.{◌≡◌, ℕ, ◌+◌, ◌<◌, ◌≤◌, ◌-◌, List, [], ◌∷◌, ◌++◌, length, get_or, true, false, IsTrue, refl, sym, ap, subst, ◌∙◌, arith, inl, inr, cases_Bool, cases_lt, length-append, get_or_append_left, get_or-append_right, get_or_read, has, Node, node_at, node_after, is_possible, Part, HasForm, node_form, pair_at, Found, HaveOrigins, StepsTo, HasPair, AreEnough, SeesOnly, IsAdded, Grows, AreExplored, AreFollowed, IsFollowedTo, slice_get-append_left}
use Rattle.observed_runs.proofs.Leading.{step_listed, step_within, listed_step}

pub pair_at_left : (xs ys : List (ℕ × ℕ)) (k : ℕ) → k < length xs → pair_at (xs ++ ys) k ≡ pair_at xs k
pair_at_left xs ys k h = get_or_append_left xs ys (0, 0) k h

pub last_pair : (xs : List (ℕ × ℕ)) (x : ℕ × ℕ) (k : ℕ) → length xs ≤ k → k < length (xs ++ x ∷ []) → pair_at (xs ++ x ∷ []) k ≡ x
last_pair xs x k h below =
    let zero_left : k - length xs ≡ 0 = omega (arith, length-append xs (x ∷ [])) in
    get_or-append_right xs (x ∷ []) k (0, 0) h ∙ ap (pair_at (x ∷ [])) zero_left

pub last_is : (xs : List (ℕ × ℕ)) (x : ℕ × ℕ) → pair_at (xs ++ x ∷ []) (length xs) ≡ x
last_is xs x = last_pair xs x (length xs) (omega arith) (omega (arith, length-append xs (x ∷ [])))

pub listed_last : (xs : List (ℕ × ℕ)) (x : ℕ × ℕ) → HasPair (xs ++ x ∷ []) x
listed_last xs x = record { place = length xs; within = omega (arith, length-append xs (x ∷ [])); is = last_is xs x }

-- ---- pairs stay in their places

pub grown : (xs : List (ℕ × ℕ)) (x : ℕ × ℕ) → Grows xs (xs ++ x ∷ [])
grown xs x k h = (omega (arith, length-append xs (x ∷ [])), pair_at_left xs (x ∷ []) k h)

pub grown_on : (xs ys zs : List (ℕ × ℕ)) → Grows xs ys → Grows ys zs → Grows xs zs
grown_on xs ys zs g h k below = (((h k (g k below).0).0), ((h k (g k below).0).1 ∙ (g k below).1))

pub listed_still : (xs ys : List (ℕ × ℕ)) (pair : ℕ × ℕ) → Grows xs ys → HasPair xs pair → HasPair ys pair
listed_still xs ys pair g l = record { place = l.place; within = (g l.place l.within).0; is = (g l.place l.within).1 ∙ l.is }

pub followed_still : (table : List Node) (step : ℕ → ℕ → ℕ) (xs ys : List (ℕ × ℕ)) (k : ℕ) → Grows xs ys → k < length xs → AreFollowed table step xs k → AreFollowed table step ys k
followed_still table step xs ys k g h f =
    subst (λ (p : ℕ × ℕ). (e : ℕ) → IsTrue (is_possible (node_at table p.0).next e) → HasPair ys (node_after table p.0 e, step p.1 e)) (sym (g k h).1)
    (λ e possible. listed_still xs ys _ g (f e possible))

-- ---- one more pair, or none

pub origins_more : (found : Found) (pair origin : ℕ × ℕ) → HaveOrigins found → origin.0 < length found.pairs → HaveOrigins (record { pairs = found.pairs ++ pair ∷ []; origins = found.origins ++ origin ∷ [] })
origins_more found pair origin o here =
    let count : length found.pairs ≡ length found.origins + 1 = o.count in
    record {
      count = length-append found.pairs (pair ∷ []) ∙ ap (λ n. n + 1) count ∙ ap (λ n. n + 1) (sym (length-append found.origins (origin ∷ [])));
      earlier = λ k h. elim (cases_lt k (length found.origins)) [
        | inl old ↦ subst (λ (o : ℕ × ℕ). o.0 ≤ k) (sym (pair_at_left found.origins (origin ∷ []) k old)) (o.earlier k old)
        | inr new ↦ subst (λ (o : ℕ × ℕ). o.0 ≤ k) (sym (last_pair found.origins origin k new h)) (omega arith)
      ];
    }

pub added_grows : (found more : Found) (pair origin : ℕ × ℕ) → IsAdded found pair origin more → Grows found.pairs more.pairs
added_grows found more pair origin (inl known) = subst (λ (f : Found). Grows found.pairs f.pairs) (sym known.0) (λ k h. (h, refl))
added_grows found more pair origin (inr new) = subst (λ (f : Found). Grows found.pairs f.pairs) (sym new) (grown found.pairs pair)

pub added_listed : (found more : Found) (pair origin : ℕ × ℕ) → IsAdded found pair origin more → HasPair more.pairs pair
added_listed found more pair origin (inl known) = subst (λ (f : Found). HasPair f.pairs pair) (sym known.0) known.1
added_listed found more pair origin (inr new) = subst (λ (f : Found). HasPair f.pairs pair) (sym new) (listed_last found.pairs pair)

module _ (table : List Node) (step : ℕ → ℕ → ℕ) where
  module _ (found : Found) (pair origin : ℕ × ℕ) where
    abbrev more_pairs : List (ℕ × ℕ)
    more_pairs = found.pairs ++ pair ∷ []

    abbrev more_origins : List (ℕ × ℕ)
    more_origins = found.origins ++ origin ∷ []

    steps_at : (k : ℕ) (o from end : ℕ × ℕ) → pair_at more_origins k ≡ o → pair_at more_pairs o.0 ≡ from → pair_at more_pairs (k + 1) ≡ end → StepsTo table step from o.1 end
        → StepsTo table step (pair_at more_pairs (pair_at more_origins k).0) (pair_at more_origins k).1 (pair_at more_pairs (k + 1))
    steps_at k o from end is source target t =
        subst (λ (p : ℕ × ℕ). StepsTo table step (pair_at more_pairs p.0) p.1 (pair_at more_pairs (k + 1))) (sym is)
        (subst (λ (p : ℕ × ℕ). StepsTo table step p o.1 (pair_at more_pairs (k + 1))) (sym source) (subst (λ (p : ℕ × ℕ). StepsTo table step from o.1 p) (sym target) t))

    one_more : AreExplored table step found → origin.0 < length found.pairs → StepsTo table step (pair_at found.pairs origin.0) origin.1 pair → pair.0 < length table
        → AreExplored table step (record { pairs = more_pairs; origins = more_origins })
    one_more x here to node = record {
      found_are = record {
        first = slice_get-append_left found.pairs (pair ∷ []) 0 (0, 0) x.found_are.first;
        later = λ k h. elim (cases_lt k (length found.origins)) [
          | inl old ↦
              let from : (pair_at found.origins k).0 ≤ k = x.origins.earlier k old in
              steps_at k (pair_at found.origins k) (pair_at found.pairs (pair_at found.origins k).0) (pair_at found.pairs (k + 1)) (pair_at_left found.origins (origin ∷ []) k old)
              (pair_at_left found.pairs (pair ∷ []) (pair_at found.origins k).0 (omega (arith, count))) (pair_at_left found.pairs (pair ∷ []) (k + 1) (omega (arith, count))) (x.found_are.later k old)
          | inr new ↦
              steps_at k origin (pair_at found.pairs origin.0) pair (last_pair found.origins origin k new h) (pair_at_left found.pairs (pair ∷ []) origin.0 here)
              (last_pair found.pairs pair (k + 1) (omega (arith, count)) (omega (arith, count, h, length-append found.origins (origin ∷ []), length-append found.pairs (pair ∷ [])))) to
        ];
      };
      origins = origins_more found pair origin x.origins here;
      nodes = λ k h. elim (cases_lt k (length found.pairs)) [
        | inl old ↦ subst (λ (p : ℕ × ℕ). p.0 < length table) (sym (pair_at_left found.pairs (pair ∷ []) k old)) (x.nodes k old)
        | inr new ↦ subst (λ (p : ℕ × ℕ). p.0 < length table) (sym (last_pair found.pairs pair k new h)) node
      ];
    }
      where
        count : length found.pairs ≡ length found.origins + 1
        count = x.origins.count

  pub added_explored : (found more : Found) (pair : ℕ × ℕ) (place event : ℕ) → AreExplored table step found → place < length found.pairs → StepsTo table step (pair_at found.pairs place) event pair
      → pair.0 < length table → IsAdded found pair (place, event) more → AreExplored table step more
  added_explored found more pair place event x here to node (inl known) = subst (AreExplored table step) (sym known.0) x
  added_explored found more pair place event x here to node (inr new) = subst (AreExplored table step) (sym new) (one_more found pair (place, event) x here to node)

-- ---- a row of steps

-- the row of the pair's node, as it is read
pub row_read : (rows : List (List (ℕ × ℕ))) (ps pairs : List (ℕ × ℕ)) (place : ℕ) (row : List (ℕ × ℕ)) → ps ≡ pairs → (pair_at pairs place).0 < length rows → row ≡ get_or rows (pair_at ps place).0 row → row ≡ get_or rows (pair_at pairs place).0 []
row_read rows ps pairs place row is within at = get_or_read rows (pair_at pairs place).0 row within (subst (λ (qs : List (ℕ × ℕ)). row ≡ get_or rows (pair_at qs place).0 row) is at) []

pub same_two : (a b c d : ℕ) → a ≡ c → b ≡ d → let x : ℕ × ℕ = (a, b) in let y : ℕ × ℕ = (c, d) in x ≡ y
same_two a b c d p q = cc

-- where enough steps were listed, each event that is possible is followed
all_followed : (table : List Node) (step : ℕ → ℕ → ℕ) (events : List ℕ) (pair : ℕ × ℕ) (some ps : List (ℕ × ℕ)) → SeesOnly events step → AreEnough events (node_at table pair.0).next some → ((k : ℕ) → k < length some → HasPair ps ((pair_at some k).1, step pair.1 (pair_at some k).0)) → (e : ℕ) → IsTrue (is_possible (node_at table pair.0).next e) → HasPair ps (node_after table pair.0 e, step pair.1 e)
all_followed table step events pair some ps only enough all e possible =
    let l = listed_step (node_at table pair.0).next e possible in
    elim (cases_Bool (has events e)) [
      | inl seen ↦
          let x = enough.seen l.place l.within (subst (λ i. has events i ≡ true) (sym l.event) seen) in
          let node : (pair_at some x.place).1 ≡ node_after table pair.0 e = ap (λ (p : ℕ × ℕ). p.1) x.is ∙ l.leads in
          let event : (pair_at some x.place).0 ≡ e = ap (λ (p : ℕ × ℕ). p.0) x.is ∙ l.event in
          subst (HasPair ps) (same_two (pair_at some x.place).1 (step pair.1 (pair_at some x.place).0) (node_after table pair.0 e) (step pair.1 e) node (ap (step pair.1) event)) (all x.place x.within)
      | inr unseen ↦
          let x = enough.others l.place l.within (subst (λ i. has events i ≡ false) (sym l.event) unseen) in
          subst (HasPair ps) (same_two (pair_at some x.place).1 (step pair.1 (pair_at some x.place).0) (node_after table pair.0 e) (step pair.1 e) (x.leads ∙ l.leads) (only pair.1 (pair_at some x.place).0 x.unseen ∙ sym (only pair.1 e unseen))) (all x.place x.within)
    ]

module _ (part : Part) (step : ℕ → ℕ → ℕ) (events : List ℕ) (pairs : List (ℕ × ℕ)) (place : ℕ) (row : List (ℕ × ℕ)) (form : HasForm part) (here : place < length pairs)
    (enough : AreEnough events (node_at part.table (pair_at pairs place).0).next row) where
  -- a step of the row leads on from the pair, to a node of the table
  row_step : (k : ℕ) (x : ℕ × ℕ) → k < length row → x ≡ pair_at row k → StepsTo part.table step (pair_at pairs place) x.0 (x.1, step (pair_at pairs place).1 x.0) × (x.1 < length part.table)
  row_step k x h at =
      let formed = node_form part.alphabet (length part.table) part.table (pair_at pairs place).0 form.nodes in
      let l = enough.sound k h in
      let s = step_listed part.alphabet (length part.table) (node_at part.table (pair_at pairs place).0).next l.place formed l.within in
      subst (λ (y : ℕ × ℕ). StepsTo part.table step (pair_at pairs place) y.0 (y.1, step (pair_at pairs place).1 y.0) × (y.1 < length part.table)) (l.is ∙ sym at)
      (record { possible = s.possible; node = sym s.leads; state = refl }, step_within part.alphabet (length part.table) (node_at part.table (pair_at pairs place).0).next l.place formed l.within)

  pub one_step_more : (n : ℕ) (x : ℕ × ℕ) (next : ℕ) (found more : Found) → n < length row → x ≡ pair_at row n → next ≡ step (pair_at pairs place).1 x.0 → IsAdded found (x.1, next) (place, x.0) more
      → IsFollowedTo part.table step pairs place row n found → IsFollowedTo part.table step pairs place row (n + 1) more
  one_step_more n x next found more h at state added f =
      let to = row_step n x h at in
      let same = f.grows place here in
      let grows = added_grows found more (x.1, next) (place, x.0) added in
      record {
        explored = added_explored part.table step found more (x.1, next) place x.0 f.explored same.0
            (subst (λ (p : ℕ × ℕ). StepsTo part.table step p x.0 (x.1, next)) (sym same.1) (subst (λ s. StepsTo part.table step (pair_at pairs place) x.0 (x.1, s)) (sym state) to.0)) to.1 added;
        grows = grown_on pairs found.pairs more.pairs f.grows grows;
        listed = λ k less. elim (cases_lt k n) [
          | inl old ↦ listed_still found.pairs more.pairs _ grows (f.listed k old)
          | inr new ↦
              let e : n ≡ k = omega arith in
              subst (λ (y : ℕ × ℕ). HasPair more.pairs (y.1, step (pair_at pairs place).1 y.0)) (at ∙ ap (pair_at row) e)
              (subst (λ s. HasPair more.pairs (x.1, s)) state (added_listed found more (x.1, next) (place, x.0) added))
        ];
      }

  pub whole_row : (n : ℕ) (found : Found) → SeesOnly events step → length row ≤ n → IsFollowedTo part.table step pairs place row n found → AreFollowed part.table step found.pairs place
  whole_row n found only all f =
      subst (λ (p : ℕ × ℕ). (e : ℕ) → IsTrue (is_possible (node_at part.table p.0).next e) → HasPair found.pairs (node_after part.table p.0 e, step p.1 e)) (sym (f.grows place here).1)
      (all_followed part.table step events (pair_at pairs place) row found.pairs only enough (λ k h. f.listed k (omega arith)))
