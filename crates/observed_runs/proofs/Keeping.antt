-- Steps that are kept, one more at a time.
use Rattle.observed_runs.proofs.Prelude.{◌≡◌, ℕ, ◌+◌, ◌-◌, ◌<◌, ◌≤◌, ◌⊎◌, List, [], ◌∷◌, ◌++◌, length, get_or, replicate, true, false, sym, ap, subst, ◌∙◌, arith, inl, inr, slice_index, slice_set, cases_eq, cases_lt, both_ways, length-append, get_or_append_left, get_or_past, get_or_read, get_or-replicate, get_or-set_same, get_or-set_other, length-replicate, get_or-append_right, has, Node, node_at, no_node, Part, HasForm, node_form, pair_at, HasPair, HasOther, AreEnough, IsKept, AreEnoughSoFar}
use Rattle.observed_runs.proofs.Leading.{step_within}
use Rattle.observed_runs.proofs.Growing.{grown, last_is, listed_last, listed_still, pair_at_left}

module _ (events : List ℕ) where
  other_left : (xs : List (ℕ × ℕ)) (x : ℕ × ℕ) (node : ℕ) → HasOther events xs node → HasOther events (xs ++ x ∷ []) node
  other_left xs x node o = record {
    place = o.place;
    within = let h : o.place < length xs = o.within in omega (arith, length-append xs (x ∷ []));
    unseen = subst (λ (p : ℕ × ℕ). has events p.0 ≡ false) (sym (pair_at_left xs (x ∷ []) o.place o.within)) o.unseen;
    leads = ap (λ (p : ℕ × ℕ). p.1) (pair_at_left xs (x ∷ []) o.place o.within) ∙ o.leads;
  }

  other_last : (xs : List (ℕ × ℕ)) (x : ℕ × ℕ) → has events x.0 ≡ false → HasOther events (xs ++ x ∷ []) x.1
  other_last xs x unseen = record {
    place = length xs;
    within = omega (arith, length-append xs (x ∷ []));
    unseen = subst (λ (p : ℕ × ℕ). has events p.0 ≡ false) (sym (last_is xs x)) unseen;
    leads = ap (λ (p : ℕ × ℕ). p.1) (last_is xs x);
  }

  pub none_kept : (mark : ℕ) (next : List (ℕ × ℕ)) (marks : List ℕ) → ((node : ℕ) → slice_index marks node < mark) → AreEnoughSoFar events mark next 0 [] marks
  none_kept mark next marks below = record {
    sound = λ k h. absurd (omega arith);
    seen = λ j h. absurd (omega arith);
    others = λ j h. absurd (omega arith);
    marked = λ node is. absurd (let l : slice_index marks node < mark = below node in omega arith);
    most = λ node. let l : slice_index marks node < mark = below node in omega arith;
  }

  module _ (mark : ℕ) (next : List (ℕ × ℕ)) (n : ℕ) (some : List (ℕ × ℕ)) (marks : List ℕ) (f : AreEnoughSoFar events mark next n some marks) (x : ℕ × ℕ) (here : n < length next) (at : x ≡ pair_at next n) where
    -- the step is put at the end, and its node may be marked
    with_step : (more_marks : List ℕ) → ((node : ℕ) → slice_index more_marks node ≡ mark → HasOther events (some ++ x ∷ []) node) → ((node : ℕ) → slice_index more_marks node ≤ mark) → AreEnoughSoFar events mark next (n + 1) (some ++ x ∷ []) more_marks
    with_step more_marks marked most = record {
      sound = λ k h. elim (cases_lt k (length some)) [
        | inl old ↦ subst (HasPair next) (sym (pair_at_left some (x ∷ []) k old)) (f.sound k old)
        | inr new ↦
            let e : length some ≡ k = omega (arith, length-append some (x ∷ [])) in
            subst (λ j. HasPair next (pair_at (some ++ x ∷ []) j)) e (subst (HasPair next) (sym (last_is some x)) (record { place = n; within = here; is = sym at }))
      ];
      seen = λ j h is. elim (cases_lt j n) [
        | inl old ↦ listed_still some _ (pair_at next j) (grown some x) (f.seen j old is)
        | inr new ↦ let e : n ≡ j = omega arith in subst (HasPair (some ++ x ∷ [])) (at ∙ ap (pair_at next) e) (listed_last some x)
      ];
      others = λ j h unseen. elim (cases_lt j n) [
        | inl old ↦ other_left some x (pair_at next j).1 (f.others j old unseen)
        | inr new ↦
            let e : n ≡ j = omega arith in
            let is : x ≡ pair_at next j = at ∙ ap (pair_at next) e in
            subst (λ (p : ℕ × ℕ). HasOther events (some ++ x ∷ []) p.1) is (other_last some x (subst (λ (p : ℕ × ℕ). has events p.0 ≡ false) (sym is) unseen))
      ];
      marked = marked;
      most = most;
    }

    pub one_kept : (more_some : List (ℕ × ℕ)) (more_marks : List ℕ) → x.1 < length marks → IsKept events mark x some marks more_some more_marks → AreEnoughSoFar events mark next (n + 1) more_some more_marks
    one_kept more_some more_marks within (inl a) = subst (λ zs. AreEnoughSoFar events mark next (n + 1) zs more_marks) (sym a.1) (subst (λ ms. AreEnoughSoFar events mark next (n + 1) (some ++ x ∷ []) ms) (sym a.2) (with_step marks (λ node is. other_left some x node (f.marked node is)) f.most))
    one_kept more_some more_marks within (inr (inl b)) =
        subst (λ zs. AreEnoughSoFar events mark next (n + 1) zs more_marks) (sym b.2) (subst (λ ms. AreEnoughSoFar events mark next (n + 1) some ms) (sym b.3)
        (record {
          sound = f.sound;
          seen = λ j h is. elim (cases_lt j n) [
            | inl old ↦ f.seen j old is
            | inr new ↦
                let e : n ≡ j = omega arith in
                absurd (both_ways (has events x.0) b.0 (subst (λ (p : ℕ × ℕ). has events p.0 ≡ true) (sym (at ∙ ap (pair_at next) e)) is))
          ];
          others = λ j h unseen. elim (cases_lt j n) [
            | inl old ↦ f.others j old unseen
            | inr new ↦ let e : n ≡ j = omega arith in subst (λ (p : ℕ × ℕ). HasOther events some p.1) (at ∙ ap (pair_at next) e) (f.marked x.1 b.1)
          ];
          marked = f.marked;
          most = f.most;
        }))
    one_kept more_some more_marks within (inr (inr d)) =
        subst (λ zs. AreEnoughSoFar events mark next (n + 1) zs more_marks) (sym d.1) (subst (λ ms. AreEnoughSoFar events mark next (n + 1) (some ++ x ∷ []) ms) (sym d.2)
        (with_step (slice_set marks x.1 mark)
        (λ node is. elim (cases_eq node x.1) [
          | inl same ↦ subst (HasOther events (some ++ x ∷ [])) (sym same) (other_last some x d.0)
          | inr other ↦ other_left some x node (f.marked node (sym (get_or-set_other marks x.1 node mark 0 other) ∙ is))
        ])
        (λ node. elim (cases_eq node x.1) [
          | inl same ↦ let e : slice_index (slice_set marks x.1 mark) node ≡ mark = ap (slice_index (slice_set marks x.1 mark)) same ∙ get_or-set_same marks x.1 mark 0 within in omega arith
          | inr other ↦ let e : slice_index (slice_set marks x.1 mark) node ≡ slice_index marks node = get_or-set_other marks x.1 node mark 0 other in let m : slice_index marks node ≤ mark = f.most node in omega arith
        ])))

  pub all_kept : (mark : ℕ) (next : List (ℕ × ℕ)) (n : ℕ) (some : List (ℕ × ℕ)) (marks : List ℕ) → length next ≤ n → AreEnoughSoFar events mark next n some marks → AreEnough events next some
  all_kept mark next n some marks all f = record {
    sound = f.sound;
    seen = λ j h. f.seen j (omega arith);
    others = λ j h. f.others j (omega arith);
  }

-- ---- the rows of a table

next_read : (part : Part) (nodes : List Node) (n : ℕ) (node : Node) (next : List (ℕ × ℕ)) → nodes ≡ part.table → n < length nodes → node ≡ get_or nodes n node → next ≡ node.next → (n < length part.table) × (next ≡ (node_at part.table n).next)
next_read part nodes n node next is h at same =
    (subst (λ (ns : List Node). n < length ns) is h, same ∙ ap (λ (m : Node). m.next) (get_or_read nodes n node h at no_node ∙ ap (λ (ns : List Node). node_at ns n) is))

-- each step leads to a node that may have a mark
pub within_marks : (part : Part) (nodes : List Node) (n count : ℕ) (node : Node) (next : List (ℕ × ℕ)) → HasForm part → count ≡ length part.table → nodes ≡ part.table → n < length nodes → node ≡ get_or nodes n node → next ≡ node.next → (k : ℕ) → k < length next → (pair_at next k).1 < count
within_marks part nodes n count node next form many is h at same k below =
    let r = next_read part nodes n node next is h at same in
    let formed = node_form part.alphabet (length part.table) part.table n form.nodes in
    subst (λ m. (pair_at next k).1 < m) (sym many) (subst (λ (ss : List (ℕ × ℕ)). k < length ss → (pair_at ss k).1 < length part.table) (sym r.1) (step_within part.alphabet (length part.table) (node_at part.table n).next k formed) below)

-- the row of one node more
pub one_more_row : (part : Part) (events : List ℕ) (nodes : List Node) (n : ℕ) (node : Node) (next some : List (ℕ × ℕ)) (rows more : List (List (ℕ × ℕ))) → nodes ≡ part.table → n < length nodes → node ≡ get_or nodes n node → next ≡ node.next → AreEnough events next some → length rows ≡ n → more ≡ rows ++ some ∷ [] → ((m : ℕ) → m < n → AreEnough events (node_at part.table m).next (get_or rows m [])) → (m : ℕ) → m < n + 1 → AreEnough events (node_at part.table m).next (get_or more m [])
one_more_row part events nodes n node next some rows more is h at same enough count grown before m below =
    let r = next_read part nodes n node next is h at same in
    subst (λ (zs : List (List (ℕ × ℕ))). AreEnough events (node_at part.table m).next (get_or zs m [])) (sym grown)
    (elim (cases_lt m n) [
      | inl old ↦ subst (AreEnough events (node_at part.table m).next) (sym (get_or_append_left rows (some ∷ []) [] m (omega arith))) (before m old)
      | inr new ↦
          let e : n ≡ m = omega arith in
          let j : m - length rows ≡ 0 = omega arith in
          subst (AreEnough events (node_at part.table m).next) (sym (get_or-append_right rows (some ∷ []) m [] (omega arith) ∙ ap (λ i. get_or (some ∷ []) i []) j))
          (subst (λ i. AreEnough events (node_at part.table i).next some) e (subst (λ (ss : List (ℕ × ℕ)). AreEnough events ss some) r.1 enough))
    ])

pub none_marked : (marks : List ℕ) (n : ℕ) → marks ≡ replicate n 0 → (node : ℕ) → slice_index marks node ≤ 0
none_marked marks n is node = subst (λ ms. slice_index ms node ≤ 0) (sym is) (zeros (cases_lt node n))
  where
    many : length {A = ℕ} (replicate n 0) ≡ n
    many = length-replicate n 0

    zeros : (node < n) ⊎ (n ≤ node) → slice_index (replicate n 0) node ≤ 0
    zeros (inl below) = let e : slice_index (replicate n 0) node ≡ 0 = get_or-replicate n node 0 0 below in omega arith
    zeros (inr past) = let e : slice_index (replicate n 0) node ≡ 0 = get_or_past (replicate n 0) node 0 (omega (arith, many)) in omega arith
