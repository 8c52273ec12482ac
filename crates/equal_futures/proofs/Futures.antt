-- Equal future: it passes on to where an event leads, and it is what stable classes say.
use Rattle.equal_futures.proofs.Prelude.{◌≡◌, ℕ, ◌<◌, List, [], ◌∷◌, length, Bool, true, false, ◌&&◌, refl, sym, ◌∙◌, slice_index, and_from, both_ways, Node, node_at, is_possible, node_after, is_run, end_of, HaveEqualFuture, NodesRise, and_parts}
use Rattle.equal_futures.proofs.RowLists.{target_below}

and_true : (a : Bool) → a ≡ (a && true)
and_true true = refl
and_true false = refl

and_same : (a b c d : Bool) → a ≡ c → (a ≡ true → b ≡ d) → (a && b) ≡ (c && d)
and_same true b true d e h = h refl
and_same true b false d e h = absurd (both_ways true e refl)
and_same false b true d e h = absurd (both_ways true (sym e) refl)
and_same false b false d e h = refl

and_given : (a b c d : Bool) → a ≡ true → c ≡ true → (a && b) ≡ (c && d) → b ≡ d
and_given true b true d p q h = h
and_given true b false d p q h = absurd (both_ways true (sym q) refl)
and_given false b c d p q h = absurd (both_ways true (sym p) refl)

module _ (nodes : List Node) (marks : List ℕ) where
  pub same_marks : (i j : ℕ) → HaveEqualFuture nodes marks i j → slice_index marks i ≡ slice_index marks j
  same_marks i j f = f.ends [] refl

  pub same_events : (i j : ℕ) → HaveEqualFuture nodes marks i j → (e : ℕ) → is_possible (node_at nodes i).next e ≡ is_possible (node_at nodes j).next e
  same_events i j f e = and_true (is_possible (node_at nodes i).next e) ∙ f.runs (e ∷ []) ∙ sym (and_true (is_possible (node_at nodes j).next e))

  -- where an event leads, the future is equal too
  pub future_after : (i j e : ℕ) → HaveEqualFuture nodes marks i j → is_possible (node_at nodes i).next e ≡ true → HaveEqualFuture nodes marks (node_after nodes i e) (node_after nodes j e)
  future_after i j e f h =
      let k : is_possible (node_at nodes j).next e ≡ true = sym (same_events i j f e) ∙ h in
      record {
        runs = λ w. and_given (is_possible (node_at nodes i).next e) (is_run nodes (node_after nodes i e) w) (is_possible (node_at nodes j).next e) (is_run nodes (node_after nodes j e) w) h k (f.runs (e ∷ w));
        ends = λ w r. f.ends (e ∷ w) (and_from (is_possible (node_at nodes i).next e) (is_run nodes (node_after nodes i e) w) h r);
      }

  -- The two nodes have the same events, and each leads from both to nodes of one class.
  pub record AreAlike (classes : List ℕ) (i j : ℕ) : Type 0 where
    pub possible : (e : ℕ) → is_possible (node_at nodes i).next e ≡ is_possible (node_at nodes j).next e
    pub targets : (e : ℕ) → is_possible (node_at nodes i).next e ≡ true → slice_index classes (node_after nodes i e) ≡ slice_index classes (node_after nodes j e)

  -- Stable classes: nodes of one class have equal marks and are alike.
  pub record AreStable (classes : List ℕ) : Type 0 where
    pub told : (i j : ℕ) → i < length nodes → j < length nodes → slice_index classes i ≡ slice_index classes j → slice_index marks i ≡ slice_index marks j
    pub alike : (i j : ℕ) → i < length nodes → j < length nodes → slice_index classes i ≡ slice_index classes j → AreAlike classes i j

  module _ (classes : List ℕ) (rise : NodesRise nodes) (stable : AreStable classes) where
    runs_same : (w : List ℕ) (i j : ℕ) → i < length nodes → j < length nodes → slice_index classes i ≡ slice_index classes j → is_run nodes i w ≡ is_run nodes j w
    runs_same [] i j a b e = refl
    runs_same (x ∷ w) i j a b e =
        let s = stable.alike i j a b e in
        and_same (is_possible (node_at nodes i).next x) (is_run nodes (node_after nodes i x) w) (is_possible (node_at nodes j).next x) (is_run nodes (node_after nodes j x) w) (s.possible x)
        (λ h. runs_same w (node_after nodes i x) (node_after nodes j x)
        (target_below (length nodes) (node_at nodes i).next x (rise i) h)
        (target_below (length nodes) (node_at nodes j).next x (rise j) (sym (s.possible x) ∙ h))
        (s.targets x h))

    ends_same : (w : List ℕ) (i j : ℕ) → i < length nodes → j < length nodes → slice_index classes i ≡ slice_index classes j → is_run nodes i w ≡ true → slice_index marks (end_of nodes i w) ≡ slice_index marks (end_of nodes j w)
    ends_same [] i j a b e r = stable.told i j a b e
    ends_same (x ∷ w) i j a b e r =
        let s = stable.alike i j a b e in
        let p = and_parts (is_possible (node_at nodes i).next x) (is_run nodes (node_after nodes i x) w) r in
        ends_same w (node_after nodes i x) (node_after nodes j x)
        (target_below (length nodes) (node_at nodes i).next x (rise i) p.0)
        (target_below (length nodes) (node_at nodes j).next x (rise j) (sym (s.possible x) ∙ p.0))
        (s.targets x p.0) p.1

    pub future_from_stable : (i j : ℕ) → i < length nodes → j < length nodes → slice_index classes i ≡ slice_index classes j → HaveEqualFuture nodes marks i j
    future_from_stable i j a b e = record { runs = λ w. runs_same w i j a b e; ends = λ w r. ends_same w i j a b e r }
