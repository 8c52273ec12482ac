-- U4, where the nodes of a user tell what it holds there.
use Rattle.resource_rule.proofs.Prelude.{◌≡◌, ◌<◌, ◌&&◌, ◌∙◌, ℕ, List, [], true, cond, length, get_or, ap, sym, subst, has, IsRun, IsWellFormed, Shape, end_of, is_possible, link_at, part_at, use_at, count_in, is_odd, UsesInTurn, end_within, link_shared, part_form, AreEnough, pair_at, end_place, has_place, ends_of, Setting, node_of, AreHeld, IsInTurn, holds, listed_step, AreOddLinks, Component}

module _ (g : Setting) (i : ℕ) (w : IsWellFormed g.shape) where
  -- enough of a node's steps show that each event is in turn
  pub each_in_turn : (held : List ℕ) (next some : List (ℕ × ℕ)) → AreEnough g.shape.vocabulary next some → ((k : ℕ) → k < length some → IsInTurn g i held (pair_at some k).0) → (e : ℕ) → is_possible next e ≡ true → IsInTurn g i held e
  each_in_turn held next some enough each e possible j l joins on =
      let s = listed_step next e possible in
      let shared = link_shared g.shape l w joins.within e on in
      let k = enough.seen s.place s.within (subst (λ x. has g.shape.vocabulary x ≡ true) (sym s.event) shared) in
      subst (IsInTurn g i held) (ap (λ (p : ℕ × ℕ). p.0) k.is ∙ s.event) (each k.place k.within) j l joins on

  -- after each run, by the links on which the part holds a resource at the run's node
  pub turns_at_nodes : (held : List (List ℕ)) → i < length g.shape.parts → AreHeld g i held → ((n e : ℕ) → n < length held → is_possible (node_of g i n).next e ≡ true → IsInTurn g i (get_or held n []) e) → (s : List ℕ) → UsesInTurn g.shape g.uses i s
  turns_at_nodes held h are turns s j l e joins possible on =
      let n = end_of (part_at g.shape.parts i).table 0 s in
      let place = end_place g.shape i j l joins in
      let mine = has_place (ends_of g.shape i) place.0 l place.2 in
      let is = are.each s l possible.runs.follows ∙ ap (λ b. b && holds g.shape l s) mine in
      let below : end_of (part_at g.shape.parts i).table 0 s < length held = subst (λ k. end_of (part_at g.shape.parts i).table 0 s < k) (sym are.count) (end_within (part_at g.shape.parts i) s (part_form g.shape.parts i h w.form) possible.runs.follows) in
      subst (λ b. cond b (has (use_at g.uses j).release e) (has (use_at g.uses j).acquire e) ≡ true) is (turns n e below possible.next j l joins on)

-- the links that are told to be odd at a node are those on which the part holds a resource there
pub held_where_odd : (g : Setting) (i : ℕ) (c : Component) (watched : List ℕ) (odd : List (List ℕ)) → c.shape.now ≡ g.shape → c.number ≡ i → ((l : ℕ) → has watched l ≡ has (ends_of g.shape i) l) → AreOddLinks c watched odd → AreHeld g i odd
held_where_odd g i c watched sets shape number ends odd =
    let each = λ (s : Shape) (n : ℕ). (t : List ℕ) (l : ℕ) → IsRun (part_at s.parts n).table t → has (get_or sets (end_of (part_at s.parts n).table 0 t) []) l ≡ (has watched l && is_odd (count_in (link_at s l).shared t)) in
    let held = subst (λ (s : Shape). each s i) shape (subst (λ (n : ℕ). each c.shape.now n) number odd.each) in
    record {
      count = odd.count ∙ ap (λ (s : Shape). length (part_at s.parts c.number).table) shape ∙ ap (λ (n : ℕ). length (part_at g.shape.parts n).table) number;
      each = λ s l run. held s l run ∙ ap (λ b. b && holds g.shape l s) (ends l);
    }

-- what is told of an event's link is told of each link that has it
pub turn_of : (g : Setting) (held : List ℕ) (e link other l j : ℕ) → link ≡ l → j ≡ other → cond (has held link) (has (use_at g.uses other).release e) (has (use_at g.uses other).acquire e) ≡ true → cond (has held l) (has (use_at g.uses j).release e) (has (use_at g.uses j).acquire e) ≡ true
turn_of g held e link other l j same end test =
    subst (λ k. cond (has held k) (has (use_at g.uses j).release e) (has (use_at g.uses j).acquire e) ≡ true) same
    (subst (λ k. cond (has held link) (has (use_at g.uses k).release e) (has (use_at g.uses k).acquire e) ≡ true) (sym end) test)
