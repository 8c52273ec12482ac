-- The way to a term, over the steps by which terms were found.
use Rattle.local_tables.proofs.Prelude.{◌≡◌, ℕ, zero, suc, ◌+◌, ◌-◌, ◌<◌, ◌≤◌, Option, Some, None, List, [], ◌∷◌, ◌++◌, length, refl, sym, ap, subst, ◌∙◌, arith, inl, inr, reverse, slice_get, append_assoc, length-append, reverse-append, same_Some, slice_get_within, slice_get-append_left, push_cases, slice_get_last, slice_get_some, Proc, Label, silent, visible, ComponentStep, Path, Reached, IsStepOf, standing_at, visible_events, ProcessStep, part_of, AreLed, LeadsToTerm, Origin, label_of, step_events, Task}

-- ---- one more step at the end of a path

path_push : {S : Type 0} (Arc : S → Label → S → Type 0) (ls : List Label) (s t u : S) (l : Label) → Path Arc s ls t → Arc t l u → Path Arc s (ls ++ l ∷ []) u
path_push Arc [] s t u l path step = (u, subst (λ z. Arc z l u) (sym path) step, refl)
path_push Arc (k ∷ ls) s t u l path step = (path.0, path.1, path_push Arc ls path.0 t u l path.2 step)

visible_push : (ls : List Label) (o : Option ℕ) → visible_events (ls ++ label_of o ∷ []) ≡ visible_events ls ++ step_events o
visible_push [] None = refl
visible_push [] (Some e) = refl
visible_push (silent ∷ ls) o = visible_push ls o
visible_push (visible d ∷ ls) o = ap (λ zs. d ∷ zs) (visible_push ls o)

turned : (o : Option ℕ) → reverse (step_events o) ≡ step_events o
turned None = refl
turned (Some e) = refl

module _ (task : Task) where
  -- one more term, with the step by which it was found
  pub led_more : (terms : List Proc) (origins : List Origin) (x source : Proc) (o : Origin) → AreLed task terms origins → slice_get terms o.0 ≡ Some source
      → ComponentStep (ProcessStep task.program.now) (standing_at (part_of task) source) (label_of o.1) (standing_at (part_of task) x)
      → AreLed task (terms ++ x ∷ []) (origins ++ o ∷ [])
  led_more terms origins x source o led from step =
      let many : length terms ≡ length origins + 1 = led.as_many in
      let inside : o.0 < length terms = slice_get_within terms o.0 source from in
      record {
        first = slice_get-append_left terms (x ∷ []) 0 task.start.now led.first;
        as_many = let more = length-append terms (x ∷ []) in let others = length-append origins (o ∷ []) in omega arith;
        earlier = λ k q h. elim (push_cases origins o k q h) as (λ _. q.0 ≤ k) [
          | inl old ↦ led.earlier k q old
          | inr last ↦ let below : o.0 ≤ k = (let is : k ≡ length origins = last.0 in omega arith) in subst (λ (z : Origin). z.0 ≤ k) last.1 below
        ];
        led = λ k q h. elim (push_cases origins o k q h) as (λ _. IsStepOf (ProcessStep task.program.now) (part_of task) (terms ++ x ∷ []) q.0 (label_of q.1) (k + 1)) [
          | inl old ↦
              let s = led.led k q old in
              record {
                source = s.source;
                goal = s.goal;
                from = slice_get-append_left terms (x ∷ []) q.0 s.source s.from;
                to = slice_get-append_left terms (x ∷ []) (k + 1) s.goal s.to;
                step = s.step;
              }
          | inr last ↦
              let end : length terms ≡ k + 1 = (let is : k ≡ length origins = last.0 in omega arith) in
              subst (λ (z : Origin). IsStepOf (ProcessStep task.program.now) (part_of task) (terms ++ x ∷ []) z.0 (label_of z.1) (k + 1)) last.1
              (record {
                source = source;
                goal = x;
                from = slice_get-append_left terms (x ∷ []) o.0 source from;
                to = subst (λ n. slice_get (terms ++ x ∷ []) n ≡ Some x) end (slice_get_last terms x);
                step = step;
              })
        ];
      }

  module _ (terms : List Proc) (origins : List Origin) (led : AreLed task terms origins) where
    -- a trace that leads to a term leads on to the one that was found from it
    on : (k : ℕ) (o : Origin) (s : List ℕ) → slice_get origins k ≡ Some o → LeadsToTerm task terms s o.0 → LeadsToTerm task terms (s ++ step_events o.1) (k + 1)
    on k o s is l =
        let step = led.led k o is in
        let goes = ComponentStep (ProcessStep task.program.now) in
        let from = subst (λ z. goes (standing_at (part_of task) z) (label_of o.1) (standing_at (part_of task) step.goal)) (same_Some step.source l.term (sym step.from ∙ l.listed)) step.step in
        record {
          term = step.goal;
          listed = step.to;
          after = (
            l.after.0 ++ label_of o.1 ∷ [],
            path_push goes l.after.0 (part_of task) (standing_at (part_of task) l.term) (standing_at (part_of task) step.goal) (label_of o.1) l.after.1 from,
            visible_push l.after.0 o.1 ∙ ap (λ zs. zs ++ step_events o.1) l.after.2,
          );
        }

    pub leads_nowhere : LeadsToTerm task terms [] 0
    leads_nowhere = record { term = task.start.now; listed = led.first; after = ([], refl, refl) }

    -- so each term is reached
    below : (most n : ℕ) → n < most → n < length terms → (s : List ℕ) × LeadsToTerm task terms s n
    below zero n less inside = absurd (omega arith)
    below (suc most) zero less inside = ([], leads_nowhere)
    below (suc most) (suc k) less inside =
        let many : length terms ≡ length origins + 1 = led.as_many in
        let o = slice_get_some origins k (omega arith) in
        let earlier : o.0.0 ≤ k = led.earlier k o.0 o.1 in
        let way = below most o.0.0 (omega arith) (omega arith) in
        (way.0 ++ step_events o.0.1, subst (λ n. LeadsToTerm task terms (way.0 ++ step_events o.0.1) n) (let e : k + 1 ≡ suc k = omega arith in e) (on k o.0 way.0 o.1 way.1))

    pub reached : (n : ℕ) (x : Proc) → slice_get terms n ≡ Some x → Reached (ComponentStep (ProcessStep task.program.now)) (part_of task) (standing_at (part_of task) x)
    reached n x h =
        let way = (below (n + 1) n (omega arith) (slice_get_within terms n x h)).1 in
        (way.after.0, subst (λ z. Path (ComponentStep (ProcessStep task.program.now)) (part_of task) way.after.0 (standing_at (part_of task) z)) (same_Some way.term x (sym way.listed ∙ h)) way.after.1)

    -- one step earlier
    pub back_one : (at : ℕ) (o : Origin) (events : List ℕ) (number : ℕ) → 0 < at → slice_get origins (at - 1) ≡ Some o
        → ((s : List ℕ) → LeadsToTerm task terms s at → LeadsToTerm task terms (s ++ reverse events) number)
        → (s : List ℕ) → LeadsToTerm task terms s o.0 → LeadsToTerm task terms (s ++ reverse (events ++ step_events o.1)) number
    back_one at o events number some is rest s l =
        let e : at - 1 + 1 ≡ at = omega arith in
        let here = subst (λ n. LeadsToTerm task terms (s ++ step_events o.1) n) e (on (at - 1) o s is l) in
        let whole : (s ++ step_events o.1) ++ reverse events ≡ s ++ reverse (events ++ step_events o.1) =
        append_assoc s (step_events o.1) (reverse events) ∙ ap (λ zs. s ++ (zs ++ reverse events)) (sym (turned o.1)) ∙ ap (λ zs. s ++ zs) (sym (reverse-append events (step_events o.1))) in
        subst (λ zs. LeadsToTerm task terms zs number) whole (rest (s ++ step_events o.1) here)
