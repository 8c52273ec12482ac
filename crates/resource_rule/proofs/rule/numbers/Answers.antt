use Rattle.resource_rule.proofs.Prelude.{◌<◌, ℕ, List, length, ap, sym, subst, refl, arith, ◌≡◌, ◌∙◌, slice_index, HasArc, IsLeastCircle, IsHeldWhile, StandsAbove, same_longest, turned_circle, turned_least, circle_some}
use Rattle.resource_rule.proofs.rule.numbers.Goals as goal

pub returns-in-Ok-clause-numbers : goal.returns-in-Ok-clause-numbers
returns-in-Ok-clause-numbers c j h _ =
    let g = c.args.setting.now in
    let below : j < length c.args.rows.now = subst (λ (n : ℕ). j < n) (sym c.requires.count) h in
    record {
      below = slice_index c.in-Ok.heights j;
      longest = same_longest (HasArc c.args.rows.now) (StandsAbove g.shape g.uses) (λ (x y : ℕ) arc. c.requires.sound x y arc) (λ (x y : ℕ) held. c.requires.complete x y held) j (slice_index c.in-Ok.heights j) (c.in-Ok.ensures.heights.each j below);
      number = refl;
    }

pub returns-in-Ok-clause-rise : goal.returns-in-Ok-clause-rise
returns-in-Ok-clause-rise c m j held =
    let falls : slice_index c.in-Ok.heights m < slice_index c.in-Ok.heights j = c.in-Ok.ensures.falls j m (c.requires.complete j m held) in
    omega arith

pub turn_circle-requires : goal.turn_circle-requires
turn_circle-requires c =
    let it = rw c.in-Err-Told.field-0-is at c.in-Err-Told.ensures.circle in
    subst (λ (vs : List ℕ). 0 < length vs) (sym c.members.ensures) (circle_some (HasArc c.args.rows.now) c.in-Err-Told.circle it)

pub returns-in_ok-resources-in-Err-Told-clause-fault : goal.returns-in_ok-resources-in-Err-Told-clause-fault
returns-in_ok-resources-in-Err-Told-clause-fault c =
    let g = c.args.setting.now in
    let it = rw c.in-Err-Told.field-0-is at c.in-Err-Told.ensures.circle in
    let resources : c.in_ok-resources-in-Err-Told.resources ≡ turned_circle c.in-Err-Told.circle = c.in_ok-resources-in-Err-Told.ensures ∙ ap turned_circle c.members.ensures in
    record {
      keep_uses = c.requires.keep;
      circle = subst (IsLeastCircle (IsHeldWhile g.shape g.uses)) (sym resources)
          (turned_least (HasArc c.args.rows.now) (IsHeldWhile g.shape g.uses) (λ (x y : ℕ) arc. c.requires.sound x y arc) c.in-Err-Told.circle it);
    }
