use Rattle.rule_rankings.proofs.Prelude.{◌≡◌, ◌∙◌, ◌<◌, ℕ, List, true, length, ap, sym, subst, slice_index, has, Shape, ends_of, ends_sound, IsGreatest}
use Rattle.rule_rankings.proofs.cyclic.top.Goals as goal

pub greatest-requires : goal.greatest-requires
greatest-requires c l h =
    let ends = c.links.ensures ∙ ap (λ (s : Shape). ends_of s c.component-component.result.number) c.component-component.ensures.shape ∙ ap (ends_of c.args.sorted.now) c.component-component.ensures.number in
    let end = ends_sound c.args.sorted.now c.args.part (length c.args.sorted.now.links) l (subst (λ (xs : List ℕ). has xs l ≡ true) ends h) in
    subst (λ (n : ℕ). l < n) (sym c.requires.count) end.0

pub returns : goal.returns
returns c =
    let ends = c.links.ensures ∙ ap (λ (s : Shape). ends_of s c.component-component.result.number) c.component-component.ensures.shape ∙ ap (ends_of c.args.sorted.now) c.component-component.ensures.number in
    subst (λ (ls : List ℕ). IsGreatest (slice_index c.args.numbers.now) ls c.greatest.result) ends c.greatest.ensures
