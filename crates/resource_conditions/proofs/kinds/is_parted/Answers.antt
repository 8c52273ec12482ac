use Rattle.resource_conditions.proofs.Prelude.{◌≡◌, ◌∙◌, ◌||◌, ◌&&◌, ℕ, List, ap, sym, has, meets_of, part_at, UseSets, use_at, Shape, HasParted}
use Rattle.resource_conditions.proofs.Joining.{parted, not_apart, not_within, not_all, match_of}
use Rattle.resource_conditions.proofs.kinds.is_parted.Goals as goal

-- the sets that were read are those of the part
read_union : (told A B X Y : List ℕ) → A ≡ X → B ≡ Y → ((e : ℕ) → has told e ≡ (has A e || has B e)) → (e : ℕ) → has told e ≡ (has X e || has Y e)
read_union told A B X Y a b is e = is e ∙ ap (λ (xs : List ℕ). has xs e || has B e) a ∙ ap (λ (ys : List ℕ). has X e || has ys e) b

read_inter : (shared A B X Y : List ℕ) → A ≡ X → B ≡ Y → ((e : ℕ) → has shared e ≡ (has A e && has B e)) → (e : ℕ) → has shared e ≡ (has X e && has Y e)
read_inter shared A B X Y a b is e = is e ∙ ap (λ (xs : List ℕ). has xs e && has B e) a ∙ ap (λ (ys : List ℕ). has X e && has ys e) b

pub returns-then-meets : goal.returns-then-meets
returns-then-meets c =
    let g = c.args.setting.now in
    let u = c.uses-uses.ensures in
    let a = c.acquire.ensures ∙ ap (λ (x : UseSets). x.acquire) u in
    let r = c.release.ensures ∙ ap (λ (x : UseSets). x.release) u in
    let resource = sym (c.is_resource.ensures ∙ ap (λ (x : UseSets). x.resource) u) ∙ c.if-not-is_resource.false in
    let meet = sym (c.meets.ensures ∙ ap (λ (xs : List ℕ). meets_of xs c.release.result.now) a ∙ ap (meets_of (use_at c.args.setting.now.uses c.args.part).acquire) r) ∙ c.if-meets.true in
    not_apart g c.args.part resource meet

pub returns-then-not-is_subset : goal.returns-then-not-is_subset
returns-then-not-is_subset c =
    let g = c.args.setting.now in
    let u = c.uses-uses.ensures in
    let resource = sym (c.is_resource.ensures ∙ ap (λ (x : UseSets). x.resource) u) ∙ c.if-not-is_resource.false in
    let told = read_union c.in_ok-told.told c.acquire-2.result.now c.release-2.result.now (use_at g.uses c.args.part).acquire (use_at g.uses c.args.part).release (c.acquire-2.ensures ∙ ap (λ (x : UseSets). x.acquire) u) (c.release-2.ensures ∙ ap (λ (x : UseSets). x.release) u) c.in_ok-told.ensures.members in
    let shared = read_inter c.in_ok-shared.shared c.alphabet-alphabet.result.now c.vocabulary.result.now (part_at g.shape.parts c.args.part).alphabet g.shape.vocabulary (c.alphabet-alphabet.ensures ∙ ap (λ (s : Shape). (part_at s.parts c.component.result.number).alphabet) c.component.ensures.shape ∙ ap (λ (n : ℕ). (part_at c.args.setting.now.shape.parts n).alphabet) c.component.ensures.number) (c.vocabulary.ensures ∙ ap (λ (s : Shape). s.vocabulary) c.shape.ensures.value) c.in_ok-shared.ensures.members in
    not_within g c.args.part c.in_ok-told.told c.in_ok-shared.shared told shared resource (sym c.is_subset.ensures ∙ c.if-not-is_subset.true)

pub returns : goal.returns
returns c =
    let g = c.args.setting.now in
    let u = c.uses-uses.ensures in
    let resource = sym (c.is_resource.ensures ∙ ap (λ (x : UseSets). x.resource) u) ∙ c.if-not-is_resource.false in
    let told = read_union c.in_ok-told.told c.acquire-2.result.now c.release-2.result.now (use_at g.uses c.args.part).acquire (use_at g.uses c.args.part).release (c.acquire-2.ensures ∙ ap (λ (x : UseSets). x.acquire) u) (c.release-2.ensures ∙ ap (λ (x : UseSets). x.release) u) c.in_ok-told.ensures.members in
    let shared = read_inter c.in_ok-shared.shared c.alphabet-alphabet.result.now c.vocabulary.result.now (part_at g.shape.parts c.args.part).alphabet g.shape.vocabulary (c.alphabet-alphabet.ensures ∙ ap (λ (s : Shape). (part_at s.parts c.component.result.number).alphabet) c.component.ensures.shape ∙ ap (λ (n : ℕ). (part_at c.args.setting.now.shape.parts n).alphabet) c.component.ensures.number) (c.vocabulary.ensures ∙ ap (λ (s : Shape). s.vocabulary) c.shape.ensures.value) c.in_ok-shared.ensures.members in
    let a = c.acquire.ensures ∙ ap (λ (x : UseSets). x.acquire) u in
    let r = c.release.ensures ∙ ap (λ (x : UseSets). x.release) u in
    let apart = sym (c.meets.ensures ∙ ap (λ (xs : List ℕ). meets_of xs c.release.result.now) a ∙ ap (meets_of (use_at c.args.setting.now.uses c.args.part).acquire) r) ∙ c.if-meets.false in
    let within = sym c.is_subset.ensures ∙ c.if-not-is_subset.false in
    match_of c.is_subset-2.result (HasParted g c.args.part) (HasParted g c.args.part → ⊥)
    (λ all. parted g c.args.part c.in_ok-told.told c.in_ok-shared.shared told shared apart within (sym c.is_subset-2.ensures ∙ all))
    (λ lacks. not_all g c.args.part c.in_ok-told.told c.in_ok-shared.shared told shared resource (sym c.is_subset-2.ensures ∙ lacks))
