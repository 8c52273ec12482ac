-- Links that join users and resources, and sets that part what a resource shares.
use Rattle.resource_conditions.proofs.Prelude.{◌≡◌, ℕ, ◌+◌, ◌<◌, ◌≤◌, inl, inr, List, length, Bool, true, false, ◌&&◌, ◌||◌, cond, min, MatchBool, refl, sym, subst, ◌∙◌, arith, cases_lt, or_left, or_right, both_ways, false≢true, has, is_subset_of, meets_of, part_at, link_at, IsWellFormed, use_at, Setting, KeepKinds, HasLinked, HasParted, IsFirstWithout, member_of_superset, is_subset_of_from_members, LacksKind, any_of, any_member}

-- ---- sets

one_of : (a b s : Bool) → (a ≡ true → b ≡ true → ⊥) → (a ≡ true → s ≡ true) → (b ≡ true → s ≡ true) → (s ≡ true → (a || b) ≡ true) → cond a (cond b 1 0 + 1) (cond b 1 0) ≡ cond s 1 0
one_of true true s apart x y z = absurd (apart refl refl)
one_of true false true apart x y z = refl
one_of true false false apart x y z = absurd (false≢true (x refl))
one_of false true true apart x y z = refl
one_of false true false apart x y z = absurd (false≢true (y refl))
one_of false false true apart x y z = absurd (false≢true (z refl))
one_of false false false apart x y z = refl

not_both : (a b s : Bool) → a ≡ true → b ≡ true → cond a (cond b 1 0 + 1) (cond b 1 0) ≡ cond s 1 0 → ⊥
not_both true true true x y h = absurd (omega arith)
not_both true true false x y h = absurd (omega arith)
not_both true false s x y h = false≢true y
not_both false b s x y h = false≢true x

either_shared : (a b s : Bool) → (a || b) ≡ true → cond a (cond b 1 0 + 1) (cond b 1 0) ≡ cond s 1 0 → s ≡ true
either_shared a b true x h = refl
either_shared true true false x h = absurd (omega arith)
either_shared true false false x h = absurd (omega arith)
either_shared false true false x h = absurd (omega arith)
either_shared false false false x h = absurd (false≢true x)

shared_either : (a b s : Bool) → s ≡ true → cond a (cond b 1 0 + 1) (cond b 1 0) ≡ cond s 1 0 → (a || b) ≡ true
shared_either true b s x h = refl
shared_either false true s x h = refl
shared_either false false true x h = absurd (omega arith)
shared_either false false false x h = absurd (false≢true x)

pub not_apart : (g : Setting) (i : ℕ) → (use_at g.uses i).resource ≡ true → meets_of (use_at g.uses i).acquire (use_at g.uses i).release ≡ true → HasParted g i → ⊥
not_apart g i resource meet parts =
    let x = any_member (has (use_at g.uses i).release) (use_at g.uses i).acquire meet in
    not_both (has (use_at g.uses i).acquire x.0) (has (use_at g.uses i).release x.0) (has (part_at g.shape.parts i).alphabet x.0 && has g.shape.vocabulary x.0) x.1 x.2 (parts resource x.0)

-- the two sets of a part, what both make and what the part shares
module _ (g : Setting) (i : ℕ) (told shared : List ℕ) (told_is : (e : ℕ) → has told e ≡ (has (use_at g.uses i).acquire e || has (use_at g.uses i).release e)) (shared_is : (e : ℕ) → has shared e ≡ (has (part_at g.shape.parts i).alphabet e && has g.shape.vocabulary e)) where
  abbrev acquire : List ℕ
  acquire = (use_at g.uses i).acquire

  abbrev release : List ℕ
  release = (use_at g.uses i).release

  abbrev is_shared : ℕ → Bool
  is_shared e = has (part_at g.shape.parts i).alphabet e && has g.shape.vocabulary e

  pub parted : meets_of (use_at g.uses i).acquire (use_at g.uses i).release ≡ false → is_subset_of told shared ≡ true → is_subset_of shared told ≡ true → HasParted g i
  parted apart within all _ e =
      one_of (has acquire e) (has release e) (is_shared e)
      (λ a b. both_ways (meets_of (use_at g.uses i).acquire (use_at g.uses i).release) apart (any_of (has release) acquire e a b))
      (λ a. sym (shared_is e) ∙ member_of_superset told shared within e (told_is e ∙ or_left (has acquire e) (has release e) a))
      (λ b. sym (shared_is e) ∙ member_of_superset told shared within e (told_is e ∙ or_right (has acquire e) (has release e) b))
      (λ s. sym (told_is e) ∙ member_of_superset shared told all e (shared_is e ∙ s))

  pub not_within : (use_at g.uses i).resource ≡ true → is_subset_of told shared ≡ false → HasParted g i → ⊥
  not_within resource lacks parts =
      both_ways (is_subset_of told shared) lacks (is_subset_of_from_members told shared (λ e x. shared_is e ∙ either_shared (has acquire e) (has release e) (is_shared e) (sym (told_is e) ∙ x) (parts resource e)))

  pub not_all : (use_at g.uses i).resource ≡ true → is_subset_of shared told ≡ false → HasParted g i → ⊥
  not_all resource lacks parts =
      both_ways (is_subset_of shared told) lacks (is_subset_of_from_members shared told (λ e x. told_is e ∙ shared_either (has acquire e) (has release e) (is_shared e) (sym (shared_is e) ∙ x) (parts resource e)))

-- ---- both

-- the first part that breaks U1
pub lacks_kind : (g : Setting) (a b part : ℕ) → IsFirstWithout (HasLinked g) (length g.shape.parts) a → IsFirstWithout (HasParted g) (length g.shape.parts) b → part ≡ min a b → part < length g.shape.parts → LacksKind g.shape g.uses part
lacks_kind g a b part x y is h = record {
  within = h;
  broken = λ k. elim (cases_lt a b) [
    | inl less ↦ let same : part ≡ a = omega arith in x.broken (omega arith) (subst (HasLinked g) same (λ l below at. k.linked l below at))
    | inr more ↦ let same : part ≡ b = omega arith in y.broken (omega arith) (subst (HasParted g) same k.parted)
  ];
  first = λ j less. record { linked = x.before j (omega arith); parted = y.before j (omega arith) };
}

pub have_kinds : (g : Setting) (a b part : ℕ) → IsWellFormed g.shape → IsFirstWithout (HasLinked g) (length g.shape.parts) a → IsFirstWithout (HasParted g) (length g.shape.parts) b → part ≡ min a b → length g.shape.parts ≤ part → KeepKinds g
have_kinds g a b part w x y is h = record {
  linked = λ l below.
      let t = w.linked.links l below in
      let order : (link_at g.shape l).left < (link_at g.shape l).right = t.ordered in
      let within : (link_at g.shape l).right < length g.shape.parts = t.within in
      x.before (link_at g.shape l).left (omega arith) l below refl;
  parted = λ i below. y.before i (omega arith);
}

pub match_of : (b : Bool) (P Q : Type 0) → (b ≡ true → P) → (b ≡ false → Q) → MatchBool b P Q
match_of true P Q p q = p refl
match_of false P Q p q = q refl
