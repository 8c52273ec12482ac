-- Each event acquires at most one resource, which is an end of its link.
use Rattle.shape_links.proofs.Prelude.{◌≡◌, ℕ, ◌+◌, ◌<◌, inl, inr, ◌⊎◌, [], length, Bool, true, false, not, ◌&&◌, cond, IsTrue, nat_eq, refl, sym, ap, subst, ◌∙◌, arith, eqb-true, cases_lt, and_parts, or_cases, both_ways, false≢true, get_or_past, has, part_at, alphabets_of, TripleDisjoint, is_end, link_at, IsWellFormed, UseSets, use_at, some_link, Setting, KeepKinds, IsOwner, is_acquired_by}
use Rattle.shape_links.proofs.Links.{one_owner}

pub is_part : (g : Setting) (j : ℕ) → length g.uses ≡ length g.shape.parts → (use_at g.uses j).resource ≡ true → j < length g.shape.parts
is_part g j count resource = elim (cases_lt j (length g.shape.parts)) [
  | inl below ↦ below
  | inr past ↦ absurd (false≢true (sym (ap (λ (u : UseSets). u.resource) (get_or_past g.uses j (record { resource = false; acquire = []; release = [] }) (omega arith))) ∙ resource))
]

-- what acquires a resource is shared by it, and does not release it
shares : (a b s : Bool) → a ≡ true → cond a (cond b 1 0 + 1) (cond b 1 0) ≡ cond s 1 0 → (s ≡ true) × (b ≡ false)
shares true true true x h = absurd (omega arith)
shares true true false x h = absurd (omega arith)
shares true false true x h = (refl, refl)
shares true false false x h = absurd (omega arith)
shares false b s x h = absurd (false≢true x)

pub acquire_only : (g : Setting) (j e : ℕ) → KeepKinds g → j < length g.shape.parts → (use_at g.uses j).resource ≡ true → has (use_at g.uses j).acquire e ≡ true → (has (part_at g.shape.parts j).alphabet e ≡ true) × (has g.shape.vocabulary e ≡ true) × (has (use_at g.uses j).release e ≡ false)
acquire_only g j e kinds below resource a =
    let s = shares (has (use_at g.uses j).acquire e) (has (use_at g.uses j).release e) (has (part_at g.shape.parts j).alphabet e && has g.shape.vocabulary e) a (kinds.parted j below resource e) in
    let p = and_parts (has (part_at g.shape.parts j).alphabet e) (has g.shape.vocabulary e) s.0 in
    (p.0, p.1, s.1)

module _ (g : Setting) (w : IsWellFormed g.shape) (triple : TripleDisjoint (alphabets_of g.shape.parts)) (count : length g.uses ≡ length g.shape.parts) (kinds : KeepKinds g) where
  -- the link of an event that acquires the resource j
  pub acquired_link : (j e : ℕ) → is_acquired_by g j e ≡ true → (l : ℕ) × IsOwner g.shape l e × IsTrue (is_end g.shape j l)
  acquired_link j e a =
      let p = and_parts (use_at g.uses j).resource (has (use_at g.uses j).acquire e) a in
      let below = is_part g j count p.0 in
      let o = acquire_only g j e kinds below p.0 p.1 in
      let l = some_link g.shape j e w below o.0 o.1 in
      (l.0, record { within = l.1.within; event = l.1.event }, l.1.end)

  -- so it is one of the two ends
  acquired_end : (j e l : ℕ) → is_acquired_by g j e ≡ true → IsOwner g.shape l e → ((link_at g.shape l).left ≡ j) ⊎ ((link_at g.shape l).right ≡ j)
  acquired_end j e l a o =
      let x = acquired_link j e a in
      let same : x.0 ≡ l = one_owner g.shape x.0 l e w triple x.1 o in
      let end = subst (λ m. IsTrue (is_end g.shape j m)) same x.2 in
      elim (or_cases (nat_eq (link_at g.shape l).left j) (nat_eq (link_at g.shape l).right j) end) [
        | inl left ↦ inl (eqb-true (link_at g.shape l).left j left)
        | inr right ↦ inr (eqb-true (link_at g.shape l).right j right)
      ]

  -- and not both
  one_end : (e l : ℕ) → l < length g.shape.links → is_acquired_by g (link_at g.shape l).left e ≡ true → is_acquired_by g (link_at g.shape l).right e ≡ true → ⊥
  one_end e l h a b =
      let p = and_parts (use_at g.uses (link_at g.shape l).left).resource (has (use_at g.uses (link_at g.shape l).left).acquire e) a in
      let q = and_parts (use_at g.uses (link_at g.shape l).right).resource (has (use_at g.uses (link_at g.shape l).right).acquire e) b in
      false≢true (sym (ap not q.0) ∙ (sym (kinds.linked l h) ∙ p.0))

  -- what is found at the ends is all
  pub at_left : (e l j : ℕ) → IsOwner g.shape l e → is_acquired_by g (link_at g.shape l).left e ≡ true → is_acquired_by g j e ≡ true → (link_at g.shape l).left ≡ j
  at_left e l j o a b = elim (acquired_end j e l b o) [
    | inl left ↦ left
    | inr right ↦ absurd (one_end e l o.within a (subst (λ n. is_acquired_by g n e ≡ true) (sym right) b))
  ]

  pub at_right : (e l j : ℕ) → IsOwner g.shape l e → is_acquired_by g (link_at g.shape l).right e ≡ true → is_acquired_by g j e ≡ true → (link_at g.shape l).right ≡ j
  at_right e l j o a b = elim (acquired_end j e l b o) [
    | inl left ↦ absurd (one_end e l o.within (subst (λ n. is_acquired_by g n e ≡ true) (sym left) b) a)
    | inr right ↦ right
  ]

  pub at_none : (e l j : ℕ) → IsOwner g.shape l e → is_acquired_by g (link_at g.shape l).left e ≡ false → is_acquired_by g (link_at g.shape l).right e ≡ false → is_acquired_by g j e ≡ true → ⊥
  at_none e l j o a b h = elim (acquired_end j e l h o) [
    | inl left ↦ both_ways (is_acquired_by g j e) (subst (λ n. is_acquired_by g n e ≡ false) left a) h
    | inr right ↦ both_ways (is_acquired_by g j e) (subst (λ n. is_acquired_by g n e ≡ false) right b) h
  ]
