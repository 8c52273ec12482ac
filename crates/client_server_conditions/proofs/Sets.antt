-- Sets of events as tests.
use Rattle.client_server_conditions.proofs.Prelude.{◌≡◌, ℕ, ◌+◌, ◌≤◌, List, Bool, true, false, ◌&&◌, ◌||◌, cond, inl, inr, refl, sym, ap, ◌∙◌, arith, cases_Bool, and_from, and_parts, false≢true, both_ways, has, is_subset_of, meets_of, common_member, member_of_superset, is_subset_of_from_members, meets_of_from_member, RoleSets, PartOwn, AgreeOn, LacksAll, and_second_false}

-- ---- none in common

pub lacks_all : (M N : List ℕ) → meets_of M N ≡ false → LacksAll M N
lacks_all M N h e m = elim (cases_Bool (has N e)) [ inl there ↦ absurd (both_ways (meets_of M N) h (meets_of_from_member M N e m there)) | inr absent ↦ absent ]

pub meets_none : (M N : List ℕ) → LacksAll M N → meets_of M N ≡ true → ⊥
meets_none M N lacks meet = let x = common_member M N meet in both_ways (has N x.0) (lacks x.0 x.1) x.2

-- ---- the same members of some events

pub agree_on : (E a b mine other : List ℕ) → ((x : ℕ) → has mine x ≡ (has E x && has a x)) → ((x : ℕ) → has other x ≡ (has E x && has b x)) → is_subset_of mine b ≡ true → is_subset_of other a ≡ true → AgreeOn E a b
agree_on E a b mine other m o first second e on = elim (cases_Bool (has a e)) [
  | inl there ↦ there ∙ sym (member_of_superset mine b first e (m e ∙ and_from (has E e) (has a e) on there))
  | inr absent ↦ elim (cases_Bool (has b e)) [
    | inl there ↦ absurd (both_ways (has a e) absent (member_of_superset other a second e (o e ∙ and_from (has E e) (has b e) on there)))
    | inr none ↦ absent ∙ sym none
  ]
]

pub agree_within : (E a b mine : List ℕ) → ((x : ℕ) → has mine x ≡ (has E x && has a x)) → AgreeOn E a b → is_subset_of mine b ≡ true
agree_within E a b mine m agree = is_subset_of_from_members mine b (λ x h. let p = and_parts (has E x) (has a x) (sym (m x) ∙ h) in sym (agree x p.0) ∙ p.1)

pub agree_turned : (E a b : List ℕ) → AgreeOn E a b → AgreeOn E b a
agree_turned E a b h e on = sym (h e on)

-- ---- four sets that part others

abbrev one : Bool → ℕ
one w = cond w 1 0

at_most_one : (w : Bool) → one w ≤ 1
at_most_one true = omega arith
at_most_one false = omega arith

true_one : (w : Bool) → 1 ≡ one w → true ≡ w
true_one true h = refl
true_one false h = absurd (omega arith)

false_one : (w : Bool) → 0 ≡ one w → false ≡ w
false_one true h = absurd (omega arith)
false_one false h = refl

-- how many of the four are true
abbrev count : Bool → Bool → Bool → Bool → ℕ
count a b c d = cond a (cond b (cond c (one d + 1) (one d) + 1) (cond c (one d + 1) (one d)) + 1) (cond b (cond c (one d + 1) (one d) + 1) (cond c (one d + 1) (one d)))

count_is : (a b c d w : Bool) → (a && b) ≡ false → (c && d) ≡ false → ((a || b) && (c || d)) ≡ false → ((a || b) || (c || d)) ≡ w → count a b c d ≡ one w
count_is true true c d w p q r s = absurd (false≢true (sym p))
count_is true false true true w p q r s = absurd (false≢true (sym q))
count_is true false true false w p q r s = absurd (false≢true (sym r))
count_is true false false true w p q r s = absurd (false≢true (sym r))
count_is true false false false w p q r s = ap one s
count_is false true true d w p q r s = absurd (false≢true (sym r))
count_is false true false true w p q r s = absurd (false≢true (sym r))
count_is false true false false w p q r s = ap one s
count_is false false true true w p q r s = absurd (false≢true (sym q))
count_is false false true false w p q r s = ap one s
count_is false false false true w p q r s = ap one s
count_is false false false false w p q r s = ap one s

-- at most one of the four is true, and one is exactly where w is
record IsOneOf (a b c d w : Bool) : Type 0 where
  client : (a && b) ≡ false
  server : (c && d) ≡ false
  apart : ((a || b) && (c || d)) ≡ false
  all : ((a || b) || (c || d)) ≡ w

one_of : (a b c d w : Bool) → count a b c d ≡ one w → IsOneOf a b c d w
one_of true true c d w h = absurd (omega (arith, at_most_one w))
one_of true false true d w h = absurd (omega (arith, at_most_one w))
one_of true false false true w h = absurd (omega (arith, at_most_one w))
one_of true false false false w h = record { client = refl; server = refl; apart = refl; all = true_one w h }
one_of false true true d w h = absurd (omega (arith, at_most_one w))
one_of false true false true w h = absurd (omega (arith, at_most_one w))
one_of false true false false w h = record { client = refl; server = refl; apart = refl; all = true_one w h }
one_of false false true true w h = absurd (omega (arith, at_most_one w))
one_of false false true false w h = record { client = refl; server = refl; apart = refl; all = true_one w h }
one_of false false false true w h = record { client = refl; server = refl; apart = refl; all = true_one w h }
one_of false false false false w h = record { client = refl; server = refl; apart = refl; all = false_one w h }

-- the sets with their unions
pub record AreUnions (roles : RoleSets) (client server all : List ℕ) : Type 0 where
  pub client_is : (x : ℕ) → has client x ≡ (has roles.creq x || has roles.cack x)
  pub server_is : (x : ℕ) → has server x ≡ (has roles.sreq x || has roles.sack x)
  pub all_is : (x : ℕ) → has all x ≡ (has client x || has server x)

lacks_and : (M N : List ℕ) → LacksAll M N → (e : ℕ) → (has M e && has N e) ≡ false
lacks_and M N lacks e = elim (cases_Bool (has M e)) [
  | inl there ↦ ap (λ b. b && has N e) there ∙ lacks e there
  | inr absent ↦ ap (λ b. b && has N e) absent
]

same_members : (M N : List ℕ) → is_subset_of M N ≡ true → is_subset_of N M ≡ true → (e : ℕ) → has M e ≡ has N e
same_members M N h k e = elim (cases_Bool (has M e)) [
  | inl there ↦ there ∙ sym (member_of_superset M N h e there)
  | inr absent ↦ elim (cases_Bool (has N e)) [ inl there ↦ absurd (both_ways (has M e) absent (member_of_superset N M k e there)) | inr none ↦ absent ∙ sym none ]
]

pub parts_own : (own client server all : List ℕ) (roles : RoleSets) → AreUnions roles client server all → meets_of roles.creq roles.cack ≡ false → meets_of roles.sreq roles.sack ≡ false → meets_of client server ≡ false → is_subset_of own all ≡ true → is_subset_of all own ≡ true → PartOwn own roles
parts_own own client server all roles u p q r h k e =
    count_is (has roles.creq e) (has roles.cack e) (has roles.sreq e) (has roles.sack e) (has own e)
    (lacks_and roles.creq roles.cack (lacks_all roles.creq roles.cack p) e)
    (lacks_and roles.sreq roles.sack (lacks_all roles.sreq roles.sack q) e)
    (ap (λ b. b && (has roles.sreq e || has roles.sack e)) (sym (u.client_is e)) ∙ ap (λ b. has client e && b) (sym (u.server_is e)) ∙ lacks_and client server (lacks_all client server r) e)
    (ap (λ b. b || (has roles.sreq e || has roles.sack e)) (sym (u.client_is e)) ∙ ap (λ b. has client e || b) (sym (u.server_is e)) ∙ sym (u.all_is e) ∙ sym (same_members own all h k e))

one_at : (own : List ℕ) (roles : RoleSets) → PartOwn own roles → (e : ℕ) → IsOneOf (has roles.creq e) (has roles.cack e) (has roles.sreq e) (has roles.sack e) (has own e)
one_at own roles o e = one_of (has roles.creq e) (has roles.cack e) (has roles.sreq e) (has roles.sack e) (has own e) (o e)

pub own_client : (own : List ℕ) (roles : RoleSets) → PartOwn own roles → LacksAll roles.creq roles.cack
own_client own roles o e h = and_second_false (has roles.creq e) (has roles.cack e) (one_at own roles o e).client h

pub own_server : (own : List ℕ) (roles : RoleSets) → PartOwn own roles → LacksAll roles.sreq roles.sack
own_server own roles o e h = and_second_false (has roles.sreq e) (has roles.sack e) (one_at own roles o e).server h

pub own_apart : (own client server all : List ℕ) (roles : RoleSets) → AreUnions roles client server all → PartOwn own roles → LacksAll client server
own_apart own client server all roles u o e h = u.server_is e ∙ and_second_false (has roles.creq e || has roles.cack e) (has roles.sreq e || has roles.sack e) (one_at own roles o e).apart (sym (u.client_is e) ∙ h)

own_all : (own client server all : List ℕ) (roles : RoleSets) → AreUnions roles client server all → PartOwn own roles → (e : ℕ) → has all e ≡ has own e
own_all own client server all roles u o e = u.all_is e ∙ ap (λ b. b || has server e) (u.client_is e) ∙ ap (λ b. (has roles.creq e || has roles.cack e) || b) (u.server_is e) ∙ (one_at own roles o e).all

pub own_within : (own client server all : List ℕ) (roles : RoleSets) → AreUnions roles client server all → PartOwn own roles → (is_subset_of own all ≡ true) × (is_subset_of all own ≡ true)
own_within own client server all roles u o = (
  is_subset_of_from_members own all (λ x h. own_all own client server all roles u o x ∙ h),
  is_subset_of_from_members all own (λ x h. sym (own_all own client server all roles u o x) ∙ h),
)
