-- Two users that acquire two resources in the same order meet the rule of users and resources.
use Rattle.design_rules.proofs.Prelude.{ℕ, zero, suc, ◌-◌, ◌<◌, ◌≤◌, inl, List, [], ◌∷◌, Option, Some, None, Bool, true, false, refl, arith, false≢true, IsWellFormed, Walk, IsHeldWhile, ResourcesRise, AreResourceNumbers, two_users, two_users_uses, two_users_ranking, TwoUsersAreResource}
use Rattle.design_rules.specs.Prelude.{StandsAbove}
use Rattle.design_rules.proofs.Walks.{walk_bound}
use Rattle.design_rules.proofs.Checks.{within}
use Rattle.design_rules.proofs.FormCheck.{well_formed, triple_disjoint}
use Rattle.design_rules.proofs.ResourceCheck.{UsesTold, uses_told, keep_uses, rises, use_ranks}

-- how the nodes are reached: of the users, and of the resources
abbrev runs : ℕ → ℕ → List ℕ
runs i zero = []
runs zero (suc zero) = 0 ∷ []
runs zero (suc (suc zero)) = 0 ∷ 4 ∷ []
runs zero (suc (suc (suc n))) = 0 ∷ 4 ∷ 6 ∷ []
runs (suc zero) (suc zero) = 1 ∷ []
runs (suc zero) (suc (suc zero)) = 1 ∷ 5 ∷ []
runs (suc zero) (suc (suc (suc n))) = 1 ∷ 5 ∷ 7 ∷ []
runs (suc (suc zero)) (suc zero) = 0 ∷ []
runs (suc (suc zero)) (suc (suc n)) = 1 ∷ []
runs (suc (suc (suc i))) (suc zero) = 4 ∷ []
runs (suc (suc (suc i))) (suc (suc n)) = 5 ∷ []

abbrev link_of : ℕ → ℕ → ℕ
link_of zero (suc (suc zero)) = 0
link_of zero j = 1
link_of (suc i) (suc (suc zero)) = 2
link_of (suc i) j = 3

form : IsWellFormed two_users
form = (well_formed two_users runs link_of).shows refl

-- a resource is held at its second node by the first user, and at its third by the second
abbrev held : ℕ → ℕ → Option ℕ
held i zero = None
held (suc (suc zero)) (suc zero) = Some 0
held (suc (suc zero)) (suc (suc n)) = Some 1
held i (suc zero) = Some 4
held i (suc (suc n)) = Some 5

-- a user holds the first resource after its first node, and the second at its third
abbrev holding : ℕ → ℕ → Bool
holding l zero = false
holding zero (suc n) = true
holding (suc l) (suc (suc zero)) = true
holding (suc l) n = false

abbrev parity : ℕ → ℕ → ℕ → Bool
parity zero zero n = holding 0 n
parity zero (suc zero) n = holding 1 n
parity (suc zero) (suc (suc zero)) n = holding 0 n
parity (suc zero) (suc (suc (suc zero))) n = holding 1 n
parity i l n = false

told : UsesTold two_users two_users_uses held parity
told = (uses_told two_users two_users_uses held parity).shows refl

abbrev number : ℕ → ℕ
number (suc (suc (suc j))) = 2
number j = 1

rise : ResourcesRise two_users two_users_uses number
rise = (rises two_users two_users_uses number held parity told).shows refl

positive : (j : ℕ) → 1 ≤ number j
positive j = grind (arith)

bound : (j n k : ℕ) → Walk (StandsAbove two_users two_users_uses) n j k → n ≤ number j - 1
bound = λ j n k w. walk_bound (StandsAbove two_users two_users_uses) (λ x. number x - 1) (λ x y a. let less : number y < number x = rise y x a in let some : 1 ≤ number y = positive y in omega arith) n j k w

-- the first user holds the first resource while it offers to acquire the second
held_first : IsHeldWhile two_users two_users_uses 2 3
held_first = record {
  user = 0;
  link = 0;
  run = 0 ∷ [];
  acceptance = 4 ∷ [];
  is_user = refl;
  accepts = record { place = 0; at = record { runs = record { part = omega arith; follows = refl }; listed = omega arith; shared = (within (4 ∷ []) two_users.vocabulary).shows refl }; is = refl };
  within = omega arith;
  acquiring = refl;
  joins = record { within = omega arith; ends = inl (refl, refl) };
  holding = refl;
}

numbers : AreResourceNumbers two_users two_users_uses number
numbers zero h r = absurd (false≢true r)
numbers (suc zero) h r = absurd (false≢true r)
numbers (suc (suc zero)) h r = record { below = 0; longest = record { end = 2; attained = refl; most = bound 2 }; number = refl }
numbers (suc (suc (suc zero))) h r = record { below = 1; longest = record { end = 2; attained = (2, held_first, refl); most = bound 3 }; number = refl }
numbers (suc (suc (suc (suc j)))) h r = absurd (omega arith)

pub two_users_are_resource : TwoUsersAreResource
two_users_are_resource = record {
  form = form;
  triple = (triple_disjoint two_users).shows refl;
  rule = record { keep_uses = (keep_uses two_users two_users_uses held parity told).shows refl; ordered = record { number = number; rise = rise } };
  ranking = record { number = number; numbers = numbers; top = 2; ranks = (use_ranks two_users two_users_uses number 2 held parity two_users_ranking told).shows refl };
}
