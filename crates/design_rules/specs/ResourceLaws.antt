-- The ranking of a network of users and resources is good.
--
-- A resource's shared events are, in turn, to be acquired on some link and to be released on the same one. So a link has had an
-- odd number of events exactly where the resource is held on it. Let i ask j for an event of their link, and let nothing of it
-- be granted. If i is a user that offers to acquire j, then j is not free, since a free resource accepts each acquisition; its
-- rank is below that of the user, whose least number is not above j's. If i offers to release j, then j is held by it and
-- accepts that: a contradiction. If i is a free resource, its rank is above all. If it is held, j holds it, so j offers to
-- acquire only what is numbered above, and its rank is lower.
use Rattle.std.specs.Prelude.{◌≡◌, ◌<◌, ◌≤◌, ℕ, List, true, length}
use Rattle.csp_tables.specs.Prelude.{alphabets_of, TripleDisjoint, Shape, IsWellFormed, UseSets, use_at, Ranking, Falls}
use Rattle.design_rules.specs.Resource.{KeepUses, ResourcesRise, IsResource}
use Rattle.design_rules.specs.ResourceRanking.{AreResourceRanks, IsResourceRanking}

abbrev pub ResourceRanksFall : Type 0
ResourceRanksFall = (shape : Shape) (uses : List UseSets) (ranking : Ranking) → IsWellFormed shape → TripleDisjoint (alphabets_of shape.parts) → IsResource shape uses → IsResourceRanking shape uses ranking → Falls shape.parts ranking

-- the same for every numbering from 1 on that rises, whether or not its numbers are the smallest
abbrev pub OrderedRanksFall : Type 0
OrderedRanksFall =
    (shape : Shape) (uses : List UseSets) (number : ℕ → ℕ) (top : ℕ) (ranking : Ranking) → IsWellFormed shape → TripleDisjoint (alphabets_of shape.parts) → KeepUses shape uses → ResourcesRise shape uses number →
    ((i : ℕ) → i < length shape.parts → (use_at uses i).resource ≡ true → 1 ≤ number i) → AreResourceRanks shape uses number top ranking → Falls shape.parts ranking
