-- Ranks that fall leave no stuck state, over tables alone.
--
-- Let s be a list of events that each part of a network can follow, and let each part stand at one of the acceptances of
-- the node where it is then. Suppose that no event is agreed. Then each event of an acceptance is refused by another part
-- with this event in its alphabet, so all acceptances lie in the vocabulary; and no two of them have an event in common,
-- since nothing but a third part could refuse it. So each part has an ungranted request to another one, and the sum of its
-- rank and its laps is above the other's. Among finitely many parts there is one where this sum is least, which then has
-- no ungranted request: a contradiction. So an event is agreed, and the search for it is finite.
use Rattle.std.specs.Prelude.{◌<◌, ℕ, List, length}
use Rattle.csp_tables.specs.Prelude.{Part, alphabets_of, TripleDisjoint, HaveForm, Ranking, AllStand, IsAgreed, Falls}

abbrev pub NoneIsStuck : Type 0
NoneIsStuck =
    (parts : List Part) (ranking : Ranking) → 0 < length parts → HaveForm parts → TripleDisjoint (alphabets_of parts) → Falls parts ranking →
    (s : List ℕ) (places : ℕ → ℕ) → AllStand parts s places → (e : ℕ) × IsAgreed parts s places e
