-- The theorem behind each answer "deadlock-free": a sound network with a good ranking is live, with its silent bound.
-- (Brookes and Roscoe 1991; Roscoe 1997, chapter 13; Martin 1996.)
--
-- It asks for nothing but that ranks fall: the tables and the ranking may be any that are good, from whatever rule they come.
use Rattle.std.specs.Prelude.{ℕ, List}
use Rattle.csp_tables.specs.Prelude.{Label, Live, Tree, NetworkStep, leaves, Part, Ranking, IsGoodRanking}
use Rattle.net_sound.specs.Soundness.{IsSound}

abbrev pub GoodRankingsMeanLive : {T : Type 0} → (T → Label → T → Type 0) → Type 0
GoodRankingsMeanLive {T} Step =
    (tree : Tree T) (bound : ℕ) (parts : List Part) (ranking : Ranking) → IsSound Step tree bound → IsGoodRanking Step (leaves tree) parts ranking →
    Live (NetworkStep Step) tree bound
