-- Ranks that fall leave no stuck state: the sets of events that the parts stand at, with ranks and laps.
use Rattle.net_sound.proofs.Prelude.{ℕ, ◌<◌, ◌≤◌, List, length, IsTrue, ℤ, pos, ◌+ℤ◌, ◌*ℤ◌, ◌<ℤ◌, arith, has, Part, part_at, alphabets_of, sharers, TripleDisjoint, IsShared, HaveForm, Ranking, rank_after, laps_along, AllStand, acceptance, Falls, IsUngranted, NoneIsStuck}
use Rattle.net_sound.proofs.Agreement.{Waits, HasAnother, Sets, someone_moves}
use Rattle.net_sound.proofs.Sharers.{at_two, at_three}
use Rattle.net_sound.proofs.Within.{acceptance_within}
use Rattle.net_sound.proofs.Laps.{apart}

abbrev alphabet : List Part → ℕ → List ℕ
alphabet parts i = (part_at parts i).alphabet

abbrev set : List Part → List ℕ → (ℕ → ℕ) → ℕ → List ℕ
set parts s places i = acceptance (part_at parts i) s (places i)

-- the rank with the laps
abbrev height : List Part → Ranking → List ℕ → (ℕ → ℕ) → ℕ → ℤ
height parts ranking s places i = rank_after ranking i (part_at parts i) s (places i) +ℤ (ranking.scale *ℤ pos (laps_along ranking i (part_at parts i) s))

shared : (parts : List Part) (M : List ℕ) (i : ℕ) → i < length parts → ((e : ℕ) → IsTrue (has M e) → IsTrue (has (alphabet parts i) e)) → ((e : ℕ) → IsTrue (has M e) → HasAnother (alphabet parts) (length parts) i e) → IsShared (alphabets_of parts) M
shared parts M i h own another e m =
    let o = another e m in
    at_two parts e i o.place h o.within o.distinct (own e m) o.owned

ungranted : (parts : List Part) (s : List ℕ) (places : ℕ → ℕ) → HaveForm parts → AllStand parts s places → (i j : ℕ) → i < length parts → j < length parts → Waits (alphabet parts) (set parts s places) (length parts) i j → IsUngranted parts s i j (places i) (places j)
ungranted parts s places form stand i j h l w = record {
  here = h;
  there = l;
  distinct = w.distinct;
  stands = stand i h;
  other_stands = stand j l;
  shared = shared parts (set parts s places i) i h (acceptance_within parts s i (places i) h form) w.shared;
  other_shared = shared parts (set parts s places j) j l (acceptance_within parts s j (places j) l form) w.other_shared;
  asks = w.asks;
  apart = w.apart;
}

sets : (parts : List Part) (s : List ℕ) (places : ℕ → ℕ) → HaveForm parts → TripleDisjoint (alphabets_of parts) → AllStand parts s places → Sets (alphabet parts) (set parts s places) (length parts)
sets parts s places form triple stand = record {
  some = λ i h. (stand i h).some;
  within = λ i h. acceptance_within parts s i (places i) h form;
  no_three = λ e i j k h l m a b c x y z.
      let three : 3 ≤ sharers (alphabets_of parts) e = at_three parts e i j k h l m a b c x y z in
      let two : sharers (alphabets_of parts) e ≤ 2 = triple e in
      omega arith;
}

falls_along : (parts : List Part) (ranking : Ranking) (s : List ℕ) (places : ℕ → ℕ) → Falls parts ranking → (i j : ℕ) → IsUngranted parts s i j (places i) (places j) → height parts ranking s places j <ℤ height parts ranking s places i
falls_along parts ranking s places falls i j u =
    apart (rank_after ranking i (part_at parts i) s (places i)) (rank_after ranking j (part_at parts j) s (places j)) ranking.scale
    (laps_along ranking i (part_at parts i) s) (laps_along ranking j (part_at parts j) s) (falls s i j (places i) (places j) u)

pub none_is_stuck : NoneIsStuck
none_is_stuck parts ranking some form triple falls s places stand =
    let m = someone_moves (alphabet parts) (set parts s places) (height parts ranking s places) (length parts) some (sets parts s places form triple stand)
    (λ i j h l w. falls_along parts ranking s places falls i j (ungranted parts s places form stand i j h l w)) in
    (m.event, record { owner = m.place; within = m.within; owned = m.owned; agreed = m.agreed })
