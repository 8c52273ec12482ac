-- A partition of the nodes below n into blocks, for refinement by splitters. The nodes stand in one list, block by block; in
-- each block those that are marked stand first. Some blocks wait: they are to be used as splitters.
use Rattle.std.specs.Prelude.{◌≡◌, ◌↔◌, ◌⊎◌, ◌+◌, ◌-◌, ◌*◌, ◌^◌, ◌<◌, ◌≤◌, ℕ, List, [], ◌∷◌, Bool, true, false, ◌||◌, nat_eq, nat_lt, IsTrue, length, slice_index, slice_index_or}
use Rattle.std.specs.List.{list_any}
use Rattle.csp_base.specs.Members.{has}
use Rattle.partitions.specs.declared.partition.Partition.{Partition}

pub record State : Type 0 where
  -- the nodes, block by block, and where each node stands
  pub order : List ℕ
  pub places : List ℕ
  -- the block of each node
  pub blocks : List ℕ
  -- where each block begins, where its marked nodes end, and where it ends
  pub firsts : List ℕ
  pub middles : List ℕ
  pub ends : List ℕ
  -- the blocks that wait, and for each block whether it does
  pub waiting : List ℕ
  pub flags : List Bool

abbrev pub state_of : Partition → State
state_of p = record { order = p.order.items; places = p.places.items; blocks = p.blocks.items; firsts = p.firsts.items; middles = p.middles.items; ends = p.ends.items; waiting = p.waiting.items; flags = p.flags.items }

-- how many nodes there are
abbrev pub count_of : Partition → ℕ
count_of p = length p.blocks.items

abbrev pub block_at : State → ℕ → ℕ
block_at s i = slice_index s.blocks i

-- whether the node is among the marked ones of its block
abbrev pub is_marked : State → ℕ → Bool
is_marked s i = nat_lt (slice_index s.places i) (slice_index s.middles (block_at s i))

abbrev pub waits : State → ℕ → Bool
waits s b = slice_index_or s.flags b false

-- the sizes of the blocks, in all
abbrev pub sizes : List ℕ → List ℕ → ℕ
sizes [] ends = 0
sizes (first ∷ firsts) [] = 0
sizes (first ∷ firsts) (end ∷ ends) = (end - first) + sizes firsts ends

-- the lists fit together
pub record HasBlocks (n : ℕ) (s : State) : Type 0 where
  pub small : n < 2 ^ 32
  pub order_len : length s.order ≡ n
  pub places_len : length s.places ≡ n
  pub blocks_len : length s.blocks ≡ n
  pub middles_len : length s.middles ≡ length s.firsts
  pub ends_len : length s.ends ≡ length s.firsts
  pub flags_len : length s.flags ≡ length s.firsts
  pub placed : (i : ℕ) → i < n → (slice_index s.places i < n) × (slice_index s.order (slice_index s.places i) ≡ i)
  pub ordered : (p : ℕ) → p < n → (slice_index s.order p < n) × (slice_index s.places (slice_index s.order p) ≡ p)
  pub numbered : (i : ℕ) → i < n → block_at s i < length s.firsts
  pub within : (i : ℕ) → i < n → (slice_index s.firsts (block_at s i) ≤ slice_index s.places i) × (slice_index s.places i < slice_index s.ends (block_at s i))
  pub spans : (b : ℕ) → b < length s.firsts → (slice_index s.firsts b ≤ slice_index s.middles b) × (slice_index s.middles b ≤ slice_index s.ends b) × (slice_index s.firsts b < slice_index s.ends b) × (slice_index s.ends b ≤ n)
  pub owned : (b p : ℕ) → b < length s.firsts → slice_index s.firsts b ≤ p → p < slice_index s.ends b → block_at s (slice_index s.order p) ≡ b
  pub whole : sizes s.firsts s.ends ≡ n
  pub listed : (b : ℕ) → IsTrue (waits s b) → IsTrue (has s.waiting b)
  pub known : (b : ℕ) → IsTrue (has s.waiting b) → b < length s.firsts

-- each block with marked nodes is listed
pub record AreTouched (s : State) (touched : List ℕ) : Type 0 where
  pub all : (b : ℕ) → b < length s.firsts → slice_index s.firsts b < slice_index s.middles b → IsTrue (has touched b)
  pub known : (b : ℕ) → IsTrue (has touched b) → b < length s.firsts

-- the same blocks, whatever is marked
pub record HaveSameBlocks (old new : State) : Type 0 where
  pub blocks : new.blocks ≡ old.blocks
  pub firsts : new.firsts ≡ old.firsts
  pub ends : new.ends ≡ old.ends
  pub waiting : new.waiting ≡ old.waiting
  pub flags : new.flags ≡ old.flags

-- One node more is marked.
pub record IsMarked (n : ℕ) (old new : State) (node : ℕ) : Type 0 where
  pub fit : HasBlocks n new
  pub same : HaveSameBlocks old new
  pub marked : (i : ℕ) → i < n → is_marked new i ≡ (is_marked old i || nat_eq i node)

-- no node is marked
abbrev pub IsCalm : State → Type 0
IsCalm s = (b : ℕ) → b < length s.firsts → slice_index s.middles b ≡ slice_index s.firsts b

-- what is left to do at most: blocks that may come, and blocks that wait
abbrev pub work : ℕ → State → ℕ
work n s = 2 * (n - length s.firsts) + length s.waiting

-- No work comes up, and a block that doesn't wait then is a block of before that didn't wait.
pub record IsOnward (n : ℕ) (old new : State) : Type 0 where
  pub less : work n new ≤ work n old
  pub kept : (i : ℕ) → i < n → waits new (block_at new i) ≡ false → (waits old (block_at old i) ≡ false) × ((j : ℕ) → j < n → block_at old j ≡ block_at old i → block_at new j ≡ block_at new i)

-- the two numbers are these two, in one order or the other
abbrev pub AreBoth : ℕ → ℕ → ℕ → ℕ → Type 0
AreBoth a b x y = ((x ≡ a) × (y ≡ b)) ⊎ ((x ≡ b) × (y ≡ a))

-- the two nodes are in one block, and both or neither are marked
abbrev pub AreTogether : State → ℕ → ℕ → Type 0
AreTogether s i j = (block_at s i ≡ block_at s j) × (is_marked s i ≡ is_marked s j)

-- The marked nodes of the block became a block of their own, unless all or none were marked, and the block has no marks.
pub record IsCut (n : ℕ) (old new : State) (block : ℕ) : Type 0 where
  pub fit : HasBlocks n new
  pub together : (i j : ℕ) → i < n → j < n → AreTogether new i j ↔ AreTogether old i j
  pub left : (c : ℕ) → c < length new.firsts → slice_index new.firsts c < slice_index new.middles c → (c ≡ block → ⊥) × (c < length old.firsts) × (slice_index old.firsts c < slice_index old.middles c)
  pub more : length old.firsts ≤ length new.firsts
  pub onward : IsOnward n old new

-- whether the list has a step from the node
abbrev pub is_source : List (ℕ × ℕ) → ℕ → Bool
is_source steps i = list_any (λ step. nat_eq step.1 i) steps

-- The sources of the steps are marked, and the blocks with marked nodes are listed.
pub record AreMarked (n : ℕ) (old new : State) (touched : List ℕ) (steps : List (ℕ × ℕ)) : Type 0 where
  pub fit : HasBlocks n new
  pub same : HaveSameBlocks old new
  pub found : AreTouched new touched
  pub marked : (i : ℕ) → i < n → is_marked new i ≡ is_source steps i

-- Blocks were cut until no node is marked.
pub record AreCut (n : ℕ) (old new : State) : Type 0 where
  pub fit : HasBlocks n new
  pub together : (i j : ℕ) → i < n → j < n → AreTogether new i j ↔ AreTogether old i j
  pub calm : IsCalm new
  pub onward : IsOnward n old new

-- Two nodes are in one block then exactly where they were before and both or neither are sources.
pub record IsSplit (n : ℕ) (old new : State) (steps : List (ℕ × ℕ)) : Type 0 where
  pub fit : HasBlocks n new
  pub calm : IsCalm new
  pub exact : (i j : ℕ) → i < n → j < n → (block_at new i ≡ block_at new j) ↔ ((block_at old i ≡ block_at old j) × (is_source steps i ≡ is_source steps j))
  pub onward : IsOnward n old new

-- All nodes are in one block, which waits.
pub record IsWhole (n : ℕ) (s : State) : Type 0 where
  pub fit : HasBlocks n s
  pub calm : IsCalm s
  pub one : (i j : ℕ) → i < n → j < n → block_at s i ≡ block_at s j
  pub waiting : (i : ℕ) → i < n → waits s (block_at s i) ≡ true

-- One of the blocks that waited is taken, and nothing else changes.
pub record IsTaken (n : ℕ) (old new : State) (b : ℕ) : Type 0 where
  pub waited : IsTrue (has old.waiting b)
  pub fit : HasBlocks n new
  pub calm : IsCalm old → IsCalm new
  pub known : b < length new.firsts
  pub blocks : new.blocks ≡ old.blocks
  pub others : (c : ℕ) → (c ≡ b → ⊥) → waits new c ≡ waits old c
  pub less : work n new < work n old

-- No block waits.
pub record IsDone (old new : State) : Type 0 where
  pub same : new ≡ old
  pub none : (b : ℕ) → waits old b ≡ false
