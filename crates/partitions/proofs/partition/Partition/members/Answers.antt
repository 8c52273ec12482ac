use Rattle.partitions.proofs.Prelude.{◌≡◌, ℕ, List, ◌<◌, ◌-◌, true, take, drop, sym, subst, ◌↔◌, get_or_read, has, state_of, count_of, block_at}
use Rattle.partitions.proofs.Taking.{members_are}
use Rattle.partitions.proofs.partition.Partition.members.Goals as goal

pub returns : goal.returns
returns c =
    let s = state_of c.args.self.now in
    let f = c.index-first.result.now in
    let e = c.index-end.result.now in
    let order : c.deref.result.now ≡ s.order = c.deref.ensures.value in
    subst (λ (xs : List ℕ). (i : ℕ) → (has (take (e - f) (drop f xs)) i ≡ true) ↔ ((i < count_of c.args.self.now) × (block_at s i ≡ c.args.block))) (sym order)
    (members_are (count_of c.args.self.now) s c.args.block f e c.requires.blocks c.requires.block
    (get_or_read s.firsts c.args.block f c.requires.block c.index-first.ensures 0)
    (get_or_read s.ends c.args.block e (subst (λ k. c.args.block < k) (sym c.requires.blocks.ends_len) c.requires.block) c.index-end.ensures 0))
