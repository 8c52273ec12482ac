use Rattle.partitions.proofs.Prelude.{◌≡◌, ℕ, ◌<◌, List, [], ◌∷◌, ◌++◌, length, set, true, false, sym, ◌∙◌, subst, rules, with_item, has, state_of, count_of}
use Rattle.partitions.proofs.Marking.{has_push}
use Rattle.partitions.proofs.Taking.{block_taken}
use Rattle.partitions.proofs.partition.Partition.next_waiting.Goals as goal
use Rattle.partitions.proofs.partition.Partition.next_waiting.Goals.{In-Some}

popped : (c : In-Some) → c.args.self.now.waiting.items ≡ c.pop.new.self.items ++ c.in-Some.block ∷ []
popped c = search rules

pub index_mut-requires : goal.index_mut-requires
index_mut-requires c =
    let known : c.in-Some.block < length c.args.self.now.firsts.items = c.requires.known c.in-Some.block (subst (λ (xs : List ℕ). has xs c.in-Some.block ≡ true) (sym (popped (goal.at.index_mut-requires c).In-Some)) (has_push c.pop.new.self.items c.in-Some.block)) in
    subst (λ k. c.in-Some.block < k) (sym c.requires.flags_len ∙ sym c.args.self.now.flags.ok.0) known

pub returns : goal.returns
returns c =
    let flags : (with_item c.args.self.now.flags c.in-Some.block false).items ≡ set c.args.self.now.flags.items c.in-Some.block false = search rules in
    block_taken (count_of c.args.self.now) (state_of c.args.self.now) c.in-Some.block _ _ c.requires flags (popped (goal.at.returns c).In-Some)
