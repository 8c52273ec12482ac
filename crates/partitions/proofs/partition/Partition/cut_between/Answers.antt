use Rattle.partitions.proofs.Prelude.{sym, subst, ap, ◌∙◌, state_of, count_of, HasBlocks, AreBoth, IsCut, with_waiting}
use Rattle.partitions.proofs.Cutting.{cut_divided}
use Rattle.partitions.proofs.Dividing.{blocks_divided}
use Rattle.partitions.proofs.partition.Partition.cut_between.Goals as goal

pub by_size-larger-requires-clause-blocks : goal.by_size-larger-requires-clause-blocks
by_size-larger-requires-clause-blocks c =
    subst (λ n. HasBlocks n (state_of c.divide.new.self)) (sym c.in_ok-new.ensures.divided.blocks_len)
    (blocks_divided (count_of c.args.self.now) (state_of c.args.self.now) (state_of c.divide.new.self) c.args.block c.requires.blocks c.requires.block c.requires.some c.requires.not_all c.in_ok-new.ensures.divided)

pub returns : goal.returns
returns c =
    subst (λ t. IsCut (count_of c.args.self.now) (state_of c.args.self.now) t c.args.block) (sym (c.in_ok-wait-2.ensures ∙ ap (λ t. with_waiting t c.by_size-larger.result.1) c.in_ok-wait.ensures))
    (cut_divided (count_of c.args.self.now) (state_of c.args.self.now) (state_of c.divide.new.self) c.args.block c.by_size-larger.result.0 c.by_size-larger.result.1
    c.requires.blocks c.requires.block c.requires.some c.requires.not_all c.in_ok-new.ensures.divided
    (subst (λ x. AreBoth c.args.block x c.by_size-larger.result.0 c.by_size-larger.result.1) c.in_ok-new.ensures.new c.by_size-larger.ensures))
