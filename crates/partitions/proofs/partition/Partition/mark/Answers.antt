use Rattle.partitions.proofs.Prelude.{ℕ, List, [], ◌∷◌, ◌++◌, sym, subst, ap, ◌∙◌, state_of, count_of, block_at, AreTouched, IsMarked}
use Rattle.partitions.proofs.Marking.{unmarked_read, marked_now, touched_again, touched_new, other_read, block_read}
use Rattle.partitions.proofs.partition.Partition.mark.Goals as goal
use Rattle.partitions.proofs.partition.Partition.mark.Goals.{then-middle-index+in_ok-push, else-middle-index}

pub returns-clause-marked : goal.returns-clause-marked
returns-clause-marked c =
    let unmarked = unmarked_read (count_of c.args.self.now) (state_of c.args.self.now) c.args.node c.index-block.result.now c.index-middle.result.now c.index.result.now c.requires.blocks c.requires.node c.index-block.ensures c.index-middle.ensures c.index.ensures c.if-index-middle.false in
    subst (λ t. IsMarked (count_of c.args.self.now) (state_of c.args.self.now) t c.args.node) (sym c.advance.ensures) (marked_now _ _ _ c.requires.blocks c.requires.node unmarked)

pub returns-clause-touched : goal.returns-clause-touched
returns-clause-touched c =
    let s = state_of c.args.self.now in
    let n = count_of c.args.self.now in
    let unmarked = unmarked_read n s c.args.node c.index-block.result.now c.index-middle.result.now c.index.result.now c.requires.blocks c.requires.node c.index-block.ensures c.index-middle.ensures c.index.ensures c.if-index-middle.false in
    let block = block_read n s c.args.node c.index-block.result.now c.index-middle.result.now c.index.result.now c.requires.blocks c.requires.node c.index-block.ensures c.index-middle.ensures c.index.ensures in
    elim c.if-middle-index.branch as (λ _. AreTouched (state_of c.advance.new.self) c.if-middle-index.touched.items) [
      | then-middle-index+in_ok-push w ↦
          subst (λ (xs : List ℕ). AreTouched (state_of c.advance.new.self) xs)
          (ap (λ b. c.args.touched.now.items ++ b ∷ []) (sym block) ∙ sym w.in_ok-push.ensures ∙ sym (ap (λ v. v.items) w.touched-is))
          (subst (λ t. AreTouched t (c.args.touched.now.items ++ block_at s c.args.node ∷ [])) (sym c.advance.ensures) (touched_new n s c.args.node c.requires.blocks c.requires.node unmarked c.args.touched.now.items c.requires.touched))
      | else-middle-index w ↦
          subst (λ (xs : List ℕ). AreTouched (state_of c.advance.new.self) xs) (sym (ap (λ v. v.items) w.touched-is))
          (subst (λ t. AreTouched t c.args.touched.now.items) (sym c.advance.ensures) (touched_again n s c.args.node c.requires.blocks c.requires.node unmarked c.args.touched.now.items c.requires.touched
          (other_read n s c.args.node c.index-block.result.now c.index-middle.result.now c.index.result.now c.requires.blocks c.requires.node c.index-block.ensures c.index-middle.ensures c.index.ensures c.index-2.result.now c.index-2.ensures w.if-middle-index.false)))
    ]
