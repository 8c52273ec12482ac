use Rattle.script_printer.proofs.Prelude.{[], ◌∷◌, codes, Name, spaced}
use Rattle.script_printer.proofs.Written.{behind}
use Rattle.script_printer.proofs.lines.put_resource.Goals as goal

pub returns : goal.returns
unfolding spaced
returns c =
    behind c.args.text.now c.extend_from_slice.new.self c.put_uses.new.text (codes "--@ resource") (Name c.args.names.now.process ∷ Name c.args.names.now.acquire ∷ Name c.args.names.now.release ∷ []) c.put_uses.result
    c.in_ok-extend_from_slice.ensures.ok c.put_uses.ensures
