use Rattle.report.proofs.Prelude.{◌≡◌, ◌++◌, take, flat_map, part_text}
use Rattle.report.proofs.lines.push_parts.Given as goal

abbrev pub invariant-loop-part : goal.invariant-loop-part
invariant-loop-part l = l.report ≡ l.fn.report ++ flat_map part_text (take l.part-index l.parts)
