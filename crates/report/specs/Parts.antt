-- The parts of a line, one after another. (No public contract cites this.)
use Rattle.std.specs.Prelude.{ℕ, List, [], ◌∷◌, ◌++◌}
use Rattle.csp_base.specs.Standard.{decimal, signed_decimal}
use Rattle.report.specs.EventText.{event_text}
use Rattle.report.specs.Lines.{numbers_text, set_text, trace_text}
use Rattle.report.specs.declared.lines.Part.{Part}
use Rattle.report.specs.declared.lines.Part.TheVariants as part

-- the words of a part, and what stands after them
abbrev pub words_text : Part → List ℕ
words_text (part.Text words) = words.now
words_text (part.Number words n) = words.now
words_text (part.Count words n) = words.now
words_text (part.Signed words n) = words.now
words_text (part.Numbers words ns) = words.now
words_text (part.Event words p e) = words.now
words_text (part.Trace words p es) = words.now
words_text (part.Set words p es) = words.now

abbrev pub value_text : Part → List ℕ
value_text (part.Text words) = []
value_text (part.Number words n) = decimal n
value_text (part.Count words n) = decimal n
value_text (part.Signed words n) = signed_decimal n
value_text (part.Numbers words ns) = numbers_text ns.now
value_text (part.Event words p e) = event_text p.now e
value_text (part.Trace words p es) = trace_text p.now es.now
value_text (part.Set words p es) = set_text p.now es.now

abbrev pub part_text : Part → List ℕ
part_text p = words_text p ++ value_text p

-- a text and parts after it
abbrev pub text_and : List ℕ → List Part → List ℕ
text_and text [] = text
text_and text (part.Text words ∷ ps) = text_and (text ++ words.now) ps
text_and text (p ∷ ps) = text_and (text ++ words_text p ++ value_text p) ps

abbrev pub parts_text : List Part → List ℕ
parts_text ps = text_and [] ps
