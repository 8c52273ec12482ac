-- Parts one after another.
use Rattle.report.proofs.Prelude.{◌≡◌, ℕ, List, [], ◌∷◌, ◌++◌, refl, sym, ap, ◌∙◌, append_assoc, decimal, flat_map, append-nil, event_text, numbers_text, set_text, trace_text, part_text, parts_text, text_and}
use Rattle.csp_base.specs.Standard.{signed_decimal}
use Rattle.report.specs.declared.lines.Part.{Part}
use Rattle.report.specs.declared.lines.Part.TheVariants as part

-- words and then a value
apart : (text words value : List ℕ) (ps : List Part) → text_and (text ++ (words ++ value)) ps ≡ text_and (text ++ words ++ value) ps
apart text words value ps = ap (λ (t : List ℕ). text_and t ps) (sym (append_assoc text words value))

one_part : (text : List ℕ) (p : Part) (ps : List Part) → text_and (text ++ part_text p) ps ≡ text_and text (p ∷ ps)
one_part text (part.Text words) ps = ap (λ (t : List ℕ). text_and (text ++ t) ps) (append-nil words.now)
one_part text (part.Number words n) ps = apart text words.now (decimal n) ps
one_part text (part.Count words n) ps = apart text words.now (decimal n) ps
one_part text (part.Signed words n) ps = apart text words.now (signed_decimal n) ps
one_part text (part.Numbers words ns) ps = apart text words.now (numbers_text ns.now) ps
one_part text (part.Event words p e) ps = apart text words.now (event_text p.now e) ps
one_part text (part.Trace words p es) ps = apart text words.now (trace_text p.now es.now) ps
one_part text (part.Set words p es) ps = apart text words.now (set_text p.now es.now) ps

after : (text : List ℕ) (ps : List Part) → text ++ flat_map part_text ps ≡ text_and text ps
after text [] = append-nil text
after text (p ∷ ps) = sym (append_assoc text (part_text p) (flat_map part_text ps)) ∙ after (text ++ part_text p) ps ∙ one_part text p ps

pub parts_all : (ps : List Part) → flat_map part_text ps ≡ parts_text ps
parts_all ps = after [] ps
