use Rattle.script_printer.proofs.Prelude.{◌≡◌, ◌++◌, drop, flat_map, line, decl_tokens}
use Rattle.script_printer.proofs.print.print_script.Given as goal

-- the lines that are written and those that are left are all lines
abbrev pub invariant-loop-decl : goal.invariant-loop-decl
invariant-loop-decl l =
    l.text ++ flat_map (λ d. line (decl_tokens d)) (drop l.decl-index l.decls) ≡ flat_map (λ d. line (decl_tokens d)) l.decls
