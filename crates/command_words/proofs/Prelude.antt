-- What the proofs of this crate cite of the crates below, and of its own definitions.
pub use Rattle.command_words.specs.Numerals.{IsShortNumeral, continued, numeral_value}
pub use Rattle.command_words.specs.Prelude.{Asks, IsNamed, IsWithin, WordsAskOnce, written}
pub use Rattle.command_words.specs.declared.request.Trial.{Trial}
pub use Rattle.net_maker.specs.Families.{family_name, greatest, least}
pub use Rattle.net_maker.specs.declared.families.Family.{Family}
pub use Rattle.net_maker.specs.declared.families.Family.TheVariants.{Chain, Forks, Mesh}
pub use Rattle.std.proofs.Common.{IfNone, IfSome, List, None, Option, Some, [], ap, arith, codes, drop, get_or, length, refl, subst, suc, sym, zero, ℕ, ◌*◌, ◌+◌, ◌-◌, ◌<◌, ◌^◌, ◌∙◌, ◌∷◌, ◌≡◌, ◌≤◌}
pub use Rattle.std.proofs.lemmas.Slice.Eq.{bytes_eq-Decides}
pub use Rattle.std.specs.Fmt.{decimal}
