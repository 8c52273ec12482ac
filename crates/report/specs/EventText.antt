-- How an event is printed: the name of its channel, and each field after a dot. A field is a number or a constant.
use Rattle.std.specs.Prelude.{ℕ, Option, Some, None, List, [], ◌++◌, codes, slice_get}
use Rattle.csp_base.specs.Standard.{flat_map, signed_decimal}
use Rattle.csp_atoms.specs.declared.atom.Atom.{Atom}
use Rattle.csp_atoms.specs.declared.atom.Atom.TheVariants as atom
use Rattle.csp_program.specs.declared.programs.Channel.{Channel}
use Rattle.csp_program.specs.declared.programs.Content.{Content}
use Rattle.csp_program.specs.declared.programs.EventInfo.{EventInfo}

abbrev pub text_or_none : Option (List ℕ) → List ℕ
text_or_none None = []
text_or_none (Some text) = text

abbrev pub channel_name : Option Channel → List ℕ
channel_name None = []
channel_name (Some channel) = channel.name

module _ (p : Content) where
  -- no field of a program in order is a truth value or an event
  abbrev pub field_text : Atom → List ℕ
  field_text (atom.Num n) = codes "." ++ signed_decimal n
  field_text (atom.Truth b) = codes "."
  field_text (atom.Const k) = codes "." ++ text_or_none (slice_get p.consts k)
  field_text (atom.Event e) = codes "."

  abbrev pub info_text : Option EventInfo → List ℕ
  info_text None = []
  info_text (Some info) = channel_name (slice_get p.channels info.channel) ++ flat_map field_text info.fields

-- the event with the number e
abbrev pub event_text : Content → ℕ → List ℕ
event_text p e = info_text p (slice_get p.events e)
