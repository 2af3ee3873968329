-- What a handle owns: nothing, or one box.
use base.Fml.{Fml, feq}
use mir.Syntax.{Ty}
use denote.RattleType.{RattleType}
use denote.RawPtr.{Ptr, null_ptr}
use Rattle.std.specs.declared.option.Option.{Option}
use Rattle.std.specs.declared.option.Option.TheVariants.{None, Some}
use Rattle.std.specs.Box.Ownership.{box_owns}

-- the pointer is null and there is no value, or the box at the pointer has the value
abbrev pub handle_owns : (Ty → Ptr → Fml) → (R : RattleType) → Ptr → Option R.Denot → Fml
handle_owns holds R p None = feq Ptr p null_ptr
handle_owns holds R p (Some x) = box_owns holds R p x
