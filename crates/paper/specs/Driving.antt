-- What a read drives, clock by clock. Document 01, "Samples", second paragraph. A byte that the host breaks off is driven as far as its clocks go.
use Rattle.std.specs.Prelude.{ℕ, ◌+◌, List, [], ◌∷◌, get_or, Option, Some, None}
use Rattle.kinds.specs.declared.Register.{Register}
use Rattle.units.specs.declared.Clocks.{Clocks}
use Rattle.units.specs.declared.Bytes.{Bytes}
use Rattle.units.specs.Units.{clocks, whole_of}
use Rattle.wires.specs.Bits.{group_of}
use Rattle.wires.specs.Levels.{level_of}
use Rattle.kinds.specs.declared.Register.TheVariants.{ModeRegister, LongIdentity}
use Rattle.kinds.specs.declared.Source.{Source}
use Rattle.kinds.specs.declared.Source.TheVariants as From
use Rattle.kinds.specs.declared.Kind.{Kind}
use Rattle.kinds.specs.declared.Kind.TheVariants.{Unknown, Plain, Read, Write}
use Rattle.commands.specs.Registers.{mapped_of}
use Rattle.commands.specs.declared.plans.Body.{Body}
use Rattle.commands.specs.declared.plans.Body.TheVariants.{Nothing, FixedRead, AnyRead, FixedWrite, AnyWrite}
use Rattle.record.specs.declared.devices.Device.{Device}
use Rattle.record.specs.Devices.{setting_of}
use Rattle.record.specs.Shows.{shown_byte}
use Rattle.places.specs.Places.{read_place, area_place}
use Rattle.paper.specs.InForce.{wires_for}
use Rattle.paper.specs.Storing.{Lent}

abbrev pub mapped_byte : Device → Option Register → Bytes → ℕ
mapped_byte d (Some r) i = shown_byte d r i
mapped_byte d None i = 0

-- byte i of what a read finds at its source
abbrev pub found_at : Device → Source → ℕ → Lent → Bytes → ℕ
found_at d (From.Register r) address l i = shown_byte d r i
found_at d From.Map address l i = mapped_byte d (mapped_of (setting_of d).part address) i
found_at d From.Mode address l i = shown_byte d ModeRegister i
found_at d From.Identity address l i = shown_byte d LongIdentity i
found_at d (From.Memory r) address l i = get_or l.memory (read_place (setting_of d) address i) 0
found_at d From.Area address l i = get_or l.area (area_place (setting_of d).part address i) 0

-- byte i of what a command reads
unfoldable pub byte_read : Device → Kind → ℕ → Lent → Bytes → ℕ
byte_read d Unknown address l i = 0
byte_read d (Plain c) address l i = 0
byte_read d (Read s) address l i = found_at d s address l i
byte_read d (Write t) address l i = 0

-- the output byte of data clock t, counted from 0
unfoldable pub level_at : Device → Kind → ℕ → Lent → Clocks → ℕ
level_at d k address l t =
    let w = wires_for (setting_of d) k in
    level_of w (group_of w t (byte_read d k address l (whole_of w t)))

abbrev pub driven_at : Body → Device → Kind → ℕ → Lent → Clocks → ℕ
driven_at Nothing d k address l t = 0
driven_at (FixedRead b) d k address l t = level_at d k address l t
driven_at AnyRead d k address l t = level_at d k address l t
driven_at (FixedWrite b) d k address l t = 0
driven_at AnyWrite d k address l t = 0

-- a value for each sample, by its place counted from t
unfoldable pub along : (Clocks → ℕ) → ℕ → List ℕ → List ℕ
along f t [] = []
along f t (x ∷ xs) = f (clocks t) ∷ along f (t + 1) xs
