-- The rule of the table of sizes.
-- Assumes nothing.
use Rattle.std.specs.Prelude.{◌≡◌, refl, ℕ, ◌<◌, List, [], ◌∷◌, get_or}
use Rattle.std.proofs.Common.{lit<}
use Rattle.kinds.specs.declared.Register.{Register}
use Rattle.kinds.specs.declared.Register.TheVariants.{Status, AreaProtection, Configuration1, Configuration2, Configuration3, Configuration4, Configurations, Identity, Unique, Serial, ModeRegister, LongIdentity}
use Rattle.commands.specs.Registers.{bytes_of, table_place}

abbrev pub sizes : List ℕ
sizes = 1 ∷ 1 ∷ 1 ∷ 1 ∷ 1 ∷ 1 ∷ 4 ∷ 4 ∷ 8 ∷ 8 ∷ 1 ∷ 8 ∷ []

-- a register has a place in the table, and its size stands there
pub record Sized (r : Register) : Type 0 where
  pub inside : table_place r < 12
  pub size : get_or sizes (table_place r) 0 ≡ (bytes_of r).0

pub sized : (r : Register) → Sized r
sized Status = record { inside = lit< tt; size = refl }
sized AreaProtection = record { inside = lit< tt; size = refl }
sized Configuration1 = record { inside = lit< tt; size = refl }
sized Configuration2 = record { inside = lit< tt; size = refl }
sized Configuration3 = record { inside = lit< tt; size = refl }
sized Configuration4 = record { inside = lit< tt; size = refl }
sized Configurations = record { inside = lit< tt; size = refl }
sized Identity = record { inside = lit< tt; size = refl }
sized Unique = record { inside = lit< tt; size = refl }
sized Serial = record { inside = lit< tt; size = refl }
sized ModeRegister = record { inside = lit< tt; size = refl }
sized LongIdentity = record { inside = lit< tt; size = refl }
