-- The answer table: document 01's "Answer numbers" from row 4 on, a named test for each row. The first row that holds gives the answer, and where none does it is 0 (D54).
-- Assumes nothing.
use Rattle.std.specs.Prelude.{◌≡◌, refl, Bool, true, false, List, [], ◌∷◌}
use Rattle.basis.specs.Decisions.{first_of, NoneHolds, no_row, by_rows, none_holds}
use Rattle.record.specs.declared.answers.Answer.{Answer}
use Rattle.record.specs.declared.answers.Answer.TheVariants.{Done, Short, Unknown, Asleep, Address, Latch, Protected, Reserved, Long, Unarmed}
use Rattle.record.specs.Answers.{is_done}

pub record Table : Type 0 where
  -- 4: command bits are missing
  pub cut_command : Bool
  -- 6
  pub asleep : Bool
  -- 5
  pub unknown : Bool
  -- 4: address bits are missing
  pub cut_address : Bool
  -- 7
  pub refused : Bool
  -- 4: data is missing
  pub cut_data : Bool
  -- 11
  pub long : Bool
  -- 12
  pub unarmed : Bool
  -- 8
  pub latch : Bool
  -- 10
  pub reserved : Bool
  -- 9
  pub shut : Bool

-- THE ORDER of the rows: those that are decided before any data, and then those that look at it
abbrev pub data_rows : Table → List (Bool × Answer)
data_rows t =
    (t.cut_data, Short)
    ∷ (t.long, Long)
    ∷ (t.unarmed, Unarmed)
    ∷ (t.latch, Latch)
    ∷ (t.reserved, Reserved)
    ∷ (t.shut, Protected)
    ∷ []

abbrev pub listed : Table → List (Bool × Answer)
listed t =
    (t.cut_command, Short)
    ∷ (t.asleep, Asleep)
    ∷ (t.unknown, Unknown)
    ∷ (t.cut_address, Short)
    ∷ (t.refused, Address)
    ∷ data_rows t

abbrev pub answer_by : Table → Answer
answer_by t = first_of Done (listed t)

-- no row holds
pub record Clear (t : Table) : Type 0 where
  pub cut_command : t.cut_command ≡ false
  pub asleep : t.asleep ≡ false
  pub unknown : t.unknown ≡ false
  pub cut_address : t.cut_address ≡ false
  pub refused : t.refused ≡ false
  pub cut_data : t.cut_data ≡ false
  pub long : t.long ≡ false
  pub unarmed : t.unarmed ≡ false
  pub latch : t.latch ≡ false
  pub reserved : t.reserved ≡ false
  pub shut : t.shut ≡ false

-- Q of the answer of each row that holds, and of 0 where none does
pub record Cases (t : Table) (Q : Answer → Type 0) : Type 0 where
  pub cut_command : t.cut_command ≡ true → Q Short
  pub asleep : t.asleep ≡ true → Q Asleep
  pub unknown : t.unknown ≡ true → Q Unknown
  pub cut_address : t.cut_address ≡ true → Q Short
  pub refused : t.refused ≡ true → Q Address
  pub cut_data : t.cut_data ≡ true → Q Short
  pub long : t.long ≡ true → Q Long
  pub unarmed : t.unarmed ≡ true → Q Unarmed
  pub latch : t.latch ≡ true → Q Latch
  pub reserved : t.reserved ≡ true → Q Reserved
  pub shut : t.shut ≡ true → Q Protected
  pub none : Clear t → Q Done

module _ (t : Table) where
  -- the list read back into names
  named : NoneHolds (listed t) → Clear t
  named (a, (b, (c, (d, (e, (f, (g, (h, (i, (j, (k, z))))))))))) =
      record { cut_command = a; asleep = b; unknown = c; cut_address = d; refused = e; cut_data = f; long = g; unarmed = h; latch = i; reserved = j; shut = k }

  -- where the answer is 0 no row holds, and the other way round
  pub clear : is_done (answer_by t) ≡ true → Clear t
  clear e =
      named (none_holds Done is_done (listed t) (refl, (refl, (refl, (refl, (refl, (refl, (refl, (refl, (refl, (refl, (refl, tt))))))))))) e)

  pub done_when_clear : Clear t → answer_by t ≡ Done
  done_when_clear c =
      no_row Done (listed t)
      (c.cut_command, (c.asleep, (c.unknown, (c.cut_address, (c.refused, (c.cut_data, (c.long, (c.unarmed, (c.latch, (c.reserved, (c.shut, tt)))))))))))

  -- the answer is that of a row that holds, or 0
  pub by_row : (Q : Answer → Type 0) → Cases t Q → Q (answer_by t)
  by_row Q h =
      by_rows Done Q (listed t)
      (h.cut_command, (h.asleep, (h.unknown, (h.cut_address, (h.refused, (h.cut_data, (h.long, (h.unarmed, (h.latch, (h.reserved, (h.shut, tt)))))))))))
      (λ c. h.none (named c))
