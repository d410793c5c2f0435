-- Lengths and shares. Document 01, "Commands of part M" (CR3's groups, status bits 4 to 2) and "Commands of part P" (MR0[6:5]); document 02, P4 (groups
-- of 512 and 1,024 bytes, and the shares of part 3).
use Rattle.std.specs.Prelude.{ℕ, zero, suc, ◌*◌, ◌/◌, ◌%◌, ◌^◌, List, [], ◌∷◌, get_or}
use Rattle.units.specs.declared.Bytes.{Bytes}
use Rattle.units.specs.Units.{bytes}

-- the MRAM's groups by the code in CR3[2:0]: 16 bytes, doubled as often as the code says; which codes a part has is its limit (`wrap_codes`)
abbrev pub wrap_length : ℕ → Bytes
wrap_length cr3 = bytes (16 * 2 ^ (cr3 % 8))

-- 16, 32, 64, 512 bytes for MR0[6:5]
abbrev pub groups : List ℕ
groups = 16 ∷ 32 ∷ 64 ∷ 512 ∷ []

abbrev pub group_length : ℕ → Bytes
group_length mr0 = bytes (get_or groups (mr0 / 32 % 4) 0)

-- Of 64 equal parts of memory: nothing for code 0, then 1/64 for 1, doubled with each code, to all of memory for 7 (D14).
abbrev pub share_at : ℕ → ℕ
share_at zero = 0
share_at (suc k) = 2 ^ k

abbrev pub share_of : ℕ → ℕ
share_of status = share_at (status / 4 % 8)
