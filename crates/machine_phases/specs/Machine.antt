-- The machine: a transaction, clock by clock. What it knows of an unfinished one is a progress (`progress`), facts without a verdict (D23).
use Rattle.std.specs.Prelude.{ℕ, ◌%◌, Bool, true, false, cond, List, [], ◌∷◌, eqb}
use Rattle.units.specs.declared.Clocks.{Clocks}
use Rattle.units.specs.declared.Wires.{Wires}
use Rattle.units.specs.Units.{clocks, next, at_most, at_most_bytes, whole_of, unfinished_of}
use Rattle.wires.specs.Bits.{shift_of}
use Rattle.parts.specs.Parts.{family_of}
use Rattle.kinds.specs.declared.Kind.{Kind}
use Rattle.opcodes.specs.Opcodes.{kind_of}
use Rattle.commands.specs.declared.plans.Body.{Body}
use Rattle.commands.specs.declared.plans.Body.TheVariants.{Nothing, FixedRead, AnyRead, FixedWrite, AnyWrite}
use Rattle.commands.specs.Plans.{writes}
use Rattle.counts.specs.Counts.{command_tick, address_tick, wait_tick, body_tick, rest_tick}
use Rattle.counts.specs.declared.Phase.{Phase}
use Rattle.counts.specs.declared.Phase.TheVariants.{Command, Address, Wait, Data, Rest}
use Rattle.progress.specs.declared.Tally.{Tally}
use Rattle.progress.specs.declared.Progress.{Progress}
use Rattle.progress.specs.Progress.{counting, entered, onward}
use Rattle.record.specs.declared.devices.Device.{Device}
use Rattle.record.specs.declared.devices.Setting.{Setting}
use Rattle.record.specs.declared.devices.Aim.{Aim}
use Rattle.record.specs.Devices.{setting_of, aim_of}
use Rattle.changes.specs.Latches.{latch_missing}
use Rattle.paper.specs.InForce.{command_clocks, wires_for, address_clocks, wait_clocks, body_for}
use Rattle.paper.specs.Storing.{store_byte, value_byte}
use Rattle.paper.specs.Driving.{driven_at}
use Rattle.contract_words.specs.Words.{Take, Held, Run}
use Rattle.machine_phases.specs.declared.Terms.{Terms}

-- what a transaction runs under (D59)
abbrev pub terms_of : Device → Terms
terms_of d = record { setting = setting_of d; latch = d.volatile.latch }

-- the data phase is full after t clocks, by the whole bytes that they carry (D22)
abbrev pub full_at : Body → Wires → Clocks → Bool
full_at Nothing w t = true
full_at (FixedRead b) w t = at_most_bytes b (whole_of w t)
full_at AnyRead w t = false
full_at (FixedWrite b) w t = at_most_bytes b (whole_of w t)
full_at AnyWrite w t = false

-- ---- entering a phase, past those that have no clocks
unfoldable pub to_data : Setting → Kind → ℕ → Tally → Progress
to_data s k a t = cond (full_at (body_for s k a) (wires_for s k) (clocks 0)) (entered Rest k a t) (entered Data k a t)

unfoldable pub to_wait : Setting → Kind → ℕ → Tally → Progress
to_wait s k a t = cond (at_most (wait_clocks s k a) (clocks 0)) (to_data s k a t) (entered Wait k a t)

unfoldable pub to_address : Setting → Kind → Tally → Progress
to_address s k t = cond (at_most (address_clocks s k) (clocks 0)) (to_wait s k 0 t) (entered Address k 0 t)

-- ---- one clock of each phase
unfoldable pub command_step : Setting → Progress → ℕ → Progress
command_step s p x =
    let number = shift_of s.wires p.number x in
    let c = command_tick p.tally.counts in
    let t = counting c p.tally in
    cond (at_most (command_clocks s) c.command) (to_address s (kind_of (family_of s.part) s.wires (number % 256)) t) (onward number t p)

unfoldable pub address_step : Setting → Progress → ℕ → Progress
address_step s p x =
    let number = shift_of (wires_for s p.kind) p.number x in
    let c = address_tick p.tally.counts in
    let t = counting c p.tally in
    cond (at_most (address_clocks s p.kind) c.address) (to_wait s p.kind number t) (onward number t p)

unfoldable pub wait_step : Setting → Progress → Progress
wait_step s p =
    let c = wait_tick p.tally.counts in
    let t = counting c p.tally in
    cond (at_most (wait_clocks s p.kind p.address) c.wait) (to_data s p.kind p.address t) (onward 0 t p)

abbrev pub rest_step : Progress → Progress
rest_step p = onward 0 (counting (rest_tick p.tally.counts) p.tally) p

-- ---- the data
-- memory and area are held back while the latch is needed and down
abbrev pub holds : Terms → Kind → Bool
holds h k = latch_missing (family_of h.setting.part) h.setting.registers.cr4 h.latch k

-- a whole byte, held back or not; the value of a register write is gathered all the same
abbrev pub byte_for : Bool → Body → Aim → Take
byte_for hold b a = λ i x t. record { lent = cond hold t.lent (store_byte b a i x t.lent); value = value_byte b i x t.value }

abbrev pub byte_in : Bool → Aim → Take
byte_in hold a = byte_for hold (body_for a.setting a.kind a.address) a

-- clock t of the data is the last of a byte when no clock is left over after it
abbrev pub last_at : Wires → Clocks → Bool
last_at w t = eqb (unfinished_of w (next t)).0 0

-- the bits are gathered, and with a byte's last clock the byte is taken
unfoldable pub held : Wires → Take → Clocks → Held → ℕ → Held
held w f t h x =
    cond (last_at w t)
    (record { number = 0; taken = f (whole_of w t) (shift_of w h.number x % 256) h.taken })
    (record { number = shift_of w h.number x; taken = h.taken })

abbrev pub held_in : Run → Held
held_in r = record { number = r.progress.number; taken = record { lent = r.lent; value = r.progress.tally.value } }

-- a write gathers its bytes; a read gathers nothing, whatever the wires say (D56)
unfoldable pub data_held : Terms → Run → ℕ → Held
data_held h r x =
    let p = r.progress in
    let a = aim_of h.setting p.kind p.address in
    cond (writes (body_for h.setting p.kind p.address))
    (held (wires_for h.setting p.kind) (byte_in (holds h p.kind) a) p.tally.counts.body (held_in r) x)
    (held_in r)

unfoldable pub data_step : Terms → Run → ℕ → Run
data_step h r x =
    let p = r.progress in
    let s = h.setting in
    let c = body_tick p.tally.counts in
    let g = data_held h r x in
    let t : Tally = record { counts = c; value = g.taken.value } in
    record {
      progress = cond (full_at (body_for s p.kind p.address) (wires_for s p.kind) c.body) (entered Rest p.kind p.address t) (onward g.number t p);
      lent = g.taken.lent;
    }

-- ---- one clock
abbrev pub step_in : Phase → Terms → Run → ℕ → Run
step_in Command h r x = record { progress = command_step h.setting r.progress x; lent = r.lent }
step_in Address h r x = record { progress = address_step h.setting r.progress x; lent = r.lent }
step_in Wait h r x = record { progress = wait_step h.setting r.progress; lent = r.lent }
step_in Data h r x = data_step h r x
step_in Rest h r x = record { progress = rest_step r.progress; lent = r.lent }

unfoldable pub step_of : Terms → Run → ℕ → Run
step_of h r x = step_in r.progress.phase h r x

-- what it drives
abbrev pub drive_in : Phase → Device → Run → ℕ
drive_in Command d r = 0
drive_in Address d r = 0
drive_in Wait d r = 0
drive_in Data d r =
    let p = r.progress in
    driven_at (body_for (setting_of d) p.kind p.address) d p.kind p.address r.lent p.tally.counts.body
drive_in Rest d r = 0

unfoldable pub drive_of : Device → Run → ℕ
drive_of d r = drive_in r.progress.phase d r

-- ---- clock by clock: what is left at the end, and what is driven on the way
unfoldable pub run_of : Device → Run → List ℕ → Run
run_of d r [] = r
run_of d r (x ∷ xs) = run_of d (step_of (terms_of d) r x) xs

unfoldable pub outs_of : Device → Run → List ℕ → List ℕ
outs_of d r [] = []
outs_of d r (x ∷ xs) = drive_of d r ∷ outs_of d (step_of (terms_of d) r x) xs
