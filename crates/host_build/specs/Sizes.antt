-- The samples of a command in parts, and how many they are, as the code makes them.
use Rattle.std.specs.Prelude.{ℕ, List, ◌++◌}
use Rattle.units.specs.declared.Clocks.{Clocks}
use Rattle.units.specs.declared.Bytes.{Bytes}
use Rattle.units.specs.declared.Wires.{Wires}
use Rattle.units.specs.Units.{bytes, plus, clocks_of}
use Rattle.kinds.specs.declared.Kind.{Kind}
use Rattle.commands.specs.declared.plans.Body.{Body}
use Rattle.commands.specs.declared.plans.Body.TheVariants.{Nothing, FixedRead, AnyRead, FixedWrite, AnyWrite}
use Rattle.commands.specs.Plans.{later_wires, address_of, wait_of}
use Rattle.record.specs.declared.answers.Answer.{Answer}
use Rattle.paper.specs.InForce.{address_length}
use Rattle.paper.specs.Building.{Order, body_asked, silent, data_sent, build_answer}

-- wait and data, after a command on some wires
unfoldable pub rest_of : Order → Kind → Wires → List ℕ
rest_of o k w = silent (wait_of k w o.cr2) ++ data_sent (body_asked o k) (later_wires k w) o

-- how many bytes the data is
abbrev pub bytes_sent : Body → Bytes → Bytes → Bytes
bytes_sent Nothing wanted written = bytes 0
bytes_sent (FixedRead b) wanted written = wanted
bytes_sent AnyRead wanted written = wanted
bytes_sent (FixedWrite b) wanted written = written
bytes_sent AnyWrite wanted written = written

-- the clocks before the data
unfoldable pub front_of : Kind → Wires → ℕ → Clocks
front_of k w cr2 = plus (plus (clocks_of w (bytes 1)) (address_length (address_of k) (later_wires k w))) (wait_of k w cr2)

-- the answer before anything is written
unfoldable pub refusal_of : Order → Kind → List ℕ → Answer
refusal_of o k out = build_answer o k out
