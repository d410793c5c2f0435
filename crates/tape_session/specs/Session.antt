-- A tape played record by record: what a turn comes to, and all that it leaves. Document 01, "Bench tape".
use Rattle.std.specs.Prelude.{ℕ, cond, List, ◌++◌, ltb, length, take, drop, Option, Some, None, Result, Ok, Err}
use Rattle.paper.specs.Storing.{Lent}
use Rattle.paper.specs.Transaction.{World}
use Rattle.contract_words.specs.Words.{lends, outcome_in}
use Rattle.tape.specs.declared.Chip.{Chip}
use Rattle.tape.specs.declared.Entry.{Entry}
use Rattle.tape.specs.declared.Fault.{Fault}
use Rattle.tape.specs.declared.Found.{Found}
use Rattle.tape.specs.declared.Socket.{Socket}
use Rattle.tape.specs.Tape.{found_of}
use Rattle.tape.specs.Play.{chip_for, played_at}
use Rattle.tape_session.specs.declared.Session.{Session}
use Rattle.tape_session.specs.declared.Stop.{Stop}
use Rattle.tape_session.specs.declared.Stop.TheVariants.{End, Bad, Unready}
use Rattle.tape_session.specs.declared.Turn.{Turn}

-- the front of a tape and an empty socket
abbrev pub started : Session
started = record { at = 0; chip = None }

-- a turn, or why there is none, and what is left of all that is lent
pub record Turned : Type 0 where
  pub turn : Result Turn Stop
  pub lent : Lent
  pub output : List ℕ

abbrev pub turned_of : Result Turn Stop → List ℕ → List ℕ → List ℕ → Turned
turned_of t memory area out = record { turn = t; lent = lends memory area; output = out }

-- nothing is played: all that is lent is as it was
abbrev pub kept : Stop → Lent → List ℕ → Turned
kept why l out = record { turn = Err why; lent = l; output = out }

-- a chip has the front of what is lent; what lies past it stays (D52)
abbrev pub chip_part : Socket → Lent → Lent
chip_part b l = record { memory = take b.memory.0 l.memory; area = take b.area.0 l.area }

abbrev pub put_back : Socket → Lent → Lent → Lent
put_back b w l = record { memory = w.memory ++ drop b.memory.0 l.memory; area = w.area ++ drop b.area.0 l.area }

-- the record found has been played on a chip
abbrev pub gone_on : Found → Entry → Chip → Lent → World → Turned
gone_on f e c l w =
    record {
      turn = Ok (record {
        entry = e;
        chip = c;
        outcome = outcome_in w;
        session = record { at = f.next; chip = Some (record { socket = c.socket; device = w.device }) };
      });
      lent = put_back c.socket w.lent l;
      output = w.output;
    }

-- A TURN: the record at the session's place, played on the chip in the socket or on a fresh one, where it can be played and enough is lent
abbrev pub turn_on : Option Chip → Found → Entry → Session → List ℕ → Lent → List ℕ → Turned
turn_on None f e s tape l out = kept (Unready e) l out
turn_on (Some c) f e s tape l out =
    cond (ltb (length l.memory) c.socket.memory.0) (kept (Unready e) l out)
    (cond (ltb (length l.area) c.socket.area.0) (kept (Unready e) l out)
    (gone_on f e c l (played_at tape s.at c.device (chip_part c.socket l) out)))

abbrev pub turn_for : Result Entry Fault → Found → Session → List ℕ → Lent → List ℕ → Turned
turn_for (Err fault) f s tape l out = kept (Bad fault) l out
turn_for (Ok e) f s tape l out = turn_on (chip_for e s.chip) f e s tape l out

abbrev pub turn_at : Result (Option Found) Fault → Session → List ℕ → Lent → List ℕ → Turned
turn_at (Err fault) s tape l out = kept (Bad fault) l out
turn_at (Ok None) s tape l out = kept End l out
turn_at (Ok (Some f)) s tape l out = turn_for f.entry f s tape l out

unfoldable pub turn_of : Session → List ℕ → Lent → List ℕ → Turned
turn_of s tape l out = turn_at (found_of tape s.at) s tape l out
