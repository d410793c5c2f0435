-- An unfinished transaction: facts only. It has no verdict, which is judged at the end, and no countdown: a phase is full when its count has reached its clocks.
use Rattle.std.specs.Prelude.{ℕ, replicate}
use Rattle.counts.specs.declared.Counts.{Counts}
use Rattle.counts.specs.Counts.{no_counts}
use Rattle.kinds.specs.declared.Kind.{Kind}
use Rattle.kinds.specs.declared.Kind.TheVariants.{Unknown}
use Rattle.counts.specs.declared.Phase.{Phase}
use Rattle.counts.specs.declared.Phase.TheVariants.{Command}
use Rattle.progress.specs.declared.Tally.{Tally}
use Rattle.progress.specs.declared.Progress.{Progress}

-- no clock has come, and no byte of a register write
abbrev pub nothing_yet : Tally
nothing_yet = record { counts = no_counts; value = replicate 8 0 }

-- the tally with other counts
abbrev pub counting : Counts → Tally → Tally
counting c t = record { counts = c; value = t.value }

-- at the start of a phase nothing of it is gathered
abbrev pub entered : Phase → Kind → ℕ → Tally → Progress
entered f k a t = record { phase = f; kind = k; address = a; number = 0; tally = t }

-- a clock further in the same phase
abbrev pub onward : ℕ → Tally → Progress → Progress
onward number t p = record { phase = p.phase; kind = p.kind; address = p.address; number = number; tally = t }

-- no clock has come
abbrev pub begin_of : Progress
begin_of = entered Command Unknown 0 nothing_yet
