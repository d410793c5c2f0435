-- Tests of a command's kind, of which there are four (D58). Document 01, "Answer numbers", row 5.
use Rattle.std.specs.Prelude.{Bool, true, false}
use Rattle.kinds.specs.declared.Kind.{Kind}
use Rattle.kinds.specs.declared.Kind.TheVariants.{Unknown, Plain, Read, Write}

-- no such command
abbrev pub unknown : Kind → Bool
unknown Unknown = true
unknown (Plain c) = false
unknown (Read s) = false
unknown (Write t) = false
