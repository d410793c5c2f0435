-- `places::section_shut` meets its contract: a section past the eighth has no bit.
-- Assumes nothing.
use mathlib.Core.Path.{refl, sym, ◌∙◌}
use borrow.Author.Tests.{le-ltb}
use Rattle.places.specs.Protection.{section_shut}
use Rattle.places.specs.Laws.{section_past}
use Rattle.places.proofs.section_shut.Goals as goal

pub returns-then-section-lt-SECTIONS : goal.returns-then-section-lt-SECTIONS
unfolding section_shut
returns-then-section-lt-SECTIONS c = refl

pub returns-else-section-lt-SECTIONS : goal.returns-else-section-lt-SECTIONS
unfolding section_shut
returns-else-section-lt-SECTIONS c = le-ltb _ _ c.if-section-lt-SECTIONS.false ∙ sym (section_past c.args.protection c.args.section c.ranges.protection.fits c.if-section-lt-SECTIONS.false)
