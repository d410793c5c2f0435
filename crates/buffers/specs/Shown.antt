-- The page that a `Page` of the code is: its place, and what its buffer holds.
use Rattle.buffers.specs.declared.Page.{Page}
use Rattle.buffers.specs.Page as sheet
use Rattle.buffers.specs.Page.{page}

abbrev pub shown : Page → sheet.Page
shown p = page p.at p.bytes.now
