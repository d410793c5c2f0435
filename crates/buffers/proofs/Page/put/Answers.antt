-- `Page::put` meets its contract: the two ways are the definition's.
-- Assumes nothing.
use Rattle.std.proofs.Common.{lt-ltb, le-ltb}
use Rattle.buffers.specs.Page.{put_of}
use Rattle.buffers.proofs.Page.put.Goals as goal

pub returns-then-self-clause-put : goal.returns-then-self-clause-put
unfolding put_of
returns-then-self-clause-put c = rw (lt-ltb _ _ c.if-self.true)

pub returns-else-self-clause-put : goal.returns-else-self-clause-put
unfolding put_of
returns-else-self-clause-put c = rw (le-ltb _ _ c.if-self.false)
