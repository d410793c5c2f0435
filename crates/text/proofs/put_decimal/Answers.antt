-- `text::put_decimal` meets its contract: the fewest digits that hold the number are its decimal text.
-- Assumes nothing.
use borrow.Author.Rules.{rules}
use Rattle.text.proofs.Decimal.{decimal_put}
use Rattle.text.proofs.put_decimal.Goals as goal

pub returns-clause-put : goal.returns-clause-put
returns-clause-put c = decimal_put _ (search rules) c.put_all.ensures.put c.decimal-n.ensures.digits c.decimal-n.ensures.len
