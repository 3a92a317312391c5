-- An Add's fields are the order's.
-- Assumes nothing.
use Rattle.message.specs.Layouts.{layout_of}
use Rattle.message.specs.Row.{fields_of, message_of}
use Rattle.book.specs.Applying.{order_of}
use Rattle.book_deciding.proofs.reading.order_of.Goals as goal

pub returns : goal.returns
unfolding order_of fields_of message_of layout_of
returns c =
    λ i. record {
      id = c.requires.value i;
      price = (c.add-fields.ensures i).deal.price;
      shares = (c.add-fields.ensures i).deal.quantity;
      firm = (c.add-fields.ensures i).firm;
      symbol = (c.add-fields.ensures i).deal.symbol;
      side = (c.add-fields.ensures i).deal.side;
      unsolicited = (c.add-fields.ensures i).unsolicited;
    }
