-- A Top of Book's fields are the inside's.
-- Assumes nothing.
use Rattle.message.specs.Layouts.{layout_of}
use Rattle.message.specs.Row.{fields_of, message_of}
use Rattle.book.specs.Applying.{inside_of}
use Rattle.book_deciding.proofs.reading.inside_of.Goals as goal

pub returns : goal.returns
unfolding inside_of fields_of message_of layout_of
returns c =
    λ i. record {
      ask = (c.top-fields.ensures i).ask.price;
      bid = (c.top-fields.ensures i).bid.price;
      time = (c.top-fields.ensures i).time;
      askvolume = (c.top-fields.ensures i).ask.volume;
      bidvolume = (c.top-fields.ensures i).bid.volume;
      symbol = (c.top-fields.ensures i).symbol;
      unsolicited = (c.top-fields.ensures i).unsolicited;
    }
