-- For `Book::new` of src/book.rt: a book of `owners` owners, at most 4,096, and the seat of each, with the
-- numbers from 0. Nothing is drawn yet.
use Rattle.lb_ticket.proofs.BareKeeping.{bare_opens}
use Rattle.lb_ticket.proofs.book.Book.new.Goals as goal

pub of_words-requires : goal.of_words-requires
of_words-requires g c = bare_opens g.I.Item.means g.row.I.coded g.row.I-Left.coded c.args.owners c.requires.1
